-- The nodes of a dump that is read rise.
use Rattle.std.proofs.Common.{◌≡◌, ℕ, ◌+◌, ◌-◌, Bool, true, false, List, [], ◌∷◌, length, is_some, Result, Ok, Err, IsTrue, refl, sym, ap, subst}
use Rattle.std.specs.declared.cmp.Ordering.{Ordering}
use Rattle.std.specs.declared.cmp.Ordering.TheVariants.{Less, Equal, Greater}
use Rattle.std.specs.FinMap.{is_sorted, put}
use Rattle.std.specs.Map.{lookup}
use Rattle.std.specs.BTreeMap.{is_at, insert_entry}
use Rattle.obj_kinds.specs.declared.node.Node.{Node}
use Rattle.obj_kinds.specs.declared.value.Value.{Value}
use Rattle.obj_kinds.specs.Order.{node_cmp}
use Rattle.obj_kinds.specs.OrderLaws.{node_total}
use Rattle.obj_kinds.proofs.Sorted.{sorted_put}
use Rattle.text_lines.specs.Lines.{lines}
use Rattle.text_lines.specs.Reading.{read_lines}
use Rattle.text_lines.proofs.ReadingLaws.{reads_on, reads_bad}
use Rattle.dump_reading.specs.declared.stop.DumpWhy.{DumpWhy}
use Rattle.dump_reading.specs.LineReading.{line_read}
use Rattle.dump_reading.specs.DumpReading.{Told, own_line, put_node, put_said, nodes_with, told_with, dump_step}

put_same : (es : Told) (n : Node) (v : Value) → insert_entry node_cmp es n v ≡ put node_cmp n v es
put_same [] n v = refl
put_same (e ∷ es) n v = by (node_cmp n e.0) refl (put_same es n v)
  where
    by : (o : Ordering) → node_cmp n e.0 ≡ o → insert_entry node_cmp es n v ≡ put node_cmp n v es → insert_entry node_cmp (e ∷ es) n v ≡ put node_cmp n v (e ∷ es)
    by Less h more = rw h refl
    by Equal h more = rw h refl
    by Greater h more = rw h (ap (λ fs. e ∷ fs) more)

-- what is said rises, where it is said
abbrev Rises : Result Told DumpWhy → Type 0
Rises (Ok fs) = IsTrue (is_sorted node_cmp fs)
Rises (Err why) = Unit {0}

put_rises : (es : Told) (e : Node × Value) → IsTrue (is_sorted node_cmp es) → Rises (put_node es e)
unfolding put_node
put_rises es e h = by (is_some (lookup (is_at (node_cmp e.0)) es)) refl
  where
    by : (t : Bool) → is_some (lookup (is_at (node_cmp e.0)) es) ≡ t → Rises (put_node es e)
    by true f = rw f tt
    by false f = rw f (subst (λ fs. IsTrue (is_sorted node_cmp fs)) (sym (put_same es e.0 e.1)) (sorted_put node_cmp node_total es e.0 e.1 h))

said_rises : (es : Told) (r : Result (Node × Value) DumpWhy) → IsTrue (is_sorted node_cmp es) → Rises (put_said es r)
said_rises es (Ok e) h = put_rises es e h
said_rises es (Err why) h = tt

line_rises : (es : Told) (z : List ℕ) → IsTrue (is_sorted node_cmp es) → Rises (nodes_with es z)
unfolding nodes_with
line_rises es [] h = h
line_rises es (b ∷ z) h = said_rises es (line_read (b ∷ z)) h

abbrev SaidRises : {W : Type 0} → Result (ℕ × Told) W → Type 0
SaidRises (Ok said) = IsTrue (is_sorted node_cmp said.1)
SaidRises (Err why) = Unit {0}

with_rises : (left : ℕ) (r : Result Told DumpWhy) → Rises r → SaidRises (told_with left r)
with_rises left (Ok fs) h = h
with_rises left (Err why) h = tt

step_rises : (said : ℕ × Told) (z : List ℕ) → IsTrue (is_sorted node_cmp said.1) → SaidRises (dump_step said z)
unfolding dump_step
step_rises said z h = with_rises (said.0 - length z - 1) (nodes_with said.1 (own_line said.0 z)) (line_rises said.1 (own_line said.0 z) h)

all_rise : (n : ℕ) (said : ℕ × Told) (zs : List (List ℕ)) → IsTrue (is_sorted node_cmp said.1) → SaidRises (read_lines dump_step n said zs)
unfolding read_lines
all_rise n said [] h = h
all_rise n said (z ∷ zs) h = by (dump_step said z) refl (step_rises said z h) (λ more rises. all_rise (n + 1) more zs rises)
  where
    by : (r : Result (ℕ × Told) DumpWhy) → dump_step said z ≡ r → SaidRises r → ((more : ℕ × Told) → IsTrue (is_sorted node_cmp more.1) → SaidRises (read_lines dump_step (n + 1) more zs)) → SaidRises (read_lines dump_step n said (z ∷ zs))
    by (Ok more) e rises rest = subst SaidRises (sym (reads_on dump_step n said more z zs e)) (rest more rises)
    by (Err why) e rises rest = subst SaidRises (sym (reads_bad dump_step n said z zs why e)) tt

pub read_rises : (left : ℕ) (es : Told) (text : List ℕ) (said : ℕ × Told) → es ≡ [] → read_lines dump_step 1 (left, es) (lines text) ≡ Ok said → IsTrue (is_sorted node_cmp said.1)
read_rises left es text said none e = subst SaidRises e (all_rise 1 (left, es) (lines text) (subst (λ fs. IsTrue (is_sorted node_cmp fs)) (sym none) refl))
