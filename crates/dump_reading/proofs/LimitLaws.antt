-- What is read is within the limits.
use Rattle.std.proofs.Common.{◌≡◌, ℕ, ◌+◌, ◌-◌, Bool, true, false, not, ◌&&◌, ◌||◌, if◌then◌else◌, List, [], ◌∷◌, length, Option, None, Some, is_some, Result, Ok, Err, refl, sym, ap, subst, ◌∙◌}
use Rattle.std.specs.declared.cmp.Ordering.{Ordering}
use Rattle.std.specs.declared.cmp.Ordering.TheVariants.{Less, Equal, Greater}
use Rattle.std.specs.Ordering.{match_ordering}
use Rattle.std.specs.List.{list_all}
use Rattle.std.specs.Map.{lookup}
use Rattle.std.specs.BTreeMap.{is_at, insert_entry}
use Rattle.obj_kinds.specs.declared.node.Node.{Node}
use Rattle.obj_kinds.specs.declared.value.Value.{Value}
use Rattle.obj_kinds.specs.Order.{node_cmp}
use Rattle.obj_kinds.specs.Limits.{is_legal_node, is_legal_value}
use Rattle.text_lines.specs.Lines.{lines}
use Rattle.text_lines.specs.Reading.{read_lines}
use Rattle.text_lines.proofs.ReadingLaws.{reads_on, reads_bad}
use Rattle.dump_reading.specs.declared.stop.DumpWhy.{DumpWhy}
use Rattle.dump_reading.specs.declared.stop.DumpWhy.TheVariants.{BadNode, BadValue}
use Rattle.dump_reading.specs.declared.node_reader.NodeReader.{NodeReader}
use Rattle.dump_reading.specs.declared.value_reader.ValueReader.{ValueReader}
use Rattle.dump_reading.specs.declared.line.Line.{Line}
use Rattle.dump_reading.specs.Taking.{taken}
use Rattle.dump_reading.specs.Building.{whole_value}
use Rattle.dump_reading.specs.NodeReading.{node_start, node_step, is_whole_node, node_of, node_in}
use Rattle.dump_reading.specs.ValueReading.{is_whole_value, finished, if_legal, value_in}
use Rattle.dump_reading.specs.LineReading.{line_start, line_step, both_of, said, said_of, line_read, node_or, node_said, node_read}
use Rattle.dump_reading.specs.DumpReading.{Told, own_line, put_node, put_said, nodes_with, told_with, dump_step}
use Rattle.dump_reading.specs.Laws.{is_within}

-- each of these is within the limits, where it is there
abbrev LegalNode : Option Node → Type 0
LegalNode None = Unit {0}
LegalNode (Some n) = is_legal_node n ≡ true

abbrev LegalValue : Option Value → Type 0
LegalValue None = Unit {0}
LegalValue (Some v) = is_legal_value v ≡ true

abbrev LegalPair : Result (Node × Value) DumpWhy → Type 0
LegalPair (Ok e) = is_within e ≡ true
LegalPair (Err why) = Unit {0}

abbrev LegalRead : Result Node DumpWhy → Type 0
LegalRead (Ok n) = is_legal_node n ≡ true
LegalRead (Err why) = Unit {0}

node_legal : (s : NodeReader) → LegalNode (node_in s)
node_legal s = by s.is_over (is_legal_node (node_of s)) refl
  where
    by : (over legal : Bool) → is_legal_node (node_of s) ≡ legal → LegalNode (if over || not legal then None else Some (node_of s))
    by true legal e = tt
    by false true e = e
    by false false e = tt

if_legal_legal : (o : Option Value) → LegalValue (if_legal o)
if_legal_legal None = tt
if_legal_legal (Some v) = by (is_legal_value v) refl
  where
    by : (legal : Bool) → is_legal_value v ≡ legal → LegalValue (if legal then Some v else None)
    by true e = e
    by false e = tt

value_legal : (s : ValueReader) → LegalValue (value_in s)
value_legal s = by s.is_over
  where
    by : (over : Bool) → LegalValue (if over then None else if_legal (whole_value s.lists))
    by true = tt
    by false = if_legal_legal (whole_value s.lists)

both_legal : (n : Option Node) (v : Option Value) → LegalNode n → LegalValue v → LegalPair (both_of n v)
both_legal None v h k = tt
both_legal (Some n) None h k = tt
both_legal (Some n) (Some v) h k = ap (λ b. b && is_legal_value v) h ∙ k

said_legal : (s : Line) → LegalPair (said s)
unfolding said
said_legal s = by s.is_behind (is_whole_value s.value)
  where
    by : (behind whole : Bool) → LegalPair (if behind then (if whole then both_of (node_in s.node) (value_in (finished s.value)) else Err BadValue) else Err BadNode)
    by true true = both_legal (node_in s.node) (value_in (finished s.value)) (node_legal s.node) (value_legal (finished s.value))
    by true false = tt
    by false whole = tt

said_of_legal : (r : Result Line DumpWhy) → LegalPair (said_of r)
said_of_legal (Ok s) = said_legal s
said_of_legal (Err why) = tt

line_legal : (z : List ℕ) → LegalPair (line_read z)
unfolding line_read
line_legal z = said_of_legal (taken line_step line_start z)

-- a line that is read
pub line_within : (z : List ℕ) (e : Node × Value) → line_read z ≡ Ok e → is_within e ≡ true
line_within z e is = subst LegalPair is (line_legal z)

or_legal : (n : Option Node) → LegalNode n → LegalRead (node_or n)
or_legal None h = tt
or_legal (Some n) h = h

node_said_legal : (r : Result NodeReader DumpWhy) → LegalRead (node_said r)
node_said_legal (Ok s) = by (is_whole_node s)
  where
    by : (whole : Bool) → LegalRead (if whole then node_or (node_in s) else Err BadNode)
    by true = or_legal (node_in s) (node_legal s)
    by false = tt
node_said_legal (Err why) = tt

-- a node that is read
pub node_within : (z : List ℕ) (n : Node) → node_read z ≡ Ok n → is_legal_node n ≡ true
unfolding node_read
node_within z n is = subst LegalRead is (node_said_legal (taken node_step node_start z))

-- ---- a dump

insert_within : (es : Told) (n : Node) (v : Value) → list_all is_within es ≡ true → is_within (n, v) ≡ true → list_all is_within (insert_entry node_cmp es n v) ≡ true
insert_within [] n v h k = ap (λ b. b && true) k
insert_within (e ∷ es) n v h k = by (node_cmp n e.0) (both (is_within e) (list_all is_within es) h) (insert_within es n v)
  where
    both : (a b : Bool) → a && b ≡ true → (a ≡ true) × (b ≡ true)
    both true b h = (refl, h)
    both false b h = cc

    and : (a b : Bool) → a ≡ true → b ≡ true → a && b ≡ true
    and true b h k = k
    and false b h k = cc

    by : (o : Ordering) → (is_within e ≡ true) × (list_all is_within es ≡ true) → (list_all is_within es ≡ true → is_within (n, v) ≡ true → list_all is_within (insert_entry node_cmp es n v) ≡ true)
        → list_all is_within (match_ordering o ((n, v) ∷ e ∷ es) ((e.0, v) ∷ es) (e ∷ insert_entry node_cmp es n v)) ≡ true
    by Less p more = and (is_within (n, v)) (list_all is_within (e ∷ es)) k (and (is_within e) (list_all is_within es) p.0 p.1)
    by Equal p more = and (is_within (e.0, v)) (list_all is_within es) (and (is_legal_node e.0) (is_legal_value v) (both (is_legal_node e.0) (is_legal_value e.1) p.0).0 (both (is_legal_node n) (is_legal_value v) k).1) p.1
    by Greater p more = and (is_within e) (list_all is_within (insert_entry node_cmp es n v)) p.0 (more p.1 k)

abbrev AllWithin : Result Told DumpWhy → Type 0
AllWithin (Ok fs) = list_all is_within fs ≡ true
AllWithin (Err why) = Unit {0}

put_within : (es : Told) (e : Node × Value) → list_all is_within es ≡ true → is_within e ≡ true → AllWithin (put_node es e)
unfolding put_node
put_within es e h k = by (is_some (lookup (is_at (node_cmp e.0)) es)) refl
  where
    by : (t : Bool) → is_some (lookup (is_at (node_cmp e.0)) es) ≡ t → AllWithin (put_node es e)
    by true f = rw f tt
    by false f = rw f (insert_within es e.0 e.1 h k)

said_within : (es : Told) (r : Result (Node × Value) DumpWhy) → list_all is_within es ≡ true → LegalPair r → AllWithin (put_said es r)
said_within es (Ok e) h k = put_within es e h k
said_within es (Err why) h k = tt

told_within : (es : Told) (z : List ℕ) → list_all is_within es ≡ true → AllWithin (nodes_with es z)
unfolding nodes_with
told_within es [] h = h
told_within es (b ∷ z) h = said_within es (line_read (b ∷ z)) h (line_legal (b ∷ z))

abbrev SaidWithin : {W : Type 0} → Result (ℕ × Told) W → Type 0
SaidWithin (Ok said) = list_all is_within said.1 ≡ true
SaidWithin (Err why) = Unit {0}

with_within : (left : ℕ) (r : Result Told DumpWhy) → AllWithin r → SaidWithin (told_with left r)
with_within left (Ok fs) h = h
with_within left (Err why) h = tt

step_within : (said : ℕ × Told) (z : List ℕ) → list_all is_within said.1 ≡ true → SaidWithin (dump_step said z)
unfolding dump_step
step_within said z h = with_within (said.0 - length z - 1) (nodes_with said.1 (own_line said.0 z)) (told_within said.1 (own_line said.0 z) h)

all_within : (n : ℕ) (said : ℕ × Told) (zs : List (List ℕ)) → list_all is_within said.1 ≡ true → SaidWithin (read_lines dump_step n said zs)
unfolding read_lines
all_within n said [] h = h
all_within n said (z ∷ zs) h = by (dump_step said z) refl (step_within said z h) (λ more within. all_within (n + 1) more zs within)
  where
    by : (r : Result (ℕ × Told) DumpWhy) → dump_step said z ≡ r → SaidWithin r → ((more : ℕ × Told) → list_all is_within more.1 ≡ true → SaidWithin (read_lines dump_step (n + 1) more zs)) → SaidWithin (read_lines dump_step n said (z ∷ zs))
    by (Ok more) e within rest = subst SaidWithin (sym (reads_on dump_step n said more z zs e)) (rest more within)
    by (Err why) e within rest = subst SaidWithin (sym (reads_bad dump_step n said z zs why e)) tt

-- the nodes of a dump that is read
pub read_within : (left : ℕ) (es : Told) (text : List ℕ) (said : ℕ × Told) → es ≡ [] → read_lines dump_step 1 (left, es) (lines text) ≡ Ok said → list_all is_within said.1 ≡ true
read_within left es text said none e = subst SaidWithin e (all_within 1 (left, es) (lines text) (subst (λ fs. list_all is_within fs ≡ true) (sym none) refl))
