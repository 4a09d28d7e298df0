-- A written dump is read back.
use Rattle.std.proofs.Common.{◌≡◌, ℕ, ◌+◌, ◌-◌, Bool, true, false, cond, nat_lt, List, [], ◌∷◌, ◌++◌, map, length, None, Some, Ok, IsTrue, refl, sym, ap, ◌∙◌}
use Rattle.std.specs.declared.cmp.Ordering.TheVariants.{Less, Greater}
use Rattle.std.specs.Ordering.{is_lt, is_eq, match_ordering}
use Rattle.std.specs.List.{list_all}
use Rattle.std.specs.Map.{lookup}
use Rattle.std.specs.BTreeMap.{is_at, insert_entry}
use Rattle.std.specs.FinMap.{is_sorted}
use Rattle.std.specs.FinMap.Entries.{below_all}
use Rattle.std.proofs.lemmas.List.{append_assoc, append-nil}
use Rattle.obj_kinds.specs.declared.node.Node.{Node}
use Rattle.obj_kinds.specs.declared.value.Value.{Value}
use Rattle.obj_kinds.specs.Order.{node_cmp}
use Rattle.obj_kinds.specs.OrderLaws.{node_total}
use Rattle.obj_kinds.specs.Limits.{is_legal_node, is_legal_value}
use Rattle.obj_kinds.specs.NodeText.{node_text}
use Rattle.obj_kinds.proofs.Sorted.{less, turned}
use Rattle.global_dump.specs.Lines.{line_text, line_of, dump_of}
use Rattle.text_lines.specs.Lines.{lines, NoFeed, HaveNoFeed, printed}
use Rattle.text_lines.specs.Reading.{read_lines}
use Rattle.text_lines.proofs.CutLaws.{lines_printed}
use Rattle.text_lines.proofs.ReadingLaws.{reads_on}
use Rattle.dump_reading.specs.DumpReading.{own_line, put_node, put_said, nodes_with, told_with, dump_step, nodes_of, dump_read}
use Rattle.dump_reading.specs.Laws.{is_within}
use Rattle.dump_reading.proofs.NodeLaws.{both}
use Rattle.dump_reading.proofs.LineLaws.{line_taken, line_is_read}
use Rattle.dump_reading.proofs.BlankLaws.{lacks_blank, no_feed, no_return}

abbrev Pair : Type 0
Pair = Node × Value

abbrev text_of : Pair → List ℕ
text_of e = line_text e.0 e.1

-- ---- the lines

printed_is : (es : List Pair) → printed (map text_of es) ≡ dump_of es
unfolding printed line_of
printed_is [] = refl
printed_is (e ∷ es) = ap (λ z. text_of e ++ 10 ∷ z) (printed_is es) ∙ sym (append_assoc (text_of e) (10 ∷ []) (dump_of es))

within : (e : Pair) → is_within e ≡ true → (is_legal_node e.0 ≡ true) × (is_legal_value e.1 ≡ true)
within e h = both (is_legal_node e.0) (is_legal_value e.1) h

text_no_feed : (e : Pair) → is_within e ≡ true → NoFeed (text_of e)
text_no_feed e h =
    let legal = within e h in
    let t = line_taken e.0 e.1 legal.0 legal.1 in
    no_feed (text_of e) (lacks_blank true (text_of e) _ t.0 t.1)

no_feeds : (es : List Pair) → list_all is_within es ≡ true → HaveNoFeed (map text_of es)
unfolding HaveNoFeed
no_feeds [] h = tt
no_feeds (e ∷ es) h = let parts = both (is_within e) (list_all is_within es) h in (text_no_feed e parts.0, no_feeds es parts.1)

own_is : (e : Pair) → is_within e ≡ true → (left : ℕ) → own_line left (text_of e) ≡ text_of e
unfolding own_line
own_is e h left = by (nat_lt (length (text_of e)) left) refl
  where
    by : (t : Bool) → nat_lt (length (text_of e)) left ≡ t → own_line left (text_of e) ≡ text_of e
    by true f =
        let legal = within e h in
        let t = line_taken e.0 e.1 legal.0 legal.1 in
        rw f (no_return (text_of e) (lacks_blank false (text_of e) _ t.0 t.1))
    by false f = rw f refl

-- ---- a node behind all others

last_below : (x : Node) (es : List Pair) (e : Pair) (more : List Pair) → below_all node_cmp x (es ++ e ∷ more) ≡ true → node_cmp x e.0 ≡ Less
last_below x [] e more h = less (node_cmp x e.0) (both (is_lt (node_cmp x e.0)) (below_all node_cmp x more) h).0
last_below x (f ∷ es) e more h = last_below x es e more (both (is_lt (node_cmp x f.0)) (below_all node_cmp x (es ++ e ∷ more)) h).1

record IsLast (es : List Pair) (e : Pair) : Type 0 where
  pub absent : lookup (is_at (node_cmp e.0)) es ≡ None
  pub put : insert_entry node_cmp es e.0 e.1 ≡ es ++ e ∷ []

goes_last : (es : List Pair) (e : Pair) (more : List Pair) → is_sorted node_cmp (es ++ e ∷ more) ≡ true → IsLast es e
goes_last [] e more h = record { absent = refl; put = refl }
goes_last (f ∷ es) e more h =
    let parts = both (below_all node_cmp f.0 (es ++ e ∷ more)) (is_sorted node_cmp (es ++ e ∷ more)) h in
    let behind : node_cmp e.0 f.0 ≡ Greater = turned node_cmp node_total f.0 e.0 Less (last_below f.0 es e more parts.0) in
    let rest = goes_last es e more parts.1 in
    record {
      absent = ap (λ r. cond (is_eq r) (Some f.1) (lookup (is_at (node_cmp e.0)) es)) behind ∙ rest.absent;
      put = ap (λ r. match_ordering r ((e.0, e.1) ∷ f ∷ es) ((f.0, e.1) ∷ es) (f ∷ insert_entry node_cmp es e.0 e.1)) behind ∙ ap (λ l. f ∷ l) rest.put;
    }

-- ---- line by line

line_told : (e : Pair) → is_within e ≡ true → (es more : List Pair) → is_sorted node_cmp (es ++ e ∷ more) ≡ true → nodes_with es (text_of e) ≡ Ok (es ++ e ∷ [])
unfolding nodes_with node_text put_node
line_told e h es more sorted =
    let legal = within e h in
    let is = goes_last es e more sorted in
    ap (put_said es) (line_is_read e.0 e.1 legal.0 legal.1) ∙ rw (is.absent, is.put) refl

step_is : (e : Pair) → is_within e ≡ true → (left : ℕ) (es more : List Pair) → is_sorted node_cmp (es ++ e ∷ more) ≡ true → dump_step (left, es) (text_of e) ≡ Ok (left - length (text_of e) - 1, es ++ e ∷ [])
unfolding dump_step
step_is e h left es more sorted = ap (λ z. told_with (left - length (text_of e) - 1) (nodes_with es z)) (own_is e h left) ∙ ap (told_with (left - length (text_of e) - 1)) (line_told e h es more sorted)

all_told : (n left : ℕ) (es rest : List Pair) → list_all is_within rest ≡ true → is_sorted node_cmp (es ++ rest) ≡ true → nodes_of (read_lines dump_step n (left, es) (map text_of rest)) ≡ Ok (es ++ rest)
unfolding read_lines
all_told n left es [] h sorted = ap Ok (sym (append-nil es))
all_told n left es (e ∷ rest) h sorted =
    let parts = both (is_within e) (list_all is_within rest) h in
    let more = append_assoc es (e ∷ []) rest in
    ap nodes_of (reads_on dump_step n (left, es) (left - length (text_of e) - 1, es ++ e ∷ []) (text_of e) (map text_of rest) (step_is e parts.0 left es rest sorted))
    ∙ all_told (n + 1) (left - length (text_of e) - 1) (es ++ e ∷ []) rest parts.1 (ap (is_sorted node_cmp) more ∙ sorted)
    ∙ ap Ok more

pub dump_is_read : (es : List Pair) → IsTrue (is_sorted node_cmp es) → list_all is_within es ≡ true → dump_read (dump_of es) ≡ Ok es
unfolding dump_read
dump_is_read es sorted h =
    ap (λ zs. nodes_of (read_lines dump_step 1 (length (dump_of es), []) zs)) (ap lines (sym (printed_is es)) ∙ lines_printed (map text_of es) (no_feeds es h))
    ∙ all_told 1 (length (dump_of es)) [] es h sorted
