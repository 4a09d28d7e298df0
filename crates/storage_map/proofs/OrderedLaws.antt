-- To put pairs into a map in turn is to make a finite map of them.
use Rattle.std.proofs.Common.{◌≡◌, List, [], ◌∷◌, ◌++◌, length, arith, refl, sym, ap, ◌∙◌}
use Rattle.std.specs.declared.cmp.Ordering.{Ordering}
use Rattle.std.specs.declared.cmp.Ordering.TheVariants.{Less, Equal, Greater}
use Rattle.std.specs.FinMap.{FinMap, entries, empty, insert, from_entries, put, entries-insert, len-entries, len-empty}
use Rattle.std.specs.BTreeMap.{insert_entry}
use Rattle.obj_kinds.specs.declared.node.Node.{Node}
use Rattle.obj_kinds.specs.declared.value.Value.{Value}
use Rattle.obj_kinds.specs.Order.{node_cmp}
use Rattle.obj_kinds.proofs.OrderLemmas.{node_total}
use Rattle.storage_map.specs.Ordered.{put_all}

put_same : (es : List (Node × Value)) (n : Node) (v : Value) → insert_entry node_cmp es n v ≡ put node_cmp n v es
put_same [] n v = refl
put_same (e ∷ es) n v = by (node_cmp n e.0) refl (put_same es n v)
  where
    by : (o : Ordering) → node_cmp n e.0 ≡ o → insert_entry node_cmp es n v ≡ put node_cmp n v es → insert_entry node_cmp (e ∷ es) n v ≡ put node_cmp n v (e ∷ es)
    by Less h more = rw h refl
    by Equal h more = rw h refl
    by Greater h more = rw h (ap (λ fs. e ∷ fs) more)

no_length : {A : Type 0} (es : List A) → length es ≡ 0 → [] ≡ es
no_length [] e = refl
no_length (x ∷ es) e = absurd (omega arith)

pub none_listed : [] ≡ entries (empty {K = Node} {X = Value} {R = node_cmp})
none_listed = no_length (entries empty) (sym (len-entries (empty {K = Node} {X = Value} {R = node_cmp})) ∙ len-empty node_cmp Value)

pub all_put : (es : List (Node × Value)) → put_all [] es ≡ entries (from_entries {R = node_cmp} es)
all_put [] = none_listed
all_put (e ∷ es) = ap (λ fs. insert_entry node_cmp fs e.0 e.1) (all_put es) ∙ put_same (entries (from_entries es)) e.0 e.1 ∙ sym (entries-insert node_total (from_entries es) e.0 e.1)

pub last_put : (es : List (Node × Value)) (e : Node × Value) (map : List (Node × Value)) → put_all map (es ++ e ∷ []) ≡ put_all (insert_entry node_cmp map e.0 e.1) es
last_put [] e map = refl
last_put (f ∷ fs) e map = ap (λ g. insert_entry node_cmp g f.0 f.1) (last_put fs e map)
