-- Sets of the nodes of an image, in their order, make the image.
use Rattle.std.proofs.Common.{◌≡◌, ◌≢◌, ℕ, suc, pos, ◌+◌, ◌<◌, ◌≤◌, Bool, true, false, cond, List, [], ◌∷◌, ◌++◌, length, map, get_or, drop, Option, Some, None, Result, IfOk, refl, sym, ap, subst, ◌∙◌, arith}
use Rattle.std.specs.Ordering.{eq_by_cmp}
use Rattle.std.proofs.Math.Seq.{drop-cons}
use Rattle.std.specs.FinMap.{entries, find, insert, empty, from_entries, get, same_map, get-insert, get-from_entries, get-empty}
use Rattle.obj_kinds.specs.declared.sub.Sub.{Sub}
use Rattle.obj_kinds.specs.declared.sub.Sub.TheVariants as sub
use Rattle.obj_kinds.specs.declared.node.Node.{Node}
use Rattle.obj_kinds.specs.declared.value.Value.{Value}
use Rattle.obj_kinds.specs.Order.{node_cmp}
use Rattle.obj_kinds.proofs.OrderLemmas.{node_total, node_exact}
use Rattle.global_tree.specs.Contents.{Pins, pins_of, pinned}
use Rattle.global_tree.proofs.MapLaws.{one_key}
use Rattle.global_tree.proofs.PinLaws.{pins_of-empty, pins_of-pinned, one_at}
use Rattle.first_path.specs.Image.{Globals, data_global, counter_node, row_node, row_of, rows_from, counter_of, image}
use Rattle.first_path.specs.Sets.{after_sets, PinnedAtMost}

abbrev or_else : {A : Type 0} → Option A → Option A → Option A
or_else None other = other
or_else (Some a) other = Some a

-- no node stands twice
abbrev IsDistinct : List (Node × Value) → Type 0
IsDistinct [] = Unit {0}
IsDistinct (e ∷ es) = (find node_cmp e.0 es ≡ None) × IsDistinct es

step : (b : Bool) (found : Option Value) (v : Value) (was : Option Value) → (b ≡ true → found ≡ None) → or_else found (cond b (Some v) was) ≡ or_else (cond b (Some v) found) was
step true found v was none = ap (λ f. or_else f (Some v)) (none refl)
step false found v was none = refl

get-after_sets : (es : List (Node × Value)) (g : Globals) (q : Node) → IsDistinct es → get (after_sets g es) q ≡ or_else (find node_cmp q es) (get g q)
get-after_sets [] g q distinct = refl
get-after_sets (e ∷ es) g q distinct =
    get-after_sets es (insert g e.0 e.1) q distinct.1
    ∙ ap (or_else (find node_cmp q es)) (get-insert node_total g e.0 e.1 q)
    ∙ step (eq_by_cmp node_cmp q e.0) (find node_cmp q es) e.1 (get g q) (λ same. ap (λ k. find node_cmp k es) (one_key node_exact q e.0 same) ∙ distinct.0)

or_nothing : {A : Type 0} (o : Option A) → or_else o None ≡ o
or_nothing None = refl
or_nothing (Some a) = refl

after_sets-whole : (es : List (Node × Value)) → IsDistinct es → after_sets empty es ≡ from_entries es
after_sets-whole es distinct =
    same_map node_total node_exact _ _ (λ q.
    get-after_sets es empty q distinct ∙ ap (or_else (find node_cmp q es)) (get-empty node_cmp q) ∙ or_nothing (find node_cmp q es) ∙ sym (get-from_entries node_total es q))

-- NODES OF AN IMAGE

apart_false : (a b : Node) → a ≢ b → eq_by_cmp node_cmp a b ≡ false
apart_false a b apart = by (eq_by_cmp node_cmp a b) refl
  where
    by : (t : Bool) → eq_by_cmp node_cmp a b ≡ t → t ≡ false
    by true e = absurd (apart (one_key node_exact a b e))
    by false e = refl

abbrev id_in : List Sub → ℕ
id_in [] = 0
id_in (sub.Str t ∷ rest) = 0
id_in (sub.Num (pos n) ∷ rest) = n
id_in (sub.Num z ∷ rest) = 0

row_apart : (class : List ℕ) (i j : ℕ) → i < j → row_node class i ≢ row_node class j
row_apart class i j less same = let ids : i ≡ j = ap (λ (n : Node). id_in n.subs) same in omega arith

find-rows : (class : List ℕ) (q : Node) (id : ℕ) (world : List (List (List ℕ))) → ((j : ℕ) → id ≤ j → q ≢ row_node class j) → find node_cmp q (rows_from class id world) ≡ None
find-rows class q id [] apart = refl
find-rows class q id (fields ∷ world) apart = rw (apart_false q (row_node class id) (apart id (omega arith))) (find-rows class q (suc id) world (λ j le. apart j (omega arith)))

rows_distinct : (class : List ℕ) (id : ℕ) (world : List (List (List ℕ))) → IsDistinct (rows_from class id world)
rows_distinct class id [] = tt
rows_distinct class id (fields ∷ world) = (find-rows class (row_node class id) (suc id) world (λ j le. row_apart class id j (omega arith)), rows_distinct class (suc id) world)

image_distinct : (class : List ℕ) (world : List (List (List ℕ))) → IsDistinct (counter_of class world ++ rows_from class 1 world)
image_distinct class [] = tt
image_distinct class (fields ∷ world) =
    (find-rows class (counter_node class) 1 (fields ∷ world) (λ j le same. let lens : 0 ≡ 1 = ap (λ (n : Node). length n.subs) same in omega arith), rows_distinct class 1 (fields ∷ world))

after_sets-append : (g : Globals) (es fs : List (Node × Value)) → after_sets g (es ++ fs) ≡ after_sets (after_sets g es) fs
after_sets-append g [] fs = refl
after_sets-append g (e ∷ es) fs = after_sets-append (insert g e.0 e.1) es fs

pub made_image : (class : List ℕ) (world : List (List (List ℕ))) → after_sets (after_sets empty (counter_of class world)) (rows_from class 1 world) ≡ image class world
unfolding image
made_image class world = sym (after_sets-append empty (counter_of class world) (rows_from class 1 world)) ∙ after_sets-whole (counter_of class world ++ rows_from class 1 world) (image_distinct class world)

-- PINS

one_more : (b : Bool) (n k : ℕ) → n ≤ k → n + cond b 1 0 ≤ k + 1
one_more true n k le = omega arith
one_more false n k le = omega arith

pub pinned_more : (pins : Pins) (node : Node) (k : ℕ) → PinnedAtMost k pins → PinnedAtMost (k + 1) (pinned pins node)
pinned_more pins node k most m = subst (λ n. n ≤ k + 1) (sym (pins_of-pinned pins node m)) (one_more (eq_by_cmp node_cmp m node) (pins_of pins m) k (most m))

pub pinned_none : (pins : Pins) → pins ≡ empty → PinnedAtMost 0 pins
pinned_none pins none m = subst (λ (p : Pins). pins_of p m ≤ 0) (sym none) (let e = pins_of-empty m in omega arith)

pub pinned_by : (pins pins' : Pins) (node : Node) (k : ℕ) → pins' ≡ pinned pins node → PinnedAtMost k pins → PinnedAtMost (k + 1) pins'
pinned_by pins pins' node k is most = subst (PinnedAtMost (k + 1)) (sym is) (pinned_more pins node k most)

-- ONE ROW FURTHER

pub row_set : (class : List ℕ) (k : ℕ) (saved : List (List (List ℕ))) (fields : List (List ℕ)) (g g' : Globals) (node : Node) (v : Value) → k < length saved → fields ≡ get_or saved k fields → node ≡ row_node class (k + 1) → v ≡ row_of fields
    → g' ≡ insert g node v → after_sets g' (rows_from class (k + 1 + 1) (drop (k + 1) saved)) ≡ after_sets g (rows_from class (k + 1) (drop k saved))
row_set class k saved fields g g' node v less is at row set =
    let next : k + 1 ≡ suc k = omega arith in
    let id : k + 1 + 1 ≡ suc (k + 1) = omega arith in
    let rest : drop k saved ≡ fields ∷ drop (k + 1) saved =
    drop-cons saved k fields less ∙ ap (λ f. f ∷ drop (suc k) saved) (sym is) ∙ ap (λ j. fields ∷ drop j saved) (sym next) in
    let made : g' ≡ insert g (row_node class (k + 1)) (row_of fields) = set ∙ λ i. insert g (at i) (row i) in
    (λ i. after_sets (made i) (rows_from class (id i) (drop (k + 1) saved))) ∙ ap (λ r. after_sets g (rows_from class (k + 1) r)) (sym rest)

pub listed : {E : Type 0} {g h : Globals} (r : Result (List (Node × Value)) E) → g ≡ h → IfOk r (λ nodes. nodes ≡ entries g) → IfOk r (λ nodes. nodes ≡ entries h)
listed {E} {g} {h} r same is = subst (λ (m : Globals). IfOk r (λ nodes. nodes ≡ entries m)) same is
