-- Where the search for the next subscript begins, what it finds, and that this is the least.
use Rattle.std.proofs.Common.{◌≡◌, ◌≢◌, ℕ, zero, suc, ◌<◌, ◌≤◌, Bool, true, false, cond, not, Option, Some, None, is_some, refl, sym, ap, ◌∙◌, arith, List, [], ◌∷◌, length, get_or, drop, IsTrue}
use Rattle.std.specs.declared.cmp.Ordering.TheVariants.{Less, Equal}
use Rattle.std.specs.Ordering.{eq_by_cmp, is_eq}
use Rattle.std.specs.List.Sorted.{IsPartitionedBy}
use Rattle.std.proofs.lemmas.Cmp.{tied_itself}
use Rattle.std.specs.FinMap.{find, is_sorted, entries, contains_key, get-entries, entries_sorted}
use Rattle.std.specs.FinMap.Entries.{below_all}
use Rattle.obj_kinds.specs.declared.sub.Sub.{Sub}
use Rattle.obj_kinds.specs.declared.node.Node.{Node}
use Rattle.obj_kinds.specs.declared.value.Value.{Value}
use Rattle.obj_kinds.specs.Order.{sub_cmp, node_cmp}
use Rattle.obj_kinds.proofs.OrderLemmas.{sub_total, node_total, node_exact}
use Rattle.global_tree.specs.declared.place.Place.{Place}
use Rattle.global_tree.specs.Contents.{Globals}
use Rattle.global_tree.specs.Below.{step_below, is_after, if_after, or_else, beyond_by, is_beyond, next_in, next_below, IsNext, IsLast}
use Rattle.global_tree.specs.FirstStep.{first_step, step_or}
use Rattle.global_tree.specs.Places.{part, part_by, value_in}
use Rattle.global_tree.proofs.MapLaws.{one_key}
use Rattle.global_tree.proofs.Parts.{first, second}
use Rattle.obj_kinds.proofs.Sorted.{stays}
use Rattle.global_tree.proofs.Parted.{parted_by}
use Rattle.global_tree.proofs.StepLaws.{lesser, steps_rise, steps_run, covers_step, step_covers, beyond_rises}

pub parted : {X : Type 0} (n : Node) (after : Option Sub) (es : List (Node × X)) → IsTrue (is_sorted node_cmp es) → IsPartitionedBy (λ e. not (is_beyond n after e.0)) es
parted n after es h = parted_by (λ m. not (is_beyond n after m)) (λ a b lt p. rises a b lt p) es h
  where
    rises : (a b : Node) → node_cmp a b ≡ Less → not (is_beyond n after b) ≡ true → not (is_beyond n after a) ≡ true
    rises a b lt p = by (is_beyond n after a) refl
      where
        by : (q : Bool) → is_beyond n after a ≡ q → not q ≡ true
        by true g = let beyond = beyond_rises n a b after lt g in cc
        by false g = refl

-- what is not beyond does not come after
not_late : (n m : Node) (after : Option Sub) → not (is_beyond n after m) ≡ true → if_after after (step_below n m) ≡ None
unfolding is_beyond
not_late n m after h = by (step_below n m) h
  where
    by : (p : Option Sub) → not (beyond_by p after (node_cmp n m)) ≡ true → if_after after p ≡ None
    by None k = refl
    by (Some s) k = at (is_after after s) k
      where
        at : (b : Bool) → not b ≡ true → cond b (Some s) None ≡ None
        at true j = cc
        at false j = refl

-- past the descendants of n there are no more of them
past : (n : Node) (after : Option Sub) (x : Node) (es : List (Node × Place)) → node_cmp n x ≡ Less → step_below n x ≡ None → IsTrue (below_all node_cmp x es) → next_in n after (part value_in es) ≡ None
past n after x [] lt none h = refl
past n after x (e ∷ es) lt none h = by e.1.value (past n after x es lt none (second _ _ h))
  where
    none_here : (p : Option Sub) → step_below n e.0 ≡ p → p ≡ None
    none_here None g = refl
    none_here (Some t) g = absurd (steps_run n x e.0 t lt (lesser _ (first _ _ h)) g none)

    by : (v : Option Value) → next_in n after (part value_in es) ≡ None → next_in n after (part_by e.0 v (part value_in es)) ≡ None
    by None rest = rest
    by (Some v) rest = ap (λ p. or_else (if_after after p) (next_in n after (part value_in es))) (none_here (step_below n e.0) refl) ∙ rest

-- where all places are beyond the first step is the next
from_beyond : (n : Node) (after : Option Sub) (es : List (Node × Place)) → IsTrue (is_sorted node_cmp es) → ((j : ℕ) (d : Node × Place) → j < length es → is_beyond n after (get_or es j d).0 ≡ true) → first_step n es ≡ next_in n after (part value_in es)
unfolding is_beyond
from_beyond n after [] h beyond = refl
from_beyond n after (e ∷ es) h beyond = by (step_below n e.0) e.1.value refl (beyond 0 e (omega arith)) (from_beyond n after es (second _ _ h) (λ j d lt. beyond (suc j) d (omega arith)))
  where
    by : (p : Option Sub) (v : Option Value) → step_below n e.0 ≡ p → beyond_by p after (node_cmp n e.0) ≡ true → first_step n es ≡ next_in n after (part value_in es) → step_or p v (first_step n es) ≡ next_in n after (part_by e.0 v (part value_in es))
    by None None g late rest = sym (past n after e.0 es (lesser _ late) g (first _ _ h))
    by None (Some v) g late rest = sym (ap (λ q. or_else (if_after after q) (next_in n after (part value_in es))) g ∙ past n after e.0 es (lesser _ late) g (first _ _ h))
    by (Some s) None g late rest = rest
    by (Some s) (Some v) g late rest = sym (ap (λ q. or_else (if_after after q) (next_in n after (part value_in es))) g ∙ ap (λ b. or_else (cond b (Some s) None) (next_in n after (part value_in es))) late)

-- the first step behind the place where the partition parts
pub from_start : (n : Node) (after : Option Sub) (es : List (Node × Place)) (i : ℕ) → IsTrue (is_sorted node_cmp es) → i ≤ length es
    → ((j : ℕ) (d : Node × Place) → 0 ≤ j → j < i → not (is_beyond n after (get_or es j d).0) ≡ true)
    → ((j : ℕ) (d : Node × Place) → i ≤ j → j < length es → not (is_beyond n after (get_or es j d).0) ≡ false)
    → first_step n (drop i es) ≡ next_in n after (part value_in es)
from_start n after [] zero h within before behind = refl
from_start n after [] (suc i) h within before behind = absurd (omega arith)
from_start n after (e ∷ es) zero h within before behind = from_beyond n after (e ∷ es) h (λ j d lt. turned (is_beyond n after (get_or (e ∷ es) j d).0) (behind j d (omega arith) lt))
  where
    turned : (b : Bool) → not b ≡ false → b ≡ true
    turned true k = refl
    turned false k = cc
from_start n after (e ∷ es) (suc i) h within before behind =
    from_start n after es i (second _ _ h) (omega arith) (λ j d lo lt. before (suc j) d (omega arith) (omega arith)) (λ j d le lt. behind (suc j) d (omega arith) (omega arith))
    ∙ by e.1.value
  where
    by : (v : Option Value) → next_in n after (part value_in es) ≡ next_in n after (part_by e.0 v (part value_in es))
    by None = refl
    by (Some v) = sym (ap (λ q. or_else q (next_in n after (part value_in es))) (not_late n e.0 after (before 0 e (omega arith) (omega arith))))

-- ---- what is found is the least

-- the step of an entry, where it comes after
late_step : (n m : Node) (after : Option Sub) (s : Sub) → if_after after (step_below n m) ≡ Some s → (step_below n m ≡ Some s) × (is_after after s ≡ true)
late_step n m after s h = by (step_below n m) h
  where
    by : (p : Option Sub) → if_after after p ≡ Some s → (p ≡ Some s) × (is_after after s ≡ true)
    by None k = cc
    by (Some u) k = at (is_after after u) refl k
      where
        at : (b : Bool) → is_after after u ≡ b → cond b (Some u) None ≡ Some s → (Some u ≡ Some s) × (is_after after s ≡ true)
        at true g j = let same : u ≡ s = cc in (j, ap (is_after after) (sym same) ∙ g)
        at false g j = cc

step_late : (n m : Node) (after : Option Sub) (s : Sub) → step_below n m ≡ Some s → is_after after s ≡ true → if_after after (step_below n m) ≡ Some s
step_late n m after s h late = ap (if_after after) h ∙ ap (λ b. cond b (Some s) None) late

-- what is found in a list lies above what lies below all of it
found_above : (x : Node) (es : List (Node × Value)) (k : Node) → IsTrue (below_all node_cmp x es) → is_some (find node_cmp k es) ≡ true → node_cmp x k ≡ Less
found_above x [] k h is = cc
found_above x (e ∷ es) k h is = by (found_above x es k (second _ _ h)) (eq_by_cmp node_cmp k e.0) refl is
  where
    by : (is_some (find node_cmp k es) ≡ true → node_cmp x k ≡ Less) → (b : Bool) → eq_by_cmp node_cmp k e.0 ≡ b → is_some (cond b (Some e.1) (find node_cmp k es)) ≡ true → node_cmp x k ≡ Less
    by rest true g k' = ap (node_cmp x) (one_key node_exact k e.0 g) ∙ lesser _ (first _ _ h)
    by rest false g k' = rest k'

abbrev IsIn : List (Node × Value) → Node → Type 0
IsIn es k = is_some (find node_cmp k es) ≡ true

-- an entry of the list has the step that is found
next_there : (n : Node) (after : Option Sub) (es : List (Node × Value)) (s : Sub) → next_in n after es ≡ Some s → (k : Node) × IsIn es k × (step_below n k ≡ Some s) × (is_after after s ≡ true)
next_there n after [] s h = cc
next_there n after (e ∷ es) s h = by (λ g. next_there n after es s g) (if_after after (step_below n e.0)) refl h
  where
    at_first : IsIn (e ∷ es) e.0
    at_first = ap (λ r. is_some (cond r (Some e.1) (find node_cmp e.0 es))) (ap is_eq (tied_itself node_total e.0))

    at_later : (k : Node) → IsIn es k → (b : Bool) → is_some (cond b (Some e.1) (find node_cmp k es)) ≡ true
    at_later k i true = refl
    at_later k i false = i

    by : (next_in n after es ≡ Some s → (k : Node) × IsIn es k × (step_below n k ≡ Some s) × (is_after after s ≡ true))
        → (p : Option Sub) → if_after after (step_below n e.0) ≡ p → or_else p (next_in n after es) ≡ Some s → (k : Node) × IsIn (e ∷ es) k × (step_below n k ≡ Some s) × (is_after after s ≡ true)
    by rest None g j = let r = rest j in (r.0, at_later r.0 r.1 (eq_by_cmp node_cmp r.0 e.0), r.2, r.3)
    by rest (Some u) g j = let same : u ≡ s = cc in let late = late_step n e.0 after s (g ∙ ap (λ x. Some x) same) in (e.0, at_first, late.0, late.1)

-- no entry goes on by a subscript that comes after but before what is found
next_least : (n : Node) (after : Option Sub) (es : List (Node × Value)) → IsTrue (is_sorted node_cmp es) → (s : Sub) → next_in n after es ≡ Some s
    → (k : Node) (t : Sub) → IsIn es k → step_below n k ≡ Some t → is_after after t ≡ true → sub_cmp t s ≢ Less
next_least n after [] h s is k t found step late = cc
next_least n after (e ∷ es) h s is k t found step late = by (if_after after (step_below n e.0)) refl (eq_by_cmp node_cmp k e.0) refl (λ g f. next_least n after es (second _ _ h) s g k t f step late) is found
  where
    by : (p : Option Sub) → if_after after (step_below n e.0) ≡ p → (b : Bool) → eq_by_cmp node_cmp k e.0 ≡ b → (next_in n after es ≡ Some s → IsIn es k → sub_cmp t s ≢ Less)
        → or_else p (next_in n after es) ≡ Some s → is_some (cond b (Some e.1) (find node_cmp k es)) ≡ true → sub_cmp t s ≢ Less
    by None g true q rest j f =
        let kept : if_after after (step_below n e.0) ≡ Some t = step_late n e.0 after t (ap (step_below n) (sym (one_key node_exact k e.0 q)) ∙ step) late in
        cc
    by None g false q rest j f = rest j f
    by (Some u) g true q rest j f =
        let kept : if_after after (step_below n e.0) ≡ Some t = step_late n e.0 after t (ap (step_below n) (sym (one_key node_exact k e.0 q)) ∙ step) late in
        let one : t ≡ s = cc in
        λ lt. let tie : sub_cmp t s ≡ Equal = ap (sub_cmp t) (sym one) ∙ tied_itself sub_total t in cc
    by (Some u) g false q rest j f =
        let same : u ≡ s = cc in
        steps_rise n e.0 k s t (found_above e.0 es k (first _ _ h) f) (late_step n e.0 after s (g ∙ ap (λ x. Some x) same)).0 step

-- where none is found no entry goes on by a subscript that comes after
next_none : (n : Node) (after : Option Sub) (es : List (Node × Value)) → next_in n after es ≡ None → (k : Node) (t : Sub) → IsIn es k → step_below n k ≡ Some t → is_after after t ≡ true → ⊥
next_none n after [] is k t found step late = cc
next_none n after (e ∷ es) is k t found step late = by (λ j f. next_none n after es j k t f step late) (if_after after (step_below n e.0)) refl (eq_by_cmp node_cmp k e.0) refl is found
  where
    by : (next_in n after es ≡ None → IsIn es k → ⊥) → (p : Option Sub) → if_after after (step_below n e.0) ≡ p → (b : Bool) → eq_by_cmp node_cmp k e.0 ≡ b → or_else p (next_in n after es) ≡ None → is_some (cond b (Some e.1) (find node_cmp k es)) ≡ true → ⊥
    by rest None g true q j f =
        let kept : if_after after (step_below n e.0) ≡ Some t = step_late n e.0 after t (ap (step_below n) (sym (one_key node_exact k e.0 q)) ∙ step) late in
        cc
    by rest None g false q j f = rest j f
    by rest (Some u) g b q j f = cc

in_entries : (g : Globals) (k : Node) → contains_key g k ≡ true → IsIn (entries g) k
in_entries g k h = ap is_some (sym (get-entries g k)) ∙ h

sorted_entries : (g : Globals) → IsTrue (is_sorted node_cmp (entries g))
sorted_entries g = stays _ (entries_sorted g)

pub is_next : (g : Globals) (n : Node) (after : Option Sub) (s : Sub) → next_below g n after ≡ Some s → IsNext g n after s
unfolding next_below
is_next g n after s h =
    let there = next_there n after (entries g) s h in
    record {
      late = there.3;
      there = (there.0, step_covers n there.0 s there.2, ap is_some (get-entries g there.0) ∙ there.1);
      least = λ t late' is. next_least n after (entries g) (sorted_entries g) s h is.0 t (in_entries g is.0 is.2) (covers_step n is.0 t is.1) late';
    }

pub is_last : (g : Globals) (n : Node) (after : Option Sub) → next_below g n after ≡ None → IsLast g n after
unfolding next_below
is_last g n after h = λ t late is. next_none n after (entries g) h is.0 t (in_entries g is.0 is.2) (covers_step n is.0 t is.1) late

-- ---- of the tree

pub next_seen : (g : Globals) (n : Node) (after : Option Sub) (es : List (Node × Place)) → entries g ≡ part value_in es → next_in n after (part value_in es) ≡ next_below g n after
unfolding next_below
next_seen g n after es e = ap (next_in n after) (sym e)
