-- The first key behind one.
use Rattle.std.proofs.Common.{◌≡◌, ℕ, zero, suc, cond, IsTrue, List, [], ◌∷◌, slice_get, Some, refl, ap, sym, ◌∙◌, arith}
use Rattle.std.specs.FinMap.{is_sorted}
use Rattle.std.specs.Ordering.{is_lt}
use Rattle.std.specs.declared.cmp.Ordering.TheVariants.{Less, Equal, Greater}
use Rattle.obj_kinds.specs.declared.sub.Sub.{Sub}
use Rattle.obj_kinds.specs.SubOrder.{sub_cmp}
use Rattle.obj_kinds.specs.OrderLaws.{sub_total}
use Rattle.obj_kinds.specs.Search.{IsGap, IsHit}
use Rattle.obj_kinds.proofs.Sorted.{before_hit, first, hit_tail, less, second, turned}
use Rattle.oref_table.specs.declared.slot.Slot.{Slot}
use Rattle.oref_table.specs.Memory.{first_that}
use Rattle.prop_setting.specs.Arrays.{is_behind}

pub behind-gap : (es : List (Sub × Slot)) (k : Sub) (i : ℕ) → IsGap sub_cmp es k i → slice_get es i ≡ first_that (is_behind k) es
behind-gap [] k i gap = refl
behind-gap (e ∷ es) k zero gap =
    sym (ap (λ r. cond (is_lt r) (Some e) (first_that (is_behind k) es)) (turned sub_cmp sub_total e.0 k Greater (gap.greater_after 0 e (omega arith) (omega arith))))
behind-gap (e ∷ es) k (suc i) gap =
    behind-gap es k i (record { in_range = omega (arith, gap.in_range); smaller_before = λ j d lt. gap.smaller_before (suc j) d (omega arith); greater_after = λ j d le lt. gap.greater_after (suc j) d (omega arith) (omega arith) })
    ∙ sym (ap (λ r. cond (is_lt r) (Some e) (first_that (is_behind k) es)) (turned sub_cmp sub_total e.0 k Less (gap.smaller_before 0 e (omega arith))))

-- the next one, where the key itself is there
next-first : (e : Sub × Slot) (es : List (Sub × Slot)) (k : Sub) → IsTrue (is_sorted sub_cmp (e ∷ es)) → sub_cmp k e.0 ≡ Equal → slice_get es 0 ≡ first_that (is_behind k) es
next-first e [] k s same = refl
next-first e (x ∷ xs) k s same =
    let behind : sub_cmp e.0 x.0 ≡ Less = less _ (first _ _ (first _ _ s)) in
    let far : sub_cmp k x.0 ≡ Less = sub_total.congr k e.0 x.0 same ∙ behind in
    sym (ap (λ r. cond (is_lt r) (Some x) (first_that (is_behind k) xs)) far)

pub behind-hit : (es : List (Sub × Slot)) (k : Sub) (i : ℕ) → IsTrue (is_sorted sub_cmp es) → IsHit sub_cmp es k i → slice_get es (suc i) ≡ first_that (is_behind k) es
behind-hit [] k i s hit = refl
behind-hit (e ∷ es) k zero s hit =
    let same : sub_cmp k e.0 ≡ Equal = turned sub_cmp sub_total e.0 k Equal (hit.ties e) in
    next-first e es k s same ∙ sym (ap (λ r. cond (is_lt r) (Some e) (first_that (is_behind k) es)) same)
behind-hit (e ∷ es) k (suc i) s hit =
    behind-hit es k i (second _ _ s) (hit_tail sub_cmp sub_total e es k i hit)
    ∙ sym (ap (λ r. cond (is_lt r) (Some e) (first_that (is_behind k) es)) (before_hit sub_cmp sub_total e es k i s hit))
