-- The elements of an array stay in the order of their keys.
use Rattle.std.proofs.Common.{Bool, true, false, cond, List, [], ◌∷◌, IsTrue}
use Rattle.std.specs.FinMap.{is_sorted}
use Rattle.std.specs.FinMap.Entries.{below_all}
use Rattle.obj_kinds.specs.declared.sub.Sub.{Sub}
use Rattle.obj_kinds.specs.SubOrder.{sub_cmp}
use Rattle.obj_kinds.specs.OrderLaws.{sub_total}
use Rattle.obj_kinds.proofs.Sorted.{first, second, both, sorted_put}
use Rattle.oref_table.specs.declared.slot.Slot.{Slot}
use Rattle.oref_table.specs.declared.fill.Fill.{Fill}
use Rattle.oref_table.specs.declared.fill.Fill.TheVariants as fill
use Rattle.oref_table.specs.Memory.{without_first}
use Rattle.oref_table.specs.Filling.{slot_from}
use Rattle.oref_table.specs.Places.{has_key, pairs_filled}

below-less : (x : Sub) (p : Sub × Slot → Bool) (es : List (Sub × Slot)) → IsTrue (below_all sub_cmp x es) → IsTrue (below_all sub_cmp x (without_first p es))
below-less x p [] h = h
below-less x p (e ∷ es) h = step (p e) (below-less x p es (second _ _ h))
  where
    step : (b : Bool) → IsTrue (below_all sub_cmp x (without_first p es)) → IsTrue (below_all sub_cmp x (cond b es (e ∷ without_first p es)))
    step true i = second _ _ h
    step false i = both _ _ (first _ _ h) i

sorted-less : (p : Sub × Slot → Bool) (es : List (Sub × Slot)) → IsTrue (is_sorted sub_cmp es) → IsTrue (is_sorted sub_cmp (without_first p es))
sorted-less p [] h = h
sorted-less p (e ∷ es) h = step (p e) (sorted-less p es (second _ _ h))
  where
    step : (b : Bool) → IsTrue (is_sorted sub_cmp (without_first p es)) → IsTrue (is_sorted sub_cmp (cond b es (e ∷ without_first p es)))
    step true i = second _ _ h
    step false i = both _ _ (below-less e.0 p es (first _ _ h)) i

pub filled-in-order : (k : Sub) (w : Fill) (pairs : List (Sub × Slot)) → IsTrue (is_sorted sub_cmp pairs) → IsTrue (is_sorted sub_cmp (pairs_filled k w pairs))
unfolding pairs_filled
filled-in-order k (fill.Plain v) pairs h = sorted_put sub_cmp sub_total pairs k (slot_from (fill.Plain v)) h
filled-in-order k (fill.Target v) pairs h = sorted_put sub_cmp sub_total pairs k (slot_from (fill.Target v)) h
filled-in-order k (fill.To v) pairs h = sorted_put sub_cmp sub_total pairs k (slot_from (fill.To v)) h
filled-in-order k fill.Nothing pairs h = sorted-less (has_key k) pairs h
