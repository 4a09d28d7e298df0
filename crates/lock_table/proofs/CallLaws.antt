-- After any calls no two holds are in conflict, and each is held.
use Rattle.std.proofs.Common.{not, ◌==◌, List, [], ◌∷◌, is_some, ap}
use Rattle.std.specs.FinMap.{get-empty}
use Rattle.lock_table.specs.declared.hold.Kept.{Kept}
use Rattle.lock_table.specs.Holds.{Holds, hold_cmp, all_back, all_given_back, without_end, tran_ended, all_dropped}
use Rattle.lock_table.specs.Calls.{Call, Ask, Release, ReleaseAll, EndTran, DropAll, after, after_all, IsFree, AllHeld}
use Rattle.lock_table.proofs.FirstLaws.{none_is}
use Rattle.lock_table.proofs.HoldLaws.{kept_free, asked_free, asked_held, changed_within, changed_held, given_back_within, given_back_held, dropped_within, dropped_held}

step_free : (hs : Holds) (call : Call) → IsFree hs → IsFree (after hs call)
unfolding all_given_back tran_ended all_dropped
step_free hs (Ask h k) free = asked_free hs h k (none_is hs h) free
step_free hs (Release h in_tran) free = kept_free _ hs (given_back_within hs h in_tran) free
step_free hs (ReleaseAll p o in_tran) free = kept_free _ hs (changed_within (all_back p o in_tran) hs) free
step_free hs (EndTran p) free = kept_free _ hs (changed_within (without_end p) hs) free
step_free hs (DropAll p) free = kept_free _ hs (dropped_within hs (λ h. not (h.pid.0 == p.0))) free

step_held : (hs : Holds) (call : Call) → AllHeld hs → AllHeld (after hs call)
unfolding all_given_back tran_ended all_dropped
step_held hs (Ask h k) held = asked_held hs h k held
step_held hs (Release h in_tran) held = given_back_held hs h in_tran held
step_held hs (ReleaseAll p o in_tran) held = changed_held (all_back p o in_tran) hs
step_held hs (EndTran p) held = changed_held (without_end p) hs
step_held hs (DropAll p) held = dropped_held hs (λ h. not (h.pid.0 == p.0)) held

pub all_free : (calls : List Call) → IsFree (after_all calls)
all_free [] = λ a b there there2. cc (ap is_some (get-empty {X = Kept} hold_cmp a), there)
all_free (call ∷ earlier) = step_free (after_all earlier) call (all_free earlier)

pub all_held : (calls : List Call) → AllHeld (after_all calls)
all_held [] = λ h there. cc (ap is_some (get-empty {X = Kept} hold_cmp h), there)
all_held (call ∷ earlier) = step_held (after_all earlier) call (all_held earlier)
