-- What is asked one after the other, and what is left of it behind each reply.
use Rattle.std.specs.Prelude.{◌≡◌, ℕ, suc, ◌-◌, ◌==◌, ◌||◌, ◌<◌, Bool, false, cond, List, [], ◌∷◌, drop, length, Option, None, Some}
use Rattle.obj_kinds.specs.declared.op.Op.{Op}
use Rattle.obj_kinds.specs.declared.op.Op.TheVariants as ops
use Rattle.obj_kinds.specs.declared.op.Reply.{Reply}
use Rattle.obj_kinds.specs.declared.op.Reply.TheVariants.{Granted, Held, State}
use Rattle.obj_kinds.specs.declared.cause.Cause.{Cause}
use Rattle.obj_kinds.specs.declared.cause.Cause.TheVariants.{Busy, NotFound}
use Rattle.schema_kinds.specs.declared.class.Class.{Class}
use Rattle.store_calls.specs.Calls.{Give, Ask, Inside, Tried, Got, Lost, then, all, try, answered, step, Asks}
use Rattle.object_calls.specs.Asking.{Does, done, does, kill, lock_to_end}
use Rattle.object_calls.specs.Deletes.{on_member}
use Rattle.object_calls.specs.Saves.{on_key_below, on_target}
use Rattle.asking_plan.specs.declared.asking.Asking.{Asking}
use Rattle.asking_plan.specs.declared.asking.Asking.TheVariants as ask
use Rattle.asking_plan.specs.declared.verdict.Verdict.{Verdict}
use Rattle.asking_plan.specs.declared.verdict.Verdict.TheVariants.{Done, Again, Refused}
use Rattle.asking_plan.specs.declared.plan.AskingPlan.{AskingPlan}

abbrev pub asked_of : Asking → Op
asked_of (ask.Lock mode n) = lock_to_end mode n
asked_of (ask.Kill n) = ops.Kill n
asked_of (ask.Set n v) = ops.Set n v
asked_of (ask.NoKey t) = ops.Order t.node None
asked_of (ask.NoMember t) = ops.Order t.node None
asked_of (ask.Target t) = ops.Defined t.row

-- one is asked; a lock so many times more at most, where it is refused
unfoldable pub asks : List Class → ℕ → Asking → Does
asks classes more (ask.Lock mode n) = try Inside (suc more) (lock_to_end mode n)
asks classes more (ask.Kill n) = kill n
asks classes more (ask.Set n v) = does Inside (ops.Set n v)
asks classes more (ask.NoKey t) = Ask (ops.Order t.node None) Inside (λ r. Give (on_key_below classes t.extent t.node t.index r))
asks classes more (ask.NoMember t) = Ask (ops.Order t.node None) Inside (λ r. Give (on_member classes t.extent t.node r))
asks classes more (ask.Target t) = Ask (ops.Defined t.row) Inside (λ r. Give (on_target t.class t.id r))

-- the first may be asked so many times more, the others as often as each
abbrev pub left_of : List Class → ℕ → ℕ → List Asking → Does
left_of classes each more [] = done
left_of classes each more (a ∷ rest) = then (asks classes more a) (λ _. all (asks classes each) rest)

-- the call that is left
unfoldable pub to_come : List Class → AskingPlan → Does
to_come classes p = left_of classes p.each p.more (drop p.at p.askings)

abbrev pub is_asking : AskingPlan → Type 0
is_asking p = p.at < length p.askings

-- ---- what a reply tells

abbrev pub tried_with : Option Cause → Tried (Unit {0})
tried_with None = Got tt
tried_with (Some x) = Lost x

abbrev pub tested : Option Cause → Verdict
tested None = Done
tested (Some x) = Refused x

abbrev pub lacks_value : Reply → Bool
lacks_value (State n) = n == 0 || n == 10
lacks_value _ = false

abbrev pub lock_refused : ℕ → Cause → Verdict
lock_refused more x = cond (more == 0) (Refused x) Again

abbrev pub lock_tells : ℕ → Reply → Verdict
lock_tells more Granted = Done
lock_tells more (Held p n m) = lock_refused more (Busy p n)
lock_tells more _ = lock_refused more NotFound

abbrev pub behind : List Class → ℕ → Asking → Verdict → Does
behind classes more a Done = done
behind classes more a Again = asks classes (more - 1) a
behind classes more a (Refused x) = Give (Lost x)

abbrev pub IsVerdict : ℕ → Asking → Reply → Verdict → Type 0
IsVerdict more a r v = (classes : List Class) → answered (asks classes more a) r ≡ behind classes more a v

-- the plan is behind the other by the reply, or has failed by it
abbrev pub IsTaken : Reply → AskingPlan → AskingPlan → Option Cause → Type 0
IsTaken r before now None = (classes : List Class) → answered (to_come classes before) r ≡ to_come classes now
IsTaken r before now (Some x) = (classes : List Class) → answered (to_come classes before) r ≡ Give (Lost x)

-- what is asked next; nothing where all was asked
abbrev pub Says : AskingPlan → Option Op → Type 0
Says p None = (classes : List Class) → to_come classes p ≡ done
Says p (Some op) = is_asking p × ((classes : List Class) → step (to_come classes p) ≡ Asks op Inside)
