-- What is left of a process of one script, and what it does behind a reply.
use Rattle.std.specs.Prelude.{◌≡◌, ℕ, zero, suc, ◌-◌, length, Bool, true, false, List, [], Option, Some, None, ◌⊎◌, Result, Ok, Err}
use Rattle.obj_kinds.specs.declared.node.Node.{Node}
use Rattle.obj_kinds.specs.declared.op.Mode.{Mode}
use Rattle.obj_kinds.specs.declared.op.Op.{Op}
use Rattle.obj_kinds.specs.declared.op.Op.TheVariants as ops
use Rattle.obj_kinds.specs.declared.op.Owner.TheVariants.{Script}
use Rattle.obj_kinds.specs.declared.op.Keep.TheVariants.{Counted}
use Rattle.obj_kinds.specs.declared.op.Reply.{Reply}
use Rattle.os_kinds.specs.declared.call.Call.{Call as Need}
use Rattle.os_kinds.specs.declared.call.Answer.{Answer}
use Rattle.os_kinds.specs.declared.call.Answer.TheVariants as answer
use Rattle.store_calls.specs.Calls.{Call, Give, Ask, Tell, Cut, Plain, Prints}
use Rattle.store_core.specs.declared.refusal.ApplyError.{ApplyError}
use Rattle.host_meaning.specs.declared.ending.Ending.{Ending}
use Rattle.host_meaning.specs.declared.ending.Ending.TheVariants as ending
use Rattle.host_meaning.specs.Methods.{Program}
use Rattle.host_meaning.specs.Objects.{Known}
use Rattle.host_meaning.specs.Process.{on_grant, asks, locks, method, needs}
use Rattle.host_meaning.specs.Samples.{no_objects}
use Rattle.frame_stack.specs.Stacks.{most_callers, declarer_of, called_on_of, callers, IsReady, IsAsked}
use Rattle.frame_stack.specs.Left.{begun_of, left, given}
use Rattle.frame_stack.specs.declared.stack.Stack.{Stack}
use Rattle.process_core.specs.declared.kept.Kept.{Kept}
use Rattle.process_core.specs.declared.end.End.{End}
use Rattle.process_core.specs.declared.process.Claim.{Claim}
use Rattle.process_core.specs.declared.process.Phase.{Phase}
use Rattle.process_core.specs.declared.process.Phase.TheVariants as phase
use Rattle.process_core.specs.declared.process.Proc.{Proc}
use Rattle.process_core.specs.declared.turn.Turn.{Turn}
use Rattle.process_core.specs.declared.turn.Turn.TheVariants as turn
use Rattle.process_core.specs.Ends.{ending_by, end_refused}
use Rattle.process_core.specs.Keeping.{count_of, level_by, test_granted}

-- a program without classes
abbrev pub alone : Program
alone = record { classes = []; bodies = []; scripts = [] }

abbrev pub known : Kept → Known (Unit {0})
known k = record { memory = tt; level = count_of k.level; test = k.test; last_error = [] }

abbrev pub ProcessCall : Type 0
ProcessCall = Call Ending

-- ---- locks

abbrev pub granted : Option ℕ → Kept → Kept
granted times k = record k { test = test_granted times k.test }

-- a lock is asked for
abbrev pub claims : ℕ → Claim → Stack → ℕ → Kept → ProcessCall
claims fuel c s units k = locks no_objects alone fuel c.node c.mode c.times units (known k) (given no_objects alone fuel s)

-- behind the reply to a try
abbrev pub behind_try : ℕ → Claim → Stack → ℕ → Kept → Reply → ProcessCall
behind_try fuel c s units k r = on_grant r (given no_objects alone fuel s answer.Done units (known (granted c.times k))) (claims fuel c s units k)

-- a try, behind which there are so many
abbrev pub next_try : ℕ → Node → Mode → Option ℕ → Stack → ℕ → Kept → ProcessCall
next_try fuel n mode times s zero k = Give ending.Fuel
next_try fuel n mode times s (suc units) k = Ask (ops.Lock n mode Script Counted) Plain (behind_try fuel (record { node = n; mode = mode; times = times }) s units k)

-- ---- what is left

abbrev pub left_in : Phase → Proc → ProcessCall
left_in phase.Runs p = left no_objects alone p.fuel p.stack p.units (known p.kept)
left_in (phase.Tries c) p = claims p.fuel c p.stack p.units p.kept
left_in (phase.Ended e) p = Give (ending_by e)
left_in (phase.Stores moved) p = Cut
left_in (phase.Locks c) p = Cut

unfoldable pub left_of : Proc → ProcessCall
left_of p = left_in p.phase p

abbrev pub replied_in : Phase → Proc → Reply → ProcessCall
replied_in (phase.Stores moved) p r = given no_objects alone p.fuel p.stack (answer.Reply r) p.units (known (record p.kept { level = level_by moved r p.kept.level }))
replied_in (phase.Locks c) p r = behind_try p.fuel c p.stack p.units p.kept r
replied_in _ p r = Cut

-- what the process does behind this reply
unfoldable pub replied : Proc → Reply → ProcessCall
replied p r = replied_in p.phase p r

-- ---- what stands

abbrev pub asks_in : Phase → Bool
asks_in (phase.Stores moved) = true
asks_in (phase.Locks c) = true
asks_in _ = false

-- whether it has asked, and waits for the reply
abbrev pub is_asking : Proc → Bool
is_asking p = asks_in p.phase

abbrev pub StandsIn : Phase → Stack → Type 0
StandsIn phase.Runs s = IsReady s
StandsIn (phase.Ended e) s = Unit {0}
StandsIn _ s = IsAsked s

-- its one frame is that of a script
abbrev pub IsOfScript : Stack → Type 0
IsOfScript s = (declarer_of s.top ≡ None) × ((called_on_of s.top ≡ None) × (callers s ≡ []))

abbrev pub Stands : Proc → Type 0
Stands p = StandsIn p.phase p.stack × IsOfScript p.stack

-- ---- what is shown

abbrev pub is_ask : Turn → Bool
is_ask (turn.Ask op) = true
is_ask _ = false

-- A turn is what is done next of what was left, and what is left then. A process may end for want of memory in place of all else.
abbrev pub Shows : Turn → ProcessCall → Proc → Type 0
Shows (turn.Ask op) old new = old ≡ Ask op Plain (replied new)
Shows (turn.Print t) old new = old ≡ Tell (Prints t) (left_of new)
Shows (turn.Ended e) old new = (left_of new ≡ Give e) × ((old ≡ Give e) ⊎ (e ≡ ending.NoMemory))

-- the same of a step, which may show nothing
abbrev pub Steps : Option Turn → ProcessCall → Proc → Type 0
Steps None old new = (left_of new ≡ old) × (is_asking new ≡ false)
Steps (Some t) old new = Shows t old new × (is_asking new ≡ is_ask t)

-- what a frame asks
abbrev pub needed : Need → Proc → ProcessCall
needed c p =
    needs no_objects alone p.fuel (method no_objects alone p.fuel (most_callers - length (callers p.stack))) (begun_of p.stack.top) c p.units (known p.kept) (given no_objects alone p.fuel p.stack)

-- an operation of the script
abbrev pub asked : Op → Proc → ProcessCall
asked op p = asks no_objects alone p.fuel op p.units (known p.kept) (λ r units k. given no_objects alone p.fuel p.stack (answer.Reply r) units k)

abbrev pub answered : Answer → Proc → ProcessCall
answered a p = given no_objects alone p.fuel p.stack a p.units (known p.kept)

abbrev pub closed : End → Proc → Turn × Proc
closed e p = (turn.Ended (ending_by e), record p { phase = phase.Ended e })

-- what a reply leaves, where there is memory
abbrev pub Settles : ProcessCall → Proc → Type 0
Settles x new = (left_of new ≡ x) ⊎ (left_of new ≡ Give ending.NoMemory)

abbrev pub Takes : Result Reply ApplyError → Proc → Proc → Type 0
Takes (Ok r) old new = Settles (replied old r) new
Takes (Err x) old new = left_of new ≡ Give (ending_by (end_refused x))
