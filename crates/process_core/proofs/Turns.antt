-- What a step of a process does of what was left.
use Rattle.std.proofs.Common.{◌≡◌, ℕ, zero, suc, ◌-◌, ℤ, pos, negsuc, Bool, true, false, List, [], Option, Some, None, Result, Ok, Err, OnOk, inl, inr, refl, sym, ap, ◌∙◌, subst, arith}
use Rattle.obj_kinds.specs.declared.node.Node.{Node}
use Rattle.obj_kinds.specs.declared.op.Mode.{Mode}
use Rattle.obj_kinds.specs.declared.op.Op.{Op}
use Rattle.obj_kinds.specs.declared.op.Owner.TheVariants.{Script}
use Rattle.obj_kinds.specs.declared.op.Keep.TheVariants.{Counted}
use Rattle.obj_kinds.specs.declared.op.Op.TheVariants as ops
use Rattle.obj_kinds.specs.declared.op.Reply.{Reply}
use Rattle.obj_kinds.specs.declared.op.Reply.TheVariants as reply
use Rattle.os_kinds.specs.declared.call.Call.{Call as Need}
use Rattle.os_kinds.specs.declared.call.Call.TheVariants as call
use Rattle.os_kinds.specs.declared.call.Answer.{Answer}
use Rattle.os_kinds.specs.declared.call.Answer.TheVariants as answer
use Rattle.os_kinds.specs.declared.call.Event.{Event}
use Rattle.os_kinds.specs.declared.call.Event.TheVariants as event
use Rattle.os_kinds.specs.declared.call.ScriptEnd.{ScriptEnd}
use Rattle.os_kinds.specs.declared.call.ScriptEnd.TheVariants as end
use Rattle.os_meaning.specs.Syntax.{Block}
use Rattle.os_code.specs.declared.instruction.Instruction.{Instruction}
use Rattle.os_code.specs.Machine.{flat}
use Rattle.os_code.specs.Coding.{script_code}
use Rattle.os_machine.specs.Runs.{running, awaited, is_waiting, Sees}
use Rattle.frame_stack.specs.declared.frame.RunningFrame.{RunningFrame}
use Rattle.frame_stack.specs.Laws.{AtBeginning, IsAtScript}
use Rattle.store_calls.specs.Calls.{Call, Give, Ask, Tell, Plain, Prints}
use Rattle.host_meaning.specs.declared.ending.Ending.{Ending}
use Rattle.host_meaning.specs.declared.ending.Ending.TheVariants as ending
use Rattle.host_meaning.specs.Process.{ending_of, level_after, on_grant}
use Rattle.host_meaning.specs.Samples.{no_objects}
use Rattle.frame_stack.specs.declared.stack.Stack.{Stack}
use Rattle.frame_stack.specs.Stacks.{declarer_of, called_on_of, callers, with_machine, IsReady, IsAsked, StandsAfter}
use Rattle.frame_stack.specs.Left.{left, given, ended, shown}
use Rattle.frame_stack.proofs.StackLaws.{events_show, answers_go, processes_end}
use Rattle.process_core.specs.declared.kept.Kept.{Kept}
use Rattle.process_core.specs.declared.kept.LevelMove.{LevelMove}
use Rattle.process_core.specs.declared.end.End.{End}
use Rattle.process_core.specs.declared.end.End.TheVariants as own
use Rattle.process_core.specs.declared.process.Claim.{Claim}
use Rattle.process_core.specs.declared.process.Phase.{Phase}
use Rattle.process_core.specs.declared.process.Phase.TheVariants as phase
use Rattle.process_core.specs.declared.process.Proc.{Proc}
use Rattle.process_core.specs.declared.turn.Turn.{Turn}
use Rattle.process_core.specs.declared.turn.Turn.TheVariants as turn
use Rattle.process_core.specs.Ends.{ending_by, end_by}
use Rattle.process_core.specs.Keeping.{count_of, level_move, level_by, with_level}
use Rattle.process_core.specs.Left.{alone, known, ProcessCall, claims, next_try, behind_try, left_in, left_of, replied, replied_in, is_asking, asks_in, IsOfScript, Stands, StandsIn, Steps, needed, asked, answered, closed}

-- ---- levels

level_law : (op : Op) (r : Reply) (z : ℤ) → level_after op r (count_of z) ≡ count_of (level_by (level_move op) r z)
level_law ops.Begin (reply.Number (pos n)) z = refl
level_law ops.Begin (reply.Number (negsuc n)) z = refl
level_law ops.Begin _ z = refl
level_law ops.Commit (reply.Number (pos n)) z = refl
level_law ops.Commit (reply.Number (negsuc n)) z = refl
level_law ops.Commit _ z = refl
level_law ops.RollbackOne (reply.Number (pos n)) z = refl
level_law ops.RollbackOne (reply.Number (negsuc n)) z = refl
level_law ops.RollbackOne _ z = refl
level_law ops.RollbackAll r z = refl
level_law _ r z = refl

-- ---- a process whose frame runs

pub running_left : (p : Proc) → p.phase ≡ phase.Runs → left_of p ≡ left no_objects alone p.fuel p.stack p.units (known p.kept)
unfolding left_of
running_left p e = ap (λ x. left_in x p) e

pub trying_left : (p : Proc) (c : Claim) → p.phase ≡ phase.Tries c → left_of p ≡ claims p.fuel c p.stack p.units p.kept
unfolding left_of
trying_left p c e = ap (λ x. left_in x p) e

pub ended_left : (p : Proc) (e : End) → p.phase ≡ phase.Ended e → left_of p ≡ Give (ending_by e)
unfolding left_of
ended_left p e is = ap (λ x. left_in x p) is

quiet : (p : Proc) → p.phase ≡ phase.Runs → is_asking p ≡ false
quiet p e = ap asks_in e

ends_as : (e : ScriptEnd) → ending_of None e ≡ ending_by (end_by e)
ends_as (end.Done v) = refl
ends_as end.Halt = refl
ends_as (end.Error name line) = refl
ends_as end.Fuel = refl

-- the end is shown
pub closes : (e : End) (p : Proc) (x : ProcessCall) → x ≡ Give (ending_by e) → Steps (Some (turn.Ended (ending_by e))) x (record p { phase = phase.Ended e })
unfolding left_of
closes e p x is = ((refl, inl is), refl)

module _ (p : Proc) (runs : p.phase ≡ phase.Runs) (ready : IsReady p.stack) (s : Stack) (others : s ≡ with_machine s.top.machine p.stack) (units : ℕ) where
  abbrev after : Proc
  after = record p { stack = s; units = units }

  module _ (e : Event) (sees : Sees e p.units units (running p.stack.top.machine) s.top.machine) where
    pub shown_left : left_of p ≡ shown no_objects alone p.fuel e s units (known p.kept)
    shown_left = running_left p runs ∙ events_show no_objects alone p.fuel e p.units units p.stack s ready sees others (known p.kept)

  pub prints : (t : List ℕ) → Sees (event.Print t) p.units units (running p.stack.top.machine) s.top.machine → Steps (Some (turn.Print t)) (left_of p) after
  prints t sees = (shown_left (event.Print t) sees ∙ ap (Tell (Prints t)) (sym (running_left after runs)), quiet p runs)

  pub holds : (o : ℕ) → Sees (event.More o) p.units units (running p.stack.top.machine) s.top.machine → Steps None (left_of p) after
  holds o sees = (sym (shown_left (event.More o) sees ∙ sym (running_left after runs)), quiet p runs)

  pub loses : (o : ℕ) → Sees (event.Less o) p.units units (running p.stack.top.machine) s.top.machine → Steps None (left_of p) after
  loses o sees = (sym (shown_left (event.Less o) sees ∙ sym (running_left after runs)), quiet p runs)

  pub points : Sees event.Point p.units units (running p.stack.top.machine) s.top.machine → Steps None (left_of p) after
  points sees = (sym (shown_left event.Point sees ∙ sym (running_left after runs)), quiet p runs)

  pub needs_next : (c : Need) → Sees (event.Need c) p.units units (running p.stack.top.machine) s.top.machine → left_of p ≡ needed c after
  needs_next c sees = shown_left (event.Need c) sees

  same_script : IsOfScript p.stack → IsOfScript s
  same_script script = subst IsOfScript (sym others) script

  pub finishes : (e : ScriptEnd) → IsOfScript p.stack → Sees (event.Finished e) p.units units (running p.stack.top.machine) s.top.machine → left_of p ≡ Give (ending_by (end_by e))
  finishes e script sees =
      let now = same_script script in
      shown_left (event.Finished e) sees ∙ (processes_end no_objects alone p.fuel e s units (known p.kept)).1 now.1.1 ∙ ap (λ d. Give (ending_of d e)) now.0 ∙ ap Give (ends_as e)

-- ---- answers

pub goes_on : (p : Proc) (runs : p.phase ≡ phase.Runs) (a : Answer) (s : Stack) → ((n : ℕ) → running s.top.machine n ≡ awaited p.stack.top.machine a n) → s ≡ with_machine s.top.machine p.stack → left_of (record p { stack = s }) ≡ answered a p
goes_on p runs a s goes others = running_left (record p { stack = s }) runs ∙ sym (answers_go no_objects alone p.fuel a p.stack s goes others p.units (known p.kept))

-- ---- operations

pub out_of_units : (op : Op) (p : Proc) → p.units ≡ 0 → asked op p ≡ Give ending.Fuel
out_of_units op p e = ap (λ n. asked op (record p { units = n })) e

pub stores : (op : Op) (p : Proc) (m : ℕ) → p.units ≡ suc m → Steps (Some (turn.Ask op)) (asked op p) (record p { units = m; phase = phase.Stores (level_move op) })
unfolding replied
stores op p m e = (
  ap (λ n. asked op (record p { units = n })) e
      ∙ (λ i. Ask op Plain (λ r. given no_objects alone p.fuel p.stack (answer.Reply r) m (record { memory = tt; level = level_law op r p.kept.level i; test = p.kept.test; last_error = [] }))),
  refl,
)

-- ---- locks

module _ (fuel : ℕ) (n : Node) (mode : Mode) (s : Stack) (k : Kept) where
  abbrev claim : Option ℕ → Claim
  claim times = record { node = n; mode = mode; times = times }

  next_of : (m units : ℕ) → claims fuel (claim (Some (suc m))) s units k ≡ next_try fuel n mode (Some m) s units k
  next_of m zero = refl
  next_of m (suc units) = refl

  next_wait : (units : ℕ) → claims fuel (claim None) s units k ≡ next_try fuel n mode None s units k
  next_wait zero = refl
  next_wait (suc units) = refl

  pub tries_again : (times : Option ℕ) (m units : ℕ) → times ≡ Some (suc m) → claims fuel (claim times) s units k ≡ next_try fuel n mode (Some m) s units k
  tries_again times m units e = ap (λ t. claims fuel (claim t) s units k) e ∙ next_of m units

  pub waits_again : (times : Option ℕ) (units : ℕ) → times ≡ None → claims fuel (claim times) s units k ≡ next_try fuel n mode None s units k
  waits_again times units e = ap (λ t. claims fuel (claim t) s units k) e ∙ next_wait units

  pub tried_out : (times : Option ℕ) (units : ℕ) → times ≡ Some 0 → claims fuel (claim times) s units k ≡ given no_objects alone fuel s answer.Done units (known (record k { test = false }))
  tried_out times units e = ap (λ t. claims fuel (claim t) s units k) e

  pub no_try : (times : Option ℕ) (units : ℕ) → units ≡ 0 → next_try fuel n mode times s units k ≡ Give ending.Fuel
  no_try times units e = ap (λ u. next_try fuel n mode times s u k) e

pub locks_now : (p : Proc) (n copy : Node) (mode : Mode) (times : Option ℕ) (m : ℕ) → p.units ≡ suc m → copy ≡ n
    → Steps (Some (turn.Ask (ops.Lock n mode Script Counted))) (next_try p.fuel n mode times p.stack p.units p.kept) (record p { units = m; phase = phase.Locks (record { node = copy; mode = mode; times = times }) })
unfolding replied
locks_now p n copy mode times m e same =
    (ap (λ u. next_try p.fuel n mode times p.stack u p.kept) e ∙ (λ i. Ask (ops.Lock n mode Script Counted) Plain (behind_try p.fuel (record { node = sym same i; mode = mode; times = times }) p.stack m p.kept)), refl)

pub goes_on_ok : {E : Type 0} (r : Result (Unit {0}) E) (p : Proc) → p.phase ≡ phase.Runs → (a : Answer) (s : Stack)
    → OnOk r ((n : ℕ) → running s.top.machine n ≡ awaited p.stack.top.machine a n) → OnOk r (s ≡ with_machine s.top.machine p.stack) → OnOk r (left_of (record p { stack = s }) ≡ answered a p)
goes_on_ok (Ok x) p runs a s goes others = goes_on p runs a s goes others
goes_on_ok (Err e) p runs a s goes others = tt

-- ---- ends

-- the process ends for want of memory
pub lacks : (t : Turn) (new p : Proc) (x : ProcessCall) → (t, new) ≡ closed own.NoMemory p → Steps (Some t) x new
unfolding left_of
lacks t new p x e = subst (λ (q : Turn × Proc). Steps (Some q.0) x q.1) (sym e) ((refl, inr refl), refl)

-- the process ends so
pub ends_so : (e : End) (t : Turn) (new p : Proc) (x : ProcessCall) → (t, new) ≡ closed e p → x ≡ Give (ending_by e) → Steps (Some t) x new
ends_so e t new p x is at = subst (λ (q : Turn × Proc). Steps (Some q.0) x q.1) (sym is) (closes e p x at)

pub one_less : (n : ℕ) → (n ≡ 0 → ⊥) → n ≡ suc (n - 1)
one_less zero h = absurd (h refl)
one_less (suc n) h = omega arith

pub closed_left : (e : End) (t : Turn) (new p : Proc) → (t, new) ≡ closed e p → left_of new ≡ Give (ending_by e)
unfolding left_of
closed_left e t new p is = subst (λ (q : Turn × Proc). left_of q.1 ≡ Give (ending_by e)) (sym is) refl

-- ---- replies

pub refused : {A : Type 0} (r : Reply) → (r ≡ reply.Granted → ⊥) → (a b : A) → on_grant r a b ≡ b
refused reply.Granted h a b = absurd (h refl)
refused _ h a b = refl

pub stores_replied : (p : Proc) (m : LevelMove) → p.phase ≡ phase.Stores m → (r : Reply) (k : Kept) → k ≡ with_level (level_by m r p.kept.level) p.kept → answered (answer.Reply r) (record p { kept = k; phase = phase.Runs }) ≡ replied p r
unfolding replied
stores_replied p m is r k e =
    (λ i. given no_objects alone p.fuel p.stack (answer.Reply r) p.units (known (e i))) ∙ sym (ap (λ x. replied_in x p r) is)

pub locks_replied : (p : Proc) (c : Claim) → p.phase ≡ phase.Locks c → (r : Reply) → behind_try p.fuel c p.stack p.units p.kept r ≡ replied p r
unfolding replied
locks_replied p c is r = sym (ap (λ x. replied_in x p r) is)

-- ---- the beginning

pub begun_alone : (script : Block) (s : Stack) (f : RunningFrame) (code : List Instruction) → s.top ≡ f → callers s ≡ [] → declarer_of f ≡ None → called_on_of f ≡ None
    → is_waiting f.machine ≡ false → ((n : ℕ) → running f.machine n ≡ flat None n code []) → code ≡ script_code script → IsAtScript script s
begun_alone script s f code top alone d o waits runs is =
    subst (λ t. AtBeginning script None [] t × ((declarer_of t ≡ None) × ((called_on_of t ≡ None) × (callers s ≡ [])))) (sym top)
    ((waits, λ n. runs n ∙ ap (λ c. flat None n c []) is), (d, (o, alone)))
