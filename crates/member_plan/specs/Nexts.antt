-- What the look for a member has still to do in each of its phases.
use Rattle.std.specs.Prelude.{◌≡◌, ℕ, suc, Bool, true, false, List, Option, Some, None, option_map}
use Rattle.obj_kinds.specs.declared.node.Node.{Node}
use Rattle.obj_kinds.specs.declared.op.Op.{Op}
use Rattle.obj_kinds.specs.declared.op.Op.TheVariants.{Order}
use Rattle.obj_kinds.specs.declared.op.Reply.{Reply}
use Rattle.obj_kinds.specs.declared.op.Mode.TheVariants.{Shared}
use Rattle.obj_kinds.specs.Ids.{id_text}
use Rattle.obj_kinds.specs.Limits.{is_legal_reply}
use Rattle.obj_kinds.specs.Subscript.{sub_of}
use Rattle.schema_kinds.specs.declared.class.Class.{Class}
use Rattle.store_calls.specs.Calls.{Call, Give, Ask, Cut, bind, Plain, Tried, try}
use Rattle.store_calls.specs.Plans.{Bounded, IsAfter, AsksFor, SaysNext}
use Rattle.object_calls.specs.Asking.{lock_counted, unlock}
use Rattle.object_calls.specs.Keys.{ManySide, members_node}
use Rattle.object_calls.specs.Members.{next_ends, member_after, next_locked, next_member}
use Rattle.read_plan.specs.Reads.{tried_of}
use Rattle.member_plan.specs.declared.call.MemberCall.{MemberCall}
use Rattle.member_plan.specs.declared.call.MemberStep.{MemberStep}
use Rattle.member_plan.specs.declared.call.MemberStep.TheVariants as step
use Rattle.member_plan.specs.declared.phase.MemberPhase.{MemberPhase}
use Rattle.member_plan.specs.declared.phase.MemberPhase.TheVariants as phase

abbrev pub meant : MemberCall → ManySide
meant c = record { class = c.class; side = c.side }

module _ (classes : List Class) (c : MemberCall) where
  abbrev pub node_of : Node
  node_of = members_node classes (meant c) c.holder

  -- what is asked of the store; nothing where no reply is awaited
  abbrev pub asked_in : MemberPhase → Option Op
  asked_in (phase.Locking n) = Some (lock_counted Shared node_of)
  asked_in (phase.AtKey locked) = Some (Order node_of (option_map (λ id. sub_of (id_text id)) c.behind))
  asked_in (phase.Unlocking a) = Some (unlock Shared node_of)
  asked_in (phase.Over a) = None
  asked_in phase.Told = None

  -- the lock is given back
  abbrev pub unlocking : Tried (Option (List ℕ)) → Call (Tried (Option (List ℕ)))
  unlocking a = Ask (unlock Shared node_of) Plain (λ r. next_ends 1 a)

  -- behind the reply of the key, under a lock or not
  abbrev pub key_ends : Bool → Tried (Option (List ℕ)) → Call (Tried (Option (List ℕ)))
  key_ends true a = unlocking a
  key_ends false a = next_ends 0 a

  abbrev pub at_key : Call (Tried (Option (List ℕ)))
  at_key = member_after classes 0 (meant c) c.holder c.behind

  -- the call that is left in each phase
  unfoldable pub to_come_now : MemberPhase → Call (Tried (Option (List ℕ)))
  to_come_now (phase.Locking n) =
      bind (try Plain (suc n) (lock_counted Shared node_of)) (next_locked classes 0 (meant c) c.holder c.behind)
  to_come_now (phase.AtKey locked) = bind at_key (key_ends locked)
  to_come_now (phase.Unlocking a) = unlocking (tried_of a)
  to_come_now (phase.Over a) = Give (tried_of a)
  to_come_now phase.Told = Cut

  -- it has no walk, so no bound shows in it
  abbrev pub to_come : MemberPhase → Bounded (Tried (Option (List ℕ)))
  to_come p = λ most. to_come_now p

  -- the call that was made
  abbrev pub IsBegun : MemberPhase → Type 0
  IsBegun p = to_come_now p ≡ next_member classes c.tries (meant c) c.holder c.level c.behind

  -- the one phase is behind the other by the reply, where that is one of a store
  abbrev pub IsTaken : Reply → MemberPhase → MemberPhase → Type 0
  IsTaken r before now = is_legal_reply r ≡ true → IsAfter r (to_come before) (to_come now)

  -- what the step says comes next
  abbrev pub IsNext : MemberStep → MemberPhase → Type 0
  IsNext (step.Ask op) p = SaysNext (AsksFor op) (to_come p)
  IsNext (step.Member a) p = to_come_now p ≡ Give (tried_of a)

abbrev pub is_asking : MemberPhase → Bool
is_asking (phase.Locking n) = true
is_asking (phase.AtKey locked) = true
is_asking (phase.Unlocking a) = true
is_asking _ = false

abbrev pub is_over : MemberPhase → Bool
is_over (phase.Over a) = true
is_over _ = false

abbrev pub is_told : MemberPhase → Bool
is_told phase.Told = true
is_told _ = false

abbrev pub is_unlocking : MemberPhase → Bool
is_unlocking (phase.Unlocking a) = true
is_unlocking _ = false

abbrev pub behind_unlock : MemberPhase → MemberPhase
behind_unlock (phase.Unlocking a) = phase.Over a
behind_unlock p = p

-- a walk that asks stays as it is; one that has answered is over
abbrev pub StaysAt : MemberStep → MemberPhase → MemberPhase → Type 0
StaysAt (step.Ask op) before now = (is_asking before ≡ true) × (now ≡ before)
StaysAt (step.Member a) before now = now ≡ phase.Told
