-- Each operation that a process asks takes one of its units.
use Rattle.std.proofs.Common.{ℕ, zero, suc, List, [], ◌∷◌, Option, Some, None, refl}
use Rattle.obj_kinds.specs.declared.name.ClassName.{ClassName}
use Rattle.obj_kinds.specs.declared.node.Node.{Node}
use Rattle.obj_kinds.specs.declared.op.Mode.{Mode}
use Rattle.obj_kinds.specs.declared.op.Op.{Op}
use Rattle.obj_kinds.specs.declared.op.Reply.{Reply}
use Rattle.obj_kinds.specs.declared.op.Reply.TheVariants as reply
use Rattle.os_kinds.specs.declared.call.Call.{Call as Need}
use Rattle.os_kinds.specs.declared.call.Call.TheVariants as call
use Rattle.os_kinds.specs.declared.call.Answer.{Answer}
use Rattle.os_kinds.specs.declared.call.ScriptEnd.{ScriptEnd}
use Rattle.os_kinds.specs.declared.call.ScriptEnd.TheVariants as end
use Rattle.os_meaning.specs.Syntax.{Block}
use Rattle.os_meaning.specs.Frames.{Frame, Ends, Prints as Printing, Holds, Loses, Points, Spends, Asks}
use Rattle.store_calls.specs.Calls.{Call, Give, Ask, Tell, Cut, Tag, Told}
use Rattle.host_meaning.specs.declared.ending.Ending.{Ending}
use Rattle.host_meaning.specs.Methods.{Program}
use Rattle.host_meaning.specs.Objects.{Known, Objects, ObjectCall}
use Rattle.host_meaning.specs.Process.{Begun, Meant, Method, Wrong, BuiltIn, on_grant, asks, calls, waits, tries, locks, unlocks, RunsMethod, meant, needs, runs, answers, method, process, script_begun, whole}
use Rattle.host_meaning.specs.Fuel.{AsksAtMost}

-- as a record, so that a lemma's call is found
record Fits (units : ℕ) (c : Call Ending) : Type 0 where
  it : AsksAtMost units c

gives : (units : ℕ) (e : Ending) → Fits units (Give e)
gives units e = record { it = tt }

asked : (units : ℕ) (op : Op) (tag : Tag) (k : Reply → Call Ending) → ((r : Reply) → Fits units (k r)) → Fits (suc units) (Ask op tag k)
asked units op tag k f = record { it = (units, refl, λ r. (f r).it) }

told : (units : ℕ) (x : Told) (c : Call Ending) → Fits units c → Fits units (Tell x c)
told units x c f = record { it = f.it }

-- with more units it asks no more
loosened : (units : ℕ) (c : Call Ending) → AsksAtMost units c → AsksAtMost (suc units) c
loosened units (Give e) f = tt
loosened units (Tell x c) f = loosened units c f
loosened units Cut f = tt
loosened units (Ask op tag k) f = (units, refl, λ r. rw f.1 (loosened f.0 (k r) (f.2 r)))

spent : (units : ℕ) (c : Call Ending) → Fits units c → Fits (suc units) c
spent units c f = record { it = loosened units c f.it }

module _ {M : Type 0} (objects : Objects M) (program : Program) (fuel : ℕ) where
  abbrev S : Type 0
  S = Known M

  -- what follows asks no more than the units that are left
  abbrev Follows : {A : Type 0} → (A → ℕ → S → Call Ending) → Type 0
  Follows {A} go = (a : A) (units : ℕ) (s : S) → Fits units (go a units s)

  asks_fit : (op : Op) (units : ℕ) (s : S) (go : Reply → ℕ → S → Call Ending) → Follows go → Fits units (asks objects program fuel op units s go)
  asks_fit op zero s go f = gives zero _
  asks_fit op (suc units) s go f = asked units op _ _ (λ r. f r units _)

  calls_fit : (c : Call (S × Answer)) (units : ℕ) (go : Answer → ℕ → S → Call Ending) → Follows go → Fits units (calls objects program fuel c units go)
  calls_fit (Give a) units go f = f a.1 units a.0
  calls_fit (Tell x c) units go f = told units x _ (calls_fit c units go f)
  calls_fit Cut units go f = record { it = tt }
  calls_fit (Ask op tag k) zero go f = gives zero _
  calls_fit (Ask op tag k) (suc units) go f = asked units op tag _ (λ r. calls_fit (k r) units go f)

  granted : (r : Reply) (units : ℕ) (a b : Call Ending) → Fits units a → Fits units b → Fits units (on_grant r a b)
  granted reply.Granted units a b f g = f
  granted _ units a b f g = g

  waits_fit : (op : Op) (units : ℕ) (s : S) (go : Answer → ℕ → S → Call Ending) → Follows go → Fits units (waits objects program fuel op units s go)
  waits_fit op zero s go f = gives zero _
  waits_fit op (suc units) s go f = asked units op _ _ (λ r. granted r units _ _ (f _ units s) (waits_fit op units s go f))

  tries_fit : (op : Op) (times units : ℕ) (s : S) (go : Answer → ℕ → S → Call Ending) → Follows go → Fits units (tries objects program fuel op times units s go)
  tries_fit op zero units s go f = f _ units _
  tries_fit op (suc times) units s go f = asks_fit op units s _ (λ r left t. granted r left _ _ (f _ left _) (tries_fit op times left t go f))

  locks_fit : (n : Node) (mode : Mode) (times : Option ℕ) (units : ℕ) (s : S) (go : Answer → ℕ → S → Call Ending) → Follows go → Fits units (locks objects program fuel n mode times units s go)
  locks_fit n mode None units s go f = waits_fit _ units s go f
  locks_fit n mode (Some times) units s go f = tries_fit _ times units s go f

  unlocks_fit : (list : List Op) (units : ℕ) (s : S) (go : ℕ → S → Call Ending) → ((left : ℕ) (t : S) → Fits left (go left t)) → Fits units (unlocks objects program fuel list units s go)
  unlocks_fit [] units s go f = f units s
  unlocks_fit (op ∷ more) units s go f = asks_fit op units s _ (λ r left t. unlocks_fit more left t go f)

  abbrev RunsFit : RunsMethod objects program fuel → Type 0
  RunsFit run = (b : Begun) (units : ℕ) (s : S) (go : Answer → ℕ → S → Call Ending) → Follows go → Fits units (run b units s go)

  meant_fits : (run : RunsMethod objects program fuel) → RunsFit run → (m : Meant) (built_in : ObjectCall M) (units : ℕ) (s : S) (go : Answer → ℕ → S → Call Ending) → Follows go → Fits units (meant objects program fuel run m built_in units s go)
  meant_fits run h (Method b) built_in units s go f = h b units s go f
  meant_fits run h (Wrong e) built_in units s go f = f _ units s
  meant_fits run h BuiltIn built_in units s go f = calls_fit (built_in s) units go f

  needs_fit : (run : RunsMethod objects program fuel) → RunsFit run → (b : Begun) (c : Need) (units : ℕ) (s : S) (go : Answer → ℕ → S → Call Ending) → Follows go → Fits units (needs objects program fuel run b c units s go)
  needs_fit run h b (call.Store op) units s go f = asks_fit op units s _ (λ r left t. f _ left t)
  needs_fit run h b (call.TryLock n mode times) units s go f = locks_fit n mode times units s go f
  needs_fit run h b (call.Special x) units s go f = f _ units s
  needs_fit run h b (call.OnClass class name args) units s go f = meant_fits run h _ _ units s go f
  needs_fit run h b (call.OnOwn name args) units s go f = meant_fits run h _ _ units s go f
  needs_fit run h b (call.OnObject number name args) units s go f = meant_fits run h _ _ units s go f
  needs_fit run h b (call.OnItems number property name args) units s go f = calls_fit _ units go f
  needs_fit run h b (call.Read number property) units s go f = calls_fit _ units go f
  needs_fit run h b (call.Write number property v) units s go f = calls_fit _ units go f

  runs_fit : (run : RunsMethod objects program fuel) → RunsFit run → (b : Begun) (fr : Frame) (units : ℕ) (s : S) (go : ScriptEnd → ℕ → S → Call Ending) → Follows go → Fits units (runs objects program fuel run b fr units s go)
  runs_fit run h b (Ends e) units s go f = f e units s
  runs_fit run h b (Printing t fr) units s go f = told units _ _ (runs_fit run h b fr units s go f)
  runs_fit run h b (Holds number fr) units s go f = runs_fit run h b fr units _ go f
  runs_fit run h b (Loses number fr) units s go f = runs_fit run h b fr units _ go f
  runs_fit run h b (Points fr) units s go f = unlocks_fit _ units _ _ (λ left t. runs_fit run h b fr left t go f)
  runs_fit run h b (Spends fr) zero s go f = gives zero _
  runs_fit run h b (Spends fr) (suc units) s go f = spent units _ (runs_fit run h b fr units s go f)
  runs_fit run h b (Asks c k) units s go f = needs_fit run h b c units s _ (λ a left t. runs_fit run h b (k a) left t go f)

  answers_fit : (class : Option ClassName) (e : ScriptEnd) (units : ℕ) (s : S) (go : Answer → ℕ → S → Call Ending) → Follows go → Fits units (answers objects program fuel class e units s go)
  answers_fit class (end.Done v) units s go f = f _ units s
  answers_fit class end.Halt units s go f = gives units _
  answers_fit class (end.Error name line) units s go f = gives units _
  answers_fit class end.Fuel units s go f = gives units _

  method_fits : (frames : ℕ) → RunsFit (method objects program fuel frames)
  method_fits zero b units s go f = f _ units s
  method_fits (suc frames) b units s go f =
      runs_fit (method objects program fuel frames) (method_fits frames) b (whole objects program fuel b) units _ _ (λ e left t. answers_fit b.declarer e left t go f)

  pub process_fits : (script : Block) → AsksAtMost fuel (process objects program fuel script)
  unfolding process
  process_fits script =
      (runs_fit (method objects program fuel 63) (method_fits 63) (script_begun objects program fuel script) (whole objects program fuel (script_begun objects program fuel script)) fuel _ _ (λ e left t. gives left _)).it
