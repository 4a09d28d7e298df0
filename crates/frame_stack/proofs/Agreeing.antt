-- What a process does with so many units depends on what follows with at most as many; and a frame that is cut where its units end does
-- the same.
use Rattle.std.proofs.Common.{◌≡◌, ℕ, zero, suc, ◌≤◌, true, List, [], ◌∷◌, Option, Some, None, refl, sym, ap, ◌∙◌, arith}
use Rattle.obj_kinds.specs.declared.name.ClassName.{ClassName}
use Rattle.obj_kinds.specs.declared.node.Node.{Node}
use Rattle.obj_kinds.specs.declared.op.Mode.{Mode}
use Rattle.obj_kinds.specs.declared.op.Op.{Op}
use Rattle.obj_kinds.specs.declared.op.Reply.{Reply}
use Rattle.obj_kinds.specs.declared.op.Reply.TheVariants as reply
use Rattle.os_kinds.specs.declared.call.Call.{Call as Need}
use Rattle.os_kinds.specs.declared.call.Call.TheVariants as call
use Rattle.os_kinds.specs.declared.call.Answer.{Answer}
use Rattle.os_kinds.specs.declared.call.Answer.TheVariants as answer
use Rattle.os_kinds.specs.declared.call.ScriptEnd.{ScriptEnd}
use Rattle.os_kinds.specs.declared.call.ScriptEnd.TheVariants as end
use Rattle.os_meaning.specs.Frames.{Frame, Ends, Prints as Printing, Holds, Loses, Points, Spends, Asks, within}
use Rattle.store_calls.specs.Calls.{Call, Give, Ask, Tell, Cut, Plain, Prints}
use Rattle.host_meaning.specs.declared.ending.Ending.{Ending}
use Rattle.host_meaning.specs.declared.ending.Ending.TheVariants as ending
use Rattle.host_meaning.specs.Methods.{Program}
use Rattle.host_meaning.specs.Objects.{Known, Objects, ObjectCall}
use Rattle.host_meaning.specs.Process.{Begun, Meant, Method, Wrong, BuiltIn, on_grant, level_after, with_test, asks, calls, waits, tries, locks, unlocks, points, RunsMethod, meant, needs, runs, answers, method, whole, begins}
use Rattle.frame_stack.specs.Left.{between}

-- two things in turn for one reply
granted : {A : Type 0} (r : Reply) (a b c d : A) → a ≡ c → b ≡ d → on_grant r a b ≡ on_grant r c d
granted r a b c d e f i = on_grant r (e i) (f i)

module _ {M : Type 0} (objects : Objects M) (program : Program) (fuel : ℕ) where
  abbrev Follows : Type 0 → Type 0
  Follows A = A → ℕ → Known M → Call Ending

  -- what follows is the same with at most so many units
  abbrev pub SameTo : {A : Type 0} → ℕ → Follows A → Follows A → Type 0
  SameTo {A} units f g = (a : A) (n : ℕ) (s : Known M) → n ≤ units → f a n s ≡ g a n s

  abbrev RestSame : ℕ → (ℕ → Known M → Call Ending) → (ℕ → Known M → Call Ending) → Type 0
  RestSame units f g = (n : ℕ) (s : Known M) → n ≤ units → f n s ≡ g n s

  asks_same : (op : Op) (units : ℕ) (s : Known M) (f g : Follows Reply) → SameTo units f g → asks objects program fuel op units s f ≡ asks objects program fuel op units s g
  asks_same op zero s f g h = refl
  asks_same op (suc units) s f g h = λ i. Ask op Plain (λ r. h r units (record { memory = s.memory; level = level_after op r s.level; test = s.test; last_error = s.last_error }) (omega arith) i)

  calls_same : (c : Call (Known M × Answer)) (units : ℕ) (f g : Follows Answer) → SameTo units f g → calls objects program fuel c units f ≡ calls objects program fuel c units g
  calls_same (Give a) units f g h = h a.1 units a.0 (omega arith)
  calls_same (Tell x c) units f g h = ap (Tell x) (calls_same c units f g h)
  calls_same Cut units f g h = refl
  calls_same (Ask op tag k) zero f g h = refl
  calls_same (Ask op tag k) (suc units) f g h = λ i. Ask op tag (λ r. calls_same (k r) units f g (λ a n s le. h a n s (omega (arith, le))) i)

  waits_same : (op : Op) (units : ℕ) (s : Known M) (f g : Follows Answer) → SameTo units f g → waits objects program fuel op units s f ≡ waits objects program fuel op units s g
  waits_same op zero s f g h = refl
  waits_same op (suc units) s f g h =
      λ i. Ask op Plain (λ r. granted r _ _ _ _ (h answer.Done units s (omega arith)) (waits_same op units s f g (λ a n s le. h a n s (omega (arith, le)))) i)

  tries_same : (op : Op) (times units : ℕ) (s : Known M) (f g : Follows Answer) → SameTo units f g → tries objects program fuel op times units s f ≡ tries objects program fuel op times units s g
  tries_same op zero units s f g h = h _ units _ (omega arith)
  tries_same op (suc times) units s f g h =
      asks_same op units s _ _ (λ r n t le. granted r _ _ _ _ (h answer.Done n (with_test objects program fuel true t) le) (tries_same op times n t f g (λ a m t lt. h a m t (omega (arith, le, lt)))))

  locks_same : (n : Node) (mode : Mode) (times : Option ℕ) (units : ℕ) (s : Known M) (f g : Follows Answer) → SameTo units f g → locks objects program fuel n mode times units s f ≡ locks objects program fuel n mode times units s g
  locks_same n mode None units s f g h = waits_same _ units s f g h
  locks_same n mode (Some times) units s f g h = tries_same _ times units s f g h

  pub unlocks_same : (list : List Op) (units : ℕ) (s : Known M) (f g : ℕ → Known M → Call Ending) → RestSame units f g → unlocks objects program fuel list units s f ≡ unlocks objects program fuel list units s g
  unlocks_same [] units s f g h = h units s (omega arith)
  unlocks_same (op ∷ more) units s f g h = asks_same op units s _ _ (λ r n t le. unlocks_same more n t f g (λ m t lt. h m t (omega (arith, le, lt))))

  -- how methods are run, which follows this too
  abbrev pub RunsSame : RunsMethod objects program fuel → Type 0
  RunsSame run = (b : Begun) (units : ℕ) (s : Known M) (f g : Follows Answer) → SameTo units f g → run b units s f ≡ run b units s g

  module _ (run : RunsMethod objects program fuel) (runs_so : RunsSame run) where
    meant_same : (m : Meant) (built_in : ObjectCall M) (units : ℕ) (s : Known M) (f g : Follows Answer) → SameTo units f g → meant objects program fuel run m built_in units s f ≡ meant objects program fuel run m built_in units s g
    meant_same (Method b) built_in units s f g h = runs_so b units s f g h
    meant_same (Wrong e) built_in units s f g h = h _ units s (omega arith)
    meant_same BuiltIn built_in units s f g h = calls_same _ units f g h

    -- a call knows of its frame only the classes
    pub needs_same : (b : Begun) (c : Need) (units : ℕ) (s : Known M) (f g : Follows Answer) → SameTo units f g → needs objects program fuel run b c units s f ≡ needs objects program fuel run (between b.declarer b.called_on) c units s g
    needs_same b (call.Store op) units s f g h = asks_same op units s _ _ (λ r n t le. h _ n t le)
    needs_same b (call.TryLock n mode times) units s f g h = locks_same n mode times units s f g h
    needs_same b (call.Special x) units s f g h = h _ units s (omega arith)
    needs_same b (call.OnClass class name args) units s f g h = meant_same _ _ units s f g h
    needs_same b (call.OnOwn name args) units s f g h = meant_same _ _ units s f g h
    needs_same b (call.OnObject number name args) units s f g h = meant_same _ _ units s f g h
    needs_same b (call.OnItems number property name args) units s f g h = calls_same _ units f g h
    needs_same b (call.Read number property) units s f g h = calls_same _ units f g h
    needs_same b (call.Write number property v) units s f g h = calls_same _ units f g h

    pub runs_same : (b : Begun) (x : Frame) (units : ℕ) (s : Known M) (f g : Follows ScriptEnd) → SameTo units f g → runs objects program fuel run b x units s f ≡ runs objects program fuel run (between b.declarer b.called_on) x units s g
    runs_same b (Ends e) units s f g h = h e units s (omega arith)
    runs_same b (Printing t x) units s f g h = ap (Tell (Prints t)) (runs_same b x units s f g h)
    runs_same b (Holds number x) units s f g h = runs_same b x units _ f g h
    runs_same b (Loses number x) units s f g h = runs_same b x units _ f g h
    runs_same b (Points x) units s f g h = unlocks_same _ units _ _ _ (λ n t le. runs_same b x n t f g (λ e m u lt. h e m u (omega (arith, le, lt))))
    runs_same b (Spends x) zero s f g h = refl
    runs_same b (Spends x) (suc units) s f g h = runs_same b x units s f g (λ e n t le. h e n t (omega (arith, le)))
    runs_same b (Asks c k) units s f g h = needs_same b c units s _ _ (λ a n t le. runs_same b (k a) n t f g (λ e m u lt. h e m u (omega (arith, le, lt))))

    -- out of fuel in a frame is out of fuel in the process
    abbrev pub Dries : Follows ScriptEnd → Type 0
    Dries f = (n : ℕ) (s : Known M) → f end.Fuel n s ≡ Give ending.Fuel

    -- cutting the frame where the units end changes nothing
    pub runs_within : (d o : Option ClassName) (x : Frame) (most units : ℕ) → units ≤ most → (s : Known M) (f : Follows ScriptEnd) → Dries f
        → runs objects program fuel run (between d o) (within x most) units s f ≡ runs objects program fuel run (between d o) x units s f
    runs_within d o (Ends e) most units le s f dry = refl
    runs_within d o (Printing t x) most units le s f dry = ap (Tell (Prints t)) (runs_within d o x most units le s f dry)
    runs_within d o (Holds number x) most units le s f dry = runs_within d o x most units le _ f dry
    runs_within d o (Loses number x) most units le s f dry = runs_within d o x most units le _ f dry
    runs_within d o (Points x) most units le s f dry = unlocks_same _ units _ _ _ (λ n t lt. runs_within d o x most n (omega (arith, le, lt)) t f dry)
    runs_within d o (Spends x) zero zero le s f dry = dry zero s
    runs_within d o (Spends x) zero (suc units) le s f dry = absurd (omega (arith, le))
    runs_within d o (Spends x) (suc most) zero le s f dry = refl
    runs_within d o (Spends x) (suc most) (suc units) le s f dry = runs_within d o x most units (omega (arith, le)) s f dry
    runs_within d o (Asks c k) most units le s f dry = needs_same (between d o) c units s _ _ (λ a n t lt. runs_within d o (k a) most n (omega (arith, le, lt)) t f dry)

  answers_same : (class : Option ClassName) (e : ScriptEnd) (units : ℕ) (s : Known M) (f g : Follows Answer) → SameTo units f g → answers objects program fuel class e units s f ≡ answers objects program fuel class e units s g
  answers_same class (end.Done v) units s f g h = h _ units s (omega arith)
  answers_same class end.Halt units s f g h = refl
  answers_same class (end.Error name line) units s f g h = refl
  answers_same class end.Fuel units s f g h = refl

  -- a frame begun, and the same where a call knows of it only the classes
  bare_same : (run : RunsMethod objects program fuel) (runs_so : RunsSame run) (b : Begun) (x : Frame) (units : ℕ) (s : Known M) (f g : Follows ScriptEnd) → SameTo units f g → runs objects program fuel run b x units s f ≡ runs objects program fuel run b x units s g
  bare_same run runs_so b x units s f g h = runs_same run runs_so b x units s f g h ∙ sym (runs_same run runs_so b x units s g g (λ e n t le. refl))

  pub method_same : (frames : ℕ) → RunsSame (method objects program fuel frames)
  method_same zero b units s f g h = h _ units s (omega arith)
  method_same (suc frames) b units s f g h =
      bare_same (method objects program fuel frames) (method_same frames) b (whole objects program fuel b) units _ _ _ (λ e n t le. answers_same b.declarer e n t f g (λ a m u lt. h a m u (omega (arith, le, lt))))
