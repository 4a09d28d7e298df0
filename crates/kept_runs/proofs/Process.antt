-- A process over good objects asks only what may come, up to a mark of a raw write or a low level.
use Rattle.std.proofs.Common.{◌≡◌, ◌≢◌, ℕ, zero, suc, Bool, true, false, ◌||◌, cond, List, [], ◌∷◌, Option, Some, None, refl, sym}
use Rattle.obj_kinds.specs.declared.name.ClassName.{ClassName}
use Rattle.obj_kinds.specs.declared.error_name.ErrorName.TheVariants as error
use Rattle.obj_kinds.specs.declared.op.Pid.{Pid}
use Rattle.obj_kinds.specs.declared.op.Op.{Op}
use Rattle.obj_kinds.specs.declared.op.Reply.{Reply}
use Rattle.obj_kinds.specs.declared.op.Reply.TheVariants as replies
use Rattle.schema_kinds.specs.declared.class.Class.{Class}
use Rattle.os_kinds.specs.declared.val.Val.{Val}
use Rattle.os_kinds.specs.declared.val.Val.TheVariants.{Data, Ref}
use Rattle.os_kinds.specs.declared.call.Call.{Call as Need}
use Rattle.os_kinds.specs.declared.call.Call.TheVariants as call
use Rattle.os_kinds.specs.declared.call.Answer.{Answer}
use Rattle.os_kinds.specs.declared.call.Answer.TheVariants as answer
use Rattle.os_kinds.specs.declared.call.ScriptEnd.{ScriptEnd}
use Rattle.os_kinds.specs.declared.call.ScriptEnd.TheVariants as end
use Rattle.os_meaning.specs.Syntax.{Name, Block}
use Rattle.os_meaning.specs.Frames.{Frame, Ends, Prints as Printing, Holds, Loses, Points, Spends, Asks, Vars}
use Rattle.store_core.specs.Machine.{is_live, reply}
use Rattle.store_calls.specs.Calls.{Call, Give, Ask, Tell, Cut, Plain, Prints}
use Rattle.host_meaning.specs.declared.ending.Ending.{Ending}
use Rattle.host_meaning.specs.declared.ending.Ending.TheVariants as ending
use Rattle.host_meaning.specs.Methods.{Program, method_of, full_name}
use Rattle.host_meaning.specs.Objects.{Known, Objects, ObjectCall}
use Rattle.host_meaning.specs.Process.{Begun, level_after, on_grant, ending_of, Meant, Method, Wrong, BuiltIn, process}
use Rattle.host_meaning.specs.Process as host
use Rattle.object_runs.specs.Runs.{Both}
use Rattle.run_rules.specs.Steps.{MayCome, IsFit, Event, next, step_by, after_all, AreFit}
use Rattle.run_rules.specs.Good.{AreOthers}
use Rattle.sound_runs.specs.Closing.{IsSafeChange}
use Rattle.good_calls.specs.Laws.{ShowsLoads, IsSoundSchema, IsAtRest}
use Rattle.good_calls.proofs.Idle.{idle_all, plain_may, plain_next}
use Rattle.good_calls.proofs.Rested.{steadily, to_idle, to_rest}
use Rattle.kept_runs.specs.Kept.{is_raw_write, is_low_told, MeetsKept}
use Rattle.kept_runs.specs.GoodObjects.{RestsWith, IsGoodCall, AreGoodObjects}
use Rattle.kept_runs.specs.Laws.{ProcessesAreGood}
use Rattle.kept_runs.proofs.Calls.{writes_none}

module _ {M : Type 0} (classes : List Class) (p : Pid) (IsMemory : M → Both → Type 0) (objects : Objects M) (program : Program) (fuel : ℕ) (schema : IsSoundSchema classes) (are : AreGoodObjects classes p IsMemory objects) where
  abbrev State : Type 0
  State = Known M

  abbrev Fine : Call Ending → Bool → Both → Type 0
  Fine c low b = MeetsKept classes (IsSafeChange classes) ShowsLoads p c low (λ e b. Unit {0}) b

  -- what follows is good, whatever is answered
  abbrev Goes : {A : Type 0} → (A → ℕ → State → Call Ending) → Type 0
  Goes {A} go = (a : A) (units : ℕ) (s : State) (low : Bool) (b : Both) → IsMemory s.memory b → IsAtRest classes p b → Fine (go a units s) low b

  abbrev GoesOn : (ℕ → State → Call Ending) → Type 0
  GoesOn go = (units : ℕ) (s : State) (low : Bool) (b : Both) → IsMemory s.memory b → IsAtRest classes p b → Fine (go units s) low b

  -- ---- an operation of the script

  mem_all : (m : M) (b : Both) (es : List Event) → AreOthers p es → AreFit classes (IsSafeChange classes) b es → IsAtRest classes p b → IsMemory m b → IsMemory m (after_all b es)
  mem_all m b [] others fit rest mem = mem
  mem_all m b (e ∷ es) others fit rest mem =
      let t = steadily classes schema ShowsLoads p in
      mem_all m (step_by b e) es others.1 fit.1 (to_rest classes schema p ShowsLoads (step_by b e) (idle_all t b (e ∷ []) (others.0, tt) (fit.0, tt) (to_idle classes schema p ShowsLoads b rest))) (are.others m b e others.0 rest fit.0 mem)

  asked : (op : Op) (m : M) (low : Bool) (k : Reply → Call Ending) (b : Both) → IsMemory m b → IsAtRest classes p b → ((r : Reply) (b : Both) → IsMemory m b → IsAtRest classes p b → Fine (k r) false b) → Fine (Ask op Plain k) low b
  asked op m low k b mem rest more = λ no_low no_raw no_end es others fit live.
      let t = steadily classes schema ShowsLoads p in
      let i = idle_all t b es others fit (to_idle classes schema p ShowsLoads b rest) in
      let free = writes_none classes op no_raw in
      let b' = after_all b es in
      let rest' = to_rest classes schema p ShowsLoads b' i in (
        plain_may t b' op free no_end i,
        more (reply b'.store p op) (next b' p op Plain) (are.plain m b' op rest' live free no_end (mem_all m b es others fit rest mem))
            (to_rest classes schema p ShowsLoads (next b' p op Plain) (plain_next t b' op live free no_end i)),
      )

  asks_fine : (op : Op) (units : ℕ) (s : State) (go : Reply → ℕ → State → Call Ending) (low : Bool) (b : Both) → Goes go → IsMemory s.memory b → IsAtRest classes p b → Fine (host.asks objects program fuel op units s go) low b
  asks_fine op zero s go low b goes mem rest = tt
  asks_fine op (suc units) s go low b goes mem rest = asked op s.memory low _ b mem rest (λ r b' mem' rest'. goes r units (record { memory = s.memory; level = level_after op r s.level; test = s.test; last_error = s.last_error }) false b' mem' rest')

  calls_fine : (c : Call (State × Answer)) (units : ℕ) (go : Answer → ℕ → State → Call Ending) (low : Bool) (b : Both) → MeetsKept classes (IsSafeChange classes) ShowsLoads p c low (RestsWith classes p IsMemory) b → Goes go
      → Fine (host.calls objects program fuel c units go) low b
  calls_fine (Give a) units go low b m goes = goes a.1 units a.0 low b m.0 m.1
  calls_fine (Tell x c) units go low b m goes = (m.0, calls_fine c units go (low || is_low_told x) b m.1 goes)
  calls_fine Cut units go low b m goes = tt
  calls_fine (Ask op tag k) zero go low b m goes = tt
  calls_fine (Ask op tag k) (suc units) go low b m goes = λ no_low no_raw no_end es others fit live. let h = m no_low no_raw no_end es others fit live in (h.0, calls_fine (k _) units go false _ h.1 goes)

  -- ---- locks

  granted : (r : Reply) (c d : Call Ending) (low : Bool) (b : Both) → Fine c low b → Fine d low b → Fine (on_grant r c d) low b
  granted replies.Granted c d low b f g = f
  granted _ c d low b f g = g

  waits_fine : (op : Op) (units : ℕ) (s : State) (go : Answer → ℕ → State → Call Ending) (low : Bool) (b : Both) → Goes go → IsMemory s.memory b → IsAtRest classes p b → Fine (host.waits objects program fuel op units s go) low b
  waits_fine op zero s go low b goes mem rest = tt
  waits_fine op (suc units) s go low b goes mem rest =
      asked op s.memory low _ b mem rest
      (λ r b' mem' rest'. granted r (go answer.Done units s) (host.waits objects program fuel op units s go) false b' (goes answer.Done units s false b' mem' rest') (waits_fine op units s go false b' goes mem' rest'))

  tries_fine : (op : Op) (units times : ℕ) (s : State) (go : Answer → ℕ → State → Call Ending) (low : Bool) (b : Both) → Goes go → IsMemory s.memory b → IsAtRest classes p b → Fine (host.tries objects program fuel op units times s go) low b
  tries_fine op zero units s go low b goes mem rest = goes answer.Done units _ low b mem rest
  tries_fine op (suc times) units s go low b goes mem rest =
      asks_fine op units s _ low b (λ r units' s' low' b' mem' rest'. granted r _ _ low' b' (goes answer.Done units' _ low' b' mem' rest') (tries_fine op times units' s' go low' b' goes mem' rest')) mem rest

  -- ---- the end of a command argument

  unlocks_fine : (ops : List Op) (units : ℕ) (s : State) (go : ℕ → State → Call Ending) (low : Bool) (b : Both) → GoesOn go → IsMemory s.memory b → IsAtRest classes p b → Fine (host.unlocks objects program fuel ops units s go) low b
  unlocks_fine [] units s go low b goes mem rest = goes units s low b mem rest
  unlocks_fine (op ∷ ops) units s go low b goes mem rest = asks_fine op units s _ low b (λ r units' s' low' b' mem' rest'. unlocks_fine ops units' s' go low' b' goes mem' rest') mem rest

  -- ---- places

  placed_fine : (v : Val) (m : M) (b : Both) → IsMemory m b → IsMemory (host.placed objects program fuel v m) b
  placed_fine (Data v) m b mem = mem
  placed_fine (Ref n class) m b mem = are.more n m b mem

  placed_some_fine : (v : Option Val) (m : M) (b : Both) → IsMemory m b → IsMemory (host.placed_some objects program fuel v m) b
  placed_some_fine None m b mem = mem
  placed_some_fine (Some v) m b mem = placed_fine v m b mem

  placed_vars_fine : (vars : Vars) (m : M) (b : Both) → IsMemory m b → IsMemory (host.placed_vars objects program fuel vars m) b
  placed_vars_fine [] m b mem = mem
  placed_vars_fine (x ∷ vars) m b mem = placed_vars_fine vars (host.placed objects program fuel x.value m) b (placed_fine x.value m b mem)

  -- ---- frames

  abbrev RunsGood : (Begun → ℕ → State → (Answer → ℕ → State → Call Ending) → Call Ending) → Type 0
  RunsGood run =
      (b : Begun) (units : ℕ) (s : State) (go : Answer → ℕ → State → Call Ending) (low : Bool) (both : Both) → Goes go → IsMemory s.memory both → IsAtRest classes p both → Fine (run b units s go) low both

  built_in_fine : (on : Option ClassName) (name : Name) (args : List Val) → IsGoodCall classes p IsMemory (host.built_in_own objects program fuel on name args)
  built_in_fine None name args = λ s low b mem rest. (mem, rest)
  built_in_fine (Some class) name args = are.on_class class name args

  module _ (run : Begun → ℕ → State → (Answer → ℕ → State → Call Ending) → Call Ending) (good : RunsGood run) where
    meant_fine : (m : Meant) (built_in : ObjectCall M) (units : ℕ) (s : State) (go : Answer → ℕ → State → Call Ending) (low : Bool) (b : Both) → IsGoodCall classes p IsMemory built_in → Goes go → IsMemory s.memory b → IsAtRest classes p b
        → Fine (host.meant objects program fuel run m built_in units s go) low b
    meant_fine (Method begun) built_in units s go low b is goes mem rest = good begun units s go low b goes mem rest
    meant_fine (Wrong e) built_in units s go low b is goes mem rest = goes (answer.Error e) units s low b mem rest
    meant_fine BuiltIn built_in units s go low b is goes mem rest = calls_fine (built_in s) units go low b (is s low b mem rest) goes

    needs_fine : (begun : Begun) (c : Need) (units : ℕ) (s : State) (go : Answer → ℕ → State → Call Ending) (low : Bool) (b : Both) → Goes go → IsMemory s.memory b → IsAtRest classes p b
        → Fine (host.needs objects program fuel run begun c units s go) low b
    needs_fine begun (call.Store op) units s go low b goes mem rest = asks_fine op units s _ low b (λ r units' s' low' b' mem' rest'. goes (answer.Reply r) units' s' low' b' mem' rest') mem rest
    needs_fine begun (call.TryLock n mode None) units s go low b goes mem rest = waits_fine (host.lock objects program fuel n mode) units s go low b goes mem rest
    needs_fine begun (call.TryLock n mode (Some times)) units s go low b goes mem rest = tries_fine (host.lock objects program fuel n mode) times units s go low b goes mem rest
    needs_fine begun (call.Special x) units s go low b goes mem rest = goes (answer.Got (host.special objects program fuel x s)) units s low b mem rest
    needs_fine begun (call.OnClass class name args) units s go low b goes mem rest =
        meant_fine (host.of_class objects program fuel (full_name begun.declarer class) name args) (objects.on_class (full_name begun.declarer class) name args) units s go low b (are.on_class (full_name begun.declarer class) name args) goes mem rest
    needs_fine begun (call.OnOwn name args) units s go low b goes mem rest =
        meant_fine (host.of_own objects program fuel begun.called_on name args) (host.built_in_own objects program fuel begun.called_on name args) units s go low b (built_in_fine begun.called_on name args) goes mem rest
    needs_fine begun (call.OnObject n name args) units s go low b goes mem rest =
        meant_fine (host.of_object objects program fuel (objects.class s.memory n) n name args) (objects.on_object n name args) units s go low b (are.on_object n name args) goes mem rest
    needs_fine begun (call.OnItems n property name args) units s go low b goes mem rest = calls_fine (objects.on_items n property name args s) units go low b (are.on_items n property name args s low b mem rest) goes
    needs_fine begun (call.Read n property) units s go low b goes mem rest = calls_fine (objects.read n property s) units go low b (are.read n property s low b mem rest) goes
    needs_fine begun (call.Write n property v) units s go low b goes mem rest = calls_fine (objects.write n property v s) units go low b (are.write n property v s low b mem rest) goes

    runs_fine : (begun : Begun) (f : Frame) (units : ℕ) (s : State) (go : ScriptEnd → ℕ → State → Call Ending) (low : Bool) (b : Both) → Goes go → IsMemory s.memory b → IsAtRest classes p b
        → Fine (host.runs objects program fuel run begun f units s go) low b
    runs_fine begun (Ends e) units s go low b goes mem rest = goes e units s low b mem rest
    runs_fine begun (Printing t f) units s go low b goes mem rest = (tt, runs_fine begun f units s go (low || false) b goes mem rest)
    runs_fine begun (Holds n f) units s go low b goes mem rest = runs_fine begun f units _ go low b goes (are.more n s.memory b mem) rest
    runs_fine begun (Loses n f) units s go low b goes mem rest = runs_fine begun f units _ go low b goes (are.less n s.memory b mem) rest
    runs_fine begun (Points f) units s go low b goes mem rest =
        unlocks_fine (objects.waiting s.memory) units _ _ low b (λ units' s' low' b' mem' rest'. runs_fine begun f units' s' go low' b' goes mem' rest') (are.given s.memory b mem) rest
    runs_fine begun (Spends f) zero s go low b goes mem rest = tt
    runs_fine begun (Spends f) (suc units) s go low b goes mem rest = runs_fine begun f units s go low b goes mem rest
    runs_fine begun (Asks c f) units s go low b goes mem rest =
        needs_fine begun c units s _ low b (λ a units' s' low' b' mem' rest'. runs_fine begun (f a) units' s' go low' b' goes mem' rest') mem rest

  answers_fine : (class : Option ClassName) (e : ScriptEnd) (units : ℕ) (s : State) (go : Answer → ℕ → State → Call Ending) (low : Bool) (b : Both) → Goes go → IsMemory s.memory b → IsAtRest classes p b
      → Fine (host.answers objects program fuel class e units s go) low b
  answers_fine class (end.Done v) units s go low b goes mem rest = goes (answer.Got v) units s low b mem rest
  answers_fine class _ units s go low b goes mem rest = tt

  method_fine : (frames : ℕ) → RunsGood (host.method objects program fuel frames)
  method_fine zero begun units s go low b goes mem rest = goes (answer.Error error.FrameStack) units s low b mem rest
  method_fine (suc frames) begun units s go low b goes mem rest =
      runs_fine (host.method objects program fuel frames) (method_fine frames) begun (host.whole objects program fuel begun) units (host.begins objects program fuel begun s) _ low b
      (λ e units' s' low' b' mem' rest'. answers_fine begun.declarer e units' s' go low' b' goes mem' rest')
      (placed_vars_fine begun.vars (host.placed_some objects program fuel begun.this s.memory) b (placed_some_fine begun.this s.memory b mem)) rest

  pub process_fine : (script : Block) (b : Both) → IsAtRest classes p b → Fine (process objects program fuel script) false b
  unfolding process
  process_fine script b rest =
      runs_fine (host.method objects program fuel 63) (method_fine 63) (host.script_begun objects program fuel script) (host.whole objects program fuel (host.script_begun objects program fuel script)) fuel _ _ false b
      (λ e units s low b mem rest. tt) (are.empty b rest) rest

pub processes_are_good : ProcessesAreGood
processes_are_good M classes p IsMemory objects program fuel script b schema are rest = process_fine classes p IsMemory objects program fuel schema are script b rest
