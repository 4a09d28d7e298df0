-- Objects whose calls ask only what may come, up to a mark of a low level, and keep what is asked of their memory: by itself, and by the state of the run.
use Rattle.std.specs.Prelude.{◌≡◌, ◌≢◌, ℕ, Bool, true, List}
use Rattle.obj_kinds.specs.declared.name.ClassName.{ClassName}
use Rattle.obj_kinds.specs.declared.op.Pid.{Pid}
use Rattle.obj_kinds.specs.declared.op.Op.{Op}
use Rattle.obj_kinds.specs.declared.op.Op.TheVariants.{End}
use Rattle.schema_kinds.specs.declared.class.Class.{Class}
use Rattle.os_kinds.specs.declared.call.Answer.{Answer}
use Rattle.os_kinds.specs.declared.val.Val.{Val}
use Rattle.os_meaning.specs.Syntax.{Name}
use Rattle.store_core.specs.Machine.{is_live}
use Rattle.store_calls.specs.Calls.{Plain}
use Rattle.host_meaning.specs.Objects.{Known, Objects, ObjectCall}
use Rattle.object_runs.specs.Runs.{Both}
use Rattle.run_rules.specs.Steps.{WritesNone, IsFit, Event, next, step_by}
use Rattle.sound_runs.specs.Closing.{IsSafeChange}
use Rattle.good_calls.specs.Laws.{ShowsLoads, IsAtRest}
use Rattle.kept_runs.specs.Kept.{MeetsKept}

module _ {M : Type 0} (classes : List Class) (p : Pid) (IsMemory : M → Both → Type 0) where
  -- behind a call the process is within no save or delete, and its memory is as asked
  abbrev pub RestsWith : Known M × Answer → Both → Type 0
  RestsWith x b = IsMemory x.0.memory b × IsAtRest classes p b

  abbrev pub IsGoodCall : ObjectCall M → Type 0
  IsGoodCall call =
      (s : Known M) (low : Bool) (b : Both) → IsMemory s.memory b → IsAtRest classes p b → MeetsKept classes (IsSafeChange classes) ShowsLoads p (call s) low RestsWith b

  pub record AreGoodObjects (objects : Objects M) : Type 0 where
    pub empty : (b : Both) → IsAtRest classes p b → IsMemory objects.empty b
    pub more : (n : ℕ) (m : M) (b : Both) → IsMemory m b → IsMemory (objects.more n m) b
    pub less : (n : ℕ) (m : M) (b : Both) → IsMemory m b → IsMemory (objects.less n m) b
    pub given : (m : M) (b : Both) → IsMemory m b → IsMemory (objects.given m) b
    -- what others ask, and plain operations of its script, leave memory as it is asked to be
    pub others : (m : M) (b : Both) (e : Event) → e.pid.0 ≢ p.0 → IsAtRest classes p b → IsFit classes (IsSafeChange classes) b e.pid e.op e.tag → IsMemory m b → IsMemory m (step_by b e)
    pub plain : (m : M) (b : Both) (op : Op) → IsAtRest classes p b → is_live b.store p ≡ true → WritesNone classes op → op ≢ End → IsMemory m b → IsMemory m (next b p op Plain)
    pub on_class : (class : ClassName) (name : Name) (args : List Val) → IsGoodCall (objects.on_class class name args)
    pub on_object : (n : ℕ) (name : Name) (args : List Val) → IsGoodCall (objects.on_object n name args)
    pub on_items : (n : ℕ) (property name : Name) (args : List Val) → IsGoodCall (objects.on_items n property name args)
    pub read : (n : ℕ) (property : Name) → IsGoodCall (objects.read n property)
    pub write : (n : ℕ) (property : Name) (v : Val) → IsGoodCall (objects.write n property v)
