-- What a process knows stays known: by what the others ask, by what may come of its own, and so through its calls.
use Rattle.std.specs.Prelude.{◌≡◌, ◌≢◌, true, List}
use Rattle.obj_kinds.specs.declared.name.ClassName.{ClassName}
use Rattle.obj_kinds.specs.declared.op.Pid.{Pid}
use Rattle.obj_kinds.specs.declared.op.Op.{Op}
use Rattle.obj_kinds.specs.declared.op.Op.TheVariants.{End}
use Rattle.schema_kinds.specs.declared.class.Class.{Class}
use Rattle.schema_kinds.specs.declared.key.Key.{Key}
use Rattle.store_core.specs.Machine.{is_live}
use Rattle.store_calls.specs.Calls.{Call, Tag, Plain}
use Rattle.object_runs.specs.Runs.{Both}
use Rattle.run_rules.specs.Steps.{MayCome, WritesNone, IsFit, next, Event, step_by, after_all, AreFit}
use Rattle.run_rules.specs.Good.{Truth, AreOthers, Meets}
use Rattle.sound_runs.specs.Closing.{IsSafeChange}
use Rattle.sound_runs.specs.Pairs.{ArePaired}
use Rattle.good_calls.specs.Laws.{ShowsLoads, RestsAgain, IsAtRest}
use Rattle.known_objects.specs.Classed.{Classed}
use Rattle.known_keys.specs.Knowledge.{IsKnowledge, IsHeldKnown}

-- ---- one key

abbrev pub OthersKeepKnown : Type 0
OthersKeepKnown =
    (classes : List Class) (p : Pid) (key : Key) (class : ClassName) (b : Both) (es : List Event) → ArePaired classes → AreOthers p es → AreFit classes (IsSafeChange classes) b es
    → IsHeldKnown classes p key class b → IsHeldKnown classes p key class (after_all b es)

abbrev pub OwnKeepsKnown : Type 0
OwnKeepsKnown =
    (classes : List Class) (p : Pid) (key : Key) (class : ClassName) (b : Both) (op : Op) (tag : Tag) → ArePaired classes → is_live b.store p ≡ true → MayCome classes (IsSafeChange classes) b.store b.objects p op tag
    → IsHeldKnown classes p key class b → IsHeldKnown classes p key class (next b p op tag)

-- through a call, whatever the others do meanwhile, and whatever it answers
abbrev pub KnownIsKept : Type 1
KnownIsKept =
    (classes : List Class) (truth : Truth) (p : Pid) (key : Key) (class : ClassName) (A : Type 0) (c : Call A) (post : A → Both → Type 0) (b : Both) → ArePaired classes → IsHeldKnown classes p key class b
    → Meets classes (IsSafeChange classes) truth p c post b → Meets classes (IsSafeChange classes) truth p c (λ a b. post a b × IsHeldKnown classes p key class b) b

-- ---- all keys

-- what another process asks
abbrev pub OthersKeepKnowledge : Type 0
OthersKeepKnowledge =
    (classes : List Class) (p : Pid) (known : Classed) (b : Both) (e : Event) → e.pid.0 ≢ p.0 → IsAtRest classes p b → IsFit classes (IsSafeChange classes) b e.pid e.op e.tag
    → IsKnowledge classes p known b → IsKnowledge classes p known (step_by b e)

-- what the script itself asks, where it writes nothing that the schema owns
abbrev pub PlainKeepsKnowledge : Type 0
PlainKeepsKnowledge =
    (classes : List Class) (p : Pid) (known : Classed) (b : Both) (op : Op) → IsAtRest classes p b → is_live b.store p ≡ true → WritesNone classes op → op ≢ End
    → IsKnowledge classes p known b → IsKnowledge classes p known (next b p op Plain)

-- a call that comes to rest again leaves all that was known from rest
abbrev pub CallsKeepKnowledge : Type 1
CallsKeepKnowledge =
    (classes : List Class) (p : Pid) (known : Classed) (A : Type 0) (c : Call A) (b : Both) → ArePaired classes → RestsAgain classes p c → IsAtRest classes p b → IsKnowledge classes p known b
    → Meets classes (IsSafeChange classes) ShowsLoads p c (λ (a : A) b. IsAtRest classes p b × IsKnowledge classes p known b) b
