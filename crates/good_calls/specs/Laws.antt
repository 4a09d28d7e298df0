-- Loads, raises and walks over members are good: whatever the other processes do meanwhile, each operation may come, and a load shows the view.
use Rattle.std.specs.Prelude.{◌≡◌, ℕ, ◌≤◌, false, nat_lt, List, Option, None}
use Rattle.obj_kinds.specs.declared.name.ClassName.{ClassName}
use Rattle.obj_kinds.specs.declared.op.Pid.{Pid}
use Rattle.schema_kinds.specs.declared.class.Class.{Class}
use Rattle.schema_kinds.specs.declared.key.Key.{Key}
use Rattle.storage_map.specs.Worlds.{IsKeyOf}
use Rattle.store_calls.specs.Calls.{Call, Loaded}
use Rattle.object_calls.specs.Keys.{ManySide}
use Rattle.object_calls.specs.Loads.{LoadCall, load, raise}
use Rattle.object_calls.specs.Members.{next_member}
use Rattle.object_runs.specs.ObjectMachine.{desk_at}
use Rattle.object_runs.specs.Causes.{IsAt, Shows, IsTrueTold}
use Rattle.object_runs.specs.Runs.{Both}
use Rattle.run_rules.specs.Good.{Truth, Meets}
use Rattle.sound_runs.specs.Closing.{IsSafeChange}
use Rattle.sound_runs.specs.Pairs.{ArePaired}
use Rattle.steady_runs.specs.Steady.{IsSteady}
use Rattle.call_rules.specs.Schemas.{IsStorableSchema}

-- each load that is told shows the view at its first Get
abbrev pub ShowsLoads : Truth
ShowsLoads os (Loaded back key r) = IsAt os back (Shows key r)
ShowsLoads os _ = Unit {0}

-- the process is within no save or delete
pub record IsAtRest (classes : List Class) (p : Pid) (b : Both) : Type 0 where
  pub steady : IsSteady classes b
  pub idle : (desk_at b.objects p.0).within ≡ None

-- a schema whose objects can be stored, and whose one sides have their other sides
pub record IsSoundSchema (classes : List Class) : Type 0 where
  pub storable : IsStorableSchema classes
  pub paired : ArePaired classes

-- from rest the call comes to rest again
abbrev pub RestsAgain : {A : Type 0} → List Class → Pid → Call A → Type 0
RestsAgain {A} classes p c = (b : Both) → IsAtRest classes p b → Meets classes (IsSafeChange classes) ShowsLoads p c (λ (a : A) b. IsAtRest classes p b) b

abbrev pub LoadsAreGood : Type 0
LoadsAreGood =
    (classes : List Class) (tries most : ℕ) (p : Pid) (l : LoadCall) → IsSoundSchema classes → IsKeyOf classes l.key → nat_lt l.level 2 ≡ false → RestsAgain classes p (load classes tries most l)

abbrev pub RaisesAreGood : Type 0
RaisesAreGood = (classes : List Class) (tries : ℕ) (p : Pid) (key : Key) (class : ClassName) (u v : ℕ) → IsSoundSchema classes → RestsAgain classes p (raise tries key class u v)

abbrev pub MembersAreGood : Type 0
MembersAreGood =
    (classes : List Class) (tries : ℕ) (p : Pid) (side : ManySide) (holder : List ℕ) (level : ℕ) (behind : Option (List ℕ)) → IsSoundSchema classes
    → RestsAgain classes p (next_member classes tries side holder level behind)

-- ---- all that they tell is true, where a lock is tried at all: a load shows the view, and each failure has a true cause

abbrev pub RestsTrue : {A : Type 0} → List Class → ℕ → Pid → Call A → Type 0
RestsTrue {A} classes tries p c = (b : Both) → IsAtRest classes p b → Meets classes (IsSafeChange classes) (IsTrueTold classes tries) p c (λ (a : A) b. IsAtRest classes p b) b

abbrev pub LoadsTellTrue : Type 0
LoadsTellTrue =
    (classes : List Class) (tries most : ℕ) (p : Pid) (l : LoadCall) → 1 ≤ tries → IsSoundSchema classes → IsKeyOf classes l.key → nat_lt l.level 2 ≡ false → RestsTrue classes tries p (load classes tries most l)

abbrev pub RaisesTellTrue : Type 0
RaisesTellTrue =
    (classes : List Class) (tries : ℕ) (p : Pid) (key : Key) (class : ClassName) (u v : ℕ) → 1 ≤ tries → IsSoundSchema classes → RestsTrue classes tries p (raise tries key class u v)

abbrev pub MembersTellTrue : Type 0
MembersTellTrue =
    (classes : List Class) (tries : ℕ) (p : Pid) (side : ManySide) (holder : List ℕ) (level : ℕ) (behind : Option (List ℕ)) → 1 ≤ tries → IsSoundSchema classes
    → RestsTrue classes tries p (next_member classes tries side holder level behind)
