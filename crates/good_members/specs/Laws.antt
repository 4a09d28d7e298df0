-- What the objects of a process keep of its memory, as good objects (kept_runs) have to.
use Rattle.std.specs.Prelude.{◌≡◌, ◌≢◌, ℕ, true, List}
use Rattle.obj_kinds.specs.declared.name.ClassName.{ClassName}
use Rattle.obj_kinds.specs.declared.op.Pid.{Pid}
use Rattle.obj_kinds.specs.declared.op.Op.{Op}
use Rattle.obj_kinds.specs.declared.op.Op.TheVariants.{End}
use Rattle.schema_kinds.specs.declared.class.Class.{Class}
use Rattle.os_kinds.specs.declared.val.Val.{Val}
use Rattle.os_meaning.specs.Syntax.{Name}
use Rattle.oref_table.specs.Memory.{Memory}
use Rattle.store_core.specs.Machine.{is_live}
use Rattle.store_calls.specs.Calls.{Plain}
use Rattle.host_meaning.specs.Objects.{ObjectCall}
use Rattle.object_runs.specs.Runs.{Both}
use Rattle.run_rules.specs.Steps.{WritesNone, IsFit, Event, next, step_by}
use Rattle.sound_runs.specs.Closing.{IsSafeChange}
use Rattle.good_calls.specs.Laws.{IsAtRest}
use Rattle.kept_runs.specs.GoodObjects.{IsGoodCall}
use Rattle.object_members.specs.ItemMembers.{GetAt, Next, item_member}
use Rattle.object_members.specs.Members.{OpenId, DeleteId, class_member, Save, object_member}
use Rattle.object_members.specs.MemberObjects.{objects_of}
use Rattle.known_objects.specs.Classed.{Classed}
use Rattle.quiet_members.specs.Quiet.{IsQuiet, IsSchemaOfMembers}
use Rattle.good_members.specs.Memories.{IsMemory}

-- ---- places, and what comes between calls

-- the first memory, places more and less, and what was told of released objects
pub record KeepsPlaces (classes : List Class) (tries most : ℕ) (p : Pid) : Type 0 where
  pub empty : (b : Both) → IsAtRest classes p b → IsMemory classes p (objects_of classes tries most).empty b
  pub more : (n : ℕ) (m : Memory) (b : Both) → IsMemory classes p m b → IsMemory classes p ((objects_of classes tries most).more n m) b
  pub less : (n : ℕ) (m : Memory) (b : Both) → IsMemory classes p m b → IsMemory classes p ((objects_of classes tries most).less n m) b
  pub given : (m : Memory) (b : Both) → IsMemory classes p m b → IsMemory classes p ((objects_of classes tries most).given m) b

abbrev pub PlacesKeepMemory : Type 0
PlacesKeepMemory = (classes : List Class) (tries most : ℕ) (p : Pid) → KeepsPlaces classes tries most p

-- what another process asks, and what the script itself asks, where it writes nothing that the schema owns
pub record KeepsBetween (classes : List Class) (p : Pid) : Type 0 where
  pub others : (m : Memory) (b : Both) (e : Event) → e.pid.0 ≢ p.0 → IsAtRest classes p b → IsFit classes (IsSafeChange classes) b e.pid e.op e.tag → IsMemory classes p m b → IsMemory classes p m (step_by b e)
  pub plain : (m : Memory) (b : Both) (op : Op) → IsAtRest classes p b → is_live b.store p ≡ true → WritesNone classes op → op ≢ End → IsMemory classes p m b → IsMemory classes p m (next b p op Plain)

abbrev pub EntriesKeepMemory : Type 0
EntriesKeepMemory = (classes : List Class) (p : Pid) → KeepsBetween classes p

-- ---- calls that ask nothing

abbrev pub QuietCallsAreGood : Type 0
QuietCallsAreGood = (classes : List Class) (p : Pid) (call : ObjectCall Memory) → ((known : Classed) → IsQuiet classes known call) → IsGoodCall classes p (IsMemory classes p) call

-- sets of properties, and the calls by the names of members that ask nothing
pub record AreGoodQuietly (classes : List Class) (tries most : ℕ) (p : Pid) : Type 0 where
  pub write : (n : ℕ) (property : Name) (v : Val) → IsGoodCall classes p (IsMemory classes p) ((objects_of classes tries most).write n property v)
  pub on_class : (class : ClassName) (name : Name) (args : List Val) → class_member name ≢ OpenId → class_member name ≢ DeleteId → IsGoodCall classes p (IsMemory classes p) ((objects_of classes tries most).on_class class name args)
  pub on_object : (n : ℕ) (name : Name) (args : List Val) → object_member name ≢ Save → class_member name ≢ OpenId → class_member name ≢ DeleteId → IsGoodCall classes p (IsMemory classes p) ((objects_of classes tries most).on_object n name args)
  pub on_items : (n : ℕ) (property name : Name) (args : List Val) → item_member name ≢ GetAt → item_member name ≢ Next → IsGoodCall classes p (IsMemory classes p) ((objects_of classes tries most).on_items n property name args)

abbrev pub QuietMembersAreGood : Type 0
QuietMembersAreGood = (classes : List Class) (tries most : ℕ) (p : Pid) → IsSchemaOfMembers classes → AreGoodQuietly classes tries most p
