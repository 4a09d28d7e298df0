-- New objects, loaded ones and saved ones keep the memory of a process.
use Rattle.std.specs.Prelude.{◌≡◌, ◌≤◌, ℕ, ◌+◌, IsTrue, List, [], ◌∷◌, None, Some}
use Rattle.std.specs.Map.{lookup}
use Rattle.std.specs.BTreeMap.{is_at}
use Rattle.std.specs.Ordering.{nat_cmp}
use Rattle.std.specs.List.{flat_map}
use Rattle.obj_kinds.specs.declared.name.ClassName.{ClassName}
use Rattle.obj_kinds.specs.declared.id.Id.{Id}
use Rattle.obj_kinds.specs.Limits.{is_legal_text}
use Rattle.schema_kinds.specs.declared.class.Class.{Class}
use Rattle.schema_kinds.specs.declared.record.Record.{Record}
use Rattle.schema_kinds.specs.Classes.{class_of, props_of, extent_of}
use Rattle.record_layout.specs.Inverse.{EachGood, AreGood}
use Rattle.record_layout.specs.Shapes.{IsIdOf}
use Rattle.oref_table.specs.Memory.{Object, Memory, object_of, fresh, with_object}
use Rattle.oref_table.specs.Sound.{HasKey, IsFree}
use Rattle.obj_shape.specs.Elements.{IsTargetOf}
use Rattle.obj_shape.specs.Slots.{initial_slots, slots_of}
use Rattle.obj_shape.specs.Fitting.{IsSlotOf}
use Rattle.object_calls.specs.Loads.{LoadCall}
use Rattle.object_calls.specs.Saves.{Drawn}
use Rattle.object_members.specs.Parts.{with_parts}
use Rattle.object_members.specs.Seeing.{memories, saved_object}
use Rattle.memory_laws.specs.Kept.{IsGood, Keeps}

-- the initial values of the class are within the limits
abbrev pub HasLegalInitials : List Class → ClassName → Type 0
HasLegalInitials classes class = EachGood (λ p. IsTrue (is_legal_text p.initial)) (props_of (class_of classes class))

-- a new object of a class, as `%New` makes it, which the caller holds
abbrev pub NewObjectsKeep : Type 0
NewObjectsKeep =
    (classes : List Class) (m : Memory) (class : ClassName) (c : Class) → IsGood classes m → class_of classes class ≡ Some c → HasLegalInitials classes class
    → Keeps classes m (with_object m (fresh m class (extent_of classes class) None 2 (initial_slots (props_of (class_of classes class))))) ((m.last + 1) ∷ []) []

-- the record may be an object under the key of the load
pub record IsLoadable (classes : List Class) (m : Memory) (l : LoadCall) (r : Record) : Type 0 where
  pub class : Class
  pub there : class_of classes r.class ≡ Some class
  pub extent : extent_of classes r.class ≡ Some l.key.extent
  pub id : IsIdOf classes r.class l.key.id
  pub level : l.level ≤ 4
  -- what stands in its slots fits
  pub slots : AreGood (IsSlotOf classes m) (props_of (class_of classes r.class)) (slots_of (props_of (class_of classes r.class)) r.fields)
  -- no live object has the key
  pub free : IsFree l.key.extent l.key.id m.objects

-- a loaded object, which the caller holds
abbrev pub LoadedObjectsKeep : Type 0
LoadedObjectsKeep =
    (classes : List Class) (m : Memory) (l : LoadCall) (r : Record) → IsGood classes m → IsLoadable classes m l r
    → Keeps classes m ((memories classes).with_loaded l r m).0 (((memories classes).with_loaded l r m).1 ∷ []) []

abbrev pub saved_as : List Class → Memory → Drawn → List ℕ → Object → Object
saved_as classes m drawn numbers o = saved_object classes drawn (flat_map (with_parts classes m) numbers) o

-- the drawn ids are such of the objects' extents, and no two objects have one of them or another's
pub record AreDrawn (classes : List Class) (m : Memory) (drawn : Drawn) (numbers : List ℕ) : Type 0 where
  pub ids : (o : Object) (id : Id) → object_of o.number m.objects ≡ Some o → lookup (is_at (nat_cmp o.number)) drawn ≡ Some id → IsTargetOf classes o.class (Some id)
  pub apart : (o q : Object) (extent : ClassName) (id : Id) → object_of o.number m.objects ≡ Some o → object_of q.number m.objects ≡ Some q
      → HasKey extent id (saved_as classes m drawn numbers o) → HasKey extent id (saved_as classes m drawn numbers q) → o.number ≡ q.number

-- objects were saved
abbrev pub SavedObjectsKeep : Type 0
SavedObjectsKeep =
    (classes : List Class) (m : Memory) (drawn : Drawn) (numbers : List ℕ) → IsGood classes m → AreDrawn classes m drawn numbers
    → Keeps classes m ((memories classes).with_saved drawn numbers m) [] []
