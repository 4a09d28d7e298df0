-- What the memory of a process keeps: it is sound, it fits the schema, and holds outside are counted.
use Rattle.std.specs.Prelude.{◌≡◌, ◌≤◌, ℕ, ◌+◌, ◌-◌, List, [], ◌∷◌, Some, slice_get}
use Rattle.schema_kinds.specs.declared.class.Class.{Class}
use Rattle.schema_kinds.specs.declared.prop.Prop.{Prop}
use Rattle.schema_kinds.specs.Classes.{class_of, props_of}
use Rattle.oref_table.specs.declared.slot.Slot.{Slot}
use Rattle.oref_table.specs.Refs.{times}
use Rattle.oref_table.specs.Memory.{Object, Memory, object_of, outside_of, IsLive}
use Rattle.oref_table.specs.Sound.{IsSound}
use Rattle.obj_shape.specs.Fitting.{IsSlotOf, TableFits}
use Rattle.prop_setting.specs.Elements.{slot_set}
use Rattle.object_members.specs.Seeing.{memories}
use Rattle.object_members.specs.MemberObjects.{objects_of}

-- sound, and fitting the schema
pub record IsGood (classes : List Class) (m : Memory) : Type 0 where
  pub sound : IsSound m
  pub fits : TableFits classes m

-- the memory `w` that follows `m` is good, and each object has as many holds outside as before, so many more and then so many less
pub record Keeps (classes : List Class) (m w : Memory) (more less : List ℕ) : Type 0 where
  pub good : IsGood classes w
  pub holds : (n : ℕ) → outside_of w n ≡ (outside_of m n + times n more) - times n less

-- a process begins with a good memory, which nothing holds
abbrev pub StartsGood : Type 0
StartsGood =
    (classes : List Class) (tries most : ℕ) → IsGood classes (objects_of classes tries most).empty × ((n : ℕ) → outside_of (objects_of classes tries most).empty n ≡ 0)

-- one more place holds an object once more, one less once less; and what is told of released objects is no matter of holds
pub record PlacesAreHolds (classes : List Class) (tries most : ℕ) (m : Memory) : Type 0 where
  pub more : (n : ℕ) → IsLive m n → Keeps classes m ((objects_of classes tries most).more n m) (n ∷ []) []
  pub less : (n : ℕ) → Keeps classes m ((objects_of classes tries most).less n m) [] (n ∷ [])
  pub given : Keeps classes m ((objects_of classes tries most).given m) [] []

abbrev pub PlacesKeep : Type 0
PlacesKeep = (classes : List Class) (tries most : ℕ) (m : Memory) → IsGood classes m → PlacesAreHolds classes tries most m

-- a live object is held by the caller, and an object has another level
pub record CallsHold (classes : List Class) (m : Memory) : Type 0 where
  pub held : (n : ℕ) → IsLive m n → Keeps classes m ((memories classes).held n m) (n ∷ []) []
  pub level : (n level : ℕ) → level ≤ 4 → Keeps classes m ((memories classes).with_level n level m) [] []

abbrev pub CallsKeep : Type 0
CallsKeep = (classes : List Class) (m : Memory) → IsGood classes m → CallsHold classes m

-- what fits the property is put into its slot, and these holds pass into it
abbrev pub SlotSetsKeep : Type 0
SlotSetsKeep =
    (classes : List Class) (m : Memory) (o : Object) (at : ℕ) (p : Prop) (slot : Slot) (passed : List ℕ) → IsGood classes m → object_of o.number m.objects ≡ Some o
    → slice_get (props_of (class_of classes o.class)) at ≡ Some p → IsSlotOf classes m p slot → Keeps classes m (slot_set m o.number at slot passed) [] passed
