-- What a set does, and the rules of sets (prop_setting), which say what is taken, what stands then, and which error a refusal is.
use Rattle.std.specs.Prelude.{◌≡◌, ◌↔◌, ℕ, true, IsTrue, List, Some, slice_get}
use Rattle.obj_kinds.specs.declared.value.Value.{Value}
use Rattle.obj_kinds.specs.declared.value.Value.TheOpen.{Value-F}
use Rattle.obj_kinds.specs.declared.value.Value.TheViews.{out-Value}
use Rattle.obj_kinds.specs.declared.error_name.ErrorName.{ErrorName}
use Rattle.obj_kinds.specs.Limits.{is_legal_text}
use Rattle.schema_kinds.specs.declared.class.Class.{Class}
use Rattle.schema_kinds.specs.declared.prop.Prop.{Prop}
use Rattle.schema_kinds.specs.declared.kind.Kind.{Kind}
use Rattle.schema_kinds.specs.declared.kind.Kind.TheVariants as kind
use Rattle.schema_kinds.specs.declared.kind.Item.{Item}
use Rattle.schema_kinds.specs.declared.kind.Item.TheVariants as of
use Rattle.os_kinds.specs.declared.val.Val.{Val}
use Rattle.os_kinds.specs.declared.call.Answer.TheVariants as answer
use Rattle.os_meaning.specs.Syntax.{Name}
use Rattle.oref_table.specs.declared.fill.Fill.{Fill}
use Rattle.oref_table.specs.declared.fill.Fill.TheVariants as fill
use Rattle.oref_table.specs.Memory.{Object, Memory, object_of}
use Rattle.obj_props.specs.Properties.{prop_place}
use Rattle.prop_setting.specs.Elements.{Takes, oref_text}
use Rattle.prop_setting.specs.Sets.{PropSets, PropRefuses}
use Rattle.store_calls.specs.Calls.{Give}
use Rattle.host_meaning.specs.Objects.{Known}
use Rattle.object_members.specs.Seeing.{props_at}
use Rattle.object_members.specs.Ends.{with_memory}
use Rattle.object_members.specs.Standing.{fill_with, held_for, takes}
use Rattle.object_members.specs.Writes.{write_prop}

-- a text within the limits, also where an OREF is taken as one
abbrev pub IsLegalIfText : Value-F Value → Type 0
IsLegalIfText (Value-F.Str text) = IsTrue (is_legal_text text)
IsLegalIfText (Value-F.List vs) = Unit {0}

abbrev pub IsLegalFill : Memory → Fill → Type 0
IsLegalFill m (fill.Plain v) = IsLegalIfText (out-Value v)
IsLegalFill m (fill.To h) = IsTrue (is_legal_text (oref_text m h.number))
IsLegalFill m _ = Unit {0}

-- where it is taken as a value
abbrev pub IsLegalAs : Memory → Item → Fill → Type 0
IsLegalAs m (of.Ref c) w = Unit {0}
IsLegalAs m (of.Serial c) w = Unit {0}
IsLegalAs m _ w = IsLegalFill m w

-- what is taken is what the rules say, within the limits
abbrev pub TakesByTheRules : Type 0
TakesByTheRules = (classes : List Class) (m : Memory) (i : Item) (w : Fill) → (takes classes m i w ≡ true) ↔ (Takes classes m i w × IsLegalAs m i w)

abbrev pub IsNoOneSide : Kind → Type 0
IsNoOneSide (kind.One class side) = ⊥
IsNoOneSide _ = Unit {0}

-- no property of that name of the object is a one side
abbrev pub NamesNoOneSide : List Class → Memory → ℕ → Name → Type 0
NamesNoOneSide classes m n name =
    (o : Object) (at : ℕ) (p : Prop) → object_of n m.objects ≡ Some o → prop_place name (props_at classes o.class) ≡ Some at → slice_get (props_at classes o.class) at ≡ Some p → IsNoOneSide p.kind

-- a set within the limits of a property that is no one side leaves the memory that the rules say
abbrev pub SetsByTheRules : Type 0
SetsByTheRules =
    (classes : List Class) (s : Known Memory) (n : ℕ) (name : Name) (v : Val) (new : Memory) → NamesNoOneSide classes s.memory n name → IsLegalFill (held_for v s.memory) (fill_with v) → PropSets classes (held_for v s.memory) n name (fill_with v) new
    → write_prop classes n name v s ≡ Give (with_memory new s, answer.Done)

-- a set that they refuse is refused with their error
abbrev pub RefusesByTheRules : Type 0
RefusesByTheRules =
    (classes : List Class) (s : Known Memory) (n : ℕ) (name : Name) (v : Val) (e : ErrorName) → PropRefuses classes (held_for v s.memory) n name (fill_with v) e
    → write_prop classes n name v s ≡ Give (s, answer.Error e)
