-- `Insert` of a many side asks nothing: an object becomes a member as if its one side were set to the holder.
use Rattle.std.proofs.Common.{◌≡◌, ◌<◌, ℕ, zero, suc, nat_lt, cond, Bool, true, false, List, [], ◌∷◌, length, Option, None, Some, slice_get, refl, ap, sym, subst, ◌∙◌, arith}
use Rattle.std.proofs.lemmas.Bool.{ltb-true}
use Rattle.std.specs.List.{position_or_len}
use Rattle.obj_kinds.specs.declared.name.ClassName.{ClassName}
use Rattle.obj_kinds.specs.declared.error_name.ErrorName.TheVariants as error
use Rattle.obj_kinds.specs.Texts.{same_text}
use Rattle.schema_kinds.specs.declared.class.Class.{Class}
use Rattle.schema_kinds.specs.declared.prop.Prop.{Prop}
use Rattle.schema_kinds.specs.declared.kind.Kind.{Kind}
use Rattle.schema_kinds.specs.declared.kind.Kind.TheVariants as kind
use Rattle.schema_kinds.specs.Classes.{IsBelow}
use Rattle.os_kinds.specs.declared.val.Val.{Val}
use Rattle.os_kinds.specs.declared.val.Val.TheVariants.{Data, Ref}
use Rattle.os_meaning.specs.Syntax.{Name}
use Rattle.oref_table.specs.declared.slot.Slot.TheViews.{out-Slot}
use Rattle.oref_table.specs.Memory.{Object, Memory, object_of}
use Rattle.obj_shape.specs.Fitting.{IsOfKind, IsSlotOf}
use Rattle.obj_props.specs.Properties.{alone, prop_place}
use Rattle.object_calls.specs.Extents.{is_at_or_below}
use Rattle.object_calls.specs.Keys.{ManySide}
use Rattle.call_laws.proofs.BelowLaws.{below_told}
use Rattle.host_meaning.specs.Objects.{Known}
use Rattle.object_members.specs.Seeing.{props_at}
use Rattle.object_members.specs.Ends.{yes}
use Rattle.object_members.specs.ItemMembers.{Insert}
use Rattle.object_members.specs.ManySides.{inserts, inserts_object, inserts_if, inserts_at, on_members}
use Rattle.object_members.specs.Writes.{one_side_set}
use Rattle.memory_laws.specs.Writes.{HasInverse}
use Rattle.memory_laws.proofs.SidesKept.{alone-fits, one_sides_keep}
use Rattle.memory_laws.proofs.WritesKept.{numbered}
use Rattle.known_objects.specs.Classed.{Classed}
use Rattle.known_objects.proofs.Changes.{names-none, alone-none}
use Rattle.known_objects.proofs.Sets.{sides_name}
use Rattle.quiet_members.specs.Quiet.{IsFine, EndsFine, NamesHolder, IsSchemaOfMembers}
use Rattle.quiet_members.specs.Laws.{IsManyAt, InsertsAreQuiet}
use Rattle.quiet_members.proofs.Ends.{ends-error, ends-with, ends-arg}

-- what has a place among the properties is one of them
got-below : {A : Type 0} (xs : List A) (k : ℕ) → k < length xs → (x : A) × (slice_get xs k ≡ Some x)
got-below [] k few = absurd (omega (arith, few))
got-below (x ∷ xs) zero few = (x, refl)
got-below (x ∷ xs) (suc k) few = got-below xs k (omega (arith, few))

got-placed : (name : Name) (props : List Prop) (at : ℕ) → prop_place name props ≡ Some at → (p : Prop) × (slice_get props at ≡ Some p)
got-placed name props at e = by (nat_lt first (length props)) refl e
  where
    first : ℕ
    first = position_or_len (λ p. same_text p.name name) props

    by : (b : Bool) → nat_lt first (length props) ≡ b → cond b (Some first) None ≡ Some at → (p : Prop) × (slice_get props at ≡ Some p)
    by true is g = let same : first ≡ at = cc in subst (λ k. (p : Prop) × (slice_get props k ≡ Some p)) same (got-below props first (ltb-true first (length props) is))
    by false is g = absurd (cc)

module _ (classes : List Class) (known : Classed) (tries most : ℕ) (schema : IsSchemaOfMembers classes) (s : Known Memory) (fine : IsFine classes known s.memory) (o : Object) (side : ManySide) (name : Name) (many : IsManyAt classes s.memory o side name) where
  module _ (member : Object) (found : object_of member.number s.memory.objects ≡ Some member) (below : IsBelow classes member.class side.class) where
    -- the one side of the member has the holder
    set-side : (at : ℕ) → prop_place side.side (props_at classes member.class) ≡ Some at → IsFine classes known (one_side_set classes s.memory member at name (alone o.number) [])
    set-side at place = by p.kind refl (schema.answers o.class name many.at many.prop side.class side.side many.place many.there many.kind member.class below at p place there)
      where
        p : Prop
        p = (got-placed side.side (props_at classes member.class) at place).0

        there : slice_get (props_at classes member.class) at ≡ Some p
        there = (got-placed side.side (props_at classes member.class) at place).1

        one : (e : ClassName) (n : List ℕ) → p.kind ≡ kind.One e n → IsBelow classes o.class e → n ≡ name → IsFine classes known (one_side_set classes s.memory member at name (alone o.number) [])
        one e n is holder same =
            let kind_is : p.kind ≡ kind.One e name = is ∙ ap (kind.One e) same in
            let inverse : HasInverse classes member.class (kind.One e name) = subst (HasInverse classes member.class) kind_is (schema.settable member side.side at p place there) in
            let fits : IsSlotOf classes s.memory p (alone o.number) = subst (λ k. IsOfKind classes s.memory k (out-Slot (alone o.number))) (sym kind_is) (alone-fits classes s.memory o.number o many.live (kind.One e name) holder) in
            record {
              good = (one_sides_keep classes s.memory member at p e name (alone o.number) [] fine.good found there kind_is inverse fits).good;
              names = sides_name classes known s.memory member at name (alone o.number) [] fine.names (names-none classes known (alone o.number) (alone-none o.number));
            }

        by : (kd : Kind) → p.kind ≡ kd → NamesHolder classes o.class name kd → IsFine classes known (one_side_set classes s.memory member at name (alone o.number) [])
        by (kind.One e n) is h = one e n is h.0 h.1
        by kind.Text is h = absurd h
        by kind.Whole is h = absurd h
        by kind.Truth is h = absurd h
        by (kind.Ref c) is h = absurd h
        by (kind.Serial c) is h = absurd h
        by (kind.ListOf i) is h = absurd h
        by (kind.ArrayOf i) is h = absurd h
        by (kind.Many c n) is h = absurd h

    ends-at : (x : Option ℕ) → prop_place side.side (props_at classes member.class) ≡ x → EndsFine classes known (inserts_at classes tries most o side name member x s)
    ends-at None e = ends-error classes known s fine error.CannotSetThisProperty
    ends-at (Some at) e = ends-with classes known s fine (one_side_set classes s.memory member at name (alone o.number) []) yes (set-side at e)

  ends-if : (member : Object) → object_of member.number s.memory.objects ≡ Some member → (b : Bool) → is_at_or_below classes member.class side.class ≡ b → EndsFine classes known (inserts_if classes tries most o side name member b s)
  ends-if member found true is = ends-at member found ((below_told classes member.class side.class).0 is) (prop_place side.side (props_at classes member.class)) refl
  ends-if member found false is = ends-error classes known s fine error.CannotSetThisProperty

  ends-object : (n : ℕ) (x : Option Object) → object_of n s.memory.objects ≡ x → EndsFine classes known (inserts_object classes tries most o side name x s)
  ends-object n None e = ends-error classes known s fine error.CannotSetThisProperty
  ends-object n (Some member) e =
      ends-if member (subst (λ k. object_of k s.memory.objects ≡ Some member) (sym (numbered n s.memory.objects member e)) e) (is_at_or_below classes member.class side.class) refl

  ends-inserts : (v : Val) → EndsFine classes known (inserts classes tries most o side name v s)
  ends-inserts (Data d) = ends-error classes known s fine error.CannotSetThisProperty
  ends-inserts (Ref n class) = ends-object n (object_of n s.memory.objects) refl

  ends-insert : (args : List Val) → EndsFine classes known (on_members classes tries most o side name Insert args s)
  unfolding on_members
  ends-insert args = ends-arg classes known s fine args _ ends-inserts

pub inserts_quiet : InsertsAreQuiet
inserts_quiet classes known tries most s o side name args schema fine many = ends-insert classes known tries most schema s fine o side name many args
