-- The members of a list ask nothing: what is put into it fits, and the other items fit as before.
use Rattle.std.proofs.Common.{◌≡◌, ◌≢◌, ℕ, ◌-◌, Bool, true, false, List, [], ◌∷◌, ◌++◌, insert, Some, slice_set, refl, ap, sym, subst, ◌∙◌}
use Rattle.std.specs.List.{remove}
use Rattle.obj_kinds.specs.declared.error_name.ErrorName.TheVariants as error
use Rattle.schema_kinds.specs.declared.class.Class.{Class}
use Rattle.schema_kinds.specs.declared.prop.Prop.{Prop}
use Rattle.schema_kinds.specs.declared.kind.Kind.TheVariants as kind
use Rattle.schema_kinds.specs.declared.kind.Item.{Item}
use Rattle.schema_kinds.specs.Classes.{class_of, props_of}
use Rattle.record_layout.specs.Inverse.{EachGood}
use Rattle.os_kinds.specs.declared.val.Val.{Val}
use Rattle.os_meaning.specs.Values.{number_of}
use Rattle.oref_table.specs.declared.slot.Slot.{Slot}
use Rattle.oref_table.specs.declared.slot.Slot.TheVariants.{Items}
use Rattle.oref_table.specs.declared.slot.Slot.TheOpen.{Slot-F}
use Rattle.oref_table.specs.declared.slot.Slot.TheViews.{out-Slot}
use Rattle.oref_table.specs.Memory.{Object, Memory}
use Rattle.obj_shape.specs.Records.{items_of}
use Rattle.obj_shape.specs.Fitting.{IsElement, IsOfKind, IsSlotOf}
use Rattle.obj_shape.specs.Wholeness.{part_class}
use Rattle.obj_shape.proofs.FitLaws.{fits-at}
use Rattle.prop_setting.specs.Elements.{Standing, slot_set, standing, stood}
use Rattle.prop_setting.proofs.ListLaws.{out-Items, each-set, each-both, each-insert, each-remove}
use Rattle.host_meaning.specs.Objects.{Known}
use Rattle.object_members.specs.Ends.{yes}
use Rattle.object_members.specs.Arguments.{checks, position_of}
use Rattle.object_members.specs.Standing.{fill_with, held_for, takes}
use Rattle.object_members.specs.SetLaws.{IsNoOneSide}
use Rattle.object_members.specs.ItemMembers.{ItemMember, Count, GetAt, SetAt, Insert, InsertAt, RemoveAt, Next, Unknown}
use Rattle.object_members.specs.Lists as lists
use Rattle.object_members.specs.Lists.{is_position, is_new_position, on_list}
use Rattle.memory_laws.specs.Sets.{IsShapeFor}
use Rattle.memory_laws.proofs.Keeping.{slot-keeps}
use Rattle.memory_laws.proofs.SidesKept.{good-get}
use Rattle.known_objects.specs.Classed.{Classed}
use Rattle.known_objects.specs.Laws.{IsPlainItem}
use Rattle.known_objects.proofs.Changes.{NamesNoId, names-none, slots_name}
use Rattle.quiet_members.specs.Quiet.{IsFine, EndsFine, IsSchemaOfMembers}
use Rattle.quiet_members.specs.Laws.{IsListAt, ListsAreQuiet}
use Rattle.quiet_members.proofs.Ends.{ends-answer, ends-error, ends-with, ends-checked, ends-without, ends-arg, ends-args, ends-standing}
use Rattle.quiet_members.proofs.Stood.{each-more, element-more, held-more, stood-fine}

-- a property of the same keeps each item
abbrev KeepsEach : List Slot → (Slot → List Slot) → Type 1
KeepsEach items change = (P : Slot → Type 0) (t : Slot) → EachGood P items → P t → EachGood P (change t)

module _ (classes : List Class) (known : Classed) (tries most : ℕ) (schema : IsSchemaOfMembers classes) (s : Known Memory) (fine : IsFine classes known s.memory) where
  module _ (o : Object) (at : ℕ) (i : Item) (slot : Slot) (list : IsListAt classes s.memory o at i slot) where
    abbrev items : List Slot
    items = items_of (out-Slot slot)

    -- ---- what stands there

    of-slot : (v : Slot-F Slot) → IsOfKind classes s.memory (kind.ListOf i) v → EachGood (λ t. IsElement classes s.memory i (out-Slot t)) (items_of v)
    of-slot (Slot-F.Items slots) h = h
    of-slot (Slot-F.Plain v) h = absurd h
    of-slot (Slot-F.Target id) h = absurd h
    of-slot (Slot-F.To q) h = absurd h
    of-slot (Slot-F.Map pairs) h = absurd h
    of-slot (Slot-F.Members orefs) h = absurd h

    items-fit : EachGood (λ t. IsElement classes s.memory i (out-Slot t)) items
    items-fit =
        let was = good-get (IsSlotOf classes s.memory) (props_of (class_of classes o.class)) o.slots at slot (fits-at classes s.memory o.number o fine.good.fits list.live).slots list.stands in
        let same : was.0 ≡ list.prop = (let both : Some was.0 ≡ Some list.prop = sym was.1 ∙ list.there in cc) in
        of-slot (out-Slot slot) (subst (λ k. IsOfKind classes s.memory k (out-Slot slot)) (ap (λ (x : Prop). x.kind) same ∙ list.kind) was.2)

    none : IsNoOneSide list.prop.kind
    none = subst IsNoOneSide (sym list.kind) tt

    plain-item : IsPlainItem classes i
    plain-item c e = schema.plain o.class c list.prop at list.there (ap part_class list.kind ∙ e)

    -- such items fit as well
    list-fits : (w : Memory) (slots : List Slot) → EachGood (λ t. IsElement classes w i (out-Slot t)) slots → IsSlotOf classes w list.prop (Items slots)
    list-fits w slots h = subst (λ k. IsOfKind classes w k (out-Slot (Items slots))) (sym list.kind) (subst (IsOfKind classes w (kind.ListOf i)) (sym (out-Items slots)) h)

    shape-fits : (v : Val) (change : Slot → List Slot) → KeepsEach items change → IsShapeFor classes (held_for v s.memory) list.prop i (λ t. Items (change t))
    shape-fits v change keeps w t all e =
        list-fits w (change t)
        (keeps (λ x. IsElement classes w i (out-Slot x)) t
        (each-more (λ x. IsElement classes s.memory i (out-Slot x)) (λ x. IsElement classes w i (out-Slot x)) items (λ x h. element-more classes s.memory w i (out-Slot x) (held-more s.memory w v all) h) items-fit) e)

    -- ---- an item is put

    abbrev stand : Val → Standing
    stand v = standing classes (held_for v s.memory) o.level i (fill_with v)

    ends-puts : (v : Val) (b : Bool) (change : Slot → List Slot) → KeepsEach items change → takes classes (held_for v s.memory) i (fill_with v) ≡ true
        → EndsFine classes known (lists.puts classes tries most o at items i b change (stand v) s)
    ends-puts v false change keeps taken = ends-error classes known s fine error.IllegalValue
    ends-puts v true change keeps taken =
        ends-with classes known s fine (stood o.number at (λ t. Items (change t)) (stand v)) yes
        (stood-fine classes known schema s.memory fine v o list.live at list.prop list.there none i plain-item (λ t. Items (change t)) (shape-fits v change keeps) taken)

    ends-set : (v p : Val) → EndsFine classes known (lists.set_at classes tries most o at items i v p s)
    ends-set v p =
        ends-standing classes known s fine tries most o at items i v (λ st. checks (number_of p) (λ z. lists.puts classes tries most o at items i (is_position items (position_of z)) (λ t. slice_set items (position_of z - 1) t) st))
        (λ taken. ends-checked classes known s fine (number_of p) _ (λ z. ends-puts v (is_position items (position_of z)) (λ t. slice_set items (position_of z - 1) t) (λ P t h k. each-set P items (position_of z - 1) t h k) taken))

    ends-before : (v p : Val) → EndsFine classes known (lists.put_before classes tries most o at items i v p s)
    ends-before v p =
        ends-standing classes known s fine tries most o at items i v (λ st. checks (number_of p) (λ z. lists.puts classes tries most o at items i (is_new_position items (position_of z)) (λ t. insert items (position_of z - 1) t) st))
        (λ taken. ends-checked classes known s fine (number_of p) _ (λ z. ends-puts v (is_new_position items (position_of z)) (λ t. insert items (position_of z - 1) t) (λ P t h k. each-insert P items (position_of z - 1) t h k) taken))

    ends-last : (v : Val) → EndsFine classes known (lists.put_last classes tries most o at items i v s)
    ends-last v =
        ends-standing classes known s fine tries most o at items i v (lists.puts classes tries most o at items i true (λ t. items ++ t ∷ [])) (λ taken. ends-puts v true (λ t. items ++ t ∷ []) (λ P t h k. each-both P items (t ∷ []) h (k, tt)) taken)

    -- ---- an item is taken out

    ends-takes : (position : ℕ) (b : Bool) → EndsFine classes known (lists.takes classes tries most o at items i position b s)
    ends-takes position false = ends-error classes known s fine error.IllegalValue
    ends-takes position true =
        let slots : List Slot = remove items (position - 1) in
        ends-with classes known s fine (slot_set s.memory o.number at (Items slots) []) yes (record {
          good = (slot-keeps classes s.memory fine.good o at list.prop (Items slots) [] list.live list.there (list-fits s.memory slots (each-remove (λ t. IsElement classes s.memory i (out-Slot t)) items (position - 1) items-fit))).good;
          names = slots_name classes known s.memory o.number at (Items slots) [] fine.names (names-none classes known (Items slots) (subst NamesNoId (sym (out-Items slots)) tt));
        })

    ends-out : (p : Val) → EndsFine classes known (lists.take_out classes tries most o at items i p s)
    ends-out p = ends-checked classes known s fine (number_of p) _ (λ z. ends-takes (position_of z) (is_position items (position_of z)))

    -- ---- the whole

    ends-list : (member : ItemMember) (args : List Val) → member ≢ GetAt → EndsFine classes known (on_list classes tries most o at items i member args s)
    unfolding on_list
    ends-list Count args no_get = ends-without classes known s fine args _ (ends-answer classes known s fine _)
    ends-list GetAt args no_get = absurd (no_get refl)
    ends-list SetAt args no_get = ends-args classes known s fine args _ ends-set
    ends-list Insert args no_get = ends-arg classes known s fine args _ ends-last
    ends-list InsertAt args no_get = ends-args classes known s fine args _ ends-before
    ends-list RemoveAt args no_get = ends-arg classes known s fine args _ ends-out
    ends-list Next args no_get = ends-error classes known s fine error.MethodDoesNotExist
    ends-list Unknown args no_get = ends-error classes known s fine error.MethodDoesNotExist

pub lists_quiet : ListsAreQuiet
lists_quiet classes known tries most s o at i slot member args schema fine list no_get = ends-list classes known tries most schema s fine o at i slot list member args no_get
