-- Sets by which a memory names no more keys: the copies of parts name none, since the classes of parts have no one sides.
use Rattle.std.proofs.Common.{◌≡◌, ◌≤◌, ℕ, zero, suc, ◌+◌, List, [], ◌∷◌, ◌⊎◌, inl, inr, Option, None, Some, slice_get, refl, ap, sym, subst, ◌∙◌}
use Rattle.std.specs.List.{AllByRecursion}
use Rattle.obj_kinds.specs.declared.name.ClassName.{ClassName}
use Rattle.schema_kinds.specs.declared.class.Class.{Class}
use Rattle.schema_kinds.specs.declared.prop.Prop.{Prop}
use Rattle.schema_kinds.specs.declared.kind.Kind.{Kind}
use Rattle.schema_kinds.specs.declared.kind.Kind.TheVariants as kind
use Rattle.schema_kinds.specs.declared.kind.Item.{Item}
use Rattle.schema_kinds.specs.declared.kind.Item.TheVariants as of
use Rattle.schema_kinds.specs.Classes.{class_of, props_of}
use Rattle.record_layout.specs.Inverse.{EachGood, AreGood}
use Rattle.record_layout.specs.Shapes.{single, form_of}
use Rattle.os_kinds.specs.declared.val.Val.{Val}
use Rattle.os_kinds.specs.declared.val.Val.TheVariants.{Data, Ref}
use Rattle.os_kinds.specs.declared.call.Answer.TheVariants as answer
use Rattle.os_meaning.specs.Syntax.{Name}
use Rattle.oref_table.specs.declared.obj.NewObj.{NewObj}
use Rattle.oref_table.specs.declared.slot.Slot.{Slot}
use Rattle.oref_table.specs.declared.slot.Slot.TheVariants.{Target, To}
use Rattle.oref_table.specs.declared.slot.Slot.TheOpen.{Slot-F}
use Rattle.oref_table.specs.declared.slot.Slot.TheViews.{out-Slot}
use Rattle.oref_table.specs.declared.fill.Fill.{Fill}
use Rattle.oref_table.specs.declared.fill.Fill.TheVariants as fill
use Rattle.oref_table.specs.Memory.{Object, Memory, object_of, edited, tighten}
use Rattle.oref_table.specs.Filling.{slot_from, passed}
use Rattle.obj_shape.specs.Fitting.{IsSlotOf, FitsSchema, TableFits}
use Rattle.obj_shape.specs.Records.{items_of, slots_at}
use Rattle.obj_shape.specs.Wholeness.{IsWhole, item_part, part_class}
use Rattle.obj_shape.proofs.FitLaws.{fits-at}
use Rattle.part_copies.specs.Copies.{Copies, copy_part_at, copy_element, copy_elements, copy_kind, copy_fields, part_of, copied_slots, copy_part, part_object, objects_from, first_held, with_copies}
use Rattle.part_copies.specs.Making.{copy_of}
use Rattle.part_copies.proofs.NewLaws.{found-front}
use Rattle.prop_setting.specs.Elements.{Standing, changed_slot, slot_set, ObjectTakes, Takes, value_standing, reference_standing, part_standing, standing, stood}
use Rattle.prop_setting.proofs.CopyLaws.{stands-live}
use Rattle.host_meaning.specs.Objects.{Known}
use Rattle.object_members.specs.Seeing.{with_member_oref}
use Rattle.object_members.specs.Ends.{with_memory}
use Rattle.object_members.specs.Standing.{fill_with, held_for}
use Rattle.object_members.specs.SetLaws.{IsNoOneSide}
use Rattle.object_members.specs.Writes.{without_member_oref, member_left, member_joined, left_by, one_side_set, prop_set}
use Rattle.object_members.proofs.StandLaws.{takes_by_rules}
use Rattle.memory_laws.specs.Kept.{IsGood}
use Rattle.memory_laws.specs.Writes.{IsDone, IsRefused, set_at}
use Rattle.memory_laws.proofs.Keeping.{good-set}
use Rattle.memory_laws.proofs.PartsKept.{copied-fit}
use Rattle.memory_laws.proofs.SetsKept.{target-out, to-out, same-copies}
use Rattle.memory_laws.proofs.WritesKept.{found-held, numbered, good-held, same-set, given-first, writes_come}
use Rattle.known_objects.specs.Classed.{Classed, IsClassedSlot, IsClassedProp, IsClassed, NamesKnown, IsPlainClass, HasPlainParts}
use Rattle.known_objects.specs.Laws.{IsPlainItem, OneSidesNameNoMore, ElementsNameNoMore, WritesNameNoMore}
use Rattle.known_objects.proofs.Changes.{all-at, all-both, all-back, NamesNoId, names-none, members-changed, edited-names, edited-names-at, dropped-names, back-names, set-names, more-names}

-- ---- one sides

module _ (classes : List Class) (known : Classed) (side : List ℕ) (n : ℕ) where
  left-names : (v : Slot-F Slot) (w : Memory) → NamesKnown classes known w → NamesKnown classes known (member_left classes side n v w)
  left-names (Slot-F.To q) w h = edited-names classes known w q.0 _ (λ o k. members-changed classes known (without_member_oref n) _ o k) h
  left-names (Slot-F.Plain v) w h = h
  left-names (Slot-F.Target id) w h = h
  left-names (Slot-F.Items slots) w h = h
  left-names (Slot-F.Map pairs) w h = h
  left-names (Slot-F.Members orefs) w h = h

  joined-names : (v : Slot-F Slot) (w : Memory) → NamesKnown classes known w → NamesKnown classes known (member_joined classes side n v w)
  joined-names (Slot-F.To q) w h = edited-names classes known w q.0 _ (λ o k. members-changed classes known (with_member_oref n) _ o k) h
  joined-names (Slot-F.Plain v) w h = h
  joined-names (Slot-F.Target id) w h = h
  joined-names (Slot-F.Items slots) w h = h
  joined-names (Slot-F.Map pairs) w h = h
  joined-names (Slot-F.Members orefs) w h = h

  old-names : (s : Option Slot) (w : Memory) → NamesKnown classes known w → NamesKnown classes known (left_by classes side n s w)
  old-names None w h = h
  old-names (Some s) w h = left-names (out-Slot s) w h

pub sides_name : OneSidesNameNoMore
unfolding one_side_set
sides_name classes known m o at side slot holds h new =
    let set : Memory = edited m o.number (changed_slot at slot) in
    let gone : Memory = left_by classes side o.number (slice_get o.slots at) set in
    dropped-names classes known (member_joined classes side o.number (out-Slot slot) gone) holds
    (joined-names classes known side o.number (out-Slot slot) gone (old-names classes known side o.number (slice_get o.slots at) set (set-names classes known m o.number at slot h new)))

-- ---- the copies of a part are of plain classes

each-from : {A : Type 0} (P : A → Type 0) (xs : List A) → ((i : ℕ) (x : A) → slice_get xs i ≡ Some x → P x) → EachGood P xs
each-from P [] h = tt
each-from P (x ∷ xs) h = (h 0 x refl, each-from P xs (λ i y e. h (suc i) y e))

module _ (classes : List Class) (m : Memory) (level : ℕ) (high : 2 ≤ level) (plain : HasPlainParts classes) where
  abbrev IsPlainNew : NewObj → Type 0
  IsPlainNew n = IsPlainClass classes n.class × (2 ≤ n.level)

  abbrev ArePlain : List NewObj → Type 0
  ArePlain ns = AllByRecursion IsPlainNew ns

  abbrev HasPlain : Prop → Type 0
  HasPlain p = (c : ClassName) → part_class p.kind ≡ Some c → IsPlainClass classes c

  module _ (part : ClassName → List Slot → ℕ → Copies ℕ) (of_part : (c : ClassName) (slots : List Slot) (last : ℕ) → IsPlainClass classes c → ArePlain (part c slots last).made) where
    at-plain : (c : ClassName) (v : Slot-F Slot) (s : Slot) (last : ℕ) → IsPlainClass classes c → ArePlain (copy_part_at m part c v s last).made
    at-plain c (Slot-F.To q) s last h = of_part c (slots_at m q.0) last h
    at-plain c (Slot-F.Plain v) s last h = tt
    at-plain c (Slot-F.Target id) s last h = tt
    at-plain c (Slot-F.Items slots) s last h = tt
    at-plain c (Slot-F.Map pairs) s last h = tt
    at-plain c (Slot-F.Members orefs) s last h = tt

    element-plain : (i : Item) (s : Slot) (last : ℕ) → ((c : ClassName) → item_part i ≡ Some c → IsPlainClass classes c) → ArePlain (copy_element m part i s last).made
    element-plain (of.Serial c) s last h = at-plain c (out-Slot s) s last (h c refl)
    element-plain of.Text s last h = tt
    element-plain of.Whole s last h = tt
    element-plain of.Truth s last h = tt
    element-plain (of.Ref c) s last h = tt

    elements-plain : (i : Item) (ss : List Slot) (last : ℕ) → ((c : ClassName) → item_part i ≡ Some c → IsPlainClass classes c) → ArePlain (copy_elements m part i ss last).made
    elements-plain i [] last h = tt
    elements-plain i (s ∷ ss) last h =
        all-both IsPlainNew (copy_element m part i s last).made (copy_elements m part i ss (copy_element m part i s last).last).made (element-plain i s last h) (elements-plain i ss (copy_element m part i s last).last h)

    kind-plain : (kd : Kind) (s : Slot) (last : ℕ) → ((c : ClassName) → part_class kd ≡ Some c → IsPlainClass classes c) → ArePlain (copy_kind m part kd s last).made
    kind-plain kind.Text s last h = tt
    kind-plain kind.Whole s last h = tt
    kind-plain kind.Truth s last h = tt
    kind-plain (kind.Ref c) s last h = tt
    kind-plain (kind.Serial c) s last h = at-plain c (out-Slot s) s last (h c refl)
    kind-plain (kind.ListOf i) s last h = elements-plain i (items_of (out-Slot s)) last h
    kind-plain (kind.ArrayOf i) s last h = tt
    kind-plain (kind.Many c side) s last h = tt
    kind-plain (kind.One c side) s last h = tt

    fields-plain : (props : List Prop) (slots : List Slot) (last : ℕ) → EachGood HasPlain props → ArePlain (copy_fields m part props slots last).made
    fields-plain [] slots last h = tt
    fields-plain (p ∷ ps) [] last h = tt
    fields-plain (p ∷ ps) (s ∷ ss) last h =
        all-both IsPlainNew (copy_kind m part p.kind s last).made (copy_fields m part ps ss (copy_kind m part p.kind s last).last).made (kind-plain p.kind s last h.0)
        (fields-plain ps ss (copy_kind m part p.kind s last).last h.1)

  slots-plain : (n : ℕ) (c : ClassName) (slots : List Slot) (last : ℕ) → ArePlain (copied_slots n classes m level c slots last).made
  slots-plain zero c slots last = tt
  slots-plain (suc n) c slots last =
      fields-plain (λ d ss k. part_of classes level d (k + 1) (copied_slots n classes m level d ss (k + 1))) (λ d ss k h. ((h, high), slots-plain n d ss (k + 1))) (props_of (class_of classes c)) slots last
      (each-from HasPlain (props_of (class_of classes c)) (λ i p e d is. plain c d p i e is))

  part-plain : (n : ℕ) (c : ClassName) (slots : List Slot) (last : ℕ) → IsPlainClass classes c → ArePlain (copy_part n classes m level c slots last).made
  part-plain n c slots last h = ((h, high), slots-plain n c slots (last + 1))

-- ---- so the memory with the copies names no more keys

module _ (classes : List Class) (known : Classed) (w : Memory) where
  abbrev HasSlots : Object → Type 0
  HasSlots o = AreGood (IsSlotOf classes w) (props_of (class_of classes o.class)) o.slots

  rest-slots : (os : List Object) → AllByRecursion (FitsSchema classes w) os → AllByRecursion HasSlots os
  rest-slots [] h = tt
  rest-slots (o ∷ os) h = (h.0.slots, rest-slots os h.1)

  first-slots : (os : List Object) → AllByRecursion (FitsSchema classes w) (first_held os) → AllByRecursion HasSlots os
  first-slots [] h = tt
  first-slots (o ∷ os) h = (h.0.slots, rest-slots os h.1)

  no-side : (kd : Kind) (s : Slot-F Slot) → IsNoOneSide kd → IsClassedSlot classes known kd s
  no-side (kind.One c side) s h = absurd h
  no-side kind.Text s h = tt
  no-side kind.Whole s h = tt
  no-side kind.Truth s h = tt
  no-side (kind.Ref c) s h = tt
  no-side (kind.Serial c) s h = tt
  no-side (kind.ListOf i) s h = tt
  no-side (kind.ArrayOf i) s h = tt
  no-side (kind.Many c side) s h = tt

  plain-slots : (props : List Prop) (slots : List Slot) → AreGood (IsSlotOf classes w) props slots → EachGood (λ p. IsNoOneSide p.kind) props → AreGood (IsClassedProp classes known) props slots
  plain-slots [] [] h plain = tt
  plain-slots [] (s ∷ ss) h plain = absurd h
  plain-slots (p ∷ ps) [] h plain = absurd h
  plain-slots (p ∷ ps) (s ∷ ss) h plain = (no-side p.kind (out-Slot s) plain.0, plain-slots ps ss h.1 plain.1)

  new-classed : (number : ℕ) (n : NewObj) → HasSlots (part_object number n) → IsPlainClass classes n.class → 2 ≤ n.level → IsClassed classes known (part_object number n)
  new-classed number n h plain high = by n.extent refl
    where
      fit : AreGood (IsClassedProp classes known) (props_of (class_of classes n.class)) n.slots
      fit = plain-slots (props_of (class_of classes n.class)) n.slots h plain

      by : (e : Option ClassName) → n.extent ≡ e → IsClassed classes known (part_object number n)
      by None e = record { level = high; key = rw e tt; targets = fit }
      by (Some x) e = record { level = high; key = rw e tt; targets = fit }

  news-classed : (start : ℕ) (ns : List NewObj) → AllByRecursion HasSlots (objects_from start ns) → AllByRecursion (λ n. IsPlainClass classes n.class × (2 ≤ n.level)) ns → AllByRecursion (IsClassed classes known) (objects_from start ns)
  news-classed start [] h plain = tt
  news-classed start (n ∷ ns) h plain = (new-classed (start + 1) n h.0 plain.0.0 plain.0.1, news-classed (start + 1) ns h.1 plain.1)

  first-classed : (os : List Object) → AllByRecursion (IsClassed classes known) os → AllByRecursion (IsClassed classes known) (first_held os)
  first-classed [] h = h
  first-classed (o ∷ os) h = (record { level = h.0.level; key = h.0.key; targets = h.0.targets }, h.1)

module _ (classes : List Class) (known : Classed) (m : Memory) (whole : IsWhole classes) (plain : HasPlainParts classes) (good : IsGood classes m) (h : NamesKnown classes known m) where
  copies-name : (level n : ℕ) (q : Object) → level ≤ 4 → 2 ≤ level → object_of n m.objects ≡ Some q → IsPlainClass classes q.class → NamesKnown classes known (with_copies m (copy_of classes m level q))
  unfolding TableFits
  copies-name level n q few high live plain_class =
      let copies : Copies ℕ = copy_of classes m level q in
      let w : Memory = with_copies m copies in
      let fit : AllByRecursion (FitsSchema classes w) (first_held (objects_from m.last copies.made)) = all-back (FitsSchema classes w) m.objects (first_held (objects_from m.last copies.made)) (copied-fit classes m level n q whole few good live) in
      all-both (IsClassed classes known) m.objects (first_held (objects_from m.last copies.made)) h
      (first-classed classes known w (objects_from m.last copies.made)
      (news-classed classes known w m.last copies.made (first-slots classes known w (objects_from m.last copies.made) fit) (part-plain classes m level high plain 4 q.class q.slots m.last plain_class)))

  -- ---- elements

  module _ (o : Object) (live : object_of o.number m.objects ≡ Some o) (at : ℕ) (p : Prop) (there : slice_get (props_of (class_of classes o.class)) at ≡ Some p) (none : IsNoOneSide p.kind) (shape : Slot → Slot) where
    set-object : (slot : Slot) (q : Object) → o ≡ q → IsClassed classes known q → IsClassed classes known (changed_slot at slot q)
    set-object slot q same k =
        let there_q : slice_get (props_of (class_of classes q.class)) at ≡ Some p = subst (λ (x : Object). slice_get (props_of (class_of classes x.class)) at ≡ Some p) same there in
        record { level = k.level; key = k.key; targets = good-set (IsClassedProp classes known) (props_of (class_of classes q.class)) q.slots at p slot k.targets there_q (no-side classes known m p.kind (out-Slot slot) none) }

    stood-names : (st : Standing) → object_of o.number st.memory.objects ≡ Some o → NamesKnown classes known st.memory → NamesKnown classes known (stood o.number at shape st)
    unfolding slot_set
    stood-names st found k =
        back-names classes known (slot_set st.memory o.number at (shape (slot_from st.filling)) (passed st.filling)) st.back
        (dropped-names classes known (edited st.memory o.number (changed_slot at (shape (slot_from st.filling)))) (passed st.filling)
        (edited-names-at classes known st.memory o.number (changed_slot at (shape (slot_from st.filling))) (λ q e j. set-object (shape (slot_from st.filling)) q (let same : o ≡ q = cc in same) j) k))

    by_value : (w : Fill) → NamesKnown classes known (stood o.number at shape (value_standing m w))
    by_value (fill.Plain v) = stood-names (value_standing m (fill.Plain v)) live h
    by_value (fill.To a) = stood-names (value_standing m (fill.To a)) live h
    by_value (fill.Target id) = stood-names (value_standing m (fill.Target id)) live h
    by_value fill.Nothing = stood-names (value_standing m fill.Nothing) live h

    by_reference : (w : Fill) → NamesKnown classes known (stood o.number at shape (reference_standing m w))
    by_reference (fill.Plain v) = stood-names (reference_standing m (fill.Plain v)) live h
    by_reference (fill.To a) = stood-names (reference_standing m (fill.To a)) live h
    by_reference (fill.Target id) = stood-names (reference_standing m (fill.Target id)) live h
    by_reference fill.Nothing = stood-names (reference_standing m fill.Nothing) live h

    by_part : (c : ClassName) → IsPlainClass classes c → (w : Fill) → ObjectTakes classes m (of.Serial c) w → NamesKnown classes known (stood o.number at shape (part_standing classes m o.level c w))
    by_part c plain_class (fill.To a) takes =
        let q = stands-live classes m c a.number takes in
        let same = same-copies classes m o.level c a.number q.0 q.1 q.2 in
        let few : o.level ≤ 4 = (fits-at classes m o.number o good.fits live).level in
        let high : 2 ≤ o.level = (at-object o.number m.objects o h live).level in
        stood-names (part_standing classes m o.level c (fill.To a)) (found-front o.number m.objects _ o live)
        (subst (λ copies. NamesKnown classes known (with_copies m copies)) same (copies-name o.level a.number q.0 few high q.1 (subst (IsPlainClass classes) (sym q.2) plain_class)))
      where
        at-object : (n : ℕ) (os : List Object) (x : Object) → AllByRecursion (IsClassed classes known) os → object_of n os ≡ Some x → IsClassed classes known x
        at-object = all-at (IsClassed classes known)
    by_part c plain_class (fill.Plain v) takes = stood-names (part_standing classes m o.level c (fill.Plain v)) live h
    by_part c plain_class (fill.Target id) takes = stood-names (part_standing classes m o.level c (fill.Target id)) live h
    by_part c plain_class fill.Nothing takes = stood-names (part_standing classes m o.level c fill.Nothing) live h

    by_element : (i : Item) (w : Fill) → IsPlainItem classes i → Takes classes m i w → NamesKnown classes known (stood o.number at shape (standing classes m o.level i w))
    by_element of.Text w plain_item takes = by_value w
    by_element of.Whole w plain_item takes = by_value w
    by_element of.Truth w plain_item takes = by_value w
    by_element (of.Ref c) w plain_item takes = by_reference w
    by_element (of.Serial c) w plain_item takes = by_part c (plain_item c refl) w takes

pub elements_name : ElementsNameNoMore
elements_name classes known m o at p i shape w whole plain good h live there none plain_item takes = by_element classes known m whole plain good h o live at p there none shape i w plain_item takes

-- ---- a whole set

single-part : (kd : Kind) (i : Item) (c : ClassName) → form_of kd ≡ Some (single i) → item_part i ≡ Some c → part_class kd ≡ Some c
single-part (kind.Serial d) i c form is = let same : of.Serial d ≡ i = cc in subst (λ j. item_part j ≡ Some c) (sym same) is
single-part kind.Text i c form is = let same : of.Text ≡ i = cc in subst (λ j. item_part j ≡ Some c) (sym same) is
single-part kind.Whole i c form is = let same : of.Whole ≡ i = cc in subst (λ j. item_part j ≡ Some c) (sym same) is
single-part kind.Truth i c form is = let same : of.Truth ≡ i = cc in subst (λ j. item_part j ≡ Some c) (sym same) is
single-part (kind.Ref d) i c form is = let same : of.Ref d ≡ i = cc in subst (λ j. item_part j ≡ Some c) (sym same) is
single-part (kind.One d side) i c form is = let same : of.Ref d ≡ i = cc in subst (λ j. item_part j ≡ Some c) (sym same) is
single-part (kind.ListOf j) i c form is = cc
single-part (kind.ArrayOf j) i c form is = cc
single-part (kind.Many d side) i c form is = cc

module _ (classes : List Class) (known : Classed) (s : Known Memory) (n : ℕ) (name : Name) (v : Val) (whole : IsWhole classes) (plain : HasPlainParts classes) (good : IsGood classes s.memory) (h : NamesKnown classes known s.memory)
    (done : IsDone classes s n name v) where
  abbrev held : Memory
  held = held_for v s.memory

  abbrev o : Object
  o = done.object

  held-names : NamesKnown classes known held
  held-names = by v
    where
      by : (x : Val) → NamesKnown classes known (held_for x s.memory)
      by (Data d) = h
      by (Ref k class) = more-names classes known s.memory h k

  taken : Takes classes held done.item (fill_with v)
  taken = ((takes_by_rules classes held done.item (fill_with v)).0 done.takes).0

  by_side : (c : ClassName) (side : List ℕ) (q : Object) (w : Fill) → ObjectTakes classes held (of.Ref c) w → NamesKnown classes known (prop_set classes q done.at (kind.One c side) (reference_standing held w))
  unfolding slot_from passed
  by_side c side q (fill.Plain d) takes =
      back-names classes known _ None (sides_name classes known held q done.at side (Target None) [] held-names (names-none classes known (Target None) (subst NamesNoId (sym (target-out None)) tt)))
  by_side c side q (fill.To a) takes =
      back-names classes known _ None
      (sides_name classes known held q done.at side (To (record { 0 = a.number })) (a.number ∷ []) held-names (names-none classes known (To (record { 0 = a.number })) (subst NamesNoId (sym (to-out (record { 0 = a.number }))) tt)))
  by_side c side q (fill.Target id) takes = absurd takes
  by_side c side q fill.Nothing takes = absurd takes

  set-names-at : (q : Object) → object_of q.number held.objects ≡ Some q → q.class ≡ o.class → (kd : Kind) → done.prop.kind ≡ kd → NamesKnown classes known (prop_set classes q done.at kd (standing classes held q.level done.item (fill_with v)))
  set-names-at q live class kd is = by kd is
    where
      there : slice_get (props_of (class_of classes q.class)) done.at ≡ Some done.prop
      there = subst (λ c. slice_get (props_of (class_of classes c)) done.at ≡ Some done.prop) (sym class) done.there

      plainly : IsPlainItem classes done.item
      plainly c e = plain o.class c done.prop done.at done.there (single-part done.prop.kind done.item c done.form e)

      element : (k : Kind) → done.prop.kind ≡ k → IsNoOneSide k → NamesKnown classes known (stood q.number done.at (λ t. t) (standing classes held q.level done.item (fill_with v)))
      element k e none =
          elements_name classes known held q done.at done.prop done.item (λ t. t) (fill_with v) whole plain (good-held classes s.memory v good) held-names live there (subst IsNoOneSide (sym e) none) plainly taken

      by : (k : Kind) → done.prop.kind ≡ k → NamesKnown classes known (prop_set classes q done.at k (standing classes held q.level done.item (fill_with v)))
      by (kind.One c side) e =
          let form : form_of (kind.One c side) ≡ Some (single done.item) = ap form_of (sym e) ∙ done.form in
          let same : of.Ref c ≡ done.item = cc in
          subst (λ j. NamesKnown classes known (prop_set classes q done.at (kind.One c side) (standing classes held q.level j (fill_with v)))) same
          (by_side c side q (fill_with v) (subst (λ j. Takes classes held j (fill_with v)) (sym same) taken))
      by kind.Text e = element kind.Text e tt
      by kind.Whole e = element kind.Whole e tt
      by kind.Truth e = element kind.Truth e tt
      by (kind.Ref c) e = element (kind.Ref c) e tt
      by (kind.Serial c) e = element (kind.Serial c) e tt
      by (kind.ListOf i) e = element (kind.ListOf i) e tt
      by (kind.ArrayOf i) e = element (kind.ArrayOf i) e tt
      by (kind.Many c side) e = element (kind.Many c side) e tt

  done-names : NamesKnown classes known (set_at classes s done.object done.at done.prop done.item v)
  done-names = by (found-held s.memory v n o done.found)
    where
      number : o.number ≡ n
      number = numbered n s.memory.objects o done.found

      by : (object_of n held.objects ≡ Some o) ⊎ (object_of n held.objects ≡ Some (tighten o)) → NamesKnown classes known (set_at classes s done.object done.at done.prop done.item v)
      by (inl e) = set-names-at o (subst (λ k. object_of k held.objects ≡ Some o) (sym number) e) refl done.prop.kind refl
      by (inr e) =
          subst (NamesKnown classes known) (same-set classes o done.at done.prop.kind (standing classes held o.level done.item (fill_with v)))
          (set-names-at (tighten o) (subst (λ k. object_of k held.objects ≡ Some (tighten o)) (sym number) e) refl done.prop.kind refl)

pub writes_name : WritesNameNoMore
writes_name classes known s t n name v a whole plain good h g = by (writes_come classes s n name v)
  where
    by : IsDone classes s n name v ⊎ IsRefused classes s n name v → NamesKnown classes known t.memory
    by (inl done) =
        let left : Known Memory = with_memory (set_at classes s done.object done.at done.prop done.item v) s in
        let same : left ≡ t = given-first left t answer.Done a (sym done.is ∙ g) in
        subst (λ (x : Known Memory). NamesKnown classes known x.memory) same (done-names classes known s n name v whole plain good h done)
    by (inr no_set) =
        let same : s ≡ t = given-first s t (answer.Error no_set.0) a (sym no_set.1 ∙ g) in
        subst (λ (x : Known Memory). NamesKnown classes known x.memory) same h
