-- A table with copies of a part fits the schema.
use Rattle.std.proofs.Common.{◌≡◌, ◌<◌, ◌≤◌, ℕ, zero, suc, ◌+◌, ◌==◌, cond, Bool, true, false, Option, None, Some, IsSome, List, [], ◌∷◌, ◌++◌, length, slice_get, IsTrue, refl, ap, sym, subst, ◌∙◌, arith}
use Rattle.std.proofs.lemmas.Bool.{eq-eqb, ne_eqb, true≢false}
use Rattle.std.specs.List.{AllByRecursion}
use Rattle.std.specs.Option.{IsSomeAnd}
use Rattle.obj_kinds.specs.declared.name.ClassName.{ClassName}
use Rattle.obj_kinds.specs.declared.value.Value.TheVariants as value
use Rattle.obj_kinds.specs.declared.value.Value.TheViews.{out-Value}
use Rattle.obj_kinds.specs.Limits.{is_legal_text}
use Rattle.obj_kinds.proofs.ValueLaws.{out-Str}
use Rattle.schema_kinds.specs.declared.class.Class.{Class}
use Rattle.schema_kinds.specs.declared.prop.Prop.{Prop}
use Rattle.schema_kinds.specs.declared.kind.Kind.{Kind}
use Rattle.schema_kinds.specs.declared.kind.Kind.TheVariants as kind
use Rattle.schema_kinds.specs.declared.kind.Item.{Item}
use Rattle.schema_kinds.specs.declared.kind.Item.TheVariants as of
use Rattle.schema_kinds.specs.Classes.{class_of, props_of, extent_of}
use Rattle.record_layout.specs.Inverse.{EachGood, AreGood}
use Rattle.record_layout.specs.Shapes.{listed, keyed}
use Rattle.oref_table.specs.declared.obj.NewObj.{NewObj}
use Rattle.oref_table.specs.declared.slot.Slot.{Slot}
use Rattle.oref_table.specs.declared.slot.Slot.TheVariants.{To, Items}
use Rattle.oref_table.specs.declared.slot.Slot.TheOpen.{Slot-F}
use Rattle.oref_table.specs.declared.slot.Slot.TheViews.{out-Slot}
use Rattle.oref_table.specs.Memory.{Object, Memory, object_of, tighten}
use Rattle.oref_table.specs.Refs.{refs_of}
use Rattle.oref_table.specs.Sound.{IsSound}
use Rattle.oref_table.proofs.MakeLaws.{absent-beyond}
use Rattle.obj_shape.specs.Elements.{IsPlain}
use Rattle.obj_shape.specs.Fitting.{IsElement, IsOfForm, IsOfKind, IsSlotOf, FitsSchema, TableFits}
use Rattle.obj_shape.specs.Records.{items_of, slots_at, slots_part}
use Rattle.obj_shape.specs.Slots.{empty_slots, slot_with}
use Rattle.obj_shape.specs.Wholeness.{IsWhole, item_part, part_class}
use Rattle.obj_shape.proofs.FitLaws.{fits-at}
use Rattle.obj_shape.proofs.Moves.{Agrees, element-moves, kind-moves, objects-move}
use Rattle.part_copies.specs.Copies.{Copies, copy_part_at, copy_element, copy_elements, copy_kind, copy_fields, copy_part, part_object, objects_from, first_held, with_copies}
use Rattle.part_copies.specs.Sums.{AddsUp}
use Rattle.part_copies.proofs.CopyLaws.{out-Plain, out-Target, out-To, out-Items, out-Map, out-Members}
use Rattle.part_copies.proofs.NewLaws.{found-front, found-back}
use Rattle.part_copies.proofs.SumLaws.{part-adds, element-adds, kind-adds}

-- ---- lists

each-both : {B : Type 0} (P : B → Type 0) (xs ys : List B) → EachGood P xs → EachGood P ys → EachGood P (xs ++ ys)
each-both P [] ys h k = k
each-both P (x ∷ xs) ys h k = (h.0, each-both P xs ys h.1 k)

each-from : {B : Type 0} (P : B → Type 0) (xs : List B) → ((i : ℕ) (x : B) → slice_get xs i ≡ Some x → P x) → EachGood P xs
each-from P [] f = tt
each-from P (x ∷ xs) f = (f 0 x refl, each-from P xs (λ i y e. f (suc i) y e))

-- ---- the new objects are found

abbrev pub AllFound : Memory → ℕ → List NewObj → Type 0
AllFound w start [] = Unit {0}
AllFound w start (n ∷ ns) = IsSomeAnd (object_of (start + 1) w.objects) (λ o. o.class ≡ n.class) × AllFound w (start + 1) ns

found-first : (w : Memory) (start : ℕ) (xs ys : List NewObj) → AllFound w start (xs ++ ys) → AllFound w start xs
found-first w start [] ys h = tt
found-first w start (x ∷ xs) ys h = (h.0, found-first w (start + 1) xs ys h.1)

found-rest : (w : Memory) (start last : ℕ) (xs ys : List NewObj) → last ≡ start + length xs → AllFound w start (xs ++ ys) → AllFound w last ys
found-rest w start last [] ys e h = subst (λ k. AllFound w k ys) (let z : start ≡ last = omega (arith, e) in z) h
found-rest w start last (x ∷ xs) ys e h = found-rest w (start + 1) last xs ys (omega (arith, e)) h.1

-- what a new object is like
abbrev pub NewFits : List Class → Memory → NewObj → Type 0
NewFits classes w n =
    IsSome (class_of classes n.class) × (n.extent ≡ extent_of classes n.class) × (n.level ≤ 4) × AreGood (IsSlotOf classes w) (props_of (class_of classes n.class)) n.slots

-- the classes of parts are among those of the schema
abbrev pub KnowsParts : List Class → Prop → Type 0
KnowsParts classes p = (d : ClassName) → part_class p.kind ≡ Some d → IsSome (class_of classes d)

pub knows-all : (classes : List Class) (c : ClassName) → IsWhole classes → EachGood (KnowsParts classes) (props_of (class_of classes c))
knows-all classes c whole = each-from (KnowsParts classes) (props_of (class_of classes c)) (λ i p e d is. whole.parts c d p i e is)

no-text : IsPlain (out-Value (value.Str []))
unfolding is_legal_text
no-text = let legal : IsTrue (is_legal_text []) = refl in subst IsPlain (sym (out-Str [])) legal

empty-kind : (classes : List Class) (w : Memory) (k : Kind) → IsOfKind classes w k (out-Slot (slot_with [] k))
empty-kind classes w kind.Text = subst (λ y. IsElement classes w of.Text y) (sym (out-Plain (value.Str []))) no-text
empty-kind classes w kind.Whole = subst (λ y. IsElement classes w of.Whole y) (sym (out-Plain (value.Str []))) no-text
empty-kind classes w kind.Truth = subst (λ y. IsElement classes w of.Truth y) (sym (out-Plain (value.Str []))) no-text
empty-kind classes w (kind.Ref c) = subst (λ y. IsElement classes w (of.Ref c) y) (sym (out-Target None)) tt
empty-kind classes w (kind.Serial c) = subst (λ y. IsElement classes w (of.Serial c) y) (sym (out-Target None)) refl
empty-kind classes w (kind.ListOf i) = subst (λ y. IsOfForm classes w (listed i) y) (sym (out-Items [])) tt
empty-kind classes w (kind.ArrayOf i) = subst (λ y. IsOfForm classes w (keyed i) y) (sym (out-Map [])) (refl, tt)
empty-kind classes w (kind.Many c side) = subst (λ y. IsOfKind classes w (kind.Many c side) y) (sym (out-Members [])) tt
empty-kind classes w (kind.One c side) = subst (λ y. IsElement classes w (of.Ref c) y) (sym (out-Target None)) tt

module _ (classes : List Class) (m w : Memory) (level : ℕ) (agrees : (n : ℕ) (t : Object) → object_of n m.objects ≡ Some t → object_of n w.objects ≡ Some t) (fits : TableFits classes m) where
  all-agree : (refs : List ℕ) → Agrees m w refs
  all-agree refs n t some e = (t, agrees n t e, refl)

  module _ (part : ClassName → List Slot → ℕ → Copies ℕ) (adds : (c : ClassName) (slots : List Slot) (k : ℕ) → AddsUp k (part c slots k).last (part c slots k).made (part c slots k).named ((part c slots k).copy ∷ []))
      (fit : (c : ClassName) (ss : List Slot) (k : ℕ) → IsSome (class_of classes c) → AreGood (IsSlotOf classes m) (props_of (class_of classes c)) ss → AllFound w k (part c ss k).made
      → EachGood (NewFits classes w) (part c ss k).made × IsSomeAnd (object_of (part c ss k).copy w.objects) (λ o. o.class ≡ c)) where
    at-fits : (c : ClassName) (v : Slot-F Slot) (s : Slot) (k : ℕ) → out-Slot s ≡ v → IsSome (class_of classes c) → IsElement classes m (of.Serial c) v → AllFound w k (copy_part_at m part c v s k).made
        → EachGood (NewFits classes w) (copy_part_at m part c v s k).made × IsElement classes w (of.Serial c) (out-Slot (copy_part_at m part c v s k).copy)
    at-fits c (Slot-F.To q) s k e known h found = by (object_of q.0 m.objects) refl h
      where
        part_at : Copies ℕ
        part_at = part c (slots_at m q.0) k

        by : (x : Option Object) → object_of q.0 m.objects ≡ x → IsSomeAnd x (λ t. t.class ≡ c) → EachGood (NewFits classes w) part_at.made × IsElement classes w (of.Serial c) (out-Slot (To (record { 0 = part_at.copy })))
        by None at is = absurd is
        by (Some t) at is =
            let good : AreGood (IsSlotOf classes m) (props_of (class_of classes c)) (slots_at m q.0)
            = subst (λ ss. AreGood (IsSlotOf classes m) (props_of (class_of classes c)) ss) (sym (ap slots_part at)) (subst (λ d. AreGood (IsSlotOf classes m) (props_of (class_of classes d)) t.slots) is (fits-at classes m q.0 t fits at).slots) in
            let p = fit c (slots_at m q.0) k known good found in
            (p.0, subst (λ y. IsElement classes w (of.Serial c) y) (sym (out-To (record { 0 = part_at.copy }))) p.1)
    at-fits c (Slot-F.Plain v) s k e known h found = absurd h
    at-fits c (Slot-F.Target id) s k e known h found = (tt, subst (λ y. IsElement classes w (of.Serial c) y) (sym e) h)
    at-fits c (Slot-F.Items slots) s k e known h found = (tt, subst (λ y. IsElement classes w (of.Serial c) y) (sym e) h)
    at-fits c (Slot-F.Map pairs) s k e known h found = absurd h
    at-fits c (Slot-F.Members os) s k e known h found = absurd h

    element-fits : (i : Item) (s : Slot) (k : ℕ) → ((d : ClassName) → item_part i ≡ Some d → IsSome (class_of classes d)) → IsElement classes m i (out-Slot s) → AllFound w k (copy_element m part i s k).made
        → EachGood (NewFits classes w) (copy_element m part i s k).made × IsElement classes w i (out-Slot (copy_element m part i s k).copy)
    element-fits (of.Serial c) s k known h found = at-fits c (out-Slot s) s k refl (known c refl) h found
    element-fits of.Text s k known h found = (tt, element-moves classes m w of.Text s (all-agree (refs_of s)) h)
    element-fits of.Whole s k known h found = (tt, element-moves classes m w of.Whole s (all-agree (refs_of s)) h)
    element-fits of.Truth s k known h found = (tt, element-moves classes m w of.Truth s (all-agree (refs_of s)) h)
    element-fits (of.Ref c) s k known h found = (tt, element-moves classes m w (of.Ref c) s (all-agree (refs_of s)) h)

    elements-fit : (i : Item) (ss : List Slot) (k : ℕ) → ((d : ClassName) → item_part i ≡ Some d → IsSome (class_of classes d)) → EachGood (λ s. IsElement classes m i (out-Slot s)) ss → AllFound w k (copy_elements m part i ss k).made
        → EachGood (NewFits classes w) (copy_elements m part i ss k).made × EachGood (λ s. IsElement classes w i (out-Slot s)) (copy_elements m part i ss k).copy
    elements-fit i [] k known h found = (tt, tt)
    elements-fit i (s ∷ ss) k known h found =
        let one = copy_element m part i s k in
        let rest = copy_elements m part i ss one.last in
        let a = element-fits i s k known h.0 (found-first w k one.made rest.made found) in
        let b = elements-fit i ss one.last known h.1 (found-rest w k one.last one.made rest.made (element-adds m part adds i s k).long found) in
        (each-both (NewFits classes w) one.made rest.made a.0 b.0, (a.1, b.1))

    list-fits : (i : Item) (v : Slot-F Slot) (k : ℕ) → ((d : ClassName) → item_part i ≡ Some d → IsSome (class_of classes d)) → IsOfForm classes m (listed i) v → AllFound w k (copy_elements m part i (items_of v) k).made
        → EachGood (NewFits classes w) (copy_elements m part i (items_of v) k).made × IsOfForm classes w (listed i) (out-Slot (Items (copy_elements m part i (items_of v) k).copy))
    list-fits i (Slot-F.Items slots) k known h found =
        let a = elements-fit i slots k known h found in
        (a.0, subst (λ y. IsOfForm classes w (listed i) y) (sym (out-Items (copy_elements m part i slots k).copy)) a.1)
    list-fits i (Slot-F.To q) k known h found = absurd h
    list-fits i (Slot-F.Plain v) k known h found = absurd h
    list-fits i (Slot-F.Target id) k known h found = absurd h
    list-fits i (Slot-F.Map pairs) k known h found = absurd h
    list-fits i (Slot-F.Members os) k known h found = absurd h

    kind-fits : (t : Kind) (s : Slot) (k : ℕ) → ((d : ClassName) → part_class t ≡ Some d → IsSome (class_of classes d)) → IsOfKind classes m t (out-Slot s) → AllFound w k (copy_kind m part t s k).made
        → EachGood (NewFits classes w) (copy_kind m part t s k).made × IsOfKind classes w t (out-Slot (copy_kind m part t s k).copy)
    kind-fits kind.Text s k known h found = (tt, kind-moves classes m w kind.Text s (all-agree (refs_of s)) h)
    kind-fits kind.Whole s k known h found = (tt, kind-moves classes m w kind.Whole s (all-agree (refs_of s)) h)
    kind-fits kind.Truth s k known h found = (tt, kind-moves classes m w kind.Truth s (all-agree (refs_of s)) h)
    kind-fits (kind.Ref c) s k known h found = (tt, kind-moves classes m w (kind.Ref c) s (all-agree (refs_of s)) h)
    kind-fits (kind.Serial c) s k known h found = at-fits c (out-Slot s) s k refl (known c refl) h found
    kind-fits (kind.ListOf i) s k known h found = list-fits i (out-Slot s) k known h found
    kind-fits (kind.ArrayOf i) s k known h found = (tt, empty-kind classes w (kind.ArrayOf i))
    kind-fits (kind.Many c side) s k known h found = (tt, empty-kind classes w (kind.Many c side))
    kind-fits (kind.One c side) s k known h found = (tt, kind-moves classes m w (kind.One c side) s (all-agree (refs_of s)) h)

    fields-fit : (ps : List Prop) (ss : List Slot) (k : ℕ) → EachGood (KnowsParts classes) ps → AreGood (IsSlotOf classes m) ps ss → AllFound w k (copy_fields m part ps ss k).made
        → EachGood (NewFits classes w) (copy_fields m part ps ss k).made × AreGood (IsSlotOf classes w) ps (copy_fields m part ps ss k).copy
    fields-fit [] [] k known h found = (tt, tt)
    fields-fit [] (s ∷ ss) k known h found = absurd h
    fields-fit (p ∷ ps) [] k known h found = absurd h
    fields-fit (p ∷ ps) (s ∷ ss) k known h found =
        let one = copy_kind m part p.kind s k in
        let rest = copy_fields m part ps ss one.last in
        let a = kind-fits p.kind s k known.0 h.0 (found-first w k one.made rest.made found) in
        let b = fields-fit ps ss one.last known.1 h.1 (found-rest w k one.last one.made rest.made (kind-adds m part adds p.kind s k).long found) in
        (each-both (NewFits classes w) one.made rest.made a.0 b.0, (a.1, b.1))

  module _ (whole : IsWhole classes) (few : level ≤ 4) where
    whole-fits : (n : ℕ) (c : ClassName) (ss : List Slot) (k : ℕ) → IsSome (class_of classes c) → AreGood (IsSlotOf classes m) (props_of (class_of classes c)) ss → AllFound w k (copy_part n classes m level c ss k).made
        → EachGood (NewFits classes w) (copy_part n classes m level c ss k).made × IsSomeAnd (object_of (copy_part n classes m level c ss k).copy w.objects) (λ o. o.class ≡ c)
    whole-fits zero c ss k known h found = (((known, refl, few, empty-good (props_of (class_of classes c))), tt), found.0)
      where
        empty-good : (ps : List Prop) → AreGood (IsSlotOf classes w) ps (empty_slots ps)
        empty-good [] = tt
        empty-good (p ∷ ps) = (empty-kind classes w p.kind, empty-good ps)
    whole-fits (suc n) c ss k known h found =
        let f = fields-fit (copy_part n classes m level) (part-adds n classes m level) (λ d ts j. whole-fits n d ts j) (props_of (class_of classes c)) ss (k + 1) (knows-all classes c whole) h found.1 in
        (((known, refl, few, f.1), f.0), found.0)

-- ---- the table with them

inner-found : (w : Memory) (start : ℕ) (ns : List NewObj) → ((k : ℕ) → start < k → object_of k w.objects ≡ object_of k (objects_from start ns)) → AllFound w start ns
inner-found w start [] is = tt
inner-found w start (n ∷ ns) is =
    let on : (start + 1 == start + 1) ≡ true = eq-eqb (start + 1) (start + 1) refl in
    let here : object_of (start + 1) w.objects ≡ Some (part_object (start + 1) n) = is (start + 1) (omega arith) ∙ first (start + 1 == start + 1) on in (
      subst (λ (x : Option Object). IsSomeAnd x (λ o. o.class ≡ n.class)) (sym here) refl,
      inner-found w (start + 1) ns (λ k l. is k (omega (arith, l)) ∙ others k (start + 1 == k) (ne_eqb (start + 1) k (λ (s : start + 1 ≡ k). omega (arith, s, l)))),
    )
  where
    first : (b : Bool) → b ≡ true → cond b (Some (part_object (start + 1) n)) (object_of (start + 1) (objects_from (start + 1) ns)) ≡ Some (part_object (start + 1) n)
    first true e = refl
    first false e = absurd (true≢false (sym e))

    others : (k : ℕ) (b : Bool) → b ≡ false → cond b (Some (part_object (start + 1) n)) (object_of k (objects_from (start + 1) ns)) ≡ object_of k (objects_from (start + 1) ns)
    others k true e = absurd (true≢false e)
    others k false e = refl

all-found : (m : Memory) (c : Copies ℕ) (n : NewObj) (ns : List NewObj) → IsSound m → c.made ≡ n ∷ ns → AllFound (with_copies m c) m.last (n ∷ ns)
all-found m c n ns s is =
    let absent : (k : ℕ) → m.last < k → object_of k m.objects ≡ None = λ k l. absent-beyond k 0 m.last m.objects s.rising l in
    let seen : (k : ℕ) → m.last < k → object_of k (with_copies m c).objects ≡ object_of k (tighten (part_object (m.last + 1) n) ∷ objects_from (m.last + 1) ns)
    = λ k l. found-back k m.objects (first_held (objects_from m.last c.made)) (absent k l) ∙ ap (λ xs. object_of k (first_held (objects_from m.last xs))) is in
    let here : object_of (m.last + 1) (with_copies m c).objects ≡ Some (tighten (part_object (m.last + 1) n)) = seen (m.last + 1) (omega arith) ∙ first (m.last + 1 == m.last + 1) (eq-eqb (m.last + 1) (m.last + 1) refl) in (
      subst (λ (x : Option Object). IsSomeAnd x (λ o. o.class ≡ n.class)) (sym here) refl,
      inner-found (with_copies m c) (m.last + 1) ns (λ k l. seen k (omega (arith, l)) ∙ others k (m.last + 1 == k) (ne_eqb (m.last + 1) k (λ (t : m.last + 1 ≡ k). omega (arith, t, l)))),
    )
  where
    first : (b : Bool) → b ≡ true → cond b (Some (tighten (part_object (m.last + 1) n))) (object_of (m.last + 1) (objects_from (m.last + 1) ns)) ≡ Some (tighten (part_object (m.last + 1) n))
    first true e = refl
    first false e = absurd (true≢false (sym e))

    others : (k : ℕ) (b : Bool) → b ≡ false → cond b (Some (tighten (part_object (m.last + 1) n))) (object_of k (objects_from (m.last + 1) ns)) ≡ object_of k (objects_from (m.last + 1) ns)
    others k true e = absurd (true≢false e)
    others k false e = refl

all-append : {X : Type 0} (P : X → Type 0) (xs ys : List X) → AllByRecursion P xs → AllByRecursion P ys → AllByRecursion P (xs ++ ys)
all-append P [] ys h k = k
all-append P (x ∷ xs) ys h k = (h.0, all-append P xs ys h.1 k)

inner-fit : (classes : List Class) (w : Memory) (start : ℕ) (ns : List NewObj) → EachGood (NewFits classes w) ns → AllByRecursion (FitsSchema classes w) (objects_from start ns)
inner-fit classes w start [] h = tt
inner-fit classes w start (n ∷ ns) h = (record { class = h.0.0; extent = h.0.1; id = tt; level = h.0.2; slots = h.0.3 }, inner-fit classes w (start + 1) ns h.1)

first-fit : (classes : List Class) (w : Memory) (start : ℕ) (ns : List NewObj) → EachGood (NewFits classes w) ns → AllByRecursion (FitsSchema classes w) (first_held (objects_from start ns))
first-fit classes w start [] h = tt
first-fit classes w start (n ∷ ns) h = (record { class = h.0.0; extent = h.0.1; id = tt; level = h.0.2; slots = h.0.3 }, inner-fit classes w (start + 1) ns h.1)

-- the copy of a live object, and all that comes with it
pub copies-fit : (classes : List Class) (m : Memory) (level : ℕ) (k : ℕ) (o : Object) → IsWhole classes → level ≤ 4 → IsSound m → TableFits classes m → object_of k m.objects ≡ Some o
    → TableFits classes (with_copies m (copy_part 4 classes m level o.class o.slots m.last)) × IsSomeAnd (object_of (m.last + 1) (with_copies m (copy_part 4 classes m level o.class o.slots m.last)).objects) (λ t. t.class ≡ o.class)
unfolding TableFits
copies-fit classes m level k o whole few s fits e =
    let c = copy_part 4 classes m level o.class o.slots m.last in
    let w = with_copies m c in
    let agrees : (n : ℕ) (t : Object) → object_of n m.objects ≡ Some t → object_of n w.objects ≡ Some t = λ n t at. found-front n m.objects (first_held (objects_from m.last c.made)) t at in
    let own = fits-at classes m k o fits e in
    let found : AllFound w m.last c.made = all-found m c _ _ s refl in
    let new = whole-fits classes m w level agrees fits whole few 4 o.class o.slots m.last own.class own.slots found in (
      all-append (FitsSchema classes w) m.objects (first_held (objects_from m.last c.made)) (objects-move classes m w m.objects (λ n t some at. (t, agrees n t at, refl)) fits) (first-fit classes w m.last c.made new.0),
      new.1,
    )
