-- What memory is once a part among the items of a list has an object.
use Rattle.std.proofs.Common.{◌≡◌, ◌<◌, ℕ, ℤ, inl, zero, suc, ◌+◌, Option, None, Some, IsSome, IfNone, IfSome, IfOk, Result, Ok, Err, List, [], ◌∷◌, ◌++◌, length, slice_get, slice_set, refl, ap, sym, subst, ◌∙◌, arith}
use Rattle.obj_kinds.specs.declared.name.ClassName.{ClassName}
use Rattle.schema_kinds.specs.declared.class.Class.{Class}
use Rattle.schema_kinds.specs.declared.kind.Kind.TheVariants as kind
use Rattle.schema_kinds.specs.declared.kind.Item.{Item}
use Rattle.schema_kinds.specs.declared.kind.Item.TheVariants as of
use Rattle.record_layout.specs.Inverse.{EachGood}
use Rattle.oref_table.specs.declared.oref.Held.{Held}
use Rattle.oref_table.specs.declared.slot.Slot.{Slot}
use Rattle.oref_table.specs.declared.slot.Slot.TheVariants.{Items, To}
use Rattle.oref_table.specs.declared.slot.Slot.TheOpen.{Slot-F}
use Rattle.oref_table.specs.declared.fill.Fill.TheVariants as fill
use Rattle.oref_table.specs.declared.fill.Place.TheVariants as place
use Rattle.oref_table.specs.Memory.{Object, Memory, edited, fresh, loosed, tighten, with_object}
use Rattle.oref_table.specs.Dropping.{dropped}
use Rattle.oref_table.specs.Filling.{slot_from, passed, with_slot}
use Rattle.oref_table.specs.Places.{IsFilledTo}
use Rattle.obj_shape.specs.Fitting.{IsElement}
use Rattle.obj_shape.specs.Records.{items_of, slots_at, slots_part}
use Rattle.oref_table.specs.declared.slot.Slot.TheViews.{out-Slot}
use Rattle.obj_props.specs.declared.content.Content.{Content}
use Rattle.obj_props.specs.declared.got.Got.{Got}
use Rattle.obj_props.specs.Contents.{MayBeRead}
use Rattle.obj_props.specs.Properties.{alone, element_content, gives, part_made, read_of}
use Rattle.obj_props.proofs.ContentLaws.{kind-read}
use Rattle.obj_props.proofs.PartLaws.{old-found, same-slots}
use Rattle.prop_setting.specs.Lists.{IsAt, IsListAt, ListReads}
use Rattle.prop_setting.proofs.ListLaws.{filled-bare, filled-set, out-Items}

-- ---- what an item holds may be read

pub element-read : (classes : List Class) (m : Memory) (i : Item) (s : Slot-F Slot) → IsElement classes m i s → MayBeRead m (element_content classes i s)
element-read classes m of.Text s h = tt
element-read classes m of.Whole s h = tt
element-read classes m of.Truth s h = tt
element-read classes m (of.Ref c) s h = kind-read classes m (kind.Ref c) s h
element-read classes m (of.Serial c) s h = kind-read classes m (kind.Serial c) s h

pub each-at : {B : Type 0} (P : B → Type 0) (xs : List B) (k : ℕ) (x : B) → EachGood P xs → slice_get xs k ≡ Some x → P x
each-at P [] k x h e = absurd (cc)
each-at P (y ∷ ys) zero x h e = let same : y ≡ x = cc in subst P same h.0
each-at P (y ∷ ys) (suc k) x h e = each-at P ys k x h.1 e

-- ---- the list is still there

list-stays : (m : Memory) (x : Object) (k : ℕ) (f : Object → Object) (n at : ℕ) (items : List Slot) → ((o : Object) → (f o).number ≡ o.number) → ((o : Object) → (f o).slots ≡ o.slots) → IsListAt m n at items
    → IsListAt (edited (with_object m x) k f) n at items
unfolding edited with_object
list-stays m x k f n at items num slots h =
    let u = same-slots k f num slots (m.objects ++ x ∷ []) n h.0 (old-found m.objects x n h.0 h.1) in
    (u.0, u.1, ap (λ ss. slice_get ss at) u.2 ∙ h.2)

pub list-held : (m m1 m2 : Memory) (class : ClassName) (extent : Option ClassName) (level : ℕ) (slots : List Slot) (number n at : ℕ) (items : List Slot)
    → m1 ≡ with_object m (fresh m class extent None level slots) → m2 ≡ edited m1 number tighten → IsListAt m n at items → IsListAt m2 n at items
list-held m m1 m2 class extent level slots number n at items made held h =
    subst (λ (x : Memory). IsListAt x n at items) (sym (held ∙ ap (λ x. edited x number tighten) made))
    (list-stays m (fresh m class extent None level slots) number tighten n at items (λ o. refl) (λ o. refl) h)

-- ---- the three steps of a new part

part-filled : (m w : Memory) (n at k q : ℕ) (h : Held) (items : List Slot) → h.number ≡ q → IsFilledTo m w n (place.Item at k) (fill.To h) → IsListAt m n at items → k < length items
    → w ≡ dropped (loosed (edited m n (with_slot at (Items (slice_set items k (To (record { 0 = q })))))) (q ∷ []))
unfolding slot_from passed
part-filled m w n at k q h items e filled list l =
    filled-bare m w n at k (fill.To h) items filled list
    ∙ ap (λ xs. dropped (loosed (edited m n (with_slot at (Items xs))) (h.number ∷ []))) (filled-set k (fill.To h) items (λ z. absurd (cc)) l)
    ∙ ap (λ j. dropped (loosed (edited m n (with_slot at (Items (slice_set items k (To (record { 0 = j })))))) (j ∷ []))) e

pub item-part : (m m1 m2 w : Memory) (class : ClassName) (extent : Option ClassName) (level : ℕ) (slots : List Slot) (n at k number : ℕ) (again : Held) (items : List Slot)
    → m1 ≡ with_object m (fresh m class extent None level slots) → number ≡ m.last + 1 → m2 ≡ edited m1 number tighten → again.number ≡ number → IsFilledTo m2 w n (place.Item at k) (fill.To again)
    → IsListAt m n at items → k < length items
    → w ≡ part_made m n level at class extent slots (Items (slice_set items k (To (record { 0 = m.last + 1 }))))
item-part m m1 m2 w class extent level slots n at k number again items made num held same filled list l =
    let slot : Slot = Items (slice_set items k (To (record { 0 = m.last + 1 }))) in
    part-filled m2 w n at k (m.last + 1) again items (same ∙ num) filled (list-held m m1 m2 class extent level slots number n at items made held list) l
    ∙ ap (λ x. dropped (loosed (edited x n (with_slot at slot)) ((m.last + 1) ∷ [])))
    (held ∙ ap (λ x. edited x number tighten) made ∙ ap (λ j. edited (with_object m (fresh m class extent None level slots)) j tighten) num)

-- ---- what a read of an item answers

pub read-is : {E : Type 0} (classes : List Class) (m w : Memory) (n at at1 level level1 : ℕ) (i i1 : Item) (items : List Slot) (z : ℤ) (k : ℕ) (content : Content) (r : Result Got E) → at1 ≡ at → i1 ≡ i → level ≡ level1 → IsAt z k
    → (s : Slot) × (slice_get items k ≡ Some s) × (content ≡ element_content classes i1 (out-Slot s))
    → IfOk r (λ g. read_of classes m n level1 at1 (λ q. Items (slice_set items k (alone q))) content ≡ gives g w) → IfOk r (λ g. ListReads classes m n at level i items z g w)
read-is classes m w n at at1 level level1 i i1 items z k content (Err e) a b l is s h = tt
read-is classes m w n at at1 level level1 i i1 items z k content (Ok g) a b l is s h =
    let put : ℕ → Slot = λ q. Items (slice_set items k (alone q)) in
    inl (
      k,
      s.0,
      is,
      s.1,
      ap (λ v. read_of classes m n v at put (element_content classes i (out-Slot s.0))) l
          ∙ ap (λ p. read_of classes m n level1 p put (element_content classes i (out-Slot s.0))) (sym a)
          ∙ ap (λ j. read_of classes m n level1 at1 put (element_content classes j (out-Slot s.0))) (sym b)
          ∙ ap (λ x. read_of classes m n level1 at1 put x) (sym s.2)
          ∙ h,
    )

-- ---- an item is found

beyond : (xs : List Slot) (k : ℕ) → slice_get xs k ≡ None → k < length xs → ⊥
beyond [] k e l = omega (arith, l)
beyond (x ∷ xs) zero e l = cc
beyond (x ∷ xs) (suc k) e l = beyond xs k e (omega (arith, l))

pub some-slot : {X : Type 0} (r : Option X) (xs : List Slot) (k : ℕ) → IfNone r (slice_get xs k ≡ None) → k < length xs → IsSome r
some-slot None xs k h l = absurd (beyond xs k h l)
some-slot (Some x) xs k h l = refl

pub items-here : (m : Memory) (n at : ℕ) (items slots got : List Slot) (slot : Slot) → IsListAt m n at items → slots ≡ slots_at m n → slice_get slots at ≡ Some slot → got ≡ items_of (out-Slot slot) → got ≡ items
items-here m n at items slots got slot list here there is =
    let same : slots ≡ list.0.slots = here ∙ ap slots_part list.1 in
    let both : Some slot ≡ Some (Items items) = sym there ∙ ap (λ ss. slice_get ss at) same ∙ list.2 in
    let one : slot ≡ Items items = cc in
    is ∙ ap (λ s. items_of (out-Slot s)) one ∙ ap items_of (out-Items items)

pub read-ok : {E : Type 0} (classes : List Class) (m : Memory) (i : Item) (s : Slot-F Slot) (r : Result Content E) → IfOk r (λ c. c ≡ element_content classes i s) → IsElement classes m i s → IfOk r (λ c. MayBeRead m c)
read-ok classes m i s (Ok c) is h = subst (λ x. MayBeRead m x) (sym is) (element-read classes m i s h)
read-ok classes m i s (Err e) is h = tt

pub got-some : {X : Type 0} (r : Option X) (x : X) (f : X → Slot) (xs : List Slot) (k : ℕ) → r ≡ Some x → IfSome r (λ s. slice_get xs k ≡ Some (f s)) → slice_get xs k ≡ Some (f x)
got-some r x f xs k e h = subst (λ q. IfSome q (λ s. slice_get xs k ≡ Some (f s))) e h
