-- What memory is once a part among the elements of an array has an object.
use Rattle.std.proofs.Common.{◌≡◌, ℕ, ◌+◌, Option, None, Some, IfOk, Result, Ok, Err, List, [], ◌∷◌, ◌++◌, cond, Bool, true, false, slice_get, refl, ap, sym, subst, ◌∙◌}
use Rattle.std.specs.FinMap.{find, put}
use Rattle.std.specs.Ordering.{eq_by_cmp}
use Rattle.obj_kinds.specs.declared.name.ClassName.{ClassName}
use Rattle.obj_kinds.specs.declared.sub.Sub.{Sub}
use Rattle.obj_kinds.specs.SubOrder.{sub_cmp}
use Rattle.schema_kinds.specs.declared.class.Class.{Class}
use Rattle.schema_kinds.specs.declared.kind.Item.{Item}
use Rattle.record_layout.specs.Inverse.{EachGood}
use Rattle.oref_table.specs.declared.oref.Held.{Held}
use Rattle.oref_table.specs.declared.slot.Slot.{Slot}
use Rattle.oref_table.specs.declared.slot.Slot.TheVariants.{Map, To}
use Rattle.oref_table.specs.declared.slot.Slot.TheViews.{out-Slot}
use Rattle.oref_table.specs.declared.fill.Fill.TheVariants as fill
use Rattle.oref_table.specs.declared.fill.Place.TheVariants as place
use Rattle.oref_table.specs.Memory.{Object, Memory, edited, fresh, loosed, tighten, with_object}
use Rattle.oref_table.specs.Dropping.{dropped}
use Rattle.oref_table.specs.Filling.{slot_from, passed, with_slot}
use Rattle.oref_table.specs.Places.{IsFilledTo}
use Rattle.obj_shape.specs.Fitting.{IsElement, IsPair}
use Rattle.obj_props.specs.declared.content.Content.{Content}
use Rattle.obj_props.specs.declared.got.Got.{Got}
use Rattle.obj_props.specs.Properties.{alone, element_content, gives, part_made, read_of}
use Rattle.obj_props.proofs.PartLaws.{old-found, same-slots}
use Rattle.prop_setting.specs.Arrays.{ArrayReads, IsArrayAt, PairReads}
use Rattle.prop_setting.proofs.ArrayLaws.{pair-bare, put-filled}

-- ---- the array is still there

array-stays : (m : Memory) (x : Object) (k : ℕ) (f : Object → Object) (n at : ℕ) (pairs : List (Sub × Slot)) → ((o : Object) → (f o).number ≡ o.number) → ((o : Object) → (f o).slots ≡ o.slots) → IsArrayAt m n at pairs
    → IsArrayAt (edited (with_object m x) k f) n at pairs
unfolding edited with_object
array-stays m x k f n at pairs num slots h =
    let u = same-slots k f num slots (m.objects ++ x ∷ []) n h.0 (old-found m.objects x n h.0 h.1) in
    (u.0, u.1, ap (λ ss. slice_get ss at) u.2 ∙ h.2)

pub array-held : (m m1 m2 : Memory) (class : ClassName) (extent : Option ClassName) (level : ℕ) (slots : List Slot) (number n at : ℕ) (pairs : List (Sub × Slot))
    → m1 ≡ with_object m (fresh m class extent None level slots) → m2 ≡ edited m1 number tighten → IsArrayAt m n at pairs → IsArrayAt m2 n at pairs
array-held m m1 m2 class extent level slots number n at pairs made held h =
    subst (λ (x : Memory). IsArrayAt x n at pairs) (sym (held ∙ ap (λ x. edited x number tighten) made))
    (array-stays m (fresh m class extent None level slots) number tighten n at pairs (λ o. refl) (λ o. refl) h)

-- ---- the three steps of a new part

part-filled : (m w : Memory) (n at q : ℕ) (k : Sub) (h : Held) (pairs : List (Sub × Slot)) → h.number ≡ q → IsFilledTo m w n (place.Pair at k) (fill.To h) → IsArrayAt m n at pairs
    → w ≡ dropped (loosed (edited m n (with_slot at (Map (put sub_cmp k (To (record { 0 = q })) pairs)))) (q ∷ []))
unfolding slot_from passed
part-filled m w n at q k h pairs e filled array =
    pair-bare m w n at k (fill.To h) pairs filled array
    ∙ ap (λ xs. dropped (loosed (edited m n (with_slot at (Map xs))) (h.number ∷ []))) (put-filled k (fill.To h) pairs (λ z. absurd (cc)))
    ∙ ap (λ j. dropped (loosed (edited m n (with_slot at (Map (put sub_cmp k (To (record { 0 = j })) pairs)))) (j ∷ []))) e

pub pair-part : (m m1 m2 w : Memory) (class : ClassName) (extent : Option ClassName) (level : ℕ) (slots : List Slot) (n at number : ℕ) (k : Sub) (again : Held) (pairs : List (Sub × Slot))
    → m1 ≡ with_object m (fresh m class extent None level slots) → number ≡ m.last + 1 → m2 ≡ edited m1 number tighten → again.number ≡ number → IsFilledTo m2 w n (place.Pair at k) (fill.To again)
    → IsArrayAt m n at pairs → w ≡ part_made m n level at class extent slots (Map (put sub_cmp k (To (record { 0 = m.last + 1 })) pairs))
pair-part m m1 m2 w class extent level slots n at number k again pairs made num held same filled array =
    let slot : Slot = Map (put sub_cmp k (To (record { 0 = m.last + 1 })) pairs) in
    part-filled m2 w n at (m.last + 1) k again pairs (same ∙ num) filled (array-held m m1 m2 class extent level slots number n at pairs made held array)
    ∙ ap (λ x. dropped (loosed (edited x n (with_slot at slot)) ((m.last + 1) ∷ [])))
    (held ∙ ap (λ x. edited x number tighten) made ∙ ap (λ j. edited (with_object m (fresh m class extent None level slots)) j tighten) num)

-- ---- what a read of an element answers

pub found-fits : (classes : List Class) (m : Memory) (i : Item) (k : Sub) (s : Slot) (pairs : List (Sub × Slot)) → EachGood (IsPair classes m i) pairs → find sub_cmp k pairs ≡ Some s → IsElement classes m i (out-Slot s)
found-fits classes m i k s [] h e = absurd (cc)
found-fits classes m i k s (p ∷ ps) h e = by (eq_by_cmp sub_cmp k p.0) e (found-fits classes m i k s ps h.1)
  where
    by : (b : Bool) → cond b (Some p.1) (find sub_cmp k ps) ≡ Some s → (find sub_cmp k ps ≡ Some s → IsElement classes m i (out-Slot s)) → IsElement classes m i (out-Slot s)
    by true e rest = let same : p.1 ≡ s = cc in subst (λ x. IsElement classes m i (out-Slot x)) same h.0.1
    by false e rest = rest e

pub none-read : (classes : List Class) (m new : Memory) (n at level : ℕ) (i : Item) (pairs : List (Sub × Slot)) (k : Sub) (g : Got) → find sub_cmp k pairs ≡ None → PairReads classes m n at level i pairs k None g new → ArrayReads classes m n at level i pairs k g new
none-read classes m new n at level i pairs k g none h = subst (λ x. PairReads classes m n at level i pairs k x g new) (sym none) h

pub pair-read : {E : Type 0} (classes : List Class) (m w : Memory) (n at at1 level level1 : ℕ) (i i1 : Item) (pairs : List (Sub × Slot)) (k : Sub) (s : Slot) (content : Content) (r : Result Got E) → at1 ≡ at → i1 ≡ i → level ≡ level1 → find sub_cmp k pairs ≡ Some s
    → content ≡ element_content classes i1 (out-Slot s)
    → IfOk r (λ g. read_of classes m n level1 at1 (λ q. Map (put sub_cmp k (alone q) pairs)) content ≡ gives g w) → IfOk r (λ g. ArrayReads classes m n at level i pairs k g w)
pair-read classes m w n at at1 level level1 i i1 pairs k s content (Err e) a b l found is h = tt
pair-read classes m w n at at1 level level1 i i1 pairs k s content (Ok g) a b l found is h =
    let put_ : ℕ → Slot = λ q. Map (put sub_cmp k (alone q) pairs) in
    subst (λ x. PairReads classes m n at level i pairs k x g w) (sym found)
    (ap (λ v. read_of classes m n v at put_ (element_content classes i (out-Slot s))) l
    ∙ ap (λ p. read_of classes m n level1 p put_ (element_content classes i (out-Slot s))) (sym a)
    ∙ ap (λ j. read_of classes m n level1 at1 put_ (element_content classes j (out-Slot s))) (sym b)
    ∙ ap (λ x. read_of classes m n level1 at1 put_ x) (sym is)
    ∙ h)
