-- What copies name is live.
use Rattle.std.proofs.Common.{◌≡◌, ◌<◌, ◌≤◌, ℕ, zero, suc, ◌+◌, cond, Bool, true, false, Option, None, Some, IsSome, List, [], ◌∷◌, ◌++◌, refl, ap, sym, subst, ◌∙◌, arith}
use Rattle.obj_kinds.specs.declared.name.ClassName.{ClassName}
use Rattle.schema_kinds.specs.declared.class.Class.{Class}
use Rattle.schema_kinds.specs.declared.prop.Prop.{Prop}
use Rattle.schema_kinds.specs.declared.kind.Kind.{Kind}
use Rattle.schema_kinds.specs.declared.kind.Kind.TheVariants as kind
use Rattle.schema_kinds.specs.declared.kind.Item.{Item}
use Rattle.schema_kinds.specs.declared.kind.Item.TheVariants as of
use Rattle.schema_kinds.specs.Classes.{class_of, props_of}
use Rattle.oref_table.specs.declared.slot.Slot.{Slot}
use Rattle.oref_table.specs.declared.slot.Slot.TheVariants.{rolls-Items}
use Rattle.oref_table.specs.declared.slot.Slot.TheOpen.{Slot-F}
use Rattle.oref_table.specs.declared.slot.Slot.TheViews.{out-Slot, roll-Slot, roll-out-Slot}
use Rattle.oref_table.specs.Memory.{Object, Memory, object_of, is_numbered, object_refs, refs_among}
use Rattle.oref_table.specs.Refs.{times, refs_of, refs_in}
use Rattle.oref_table.specs.Sound.{IsSound}
use Rattle.oref_table.proofs.Lowered.{times-append}
use Rattle.oref_table.proofs.RefLaws.{refs-items}
use Rattle.obj_shape.specs.Records.{items_of, slots_at, slots_part}
use Rattle.part_copies.specs.Copies.{Copies, copy_part_at, copy_element, copy_elements, copy_kind, copy_fields, copied_slots, copy_part}
use Rattle.part_copies.specs.Holding.{AreLive}
use Rattle.part_copies.proofs.HoldLaws.{live-front, live-back}

-- ---- what the slots of a live object name is live

refs-at : (os : List Object) (k : ℕ) (o : Object) (n : ℕ) → object_of k os ≡ Some o → times n (object_refs o) ≤ times n (refs_among os)
refs-at [] k o n e = absurd (cc)
refs-at (x ∷ os) k o n e = by (is_numbered k x) e (refs-at os k o n)
  where
    by : (b : Bool) → cond b (Some x) (object_of k os) ≡ Some o → (object_of k os ≡ Some o → times n (object_refs o) ≤ times n (refs_among os)) → times n (object_refs o) ≤ times n (refs_among (x ∷ os))
    by true g rest = let same : times n (object_refs x) ≡ times n (object_refs o) = let is : x ≡ o = cc in ap (λ (y : Object). times n (object_refs y)) is in omega (arith, times-append n (object_refs x) (refs_among os), same)
    by false g rest = omega (arith, times-append n (object_refs x) (refs_among os), rest g)

named-found : (m : Memory) (n : ℕ) → IsSound m → 0 < times n (refs_among m.objects) → IsSome (object_of n m.objects)
named-found m n s some = by (object_of n m.objects) refl
  where
    by : (x : Option Object) → object_of n m.objects ≡ x → IsSome (object_of n m.objects)
    by None e = absurd (let none : times n (refs_among m.objects) ≡ 0 = s.closed n e in omega (arith, some, none))
    by (Some o) e = subst (λ (x : Option Object). IsSome x) (sym e) refl

none-live : (m : Memory) → AreLive m []
unfolding AreLive
none-live m = λ n l. absurd (omega (arith, l))

pub object-live : (m : Memory) (k : ℕ) (o : Object) → IsSound m → object_of k m.objects ≡ Some o → AreLive m (refs_in o.slots)
unfolding AreLive
object-live m k o s e = λ n l. named-found m n s (omega (arith, l, refs-at m.objects k o n e))

slots-live : (m : Memory) (k : ℕ) → IsSound m → AreLive m (refs_in (slots_at m k))
slots-live m k s = by (object_of k m.objects) refl
  where
    by : (x : Option Object) → object_of k m.objects ≡ x → AreLive m (refs_in (slots_part x))
    by None e = none-live m
    by (Some o) e = object-live m k o s e

-- what is named one after the other
both-live : (m : Memory) (xs ys : List ℕ) → AreLive m xs → AreLive m ys → AreLive m (xs ++ ys)
unfolding AreLive
both-live m xs ys h k = λ n l. one (times n xs) (λ some. h n some) (λ none. k n (omega (arith, l, times-append n xs ys, none)))
  where
    one : {P : Type 0} (t : ℕ) → (0 < t → P) → (t ≡ 0 → P) → P
    one zero f g = g refl
    one (suc t) f g = f (omega arith)

module _ (m : Memory) (sound : IsSound m) (part : ClassName → List Slot → ℕ → Copies ℕ) (live : (c : ClassName) (slots : List Slot) (k : ℕ) → AreLive m (refs_in slots) → AreLive m (part c slots k).named) where
  at-live : (c : ClassName) (v : Slot-F Slot) (s : Slot) (k : ℕ) → AreLive m (refs_of s) → AreLive m (copy_part_at m part c v s k).named
  at-live c (Slot-F.To q) s k h = live c (slots_at m q.0) k (slots-live m q.0 sound)
  at-live c (Slot-F.Plain v) s k h = h
  at-live c (Slot-F.Target id) s k h = h
  at-live c (Slot-F.Items slots) s k h = h
  at-live c (Slot-F.Map pairs) s k h = h
  at-live c (Slot-F.Members os) s k h = h

  element-live : (i : Item) (s : Slot) (k : ℕ) → AreLive m (refs_of s) → AreLive m (copy_element m part i s k).named
  element-live (of.Serial c) s k h = at-live c (out-Slot s) s k h
  element-live of.Text s k h = h
  element-live of.Whole s k h = h
  element-live of.Truth s k h = h
  element-live (of.Ref c) s k h = h

  elements-live : (i : Item) (ss : List Slot) (k : ℕ) → AreLive m (refs_in ss) → AreLive m (copy_elements m part i ss k).named
  elements-live i [] k h = none-live m
  elements-live i (s ∷ ss) k h =
      let one = copy_element m part i s k in
      both-live m one.named (copy_elements m part i ss one.last).named (element-live i s k (live-front m (refs_of s) (refs_in ss) h)) (elements-live i ss one.last (live-back m (refs_of s) (refs_in ss) h))

  items-live : (s : Slot) → AreLive m (refs_of s) → AreLive m (refs_in (items_of (out-Slot s)))
  items-live s h = by (out-Slot s) refl
    where
      by : (v : Slot-F Slot) → out-Slot s ≡ v → AreLive m (refs_in (items_of v))
      by (Slot-F.Items slots) e =
          let is : refs_of s ≡ refs_in slots = ap refs_of (sym (roll-out-Slot s) ∙ ap roll-Slot e ∙ rolls-Items slots) ∙ refs-items slots in
          subst (λ rs. AreLive m rs) is h
      by (Slot-F.To q) e = none-live m
      by (Slot-F.Plain v) e = none-live m
      by (Slot-F.Target id) e = none-live m
      by (Slot-F.Map pairs) e = none-live m
      by (Slot-F.Members os) e = none-live m

  kind-live : (t : Kind) (s : Slot) (k : ℕ) → AreLive m (refs_of s) → AreLive m (copy_kind m part t s k).named
  kind-live kind.Text s k h = h
  kind-live kind.Whole s k h = h
  kind-live kind.Truth s k h = h
  kind-live (kind.Ref c) s k h = h
  kind-live (kind.Serial c) s k h = at-live c (out-Slot s) s k h
  kind-live (kind.ListOf i) s k h = elements-live i (items_of (out-Slot s)) k (items-live s h)
  kind-live (kind.ArrayOf i) s k h = none-live m
  kind-live (kind.Many c side) s k h = none-live m
  kind-live (kind.One c side) s k h = h

  fields-live : (ps : List Prop) (ss : List Slot) (k : ℕ) → AreLive m (refs_in ss) → AreLive m (copy_fields m part ps ss k).named
  fields-live [] ss k h = none-live m
  fields-live (p ∷ ps) [] k h = none-live m
  fields-live (p ∷ ps) (s ∷ ss) k h =
      let one = copy_kind m part p.kind s k in
      both-live m one.named (copy_fields m part ps ss one.last).named (kind-live p.kind s k (live-front m (refs_of s) (refs_in ss) h)) (fields-live ps ss one.last (live-back m (refs_of s) (refs_in ss) h))

slots-named : (n : ℕ) (classes : List Class) (m : Memory) (level : ℕ) → IsSound m → (c : ClassName) (ss : List Slot) (k : ℕ) → AreLive m (refs_in ss) → AreLive m (copied_slots n classes m level c ss k).named
slots-named zero classes m level s c ss k h = none-live m
slots-named (suc n) classes m level s c ss k h =
    fields-live m s (copy_part n classes m level) (λ d ts j g. slots-named n classes m level s d ts (j + 1) g) (props_of (class_of classes c)) ss k h

pub part-named : (n : ℕ) (classes : List Class) (m : Memory) (level : ℕ) → IsSound m → (c : ClassName) (ss : List Slot) (k : ℕ) → AreLive m (refs_in ss) → AreLive m (copy_part n classes m level c ss k).named
part-named n classes m level s c ss k h = slots-named n classes m level s c ss (k + 1) h
