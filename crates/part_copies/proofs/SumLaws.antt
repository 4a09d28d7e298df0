-- The OREFs in copies add up.
use Rattle.std.proofs.Common.{◌≡◌, ℕ, zero, suc, ◌+◌, List, [], ◌∷◌, ◌++◌, length, refl, ap, sym, subst, ◌∙◌, arith, length-append}
use Rattle.std.proofs.lemmas.List.Concat.{flat_map-append}
use Rattle.obj_kinds.specs.declared.name.ClassName.{ClassName}
use Rattle.schema_kinds.specs.declared.class.Class.{Class}
use Rattle.schema_kinds.specs.declared.prop.Prop.{Prop}
use Rattle.schema_kinds.specs.declared.kind.Kind.{Kind}
use Rattle.schema_kinds.specs.declared.kind.Kind.TheVariants as kind
use Rattle.schema_kinds.specs.declared.kind.Item.{Item}
use Rattle.schema_kinds.specs.declared.kind.Item.TheVariants as of
use Rattle.schema_kinds.specs.Classes.{class_of, props_of}
use Rattle.oref_table.specs.declared.obj.NewObj.{NewObj}
use Rattle.oref_table.specs.declared.slot.Slot.{Slot}
use Rattle.oref_table.specs.declared.slot.Slot.TheOpen.{Slot-F}
use Rattle.oref_table.specs.declared.slot.Slot.TheViews.{out-Slot}
use Rattle.oref_table.specs.Memory.{Memory}
use Rattle.oref_table.specs.Making.{refs_of_new}
use Rattle.oref_table.specs.Refs.{times, refs_of, refs_in}
use Rattle.oref_table.proofs.Lowered.{times-append}
use Rattle.oref_table.proofs.RefLaws.{refs-to, refs-items, refs-map, refs-members}
use Rattle.obj_shape.specs.Records.{items_of, slots_at}
use Rattle.obj_props.proofs.ContentLaws.{empty-none}
use Rattle.part_copies.specs.Copies.{Copies, copy_part_at, copy_element, copy_elements, copy_kind, copy_fields, part_of, copied_slots, copy_part}
use Rattle.part_copies.specs.Sums.{AddsUp, numbers_from}

numbers-append : (start : ℕ) (xs ys : List NewObj) → numbers_from start (xs ++ ys) ≡ numbers_from start xs ++ numbers_from (start + length xs) ys
numbers-append start [] ys = ap (λ k. numbers_from k ys) (omega arith)
numbers-append start (x ∷ xs) ys =
    ap (λ ns. (start + 1) ∷ ns) (numbers-append (start + 1) xs ys ∙ ap (λ k. numbers_from (start + 1) xs ++ numbers_from k ys) (omega arith))

-- what stays as it is
as-is : (last : ℕ) (s : Slot) → AddsUp last last [] (refs_of s) (refs_of s)
as-is last s = record { long = omega arith; even = λ n. omega arith }

empty : (last : ℕ) (refs : List ℕ) → refs ≡ [] → AddsUp last last [] [] refs
empty last refs e = record { long = omega arith; even = λ n. omega (arith, ap (times n) e) }

-- one after the other
both : (a b d : ℕ) (xs ys : List NewObj) (ms ns rs ts : List ℕ) → AddsUp a b xs ms rs → AddsUp b d ys ns ts → AddsUp a d (xs ++ ys) (ms ++ ns) (rs ++ ts)
both a b d xs ys ms ns rs ts h k = record {
  long = omega (arith, h.long, k.long, length-append xs ys);
  even = λ n.
      let new : times n (refs_of_new (xs ++ ys)) ≡ times n (refs_of_new xs) + times n (refs_of_new ys)
      = ap (times n) (flat_map-append (λ (o : NewObj). refs_in o.slots) xs ys) ∙ times-append n (refs_of_new xs) (refs_of_new ys) in
      let numbers : times n (numbers_from a (xs ++ ys)) ≡ times n (numbers_from a xs) + times n (numbers_from b ys)
      = ap (times n) (numbers-append a xs ys) ∙ times-append n (numbers_from a xs) (numbers_from (a + length xs) ys) ∙ ap (λ j. times n (numbers_from a xs) + times n (numbers_from j ys)) (sym h.long) in
      omega (arith, new, numbers, times-append n rs ts, times-append n ms ns, h.even n, k.even n);
}

-- a part before what is in it
whole : (classes : List Class) (level : ℕ) (c : ClassName) (k : ℕ) (f : Copies (List Slot)) → AddsUp (k + 1) f.last f.made f.named (refs_in f.copy)
    → AddsUp k f.last (part_of classes level c (k + 1) f).made f.named ((k + 1) ∷ [])
whole classes level c k f h = record {
  long = omega (arith, h.long);
  even = λ n. omega (arith, h.even n, times-append n (refs_in f.copy) (refs_of_new f.made), times-append n ((k + 1) ∷ []) (numbers_from (k + 1) f.made));
}

module _ (m : Memory) (part : ClassName → List Slot → ℕ → Copies ℕ) (adds : (c : ClassName) (slots : List Slot) (k : ℕ) → AddsUp k (part c slots k).last (part c slots k).made (part c slots k).named ((part c slots k).copy ∷ [])) where
  at-adds : (c : ClassName) (v : Slot-F Slot) (s : Slot) (k : ℕ) → AddsUp k (copy_part_at m part c v s k).last (copy_part_at m part c v s k).made (copy_part_at m part c v s k).named (refs_of (copy_part_at m part c v s k).copy)
  at-adds c (Slot-F.To q) s k =
      let p = part c (slots_at m q.0) k in
      subst (λ rs. AddsUp k p.last p.made p.named rs) (sym (refs-to (record { 0 = p.copy }))) (adds c (slots_at m q.0) k)
  at-adds c (Slot-F.Plain v) s k = as-is k s
  at-adds c (Slot-F.Target id) s k = as-is k s
  at-adds c (Slot-F.Items slots) s k = as-is k s
  at-adds c (Slot-F.Map pairs) s k = as-is k s
  at-adds c (Slot-F.Members os) s k = as-is k s

  pub element-adds : (i : Item) (s : Slot) (k : ℕ) → AddsUp k (copy_element m part i s k).last (copy_element m part i s k).made (copy_element m part i s k).named (refs_of (copy_element m part i s k).copy)
  element-adds (of.Serial c) s k = at-adds c (out-Slot s) s k
  element-adds of.Text s k = as-is k s
  element-adds of.Whole s k = as-is k s
  element-adds of.Truth s k = as-is k s
  element-adds (of.Ref c) s k = as-is k s

  elements-add : (i : Item) (ss : List Slot) (k : ℕ) → AddsUp k (copy_elements m part i ss k).last (copy_elements m part i ss k).made (copy_elements m part i ss k).named (refs_in (copy_elements m part i ss k).copy)
  elements-add i [] k = empty k [] refl
  elements-add i (s ∷ ss) k =
      let one = copy_element m part i s k in
      let rest = copy_elements m part i ss one.last in
      both k one.last rest.last one.made rest.made one.named rest.named (refs_of one.copy) (refs_in rest.copy) (element-adds i s k) (elements-add i ss one.last)

  pub kind-adds : (t : Kind) (s : Slot) (k : ℕ) → AddsUp k (copy_kind m part t s k).last (copy_kind m part t s k).made (copy_kind m part t s k).named (refs_of (copy_kind m part t s k).copy)
  kind-adds kind.Text s k = as-is k s
  kind-adds kind.Whole s k = as-is k s
  kind-adds kind.Truth s k = as-is k s
  kind-adds (kind.Ref c) s k = as-is k s
  kind-adds (kind.Serial c) s k = at-adds c (out-Slot s) s k
  kind-adds (kind.ListOf i) s k =
      let all = copy_elements m part i (items_of (out-Slot s)) k in
      subst (λ rs. AddsUp k all.last all.made all.named rs) (sym (refs-items all.copy)) (elements-add i (items_of (out-Slot s)) k)
  kind-adds (kind.ArrayOf i) s k = empty k _ (refs-map [])
  kind-adds (kind.Many c side) s k = empty k _ (refs-members [])
  kind-adds (kind.One c side) s k = as-is k s

  fields-add : (ps : List Prop) (ss : List Slot) (k : ℕ) → AddsUp k (copy_fields m part ps ss k).last (copy_fields m part ps ss k).made (copy_fields m part ps ss k).named (refs_in (copy_fields m part ps ss k).copy)
  fields-add [] ss k = empty k [] refl
  fields-add (p ∷ ps) [] k = empty k [] refl
  fields-add (p ∷ ps) (s ∷ ss) k =
      let one = copy_kind m part p.kind s k in
      let rest = copy_fields m part ps ss one.last in
      both k one.last rest.last one.made rest.made one.named rest.named (refs_of one.copy) (refs_in rest.copy) (kind-adds p.kind s k) (fields-add ps ss one.last)

slots-add : (n : ℕ) (classes : List Class) (m : Memory) (level : ℕ) (c : ClassName) (ss : List Slot) (k : ℕ)
    → AddsUp k (copied_slots n classes m level c ss k).last (copied_slots n classes m level c ss k).made (copied_slots n classes m level c ss k).named (refs_in (copied_slots n classes m level c ss k).copy)
slots-add zero classes m level c ss k = empty k _ (empty-none (props_of (class_of classes c)))
slots-add (suc n) classes m level c ss k =
    fields-add m (copy_part n classes m level) (λ d ts j. whole classes level d j (copied_slots n classes m level d ts (j + 1)) (slots-add n classes m level d ts (j + 1))) (props_of (class_of classes c)) ss k

pub part-adds : (n : ℕ) (classes : List Class) (m : Memory) (level : ℕ) (c : ClassName) (ss : List Slot) (k : ℕ)
    → AddsUp k (copy_part n classes m level c ss k).last (copy_part n classes m level c ss k).made (copy_part n classes m level c ss k).named ((copy_part n classes m level c ss k).copy ∷ [])
part-adds n classes m level c ss k = whole classes level c k (copied_slots n classes m level c ss (k + 1)) (slots-add n classes m level c ss (k + 1))
