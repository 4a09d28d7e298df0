-- A part that is copied.
use Rattle.std.proofs.Common.{◌≡◌, ◌<◌, ◌≤◌, ℕ, ◌+◌, ◌==◌, true, Option, None, Some, List, [], ◌∷◌, Result, Ok, Err, IfOk, OnErr, refl, ap, sym, subst, ◌∙◌, arith}
use Rattle.std.proofs.lemmas.Bool.{eq-eqb}
use Rattle.std.specs.Option.{option_map}
use Rattle.schema_kinds.specs.declared.class.Class.{Class}
use Rattle.schema_kinds.specs.Classes.{class_of, props_of}
use Rattle.record_layout.specs.Inverse.{AreGood}
use Rattle.oref_table.specs.declared.obj.Obj.{Obj}
use Rattle.oref_table.specs.Kept.{as_kept}
use Rattle.oref_table.specs.Making.{refs_of_new, with_all}
use Rattle.oref_table.specs.Memory.{Object, Memory, object_of, loosed, outside_of}
use Rattle.oref_table.specs.Refs.{times}
use Rattle.oref_table.specs.Sound.{IsSound}
use Rattle.oref_table.specs.declared.oref.Held.{Held}
use Rattle.oref_table.specs.declared.slot.Slot.{Slot}
use Rattle.obj_shape.specs.Fitting.{IsSlotOf, TableFits}
use Rattle.obj_shape.proofs.FitLaws.{fits-at}
use Rattle.part_copies.specs.declared.make.PartCopy.{PartCopy}
use Rattle.part_copies.specs.Copies.{Copies, with_copies}
use Rattle.part_copies.specs.Holding.{AreLive, tightened}
use Rattle.part_copies.specs.Making.{AreCopies, IsCopied, IsWholly, copy_of}
use Rattle.obj_shape.specs.Wholeness.{IsWhole}
use Rattle.part_copies.proofs.FitCopies.{copies-fit}
use Rattle.part_copies.proofs.NamedLaws.{object-live, part-named}
use Rattle.part_copies.proofs.NewLaws.{copied-memory, copies-outside, enough}
use Rattle.part_copies.proofs.SumLaws.{part-adds}

-- the object of the number as the table tells it
pub kept-object : (m : Memory) (n : ℕ) (v : Obj) → Some v ≡ option_map (as_kept m.objects) (object_of n m.objects) → (o : Object) × (object_of n m.objects ≡ Some o) × (v ≡ as_kept m.objects o)
kept-object m n v is = by (object_of n m.objects) refl is
  where
    by : (x : Option Object) → object_of n m.objects ≡ x → Some v ≡ option_map (as_kept m.objects) x → (o : Object) × (object_of n m.objects ≡ Some o) × (v ≡ as_kept m.objects o)
    by None e h = absurd (cc)
    by (Some o) e h = let same : v ≡ as_kept m.objects o = cc in (o, e, same)

pub kept_good : (classes : List Class) (m : Memory) (n : ℕ) (v : Obj) (xs : List Slot) → TableFits classes m → Some v ≡ option_map (as_kept m.objects) (object_of n m.objects) → xs ≡ v.slots → AreGood (IsSlotOf classes m) (props_of (class_of classes v.class)) xs
kept_good classes m n v xs fits is slots =
    let o = kept-object m n v is in
    subst (λ ss. AreGood (IsSlotOf classes m) (props_of (class_of classes v.class)) ss) (sym slots)
    (subst (λ (u : Obj). AreGood (IsSlotOf classes m) (props_of (class_of classes u.class)) u.slots) (sym o.2) (fits-at classes m n o.0 fits o.1).slots)

pub are-copies : (classes : List Class) (m : Memory) (level n : ℕ) (o : Object) → IsSound m → object_of n m.objects ≡ Some o → AreCopies m (copy_of classes m level o)
are-copies classes m level n o s e = record {
  adds = part-adds 4 classes m level o.class o.slots m.last;
  first = refl;
  live = part-named 4 classes m level s o.class o.slots m.last (object-live m n o s e);
  sound = s;
  some = (_, _, refl);
}

pub named-live : (m : Memory) (c : Copies ℕ) (copy : PartCopy) → AreCopies m c → IsWholly c copy → AreLive m copy.made.named.items
named-live m c copy are whole = subst (λ ns. AreLive m ns) (sym whole.named) are.live

pub enough-held : (m m1 : Memory) (c : Copies ℕ) (copy : PartCopy) → AreCopies m c → IsWholly c copy → m1 ≡ tightened m copy.made.named.items → (n : ℕ) → times n (refs_of_new copy.made.objects.items) ≤ outside_of (with_all m1 copy.made.objects.items) n
enough-held m m1 c copy are whole held n =
    let tight : m1 ≡ tightened m c.named = held ∙ ap (tightened m) whole.named in
    let all : times n (refs_of_new c.made) ≤ outside_of (with_all m1 c.made) n = subst (λ (x : Memory). times n (refs_of_new c.made) ≤ outside_of (with_all x c.made) n) (sym tight) (enough m c are n) in
    subst (λ ns. times n (refs_of_new ns) ≤ outside_of (with_all m1 ns) n) (sym whole.objects) all

pub made-memory : (m m1 m2 : Memory) (c : Copies ℕ) (copy : PartCopy) → AreCopies m c → IsWholly c copy → m1 ≡ tightened m copy.made.named.items → m2 ≡ loosed (with_all m1 copy.made.objects.items) (refs_of_new copy.made.objects.items) → m2 ≡ with_copies m c
made-memory m m1 m2 c copy are whole held made =
    copied-memory m m1 m2 c are (held ∙ ap (tightened m) whole.named) (made ∙ ap (λ ns. loosed (with_all m1 ns) (refs_of_new ns)) whole.objects)

pub made-outside : (m w : Memory) (c : Copies ℕ) (copy : PartCopy) → AreCopies m c → IsWholly c copy → w ≡ with_copies m c → (k : ℕ) → outside_of w k ≡ outside_of m k + times k (copy.number ∷ [])
made-outside m w c copy are whole is k =
    ap (λ (x : Memory). outside_of x k) is ∙ copies-outside m c are.some.0 are.some.1 are.sound are.some.2 k ∙ ap (λ n. outside_of m k + times k (n ∷ [])) (sym (whole.number ∙ are.first))

pub made-held : (m w : Memory) (c : Copies ℕ) (copy : PartCopy) → AreCopies m c → IsWholly c copy → w ≡ with_copies m c → 0 < outside_of w copy.number
made-held m w c copy are whole is =
    let one : times copy.number (copy.number ∷ []) ≡ 1 = let on : (copy.number == copy.number) ≡ true = eq-eqb copy.number copy.number refl in rw on refl in
    omega (arith, made-outside m w c copy are whole is copy.number, one)

pub ok-copied : {E : Type 0} (classes : List Class) (m w : Memory) (level n : ℕ) (o : Object) (r : Result Held E) → object_of n m.objects ≡ Some o → IfOk r (λ h. (w ≡ with_copies m (copy_of classes m level o)) × (h.number ≡ (copy_of classes m level o).copy))
    → IfOk r (λ h. IsCopied classes m level n w h.number)
ok-copied classes m w level n o (Ok h) e is = (o, e, is.0, is.1)
ok-copied classes m w level n o (Err x) e is = tt

pub copied-fits : {E : Type 0} (classes : List Class) (m w : Memory) (level n : ℕ) (o : Object) (r : Result Held E) → IsWhole classes → level ≤ 4 → IsSound m → TableFits classes m → object_of n m.objects ≡ Some o
    → IfOk r (λ h. (w ≡ with_copies m (copy_of classes m level o)) × (h.number ≡ (copy_of classes m level o).copy)) → OnErr r (w ≡ m) → TableFits classes w
copied-fits classes m w level n o (Ok h) whole few s fits e is err = subst (λ (x : Memory). TableFits classes x) (sym is.0) (copies-fit classes m level n o whole few s fits e).0
copied-fits classes m w level n o (Err x) whole few s fits e is err = subst (λ (x : Memory). TableFits classes x) (sym err) fits
