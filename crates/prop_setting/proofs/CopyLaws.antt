-- A part that is set to a copy.
use Rattle.std.proofs.Common.{◌≡◌, ◌<◌, ◌≤◌, ℕ, ◌+◌, ◌-◌, ◌==◌, true, Option, None, Some, List, [], ◌∷◌, Result, Ok, Err, IfErr, OnOk, refl, ap, sym, subst, ◌∙◌, arith}
use Rattle.std.proofs.lemmas.Bool.{eq-eqb}
use Rattle.std.specs.Option.{IsSomeAnd}
use Rattle.obj_kinds.specs.declared.name.ClassName.{ClassName}
use Rattle.obj_kinds.specs.declared.error_name.ErrorName.{ErrorName}
use Rattle.obj_kinds.specs.declared.error_name.ErrorName.TheVariants as error
use Rattle.schema_kinds.specs.declared.class.Class.{Class}
use Rattle.schema_kinds.specs.declared.kind.Item.TheVariants as of
use Rattle.record_layout.specs.Shapes.{single}
use Rattle.oref_table.specs.declared.oref.Held.{Held}
use Rattle.oref_table.specs.declared.slot.Slot.TheVariants.{To}
use Rattle.oref_table.specs.declared.fill.Fill.{Fill}
use Rattle.oref_table.specs.declared.fill.Fill.TheVariants as fill
use Rattle.oref_table.specs.Memory.{Object, Memory, object_of, outside_of}
use Rattle.oref_table.specs.Refs.{times}
use Rattle.oref_table.specs.Sound.{IsSound}
use Rattle.oref_table.specs.Filling.{IsHeldFor, slot_from, passed}
use Rattle.obj_shape.specs.Fitting.{IsClassFor, IsElement, TableFits}
use Rattle.obj_shape.specs.Records.{slots_part}
use Rattle.obj_shape.specs.Wholeness.{IsWhole}
use Rattle.obj_props.specs.Changes.{HasSlot, let_gone}
use Rattle.obj_props.specs.Contents.{IsLack}
use Rattle.obj_props.specs.declared.got.ShapeError.{ShapeError}
use Rattle.obj_props.specs.declared.got.ShapeError.TheVariants.{Script, Lack}
use Rattle.part_copies.specs.Copies.{copy_part, first_held, objects_from, with_copies}
use Rattle.part_copies.specs.Making.{IsCopied, copy_of}
use Rattle.part_copies.proofs.FitCopies.{copies-fit}
use Rattle.part_copies.proofs.NewLaws.{found-front}
use Rattle.part_copies.proofs.CopyLaws.{out-To}
use Rattle.prop_setting.specs.Elements.{MayStand, ObjectTakes, copy_standing, given_back, part_standing, slot_set, stood}
use Rattle.prop_setting.specs.Fits.{IsSlotOfForm, TakesSlot}
use Rattle.prop_setting.specs.Sets.{Tells}
use Rattle.prop_setting.proofs.TakeLaws.{takes-slot}

-- the same object is found
same-object : (m : Memory) (n : ℕ) (o p : Object) → object_of n m.objects ≡ Some o → object_of n m.objects ≡ Some p → o ≡ p
same-object m n o p e f = let both : Some o ≡ Some p = sym e ∙ f in cc

pub stands-live : (classes : List Class) (m : Memory) (c : ClassName) (n : ℕ) → MayStand classes m (of.Serial c) n → (o : Object) × (object_of n m.objects ≡ Some o) × (o.class ≡ c)
stands-live classes m c n h = by (object_of n m.objects) refl h
  where
    by : (x : Option Object) → object_of n m.objects ≡ x → IsSomeAnd x (λ o. IsClassFor classes (of.Serial c) o.class) → (o : Object) × (object_of n m.objects ≡ Some o) × (o.class ≡ c)
    by None e k = absurd k
    by (Some o) e k = (o, e, k)

-- ---- behind the copy

pub slot-behind : (classes : List Class) (m w : Memory) (level k n at number : ℕ) → IsCopied classes m level k w number → HasSlot m n at → HasSlot w n at
slot-behind classes m w level k n at number c h =
    (h.0, h.1, ap (λ (x : Memory). object_of n x.objects) c.2 ∙ found-front n m.objects (first_held (objects_from m.last (copy_of classes m level c.0).made)) h.0 h.2, h.3)

pub copy-held : (m w : Memory) (h : Held) → ((k : ℕ) → outside_of w k ≡ outside_of m k + times k (h.number ∷ [])) → IsHeldFor w (fill.To h)
unfolding IsHeldFor
copy-held m w h holds = let one : 0 < times h.number (h.number ∷ []) = itself h.number in omega (arith, holds h.number, one)
  where
    itself : (n : ℕ) → 0 < times n (n ∷ [])
    itself n = let on : (n == n) ≡ true = eq-eqb n n refl in rw on (omega arith)

pub given-held : (m w x : Memory) (n : ℕ) (h : Held) → ((k : ℕ) → outside_of w k ≡ outside_of m k + times k (h.number ∷ [])) → ((k : ℕ) → outside_of x k ≡ outside_of w k - times k (passed (fill.To h))) → 0 < outside_of m n → 0 < outside_of x n
unfolding passed
given-held m w x n h more less some = omega (arith, more n, less n, some)

-- ---- what memory is

pub copy-stands : (classes : List Class) (m w x y : Memory) (level n at : ℕ) (held copy : Held) (o : Object) → object_of held.number m.objects ≡ Some o → IsCopied classes m level held.number w copy.number
    → x ≡ slot_set w n at (slot_from (fill.To copy)) (passed (fill.To copy)) → y ≡ given_back x (Some held) → y ≡ stood n at (λ s. s) (copy_standing m (copy_of classes m level o) held)
copy-stands classes m w x y level n at held copy o e c put gone =
    let same : c.0 ≡ o = same-object m held.number c.0 o c.1 e in
    let memory : w ≡ with_copies m (copy_of classes m level o) = c.2 ∙ ap (λ (p : Object). with_copies m (copy_of classes m level p)) same in
    let number : copy ≡ record { number = (copy_of classes m level o).copy } = ap (λ k. record { number = k }) (c.3 ∙ ap (λ (p : Object). (copy_of classes m level p).copy) same) in
    gone ∙ ap (λ z. given_back z (Some held))
    (put ∙ ap (λ (z : Memory). slot_set z n at (slot_from (fill.To copy)) (passed (fill.To copy))) memory
    ∙ ap (λ (h : Held). slot_set (with_copies m (copy_of classes m level o)) n at (slot_from (fill.To h)) (passed (fill.To h))) number)

part-stood : (classes : List Class) (m : Memory) (level n at : ℕ) (c : ClassName) (h : Held) (o : Object) → object_of h.number m.objects ≡ Some o → o.class ≡ c
    → stood n at (λ s. s) (copy_standing m (copy_of classes m level o) h) ≡ stood n at (λ s. s) (part_standing classes m level c (fill.To h))
part-stood classes m level n at c h o e is =
    ap (λ d. stood n at (λ s. s) (copy_standing m (copy_part 4 classes m level d o.slots m.last) h)) is
    ∙ ap (λ ss. stood n at (λ s. s) (copy_standing m (copy_part 4 classes m level c ss m.last) h)) (sym (ap slots_part e))

pub part_copied : {X E : Type 0} (classes : List Class) (m w : Memory) (level n at : ℕ) (c : ClassName) (h : Held) (r : Result X E) → (s : MayStand classes m (of.Serial c) h.number)
    → ((o : Object) → object_of h.number m.objects ≡ Some o → OnOk r (w ≡ stood n at (λ s. s) (copy_standing m (copy_of classes m level o) h)))
    → OnOk r (MayStand classes m (of.Serial c) h.number × (w ≡ stood n at (λ s. s) (part_standing classes m level c (fill.To h))))
part_copied classes m w level n at c h (Ok x) s is =
    let o = stands-live classes m c h.number s in
    (s, is o.0 o.1 ∙ part-stood classes m level n at c h o.0 o.1 o.2)
part_copied classes m w level n at c h (Err x) s is = tt

pub part_lacks : {X : Type 0} (P : ErrorName → Type 0) (m w : Memory) (h : Held) (r : Result X ShapeError) → IfErr r (λ e. (w ≡ given_back m (Some h)) × IsLack e) → IfErr r (λ e. (w ≡ given_back m (Some h)) × Tells P e)
part_lacks P m w h (Ok x) is = tt
part_lacks P m w h (Err (Script n)) is = absurd is.1
part_lacks P m w h (Err (Lack l)) is = (is.0, tt)

pub part_set : {X E : Type 0} (classes : List Class) (m w : Memory) (level n at : ℕ) (c : ClassName) (f : Fill) (h : Held) (r : Result X E) → f ≡ fill.To h
    → OnOk r (MayStand classes m (of.Serial c) h.number × (w ≡ stood n at (λ s. s) (part_standing classes m level c (fill.To h))))
    → OnOk r (ObjectTakes classes m (of.Serial c) f × (w ≡ stood n at (λ s. s) (part_standing classes m level c f)))
part_set classes m w level n at c f h (Ok x) e is = subst (λ (g : Fill). ObjectTakes classes m (of.Serial c) g × (w ≡ stood n at (λ s. s) (part_standing classes m level c g))) (sym e) is
part_set classes m w level n at c f h (Err x) e is = tt

let_gone-object : (m : Memory) (h : Held) → given_back m (Some h) ≡ let_gone m (fill.To h)
unfolding let_gone given_back
let_gone-object m h = refl

pub part_refused : {X : Type 0} (classes : List Class) (m w : Memory) (c : ClassName) (f : Fill) (h : Held) (r : Result X ShapeError) → f ≡ fill.To h
    → IfErr r (λ e. (w ≡ given_back m (Some h)) × Tells (λ n. (¬ MayStand classes m (of.Serial c) h.number) × (n ≡ error.CannotSetThisProperty)) e)
    → IfErr r (λ e. (w ≡ let_gone m f) × Tells (λ n. (¬ ObjectTakes classes m (of.Serial c) f) × (n ≡ error.CannotSetThisProperty)) e)
part_refused classes m w c f h (Ok x) e is = tt
part_refused classes m w c f h (Err x) e is =
    subst (λ (g : Fill). (w ≡ let_gone m g) × Tells (λ n. (¬ ObjectTakes classes m (of.Serial c) g) × (n ≡ error.CannotSetThisProperty)) x) (sym e) (is.0 ∙ let_gone-object m h, is.1)

-- ---- it fits

pub takes-copy : (classes : List Class) (m w : Memory) (level n at : ℕ) (held copy : Held) (o : Object) → IsWhole classes → level ≤ 4 → IsSound m → TableFits classes m → object_of held.number m.objects ≡ Some o
    → IsCopied classes m level held.number w copy.number → IsSlotOfForm classes m n at (single (of.Serial o.class)) → TakesSlot classes w n at (slot_from (fill.To copy))
unfolding slot_from
takes-copy classes m w level n at held copy o whole few s fits e c slot =
    let same : c.0 ≡ o = same-object m held.number c.0 o c.1 e in
    let memory : w ≡ with_copies m (copy_of classes m level o) = c.2 ∙ ap (λ (p : Object). with_copies m (copy_of classes m level p)) same in
    let number : copy.number ≡ m.last + 1 = c.3 in
    let named : IsSomeAnd (object_of copy.number w.objects) (λ t. t.class ≡ o.class) =
    subst (λ (z : Memory). IsSomeAnd (object_of copy.number z.objects) (λ t. t.class ≡ o.class)) (sym memory)
    (subst (λ k. IsSomeAnd (object_of k (with_copies m (copy_of classes m level o)).objects) (λ t. t.class ≡ o.class)) (sym number) (copies-fit classes m level held.number o whole few s fits e).1) in
    let there : object_of n w.objects ≡ Some slot.0 = ap (λ (z : Memory). object_of n z.objects) c.2 ∙ found-front n m.objects (first_held (objects_from m.last (copy_of classes m level c.0).made)) slot.0 slot.2 in
    takes-slot classes w n at (single (of.Serial o.class)) (To (record { 0 = copy.number })) (slot.0, slot.1, there, slot.3, slot.4)
    (subst (λ y. IsElement classes w (of.Serial o.class) y) (sym (out-To (record { 0 = copy.number }))) named)

pub slot-of-class : (classes : List Class) (m : Memory) (n at : ℕ) (c d : ClassName) → d ≡ c → IsSlotOfForm classes m n at (single (of.Serial c)) → IsSlotOfForm classes m n at (single (of.Serial d))
slot-of-class classes m n at c d e h = subst (λ x. IsSlotOfForm classes m n at (single (of.Serial x))) (sym e) h
