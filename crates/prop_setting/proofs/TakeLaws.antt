-- What fits where a slot is set.
use Rattle.std.proofs.Common.{◌≡◌, ◌<◌, ◌≤◌, ◌^◌, ℕ, suc, ◌&&◌, Bool, true, false, nat_le, IsTrue, List, [], ◌∷◌, ◌++◌, length, Option, None, Some, refl, ap, sym, subst, ◌∙◌, arith, length-append}
use Rattle.std.proofs.lemmas.Bool.Decides.{nat_tests}
use Rattle.std.proofs.lemmas.Fmt.{IsAscii-decimal, length-decimal-le}
use Rattle.std.specs.Fmt.{decimal}
use Rattle.std.specs.Char.{is_ascii}
use Rattle.std.specs.Str.{IsAscii}
use Rattle.std.specs.List.{list_all}
use Rattle.obj_kinds.specs.declared.name.ClassName.{ClassName}
use Rattle.obj_kinds.specs.declared.value.Value.{Value}
use Rattle.obj_kinds.specs.declared.value.Value.TheVariants as value
use Rattle.obj_kinds.specs.declared.value.Value.TheOpen.{Value-F}
use Rattle.obj_kinds.specs.declared.value.Value.TheViews.{out-Value, roll-Value, roll-out-Value}
use Rattle.obj_kinds.specs.Limits.{is_legal_text, is_legal_value}
use Rattle.obj_kinds.specs.Values.{all_texts, nested, weight}
use Rattle.obj_kinds.proofs.ValueLaws.{all_texts-Str, out-Str}
use Rattle.schema_kinds.specs.declared.class.Class.{Class}
use Rattle.schema_kinds.specs.declared.kind.Kind.{Kind}
use Rattle.schema_kinds.specs.declared.kind.Kind.TheVariants as kind
use Rattle.schema_kinds.specs.declared.kind.Item.{Item}
use Rattle.schema_kinds.specs.declared.kind.Item.TheVariants as of
use Rattle.record_layout.specs.Shapes.{Form, single, listed, keyed, form_of}
use Rattle.oref_table.specs.declared.oref.Oref.{Oref}
use Rattle.oref_table.specs.declared.oref.Held.{Held}
use Rattle.oref_table.specs.declared.slot.Slot.{Slot}
use Rattle.oref_table.specs.declared.slot.Slot.TheVariants.{Plain, Target, To, rolls-Plain, rolls-Target, rolls-To}
use Rattle.oref_table.specs.declared.slot.Slot.TheOpen.{Slot-F}
use Rattle.oref_table.specs.declared.slot.Slot.TheViews.{out-Slot, out-roll-Slot}
use Rattle.oref_table.specs.declared.fill.Fill.{Fill}
use Rattle.oref_table.specs.declared.fill.Fill.TheVariants as fill
use Rattle.oref_table.specs.Filling.{slot_from}
use Rattle.oref_table.specs.Memory.{Object, Memory, object_of}
use Rattle.obj_shape.specs.Elements.{IsPlain}
use Rattle.obj_shape.specs.Fitting.{IsElement, IsOfForm, IsOfKind, TableFits}
use Rattle.obj_shape.proofs.FitLaws.{fits-at}
use Rattle.prop_setting.specs.Elements.{IsText, MayStand, class_part, oref_text}
use Rattle.prop_setting.specs.Sets.{IsGiven}
use Rattle.prop_setting.specs.Fits.{AreNamed, IsSlotOfForm, IsSlotOfKind, IsValue, TakesSlot}
use Rattle.prop_setting.proofs.ElementLaws.{is-text}

-- ---- slots opened

out-Plain : (v : Value) → out-Slot (Plain v) ≡ Slot-F.Plain v
out-Plain v = ap out-Slot (sym (rolls-Plain v)) ∙ out-roll-Slot (Slot-F.Plain v)

out-Target : (id : Option (List ℕ)) → out-Slot (Target id) ≡ Slot-F.Target id
out-Target id = ap out-Slot (sym (rolls-Target id)) ∙ out-roll-Slot (Slot-F.Target id)

out-To : (o : Oref) → out-Slot (To o) ≡ Slot-F.To o
out-To o = ap out-Slot (sym (rolls-To o)) ∙ out-roll-Slot (Slot-F.To o)

-- ---- what is of a form is of its kind

form-kind : (classes : List Class) (m : Memory) (k : Kind) (f : Form) (s : Slot-F Slot) → form_of k ≡ Some f → IsOfForm classes m f s → IsOfKind classes m k s
form-kind classes m kind.Text f s e h = let same : single of.Text ≡ f = cc in subst (λ g. IsOfForm classes m g s) (sym same) h
form-kind classes m kind.Whole f s e h = let same : single of.Whole ≡ f = cc in subst (λ g. IsOfForm classes m g s) (sym same) h
form-kind classes m kind.Truth f s e h = let same : single of.Truth ≡ f = cc in subst (λ g. IsOfForm classes m g s) (sym same) h
form-kind classes m (kind.Ref c) f s e h = let same : single (of.Ref c) ≡ f = cc in subst (λ g. IsOfForm classes m g s) (sym same) h
form-kind classes m (kind.Serial c) f s e h = let same : single (of.Serial c) ≡ f = cc in subst (λ g. IsOfForm classes m g s) (sym same) h
form-kind classes m (kind.ListOf i) f s e h = let same : listed i ≡ f = cc in subst (λ g. IsOfForm classes m g s) (sym same) h
form-kind classes m (kind.ArrayOf i) f s e h = let same : keyed i ≡ f = cc in subst (λ g. IsOfForm classes m g s) (sym same) h
form-kind classes m (kind.Many c side) f s e h = absurd (cc)
form-kind classes m (kind.One c side) f s e h = let same : single (of.Ref c) ≡ f = cc in subst (λ g. IsOfForm classes m g s) (sym same) h

pub takes-slot : (classes : List Class) (m : Memory) (n at : ℕ) (form : Form) (slot : Slot) → IsSlotOfForm classes m n at form → IsOfForm classes m form (out-Slot slot) → TakesSlot classes m n at slot
takes-slot classes m n at form slot t h = (t.0, t.1, t.2, t.3, form-kind classes m t.1.kind form (out-Slot slot) t.4 h)

pub slot-of-form : (classes : List Class) (m : Memory) (n at : ℕ) (k : Kind) (f : Form) → form_of k ≡ Some f → IsSlotOfKind classes m n at k → IsSlotOfForm classes m n at f
slot-of-form classes m n at k f e t = (t.0, t.1, t.2, t.3, ap form_of t.4 ∙ e)

-- ---- a value

second-true : (a b : Bool) → (a && b) ≡ true → b ≡ true
second-true true b h = h
second-true false b h = absurd (let e : false ≡ true = h in cc)

pub legal-plain : (v : Value) → IsTrue (is_legal_value v) → IsText (out-Value v) → IsPlain (out-Value v)
unfolding is_legal_value
legal-plain v legal h = by (out-Value v) refl h
  where
    by : (o : Value-F Value) → out-Value v ≡ o → IsText o → IsPlain o
    by (Value-F.Str t) e h =
        let is : v ≡ value.Str t = sym (roll-out-Value v) ∙ ap roll-Value e ∙ value.rolls-Str t in
        let all : all_texts is_legal_text v ≡ true = second-true (nested v 16 && nat_le (weight v) 32767) (all_texts is_legal_text v) legal in
        sym (all_texts-Str is_legal_text t) ∙ ap (all_texts is_legal_text) (sym is) ∙ all
    by (Value-F.List vs) e h = absurd h

pub plain-element : (classes : List Class) (m : Memory) (i : Item) (v : Value) → IsValue i → IsPlain (out-Value v) → IsElement classes m i (out-Slot (Plain v))
plain-element classes m of.Text v k h = subst (λ s. IsElement classes m of.Text s) (sym (out-Plain v)) h
plain-element classes m of.Whole v k h = subst (λ s. IsElement classes m of.Whole s) (sym (out-Plain v)) h
plain-element classes m of.Truth v k h = subst (λ s. IsElement classes m of.Truth s) (sym (out-Plain v)) h
plain-element classes m (of.Ref c) v k h = absurd k
plain-element classes m (of.Serial c) v k h = absurd k

pub takes-plain : (classes : List Class) (m : Memory) (n at : ℕ) (i : Item) (v : Value) → IsSlotOfForm classes m n at (single i) → IsValue i → IsPlain (out-Value v) → TakesSlot classes m n at (Plain v)
takes-plain classes m n at i v t k h = takes-slot classes m n at (single i) (Plain v) t (plain-element classes m i v k h)

pub takes-given : (classes : List Class) (m : Memory) (n at : ℕ) (i : Item) (f : Fill) (v : Value) → f ≡ fill.Plain v → IsSlotOfForm classes m n at (single i) → IsValue i → IsGiven f → IsText (out-Value v) → TakesSlot classes m n at (Plain v)
unfolding IsGiven
takes-given classes m n at i f v e t k given text =
    let legal : IsGiven (fill.Plain v) = subst (λ (g : Fill). IsGiven g) e given in
    takes-plain classes m n at i v t k (legal-plain v legal text)

pub takes-text : (classes : List Class) (m : Memory) (n at : ℕ) (v : Value) (text : List ℕ) → v ≡ value.Str text → (IsText (out-Value v) → TakesSlot classes m n at (Plain v)) → TakesSlot classes m n at (slot_from (fill.Plain (value.Str text)))
unfolding slot_from
takes-text classes m n at v text e h = subst (λ x. TakesSlot classes m n at (Plain x)) e (h (is-text v text e))

-- ---- an OREF as a text

all-ascii : (text : List ℕ) → IsAscii text → list_all is_ascii text ≡ true
all-ascii [] h = refl
all-ascii (byte ∷ text) h =
    let first : is_ascii byte ≡ true = let small : byte < 128 = h 0 in grind (arith, nat_tests) in
    ap (λ b. b && list_all is_ascii text) first ∙ all-ascii text (λ i. h (suc i))

all-both : (xs ys : List ℕ) → list_all is_ascii xs ≡ true → list_all is_ascii ys ≡ true → list_all is_ascii (xs ++ ys) ≡ true
all-both [] ys h k = k
all-both (x ∷ xs) ys h k =
    let one = by (is_ascii x) h in
    ap (λ b. b && list_all is_ascii (xs ++ ys)) one.0 ∙ all-both xs ys one.1 k
  where
    by : (b : Bool) → (b && list_all is_ascii xs) ≡ true → (b ≡ true) × (list_all is_ascii xs ≡ true)
    by true h = (refl, h)
    by false h = absurd (let e : false ≡ true = h in cc)

legal-of : (xs : List ℕ) → length xs ≤ 32767 → list_all is_ascii xs ≡ true → IsTrue (is_legal_text xs)
unfolding is_legal_text
legal-of xs short h =
    let fits : nat_le (length xs) 32767 ≡ true = grind (arith, nat_tests) in
    ap (λ b. b && list_all is_ascii xs) fits ∙ h

name-legal : (classes : List Class) (m : Memory) (n : ℕ) (x : Option Object) → object_of n m.objects ≡ x → AreNamed classes → TableFits classes m → (length (class_part x) ≤ 60) × (list_all is_ascii (class_part x) ≡ true)
unfolding AreNamed
name-legal classes m n None e named fits = (omega arith, refl)
name-legal classes m n (Some o) e named fits = named o.class (fits-at classes m n o fits e).class

pub oref-legal : (classes : List Class) (m : Memory) (n : ℕ) → n < 2 ^ 64 → AreNamed classes → TableFits classes m → IsTrue (is_legal_text (oref_text m n))
oref-legal classes m n small named fits =
    let name = name-legal classes m n (object_of n m.objects) refl named fits in
    let digits : length (decimal n) ≤ 20 = length-decimal-le 20 n (omega arith) (omega (arith, small)) small in
    legal-of (oref_text m n)
    (omega (arith, digits, name.0, length-append (decimal n) (64 ∷ class_part (object_of n m.objects))))
    (all-both (decimal n) (64 ∷ class_part (object_of n m.objects)) (all-ascii (decimal n) (IsAscii-decimal n small)) name.1)

pub takes-oref : (classes : List Class) (m : Memory) (n at k : ℕ) (i : Item) (text : List ℕ) → text ≡ oref_text m k → k < 2 ^ 64 → IsSlotOfForm classes m n at (single i) → IsValue i → AreNamed classes → TableFits classes m
    → TakesSlot classes m n at (slot_from (fill.Plain (value.Str text)))
unfolding slot_from
takes-oref classes m n at k i text is small t v named fits =
    let legal : IsTrue (is_legal_text text) = subst (λ x. IsTrue (is_legal_text x)) (sym is) (oref-legal classes m k small named fits) in
    takes-plain classes m n at i (value.Str text) t v (subst IsPlain (sym (out-Str text)) legal)

-- ---- nothing, and an object

pub takes-none : (classes : List Class) (m : Memory) (n at : ℕ) (c : ClassName) → IsSlotOfForm classes m n at (single (of.Ref c)) → TakesSlot classes m n at (Target None)
takes-none classes m n at c t = takes-slot classes m n at (single (of.Ref c)) (Target None) t (subst (λ s. IsElement classes m (of.Ref c) s) (sym (out-Target None)) tt)

pub takes-no_part : (classes : List Class) (m : Memory) (n at : ℕ) (c : ClassName) → IsSlotOfForm classes m n at (single (of.Serial c)) → TakesSlot classes m n at (Target None)
takes-no_part classes m n at c t = takes-slot classes m n at (single (of.Serial c)) (Target None) t (subst (λ s. IsElement classes m (of.Serial c) s) (sym (out-Target None)) refl)

pub takes-none_from : (classes : List Class) (m : Memory) (n at : ℕ) → TakesSlot classes m n at (Target None) → TakesSlot classes m n at (slot_from (fill.Target None))
unfolding slot_from
takes-none_from classes m n at t = t

pub takes-object : (classes : List Class) (m : Memory) (n at : ℕ) (c : ClassName) (h : Held) → IsSlotOfForm classes m n at (single (of.Ref c)) → MayStand classes m (of.Ref c) h.number → TakesSlot classes m n at (slot_from (fill.To h))
unfolding slot_from
takes-object classes m n at c h t k = takes-slot classes m n at (single (of.Ref c)) (To (record { 0 = h.number })) t (subst (λ s. IsElement classes m (of.Ref c) s) (sym (out-To (record { 0 = h.number }))) k)
