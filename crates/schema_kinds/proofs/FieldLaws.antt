-- Fields and records that the test takes for the same are the same.
use Rattle.std.proofs.Common.{◌≡◌, ◌≢◌, ◌↔◌, ℕ, suc, Bool, true, false, ◌&&◌, List, [], ◌∷◌, length, map, Option, None, Some, refl, sym, ap, subst, ◌∙◌}
use Rattle.std.specs.Ordering.{eq_by_cmp, is_eq}
use Rattle.std.specs.Cmp.{tied_itself}
use Rattle.obj_kinds.specs.declared.sub.Sub.{Sub}
use Rattle.obj_kinds.specs.SubOrder.{text_cmp, sub_cmp}
use Rattle.obj_kinds.specs.OrderLaws.{sub_total, sub_exact}
use Rattle.obj_kinds.specs.Texts.{same_text}
use Rattle.obj_kinds.proofs.TextLaws.{same_text-is, same_text-itself, text_tie-is, text_ties-itself}
use Rattle.obj_kinds.proofs.LineLaws.{both, tie}
use Rattle.schema_kinds.specs.declared.record.Field.{Field, map-Field}
use Rattle.schema_kinds.specs.declared.record.Field.TheOpen.{Field-F}
use Rattle.schema_kinds.specs.declared.record.Field.TheViews.{out-Field, roll-Field, out-roll-Field, roll-out-Field}
use Rattle.schema_kinds.specs.declared.record.Field.TheFolds.{fold-roll-Field, ind-Field}
use Rattle.schema_kinds.specs.declared.record.Record.{Record}
use Rattle.schema_kinds.specs.SameFields.{same_target, each_same, each_pair_same, same_layer, same_step, same_field, same_record}

target-tells : (a b : Option (List ℕ)) → same_target a b ≡ true → a ≡ b
target-tells None None h = refl
target-tells None (Some b) h = cc
target-tells (Some a) None h = cc
target-tells (Some a) (Some b) h = ap Some (text_tie-is a b (tie (text_cmp a b) h))

target-itself : (a : Option (List ℕ)) → same_target a a ≡ true
target-itself None = refl
target-itself (Some a) = ap is_eq (text_ties-itself a)

-- ---- what passes is the same
abbrev TellsSame : Field → Type 0
TellsSame f = (g : Field) → same_field f g ≡ true → f ≡ g

abbrev Telling : Type 0
Telling = (f : Field) × TellsSame f

each-tells : (ps : List Telling) (fs : List Field) → each_same (map same_field (map (λ p. p.0) ps)) fs ≡ true → map (λ p. p.0) ps ≡ fs
each-tells [] [] h = refl
each-tells [] (f ∷ fs) h = cc
each-tells (p ∷ ps) [] h = cc
each-tells (p ∷ ps) (f ∷ fs) h =
    let q = both (same_field p.0 f) (each_same (map same_field (map (λ p. p.0) ps)) fs) h in
    let one = p.1 f q.0 in let more = each-tells ps fs q.1 in λ i. one i ∷ more i

pairs-tell : (ps : List (Sub × Telling)) (qs : List (Sub × Field)) → each_pair_same (map (λ (q : Sub × Field). (q.0, same_field q.1)) (map (λ (q : Sub × Telling). (q.0, q.1.0)) ps)) qs ≡ true → map (λ (q : Sub × Telling). (q.0, q.1.0)) ps ≡ qs
pairs-tell [] [] h = refl
pairs-tell [] (q ∷ qs) h = cc
pairs-tell (p ∷ ps) [] h = cc
pairs-tell (p ∷ ps) (q ∷ qs) h =
    let parts = both (eq_by_cmp sub_cmp p.0 q.0 && same_field p.1.0 q.1) (each_pair_same (map (λ (q : Sub × Field). (q.0, same_field q.1)) (map (λ (q : Sub × Telling). (q.0, q.1.0)) ps)) qs) h in
    let here = both (eq_by_cmp sub_cmp p.0 q.0) (same_field p.1.0 q.1) parts.0 in
    let key = sub_exact p.0 q.0 (tie (sub_cmp p.0 q.0) here.0) in
    let one = p.1.1 q.1 here.1 in
    let more = pairs-tell ps qs parts.1 in λ i. (key i, one i) ∷ more i

layer-tells : (y : Field-F Telling) (x : Field-F Field) → same_layer (map-Field Field (Field → Bool) same_field (map-Field Telling Field (λ p. p.0) y)) x ≡ true → map-Field Telling Field (λ p. p.0) y ≡ x
layer-tells (Field-F.Plain s) (Field-F.Plain t) h = ap Field-F.Plain (same_text-is s t h)
layer-tells (Field-F.Plain s) x h = cc
layer-tells (Field-F.Target a) (Field-F.Target b) h = ap Field-F.Target (target-tells a b h)
layer-tells (Field-F.Target a) x h = cc
layer-tells (Field-F.Part None) (Field-F.Part None) h = refl
layer-tells (Field-F.Part None) (Field-F.Part (Some fs)) h = cc
layer-tells (Field-F.Part (Some ps)) (Field-F.Part None) h = cc
layer-tells (Field-F.Part (Some ps)) (Field-F.Part (Some fs)) h = ap (λ l. Field-F.Part (Some l)) (each-tells ps fs h)
layer-tells (Field-F.Part o) x h = cc
layer-tells (Field-F.List ps) (Field-F.List fs) h = ap Field-F.List (each-tells ps fs h)
layer-tells (Field-F.List ps) x h = cc
layer-tells (Field-F.Map ps) (Field-F.Map qs) h = ap Field-F.Map (pairs-tell ps qs h)
layer-tells (Field-F.Map ps) x h = cc

roll-tells : (y : Field-F Telling) → TellsSame (roll-Field (map-Field Telling Field (λ p. p.0) y))
roll-tells y g h =
    ap roll-Field (layer-tells y (out-Field g) (ap (λ f. f g) (sym (fold-roll-Field (Field → Bool) same_step (map-Field Telling Field (λ p. p.0) y))) ∙ h))
    ∙ roll-out-Field g

pub same_field-is : (f g : Field) → same_field f g ≡ true → f ≡ g
same_field-is = ind-Field TellsSame (λ x y is. subst (λ z. TellsSame (roll-Field z)) is (roll-tells y))

-- ---- and a field is the same as itself
abbrev IsSelfSame : Field → Type 0
IsSelfSame f = same_field f f ≡ true

abbrev Selfsame : Type 0
Selfsame = (f : Field) × IsSelfSame f

each-itself : (ps : List Selfsame) → each_same (map same_field (map (λ p. p.0) ps)) (map (λ p. p.0) ps) ≡ true
each-itself [] = refl
each-itself (p ∷ ps) = ap (λ b. b && each_same (map same_field (map (λ p. p.0) ps)) (map (λ p. p.0) ps)) p.1 ∙ each-itself ps

pairs-itself : (ps : List (Sub × Selfsame)) → each_pair_same (map (λ (q : Sub × Field). (q.0, same_field q.1)) (map (λ (q : Sub × Selfsame). (q.0, q.1.0)) ps)) (map (λ (q : Sub × Selfsame). (q.0, q.1.0)) ps) ≡ true
pairs-itself [] = refl
pairs-itself (p ∷ ps) =
    ap (λ r. (is_eq r && same_field p.1.0 p.1.0) && each_pair_same (map (λ (q : Sub × Field). (q.0, same_field q.1)) (map (λ (q : Sub × Selfsame). (q.0, q.1.0)) ps)) (map (λ (q : Sub × Selfsame). (q.0, q.1.0)) ps)) (tied_itself sub_total p.0)
    ∙ ap (λ b. b && each_pair_same (map (λ (q : Sub × Field). (q.0, same_field q.1)) (map (λ (q : Sub × Selfsame). (q.0, q.1.0)) ps)) (map (λ (q : Sub × Selfsame). (q.0, q.1.0)) ps)) p.1.1
    ∙ pairs-itself ps

layer-itself : (y : Field-F Selfsame) → same_layer (map-Field Field (Field → Bool) same_field (map-Field Selfsame Field (λ p. p.0) y)) (map-Field Selfsame Field (λ p. p.0) y) ≡ true
layer-itself (Field-F.Plain s) = same_text-itself s
layer-itself (Field-F.Target a) = target-itself a
layer-itself (Field-F.Part None) = refl
layer-itself (Field-F.Part (Some ps)) = each-itself ps
layer-itself (Field-F.List ps) = each-itself ps
layer-itself (Field-F.Map ps) = pairs-itself ps

roll-itself : (y : Field-F Selfsame) → IsSelfSame (roll-Field (map-Field Selfsame Field (λ p. p.0) y))
roll-itself y =
    let layer = map-Field Selfsame Field (λ p. p.0) y in
    ap (λ f. f (roll-Field layer)) (fold-roll-Field (Field → Bool) same_step layer)
    ∙ ap (same_layer (map-Field Field (Field → Bool) same_field layer)) (out-roll-Field layer) ∙ layer-itself y

pub same_field-itself : (f : Field) → same_field f f ≡ true
same_field-itself = ind-Field IsSelfSame (λ x y is. subst (λ z. IsSelfSame (roll-Field z)) is (roll-itself y))

pub field_is_same : (f g : Field) → (same_field f g ≡ true) ↔ (f ≡ g)
field_is_same f g = (same_field-is f g, λ e. subst (λ x. same_field f x ≡ true) e (same_field-itself f))

-- ---- lists of fields
fields-are : (fs gs : List Field) → each_same (map same_field fs) gs ≡ true → fs ≡ gs
fields-are [] [] h = refl
fields-are [] (g ∷ gs) h = cc
fields-are (f ∷ fs) [] h = cc
fields-are (f ∷ fs) (g ∷ gs) h =
    let q = both (same_field f g) (each_same (map same_field fs) gs) h in
    let one = same_field-is f g q.0 in let more = fields-are fs gs q.1 in λ i. one i ∷ more i

are-fields : (fs : List Field) → each_same (map same_field fs) fs ≡ true
are-fields [] = refl
are-fields (f ∷ fs) = ap (λ b. b && each_same (map same_field fs) fs) (same_field-itself f) ∙ are-fields fs

pub record_is_same : (r s : Record) → (same_record r s ≡ true) ↔ (r ≡ s)
record_is_same r s = (is, λ e. subst (λ x. same_record r x ≡ true) e itself)
  where
    is : same_record r s ≡ true → r ≡ s
    is h =
        let q = both (same_text r.class.0 s.class.0) (each_same (map same_field r.fields) s.fields) h in
        let class = same_text-is r.class.0 s.class.0 q.0 in
        let fields = fields-are r.fields s.fields q.1 in
        λ i. record { class = record { 0 = class i }; fields = fields i }

    itself : same_record r r ≡ true
    itself = ap (λ b. b && each_same (map same_field r.fields) r.fields) (same_text-itself r.class.0) ∙ are-fields r.fields

-- ---- lists of other lengths aren't the same
and_none : (b : Bool) → b && false ≡ false
and_none true = refl
and_none false = refl

pub lengths-apart : (fs gs : List Field) → length fs ≢ length gs → each_same (map same_field fs) gs ≡ false
lengths-apart [] [] apart = absurd (apart refl)
lengths-apart [] (g ∷ gs) apart = refl
lengths-apart (f ∷ fs) [] apart = refl
lengths-apart (f ∷ fs) (g ∷ gs) apart = ap (λ b. same_field f g && b) (lengths-apart fs gs (λ e. apart (ap suc e))) ∙ and_none (same_field f g)

pub pairs-apart : (ps qs : List (Sub × Field)) → length ps ≢ length qs → each_pair_same (map (λ (q : Sub × Field). (q.0, same_field q.1)) ps) qs ≡ false
pairs-apart [] [] apart = absurd (apart refl)
pairs-apart [] (q ∷ qs) apart = refl
pairs-apart (p ∷ ps) [] apart = refl
pairs-apart (p ∷ ps) (q ∷ qs) apart = ap (λ b. (eq_by_cmp sub_cmp p.0 q.0 && same_field p.1 q.1) && b) (pairs-apart ps qs (λ e. apart (ap suc e))) ∙ and_none (eq_by_cmp sub_cmp p.0 q.0 && same_field p.1 q.1)
