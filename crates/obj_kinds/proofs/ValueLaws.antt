-- How what is said of values computes, and which values are the same.
use Rattle.std.proofs.Common.{◌≡◌, ◌≢◌, ◌↔◌, ℕ, suc, ◌+◌, Bool, true, false, ◌&&◌, List, [], ◌∷◌, length, map, refl, sym, ap, subst, ◌∙◌}
use Rattle.obj_kinds.specs.declared.value.Value.{Value, map-Value}
use Rattle.obj_kinds.specs.declared.value.Value.TheVariants.{Str, List as Listed, rolls-Str, rolls-List}
use Rattle.obj_kinds.specs.declared.value.Value.TheOpen.{Value-F}
use Rattle.obj_kinds.specs.declared.value.Value.TheViews.{out-Value, roll-Value, out-roll-Value, roll-out-Value}
use Rattle.obj_kinds.specs.declared.value.Value.TheFolds.{fold-Value, fold-roll-Value, ind-Value}
use Rattle.obj_kinds.specs.Values.{items_weight, weight_step, weight, all_nested, nested_step, nested, all_true, texts_step, all_texts, each_same, same_layer, same_step, same_value}
use Rattle.obj_kinds.proofs.TextLaws.{same_text-is, same_text-itself}

-- ---- a value opened
pub out-Str : (text : List ℕ) → out-Value (Str text) ≡ Value-F.Str text
out-Str text = ap out-Value (sym (rolls-Str text)) ∙ out-roll-Value (Value-F.Str text)

pub out-List : (vs : List Value) → out-Value (Listed vs) ≡ Value-F.List vs
out-List vs = ap out-Value (sym (rolls-List vs)) ∙ out-roll-Value (Value-F.List vs)

-- ---- any function by steps
module _ {A : Type 0} (step : Value-F A → A) where
  pub fold-Str : (text : List ℕ) → fold-Value A step (Str text) ≡ step (Value-F.Str text)
  fold-Str text = ap (fold-Value A step) (sym (rolls-Str text)) ∙ fold-roll-Value A step (Value-F.Str text)

  pub fold-List : (vs : List Value) → fold-Value A step (Listed vs) ≡ step (Value-F.List (map (fold-Value A step) vs))
  fold-List vs = ap (fold-Value A step) (sym (rolls-List vs)) ∙ fold-roll-Value A step (Value-F.List vs)

-- ---- the weight
pub weight-Str : (text : List ℕ) → weight (Str text) ≡ length text
weight-Str text = fold-Str weight_step text

pub weight-List : (vs : List Value) → weight (Listed vs) ≡ 2 + items_weight (map weight vs)
weight-List vs = fold-List weight_step vs

-- ---- the nesting
pub nested-Str : (text : List ℕ) (most : ℕ) → nested (Str text) most ≡ true
nested-Str text most = ap (λ f. f most) (fold-Str nested_step text)

pub nested-none : (vs : List Value) → nested (Listed vs) 0 ≡ false
nested-none vs = ap (λ f. f 0) (fold-List nested_step vs)

pub nested-List : (vs : List Value) (most : ℕ) → nested (Listed vs) (suc most) ≡ all_nested most (map nested vs)
nested-List vs most = ap (λ f. f (suc most)) (fold-List nested_step vs)

-- ---- the texts
pub all_texts-Str : (test : List ℕ → Bool) (text : List ℕ) → all_texts test (Str text) ≡ test text
all_texts-Str test text = fold-Str (texts_step test) text

pub all_texts-List : (test : List ℕ → Bool) (vs : List Value) → all_texts test (Listed vs) ≡ all_true (map (all_texts test) vs)
all_texts-List test vs = fold-List (texts_step test) vs

-- ---- values that are the same
abbrev TellsSame : Value → Type 0
TellsSame v = (w : Value) → same_value v w ≡ true → v ≡ w

both : (a b : Bool) → (a && b) ≡ true → (a ≡ true) × (b ≡ true)
both true b h = (refl, h)
both false b h = cc

each-tells : (ps : List ((v : Value) × TellsSame v)) (vs : List Value) → each_same (map same_value (map (λ p. p.0) ps)) vs ≡ true → map (λ p. p.0) ps ≡ vs
each-tells [] [] h = refl
each-tells [] (v ∷ vs) h = cc
each-tells (p ∷ ps) [] h = cc
each-tells (p ∷ ps) (v ∷ vs) h =
    let q = both (same_value p.0 v) (each_same (map same_value (map (λ p. p.0) ps)) vs) h in
    let one = p.1 v q.0 in let more = each-tells ps vs q.1 in λ i. one i ∷ more i

same-Str : (s : List ℕ) (w : Value) (x : Value-F Value) → out-Value w ≡ x → same_layer (Value-F.Str s) x ≡ true → roll-Value (Value-F.Str s) ≡ w
same-Str s w (Value-F.Str t) e h = ap (λ u. roll-Value (Value-F.Str u)) (same_text-is s t h) ∙ ap roll-Value (sym e) ∙ roll-out-Value w
same-Str s w (Value-F.List vs) e h = cc

same-List : (ps : List ((v : Value) × TellsSame v)) (w : Value) (x : Value-F Value) → out-Value w ≡ x → same_layer (Value-F.List (map same_value (map (λ p. p.0) ps))) x ≡ true → roll-Value (Value-F.List (map (λ p. p.0) ps)) ≡ w
same-List ps w (Value-F.Str t) e h = cc
same-List ps w (Value-F.List vs) e h = ap (λ u. roll-Value (Value-F.List u)) (each-tells ps vs h) ∙ ap roll-Value (sym e) ∙ roll-out-Value w

same-roll : (y : Value-F ((v : Value) × TellsSame v)) → TellsSame (roll-Value (map-Value ((v : Value) × TellsSame v) Value (λ e. e.0) y))
same-roll (Value-F.Str s) w h = same-Str s w (out-Value w) refl (ap (λ f. f w) (sym (fold-roll-Value (Value → Bool) same_step (Value-F.Str s))) ∙ h)
same-roll (Value-F.List ps) w h = same-List ps w (out-Value w) refl (ap (λ f. f w) (sym (fold-roll-Value (Value → Bool) same_step (Value-F.List (map (λ p. p.0) ps)))) ∙ h)

pub same_value-is : (v w : Value) → same_value v w ≡ true → v ≡ w
same_value-is = ind-Value TellsSame (λ x y is. subst (λ z. TellsSame (roll-Value z)) is (same-roll y))

-- ---- and a value is the same as itself
abbrev IsSelfSame : Value → Type 0
IsSelfSame v = same_value v v ≡ true

each-itself : (ps : List ((v : Value) × IsSelfSame v)) → each_same (map same_value (map (λ p. p.0) ps)) (map (λ p. p.0) ps) ≡ true
each-itself [] = refl
each-itself (p ∷ ps) = ap (λ b. b && each_same (map same_value (map (λ p. p.0) ps)) (map (λ p. p.0) ps)) p.1 ∙ each-itself ps

itself-roll : (y : Value-F ((v : Value) × IsSelfSame v)) → IsSelfSame (roll-Value (map-Value ((v : Value) × IsSelfSame v) Value (λ e. e.0) y))
itself-roll (Value-F.Str s) = ap (λ f. f (roll-Value (Value-F.Str s))) (fold-roll-Value (Value → Bool) same_step (Value-F.Str s)) ∙ ap (same_layer (Value-F.Str s)) (out-roll-Value (Value-F.Str s)) ∙ same_text-itself s
itself-roll (Value-F.List ps) =
    ap (λ f. f (roll-Value (Value-F.List (map (λ p. p.0) ps)))) (fold-roll-Value (Value → Bool) same_step (Value-F.List (map (λ p. p.0) ps)))
    ∙ ap (same_layer (Value-F.List (map same_value (map (λ p. p.0) ps)))) (out-roll-Value (Value-F.List (map (λ p. p.0) ps)))
    ∙ each-itself ps

pub same_value-itself : (v : Value) → same_value v v ≡ true
same_value-itself = ind-Value IsSelfSame (λ x y is. subst (λ z. IsSelfSame (roll-Value z)) is (itself-roll y))

pub is-same_value : (v w : Value) → v ≡ w → same_value v w ≡ true
is-same_value v w e = subst (λ u. same_value v u ≡ true) e (same_value-itself v)

-- ---- a text is no list
pub text-no_list : (text : List ℕ) (vs : List Value) → Str text ≢ Listed vs
text-no_list text vs e = cc (sym (out-Str text) ∙ ap out-Value e ∙ out-List vs)

pub value_is_same : (v w : Value) → (same_value v w ≡ true) ↔ (v ≡ w)
value_is_same v w = (same_value-is v w, is-same_value v w)

-- ---- lists of other lengths aren't the same
and_none : (b : Bool) → b && false ≡ false
and_none true = refl
and_none false = refl

pub lengths-apart : (vs ws : List Value) → length vs ≢ length ws → each_same (map same_value vs) ws ≡ false
lengths-apart [] [] apart = absurd (apart refl)
lengths-apart [] (w ∷ ws) apart = refl
lengths-apart (v ∷ vs) [] apart = refl
lengths-apart (v ∷ vs) (w ∷ ws) apart = ap (λ b. same_value v w && b) (lengths-apart vs ws (λ e. apart (ap suc e))) ∙ and_none (same_value v w)
