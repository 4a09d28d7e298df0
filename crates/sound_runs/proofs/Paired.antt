-- The worked classes are paired.
use Rattle.std.proofs.Common.{◌≡◌, ◌⊎◌, inl, inr, ℕ, zero, suc, ◌<◌, List, [], get_or, slice_get, codes, Option, Some, None, refl, sym, ap, ◌∙◌, subst, arith}
use Rattle.std.specs.Option.{option_and_then}
use Rattle.std.proofs.lemmas.List.Quantifiers.{position-Some}
use Rattle.obj_kinds.specs.declared.name.ClassName.{ClassName}
use Rattle.obj_kinds.specs.Texts.{same_text}
use Rattle.obj_kinds.proofs.TextLaws.{same_text-is}
use Rattle.schema_kinds.specs.declared.kind.Kind.TheVariants as kind
use Rattle.schema_kinds.specs.declared.kind.Item.TheVariants as of
use Rattle.schema_kinds.specs.declared.prop.Prop.{Prop}
use Rattle.schema_kinds.specs.Classes.{IsBelow, class_names, headers_of, root_if}
use Rattle.schema_kinds.specs.Hierarchy.{place_of, links_of}
use Rattle.schema_kinds.specs.Links.{IsUp}
use Rattle.storage_map.specs.Entries.{props_in}
use Rattle.object_calls.specs.Banking.{bank, account, branch, clerk, prop}
use Rattle.object_runs.specs.Causes.{Has}
use Rattle.sound_runs.specs.Pairs.{HasOtherSide, ArePaired}

abbrev names : List (List ℕ)
names = class_names bank

abbrev links : List (List ℕ)
links = links_of (headers_of bank)

abbrev IsTwo : ℕ → Type 0
IsTwo i = i ≡ 2

no_two : IsTwo 0 → ⊥
no_two e = omega arith

-- nothing but the branch is at or below it
only_branch : (k i : ℕ) → IsUp links k i 2 → i < 4 → i ≡ 2
only_branch zero i up small = up
only_branch (suc k) zero up small = absurd up.1
only_branch (suc k) (suc zero) up small = none up.1 (λ e. only_branch k 0 e (omega arith)) up.2
  where
    none : (up.0 ≡ 0) ⊎ ⊥ → (IsUp (links_of (headers_of bank)) k 0 2 → IsTwo 0) → IsUp (links_of (headers_of bank)) k up.0 2 → IsTwo 1
    none (inl e) more x = absurd (no_two (more (subst (λ s. IsUp (links_of (headers_of bank)) k s 2) e x)))
    none (inr e) more x = absurd e
only_branch (suc k) (suc (suc zero)) up small = refl
only_branch (suc k) (suc (suc (suc zero))) up small = absurd up.1
only_branch (suc k) (suc (suc (suc (suc i)))) up small = absurd (omega (arith, small))

named : (class : ClassName) (i : ℕ) → place_of names class ≡ Some i → (i < 4) × (class.0 ≡ get_or names i [])
named class i e = let at = position-Some (same_text class.0) names i [] e in (at.0, same_text-is class.0 (get_or names i []) at.1)

below_branch : (below : ClassName) → IsBelow bank below branch → below ≡ branch
below_branch below b =
    let at = named below b.0 b.2 in
    let two : b.1 ≡ 2 = number (sym b.3) in
    let up : IsUp links b.4.0 b.0 2 = subst (λ j. IsUp links b.4.0 b.0 j) two b.4.1 in
    let is : b.0 ≡ 2 = only_branch b.4.0 b.0 up at.0 in
    λ i. record { 0 = (at.1 ∙ ap (λ j. get_or names j []) is) i }
  where
    number : {j : ℕ} → Some j ≡ Some 2 → j ≡ 2
    number e = cc e

pub bank_is_paired : ArePaired bank
bank_is_paired class extent p target inverse below h has k b = by (place_of (class_names bank) class) h has
  where
    -- the one side of a clerk
    one_side : (q : Prop) → p ≡ q → q.kind ≡ kind.One branch (codes "Clerks") → target ≡ branch
    one_side q e f = same (sym (ap (λ (x : Prop). x.kind) e ∙ f) ∙ k)
      where
        same : kind.One branch (codes "Clerks") ≡ kind.One target inverse → target ≡ branch
        same g = cc g

    kind_is : (q : Prop) → p ≡ q → q.kind ≡ kind.One target inverse
    kind_is q e = ap (λ (x : Prop). x.kind) (sym e) ∙ k

    clerks : p ≡ prop (codes "Branch") (kind.One branch (codes "Clerks")) → Some clerk ≡ Some extent → HasOtherSide bank below p.name extent
    clerks e f =
        let is : below ≡ branch = below_branch below (subst (IsBelow bank below) (one_side (prop (codes "Branch") (kind.One branch (codes "Clerks"))) e refl) b) in
        subst (λ c. HasOtherSide bank c p.name extent) (sym is) (record { side = record { class = clerk; side = codes "Branch" }; has = inl refl; named = ap (λ (x : Prop). x.name) (sym e); members = inner f })
      where
        inner : Some clerk ≡ Some extent → clerk ≡ extent
        inner g = cc g

    by : (o : Option ℕ) → option_and_then (λ i. option_and_then (root_if bank i) (slice_get bank i)) o ≡ Some extent → Has p (props_in (option_and_then (λ i. slice_get bank i) o)) → HasOtherSide bank below p.name extent
    by None h has = absurd has
    by (Some zero) h (inl x) = absurd (cc (kind_is (prop (codes "Owner") kind.Text) x))
    by (Some zero) h (inr (inl x)) = absurd (cc (kind_is (prop (codes "Number") kind.Whole) x))
    by (Some zero) h (inr (inr (inl x))) = absurd (cc (kind_is (prop (codes "Next") (kind.Ref account)) x))
    by (Some zero) h (inr (inr (inr x))) = absurd x
    by (Some (suc zero)) h (inl x) = absurd (cc (kind_is (prop (codes "Owner") kind.Text) x))
    by (Some (suc zero)) h (inr (inl x)) = absurd (cc (kind_is (prop (codes "Number") kind.Whole) x))
    by (Some (suc zero)) h (inr (inr (inl x))) = absurd (cc (kind_is (prop (codes "Next") (kind.Ref account)) x))
    by (Some (suc zero)) h (inr (inr (inr (inl x)))) = absurd (cc (kind_is (prop (codes "Rate") kind.Whole) x))
    by (Some (suc zero)) h (inr (inr (inr (inr (inl x))))) = absurd (cc (kind_is (prop (codes "Notes") (kind.ArrayOf of.Text)) x))
    by (Some (suc zero)) h (inr (inr (inr (inr (inr x))))) = absurd x
    by (Some (suc (suc zero))) h (inl x) = absurd (cc (kind_is (prop (codes "Name") kind.Text) x))
    by (Some (suc (suc zero))) h (inr (inl x)) = absurd (cc (kind_is (prop (codes "Clerks") (kind.Many clerk (codes "Branch"))) x))
    by (Some (suc (suc zero))) h (inr (inr x)) = absurd x
    by (Some (suc (suc (suc zero)))) h (inl x) = absurd (cc (kind_is (prop (codes "Name") kind.Text) x))
    by (Some (suc (suc (suc zero)))) h (inr (inl x)) = clerks x h
    by (Some (suc (suc (suc zero)))) h (inr (inr x)) = absurd x
    by (Some (suc (suc (suc (suc i))))) h has = absurd has
