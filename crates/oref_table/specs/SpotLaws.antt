-- Spots that test equal are the same.
use Rattle.std.specs.Prelude.{ℕ, ◌≡◌, ◌==◌, ◌&&◌, Bool, true, false, List}
use Rattle.std.proofs.Common.{refl, ap, subst, ◌∙◌}
use Rattle.std.proofs.lemmas.Bool.{eqb-true, eq-eqb}
use Rattle.std.specs.Ordering.{nat_cmp, eq_by_cmp, is_eq}
use Rattle.std.specs.declared.cmp.Ordering.{Ordering}
use Rattle.std.specs.declared.cmp.Ordering.TheVariants.{Less, Equal, Greater}
use Rattle.std.specs.FinMap.{slice_cmp-IsAntisymmetric, nat_cmp-IsAntisymmetric}
use Rattle.std.specs.Cmp.{tied_itself}
use Rattle.std.specs.Cmp.Lexicographic.{slice_cmp, nat_list_cmp_total}
use Rattle.oref_table.specs.declared.spot.Spot.{Spot}
use Rattle.oref_table.specs.Keys.{same_spot, AreSpots}

both : (a b : Bool) → (a && b) ≡ true → (a ≡ true) × (b ≡ true)
both true b h = (refl, h)
both false b h = absurd (let e : false ≡ true = h in cc)

tied : (o : Ordering) → is_eq o ≡ true → o ≡ Equal
tied Less h = absurd (let e : false ≡ true = h in cc)
tied Equal h = refl
tied Greater h = absurd (let e : false ≡ true = h in cc)

pub same-spot : (x y : Spot) → same_spot x y ≡ true → x ≡ y
same-spot x y h =
    let w = both (x.extent == y.extent) (eq_by_cmp (slice_cmp nat_cmp) x.id y.id) h in
    let e : x.extent ≡ y.extent = eqb-true x.extent y.extent w.0 in
    let i : x.id ≡ y.id = slice_cmp-IsAntisymmetric nat_cmp-IsAntisymmetric x.id y.id (tied (slice_cmp nat_cmp x.id y.id) w.1) in
    ap (λ n. record { extent = n; id = x.id }) e ∙ ap (λ (j : List ℕ). record { extent = y.extent; id = j }) i

itself : (x : Spot) → same_spot x x ≡ true
itself x = ap (λ b. b && eq_by_cmp (slice_cmp nat_cmp) x.id x.id) (eq-eqb x.extent x.extent refl) ∙ ap is_eq (tied_itself nat_list_cmp_total x.id)

pub spots-are : AreSpots same_spot
spots-are s q = (same-spot s q, λ e. subst (λ (z : Spot). same_spot s z ≡ true) e (itself s))
