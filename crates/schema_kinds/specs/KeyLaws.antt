-- The order of keys is total, and equal only at equal keys.
use Rattle.std.specs.Prelude.{◌≡◌, refl}
use Rattle.std.specs.declared.cmp.Ordering.{Ordering}
use Rattle.std.specs.declared.cmp.Ordering.TheVariants.{Less, Equal, Greater}
use Rattle.std.specs.Ordering.{ordering_then}
use Rattle.std.specs.Cmp.{IsTotalOrder}
use Rattle.std.specs.FinMap.{IsAntisymmetric, nat_cmp-IsAntisymmetric, slice_cmp-IsAntisymmetric}
use Rattle.std.proofs.lemmas.Cmp.{nat_list_cmp_total, on_total, then_total}
use Rattle.obj_kinds.specs.SubOrder.{text_cmp}
use Rattle.schema_kinds.specs.Worlds.{key_cmp}

pub key_total : IsTotalOrder key_cmp
unfolding key_cmp
key_total = then_total (on_total (λ k. k.extent.0) nat_list_cmp_total) (on_total (λ k. k.id) nat_list_cmp_total)

both_equal : (a b : Ordering) → ordering_then a b ≡ Equal → (a ≡ Equal) × (b ≡ Equal)
both_equal Less b h = cc
both_equal Equal b h = (refl, h)
both_equal Greater b h = cc

pub key_exact : IsAntisymmetric key_cmp
unfolding key_cmp
key_exact x y h =
    let parts = both_equal (text_cmp x.extent.0 y.extent.0) (text_cmp x.id y.id) h in
    let e = slice_cmp-IsAntisymmetric nat_cmp-IsAntisymmetric x.extent.0 y.extent.0 parts.0 in
    let n = slice_cmp-IsAntisymmetric nat_cmp-IsAntisymmetric x.id y.id parts.1 in
    λ i. record { extent = record { 0 = e i }; id = n i }
