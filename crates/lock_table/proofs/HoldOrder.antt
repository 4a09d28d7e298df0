-- The order of holds is total, and equal only at equal holds.
use Rattle.std.proofs.Common.{◌≡◌, refl, arith}
use Rattle.std.specs.declared.cmp.Ordering.{Ordering}
use Rattle.std.specs.declared.cmp.Ordering.TheVariants.{Less, Equal, Greater}
use Rattle.std.specs.Ordering.{nat_cmp, ordering_then}
use Rattle.std.specs.Cmp.{IsTotalOrder, nat_cmp_total, then_total, on_total}
use Rattle.std.specs.FinMap.{IsAntisymmetric, nat_cmp-IsAntisymmetric}
use Rattle.obj_kinds.specs.declared.op.Mode.{Mode}
use Rattle.obj_kinds.specs.declared.op.Mode.TheVariants.{Shared, Exclusive}
use Rattle.obj_kinds.specs.declared.op.Owner.{Owner}
use Rattle.obj_kinds.specs.declared.op.Owner.TheVariants.{Script, Object}
use Rattle.obj_kinds.specs.Order.{node_cmp}
use Rattle.obj_kinds.proofs.OrderLemmas.{node_total, node_exact}
use Rattle.lock_table.specs.Holds.{hold_cmp, mode_rank, owner_rank}

pub hold_total : IsTotalOrder hold_cmp
unfolding hold_cmp
hold_total =
    then_total (on_total (λ h. h.node) node_total) (then_total (on_total (λ h. h.pid.0) nat_cmp_total)
    (then_total (on_total (λ h. mode_rank h.mode) nat_cmp_total) (on_total (λ h. owner_rank h.owner) nat_cmp_total)))

pub both_equal : (a b : Ordering) → ordering_then a b ≡ Equal → (a ≡ Equal) × (b ≡ Equal)
both_equal Less b h = cc
both_equal Equal b h = (refl, h)
both_equal Greater b h = cc

pub same_mode : (a b : Mode) → mode_rank a ≡ mode_rank b → a ≡ b
same_mode Shared Shared e = refl
same_mode Shared Exclusive e = absurd (omega arith)
same_mode Exclusive Shared e = absurd (omega arith)
same_mode Exclusive Exclusive e = refl

pub same_owner : (a b : Owner) → owner_rank a ≡ owner_rank b → a ≡ b
same_owner Script Script e = refl
same_owner Script Object e = absurd (omega arith)
same_owner Object Script e = absurd (omega arith)
same_owner Object Object e = refl

pub hold_exact : IsAntisymmetric hold_cmp
unfolding hold_cmp
hold_exact a b e =
    let n = both_equal (node_cmp a.node b.node) _ e in
    let p = both_equal (nat_cmp a.pid.0 b.pid.0) _ n.1 in
    let m = both_equal (nat_cmp (mode_rank a.mode) (mode_rank b.mode)) _ p.1 in
    let en = node_exact a.node b.node n.0 in
    let ep = nat_cmp-IsAntisymmetric a.pid.0 b.pid.0 p.0 in
    let em = same_mode a.mode b.mode (nat_cmp-IsAntisymmetric (mode_rank a.mode) (mode_rank b.mode) m.0) in
    let eo = same_owner a.owner b.owner (nat_cmp-IsAntisymmetric (owner_rank a.owner) (owner_rank b.owner) m.1) in
    λ i. record { node = en i; pid = record { 0 = ep i }; mode = em i; owner = eo i }
