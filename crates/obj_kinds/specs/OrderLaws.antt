-- The order of nodes is total, and equal only at equal nodes.
use Rattle.std.proofs.Common.{◌≡◌, ap, refl}
use Rattle.std.specs.declared.cmp.Ordering.{Ordering}
use Rattle.std.specs.declared.cmp.Ordering.TheVariants.{Less, Equal, Greater}
use Rattle.std.specs.Ordering.{ordering_then, ordering_reverse}
use Rattle.std.specs.Cmp.{IsTotalOrder}
use Rattle.std.specs.Cmp.Lexicographic.{slice_cmp}
use Rattle.std.specs.FinMap.{IsAntisymmetric, nat_cmp-IsAntisymmetric, int_cmp-IsAntisymmetric, slice_cmp-IsAntisymmetric}
use Rattle.std.proofs.lemmas.Cmp.{int_cmp_total, nat_list_cmp_total, on_total, then_total, lists_total}
use Rattle.obj_kinds.specs.declared.sub.Sub.{Sub}
use Rattle.obj_kinds.specs.declared.sub.Sub.TheVariants.{Num, Str}
use Rattle.obj_kinds.specs.Order.{text_cmp, sub_cmp, node_cmp}

sub-antisymm : (x y : Sub) → sub_cmp x y ≡ ordering_reverse (sub_cmp y x)
sub-antisymm (Num m) (Num n) = int_cmp_total.antisymm m n
sub-antisymm (Num m) (Str t) = refl
sub-antisymm (Str s) (Num n) = refl
sub-antisymm (Str s) (Str t) = nat_list_cmp_total.antisymm s t

sub-trans : (x y z : Sub) → sub_cmp x y ≡ Less → sub_cmp y z ≡ Less → sub_cmp x z ≡ Less
sub-trans (Num l) (Num m) (Num n) h k = int_cmp_total.trans l m n h k
sub-trans (Num l) (Num m) (Str t) h k = refl
sub-trans (Num l) (Str s) (Num n) h k = cc
sub-trans (Num l) (Str s) (Str t) h k = refl
sub-trans (Str r) (Num m) z h k = cc
sub-trans (Str r) (Str s) (Num n) h k = cc
sub-trans (Str r) (Str s) (Str t) h k = nat_list_cmp_total.trans r s t h k

sub-congr : (x y z : Sub) → sub_cmp x y ≡ Equal → sub_cmp x z ≡ sub_cmp y z
sub-congr (Num l) (Num m) (Num n) h = int_cmp_total.congr l m n h
sub-congr (Num l) (Num m) (Str t) h = refl
sub-congr (Num l) (Str s) z h = cc
sub-congr (Str r) (Num m) z h = cc
sub-congr (Str r) (Str s) (Num n) h = refl
sub-congr (Str r) (Str s) (Str t) h = nat_list_cmp_total.congr r s t h

pub sub_total : IsTotalOrder sub_cmp
sub_total = record { antisymm = sub-antisymm; trans = sub-trans; congr = sub-congr }

pub sub_exact : IsAntisymmetric sub_cmp
sub_exact (Num m) (Num n) h = ap Num (int_cmp-IsAntisymmetric m n h)
sub_exact (Num m) (Str t) h = cc
sub_exact (Str s) (Num n) h = cc
sub_exact (Str s) (Str t) h = ap Str (slice_cmp-IsAntisymmetric nat_cmp-IsAntisymmetric s t h)

pub node_total : IsTotalOrder node_cmp
unfolding node_cmp
node_total = then_total (on_total (λ n. n.global) nat_list_cmp_total) (on_total (λ n. n.subs) (lists_total sub_total))

both_equal : (a b : Ordering) → ordering_then a b ≡ Equal → (a ≡ Equal) × (b ≡ Equal)
both_equal Less b h = cc
both_equal Equal b h = (refl, h)
both_equal Greater b h = cc

pub node_exact : IsAntisymmetric node_cmp
unfolding node_cmp
node_exact x y h =
    let parts = both_equal (text_cmp x.global y.global) (slice_cmp sub_cmp x.subs y.subs) h in
    let g = slice_cmp-IsAntisymmetric nat_cmp-IsAntisymmetric x.global y.global parts.0 in
    let s = slice_cmp-IsAntisymmetric sub_exact x.subs y.subs parts.1 in
    λ i. record { global = g i; subs = s i }
