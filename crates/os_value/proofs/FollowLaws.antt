-- The order of texts by their bytes is strict.
use Rattle.std.proofs.Common.{◌≡◌, ◌≢◌, ℕ, true, false, List, refl, ap, ◌∙◌}
use Rattle.std.specs.declared.cmp.Ordering.{Ordering}
use Rattle.std.specs.declared.cmp.Ordering.TheVariants.{Less, Equal, Greater}
use Rattle.std.specs.Ordering.{nat_cmp, is_gt, ordering_reverse}
use Rattle.std.specs.Cmp.Lexicographic.{slice_cmp}
use Rattle.std.specs.FinMap.{nat_cmp-IsAntisymmetric, slice_cmp-IsAntisymmetric}
use Rattle.std.proofs.lemmas.Cmp.{nat_list_cmp_total}
use Rattle.os_value.specs.Comparisons.{is_behind}

greater : (c : Ordering) → is_gt c ≡ true → c ≡ Greater
greater Less h = cc
greater Equal h = cc
greater Greater h = refl

turned : (s t : List ℕ) → slice_cmp nat_cmp s t ≡ Greater → slice_cmp nat_cmp t s ≡ Less
turned s t h = nat_list_cmp_total.antisymm t s ∙ ap ordering_reverse h

own : (c : Ordering) → c ≡ ordering_reverse c → is_gt c ≡ false
own Less h = cc
own Equal h = refl
own Greater h = cc

pub not_behind_itself : (s : List ℕ) → is_behind s s ≡ false
not_behind_itself s = own (slice_cmp nat_cmp s s) (nat_list_cmp_total.antisymm s s)

pub behind_both : (r s t : List ℕ) → is_behind r s ≡ true → is_behind s t ≡ true → is_behind r t ≡ true
behind_both r s t h k =
    let low = turned s t (greater (slice_cmp nat_cmp s t) k) in
    let high = turned r s (greater (slice_cmp nat_cmp r s) h) in
    ap is_gt (nat_list_cmp_total.antisymm r t ∙ ap ordering_reverse (nat_list_cmp_total.trans t s r low high))

one_of : (s t : List ℕ) (c : Ordering) → slice_cmp nat_cmp s t ≡ c → s ≢ t → is_gt c ≡ false → is_behind t s ≡ true
one_of s t Less e apart h = ap is_gt (nat_list_cmp_total.antisymm t s ∙ ap ordering_reverse e)
one_of s t Equal e apart h = absurd (apart (slice_cmp-IsAntisymmetric nat_cmp-IsAntisymmetric s t e))
one_of s t Greater e apart h = cc

pub one_behind_other : (s t : List ℕ) → s ≢ t → is_behind s t ≡ false → is_behind t s ≡ true
one_behind_other s t apart h = one_of s t (slice_cmp nat_cmp s t) refl apart h
