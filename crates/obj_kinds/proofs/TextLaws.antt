-- Texts are the same where they have the same bytes, and where they tie in the order of texts.
use Rattle.std.proofs.Common.{◌≡◌, ◌≢◌, ℕ, Bool, true, false, List, refl}
use lib.Pointwise.{bytes_decides}
use Rattle.std.specs.declared.cmp.Ordering.TheVariants.{Equal}
use Rattle.std.specs.FinMap.{slice_cmp-IsAntisymmetric, nat_cmp-IsAntisymmetric}
use Rattle.std.specs.Cmp.{tied_itself}
use Rattle.std.proofs.lemmas.Cmp.{nat_list_cmp_total}
use Rattle.obj_kinds.specs.Texts.{same_text}
use Rattle.obj_kinds.specs.SubOrder.{text_cmp}

pub same_text-is : (a b : List ℕ) → same_text a b ≡ true → a ≡ b
same_text-is a b h = (bytes_decides a b).0 h

pub is-same_text : (a b : List ℕ) → a ≡ b → same_text a b ≡ true
is-same_text a b h = (bytes_decides a b).1 h

pub same_text-itself : (a : List ℕ) → same_text a a ≡ true
same_text-itself a = is-same_text a a refl

pub same_text-apart : (a b : List ℕ) → a ≢ b → same_text a b ≡ false
same_text-apart a b apart = by (same_text a b) refl
  where
    by : (t : Bool) → same_text a b ≡ t → t ≡ false
    by true e = absurd (apart (same_text-is a b e))
    by false e = refl

-- texts that tie are the same
pub text_tie-is : (a b : List ℕ) → text_cmp a b ≡ Equal → a ≡ b
text_tie-is = slice_cmp-IsAntisymmetric nat_cmp-IsAntisymmetric

pub text_ties-itself : (a : List ℕ) → text_cmp a a ≡ Equal
text_ties-itself = tied_itself nat_list_cmp_total
