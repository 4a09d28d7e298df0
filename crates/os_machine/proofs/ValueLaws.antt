-- Values that tell a truth, and functions with too many arguments.
use Rattle.std.proofs.Common.{◌≡◌, ℕ, suc, ◌≤◌, Bool, true, false, not, nat_le, List, [], ◌∷◌, ◌++◌, length, Result, Ok, Err, refl, sym, ap, ◌∙◌, arith, append_assoc}
use Rattle.std.proofs.lemmas.Bool.Decides.{nat_tests}
use Rattle.std.specs.Fmt.{digits}
use Rattle.obj_kinds.specs.declared.value.Value as stored
use Rattle.obj_kinds.specs.declared.sub.Sub.{Sub}
use Rattle.obj_kinds.specs.Subscript.{sub_of}
use Rattle.os_kinds.specs.declared.val.Val.{Val}
use Rattle.os_value.specs.Answers.{and_then}
use Rattle.os_meaning.specs.Frames.{subs_by}
use Rattle.os_machine.specs.Plains.{subs_after}
use Rattle.obj_kinds.specs.declared.value.Value.{Value}
use Rattle.obj_kinds.specs.declared.error_name.ErrorName.{ErrorName}
use Rattle.obj_kinds.specs.declared.error_name.ErrorName.TheVariants as error
use Rattle.obj_kinds.specs.Values.{as_value}
use Rattle.os_kinds.specs.declared.expression.Function.{Function}
use Rattle.os_kinds.specs.declared.expression.Function.TheVariants as function
use Rattle.os_value.specs.Comparisons.{told, negation, as_number}
use Rattle.os_meaning.specs.Values.{Checked, opposite, apply, sub_by, subscript_of}
use Rattle.os_machine.specs.Plains.{takes_any}

by_truth : (b : Bool) → told (negation (as_value (as_number b))) ≡ told (Ok (not b))
unfolding digits stored.out-Value denote.Hole.Carrier.out
by_truth true = refl
by_truth false = refl

pub denied : (meant : Result Bool ErrorName) (value : Value) → told meant ≡ Ok value → told (negation value) ≡ told (opposite meant)
denied (Ok b) value h =
    let is : as_value (as_number b) ≡ value = cc in
    ap (λ v. told (negation v)) (sym is) ∙ by_truth b
denied (Err e) value h = cc

-- no function has as many arguments
pub too_many : (f : Function) (a b c d e : Value) (vs : List Value) → takes_any f ≡ false → apply f (a ∷ b ∷ c ∷ d ∷ e ∷ vs) ≡ Err error.Function
too_many function.Length a b c d e vs h = refl
too_many function.Extract a b c d e vs h = refl
too_many function.Piece a b c d e vs h = refl
too_many function.Find a b c d e vs h = refl
too_many function.Ascii a b c d e vs h = refl
too_many function.Char a b c d e vs h = cc
too_many function.ListBuild a b c d e vs h = cc
too_many function.List a b c d e vs h = refl
too_many function.ListLength a b c d e vs h = refl

-- or none
pub too_few : (f : Function) → takes_any f ≡ false → apply f [] ≡ Err error.Function
too_few function.Length h = refl
too_few function.Extract h = refl
too_few function.Piece h = refl
too_few function.Find h = refl
too_few function.Ascii h = refl
too_few function.Char h = cc
too_few function.ListBuild h = cc
too_few function.List h = refl
too_few function.ListLength h = refl

-- a text of the right length
by_length : (t : List ℕ) (b c : Bool) → nat_le 1 (length t) ≡ b → nat_le (length t) 255 ≡ c → 1 ≤ length t → length t ≤ 255 → sub_by t ≡ Ok (sub_of t)
by_length t b c e f h g = grind (arith, nat_tests)

pub sub_is : (t : List ℕ) → 1 ≤ length t → length t ≤ 255 → sub_by t ≡ Ok (sub_of t)
sub_is t h g = by_length t (nat_le 1 (length t)) (nat_le (length t) 255) refl refl h g

-- ---- subscripts, one after the other

pub ahead : (subs : List Sub) (s : Sub) (others : ℕ) (v : Val) (vs : List Val) → subscript_of others v ≡ Ok s
    → subs_after (subs ++ s ∷ []) (subs_by (suc others) vs) ≡ subs_after subs (subs_by others (v ∷ vs))
ahead subs s others v vs h =
    by (subs_by (suc others) vs) ∙ sym (ap (λ r. subs_after subs (and_then r (λ s. and_then (subs_by (suc others) vs) (λ subs. Ok (s ∷ subs))))) h)
  where
    by : (r : Checked (List Sub)) → subs_after (subs ++ s ∷ []) r ≡ subs_after subs (and_then r (λ subs. Ok (s ∷ subs)))
    by (Ok more) = ap Ok (append_assoc subs (s ∷ []) more)
    by (Err e) = refl

pub refused : (subs : List Sub) (e : ErrorName) (others : ℕ) (v : Val) (vs : List Val) → subscript_of others v ≡ Err e
    → subs_after subs (subs_by others (v ∷ vs)) ≡ Err e
refused subs e others v vs h = ap (λ r. subs_after subs (and_then r (λ s. and_then (subs_by (suc others) vs) (λ subs. Ok (s ∷ subs))))) h
