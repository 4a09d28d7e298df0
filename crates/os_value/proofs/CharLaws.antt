-- Bytes in front of what may be an error.
use Rattle.std.proofs.Common.{◌≡◌, ℕ, List, [], ◌++◌, Result, Ok, Err, refl, sym, ap, append_assoc}
use Rattle.obj_kinds.specs.declared.error_name.ErrorName.{ErrorName}
use Rattle.os_value.specs.Texts.{prefixed}

pub prefixed_none : (r : Result (List ℕ) ErrorName) → prefixed [] r ≡ r
prefixed_none (Ok bytes) = refl
prefixed_none (Err e) = refl

pub prefixed_twice : (s t : List ℕ) (r : Result (List ℕ) ErrorName) → prefixed s (prefixed t r) ≡ prefixed (s ++ t) r
prefixed_twice s t (Ok bytes) = ap Ok (sym (append_assoc s t bytes))
prefixed_twice s t (Err e) = refl
