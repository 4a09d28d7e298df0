-- The arguments of built-in members: a missing one is the empty text, and one too many is refused.
use Rattle.std.specs.Prelude.{ℕ, zero, ◌-◌, ℤ, pos, negsuc, nat_le, cond, ◌&&◌, ◌||◌, List, [], ◌∷◌, codes, Ok, Err}
use Rattle.obj_kinds.specs.Limits.{is_legal_sub}
use Rattle.obj_kinds.specs.Texts.{same_text}
use Rattle.obj_kinds.specs.declared.error_name.ErrorName.TheVariants as error
use Rattle.obj_kinds.specs.declared.sub.Sub.{Sub}
use Rattle.os_kinds.specs.declared.val.Val.{Val}
use Rattle.os_value.specs.Answers.{and_then}
use Rattle.os_meaning.specs.Values.{Checked, text_of, subscript_of}
use Rattle.oref_table.specs.Memory.{Memory}
use Rattle.host_meaning.specs.Objects.{ObjectCall}
use Rattle.object_members.specs.Ends.{nothing, errs}

-- what follows no argument, one, two
abbrev pub without_args : List Val → ObjectCall Memory → ObjectCall Memory
without_args [] go s = go s
without_args (v ∷ vs) go s = errs s error.Parameter

abbrev pub with_arg : List Val → (Val → ObjectCall Memory) → ObjectCall Memory
with_arg [] go s = go nothing s
with_arg (v ∷ []) go s = go v s
with_arg (v ∷ w ∷ vs) go s = errs s error.Parameter

abbrev pub with_args : List Val → (Val → Val → ObjectCall Memory) → ObjectCall Memory
with_args [] go s = go nothing nothing s
with_args (v ∷ []) go s = go v nothing s
with_args (v ∷ w ∷ []) go s = go v w s
with_args (v ∷ w ∷ x ∷ vs) go s = errs s error.Parameter

-- what follows a value that was read, or its error
abbrev pub checks : {A : Type 0} → Checked A → (A → ObjectCall Memory) → ObjectCall Memory
checks (Ok a) go s = go a s
checks (Err e) go s = errs s e

-- ---- levels: the texts 0 to 4; the empty text and -1 mean 2

abbrev pub level_digit : List ℕ → Checked ℕ
level_digit (b ∷ []) = cond (nat_le 48 b && nat_le b 52) (Ok (b - 48)) (Err error.IllegalValue)
level_digit _ = Err error.IllegalValue

abbrev pub level_in : List ℕ → Checked ℕ
level_in text = cond (same_text text [] || same_text text (codes "-1")) (Ok 2) (level_digit text)

abbrev pub level_of : Val → Checked ℕ
level_of v = and_then (text_of v) level_in

-- ---- keys of arrays: subscripts within the limits

abbrev pub legal_key : Sub → Checked Sub
legal_key k = cond (is_legal_sub k) (Ok k) (Err error.Subscript)

abbrev pub key_from : Val → Checked Sub
key_from v = and_then (subscript_of 0 v) legal_key

-- ---- positions: a number that isn't from 1 on is outside every list

abbrev pub position_of : ℤ → ℕ
position_of (pos n) = n
position_of (negsuc n) = zero
