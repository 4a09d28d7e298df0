-- The id of one number that a text is.
use Rattle.std.proofs.Common.{◌≡◌, ◌≢◌, ℕ, ◌==◌, Bool, true, false, cond, List, length, Option, None, Some, refl, sym, ap, ◌∙◌}
use Rattle.std.specs.Option.{option_and_then}
use Rattle.std.proofs.lemmas.Bool.{eqb-true, eq-eqb}
use Rattle.obj_kinds.specs.Ids.{IsId, id_text}
use Rattle.obj_kinds.specs.IdReading.{id_in}
use Rattle.obj_kinds.proofs.IdTexts.{id_in-takes, found_id}
use Rattle.record_layout.specs.Items.{if_long}

pub text_found : (text id : List ℕ) → IsId id → text ≡ id_text id → option_and_then (if_long 1) (id_in text) ≡ if_long 1 id
text_found text id is same = ap (λ t. option_and_then (if_long 1) (id_in t)) same ∙ ap (option_and_then (if_long 1)) (id_in-takes id is)

pub text_none : (text : List ℕ) → ((id : List ℕ) → IsId id → text ≢ id_text id) → option_and_then (if_long 1) (id_in text) ≡ None
text_none text none = by (id_in text) refl
  where
    by : (x : Option (List ℕ)) → id_in text ≡ x → option_and_then (if_long 1) x ≡ None
    by None e = refl
    by (Some id) e = let p = found_id text id (sym e) in absurd (none id p.0 p.1)

pub long_one : (id : List ℕ) → length id ≡ 1 → if_long 1 id ≡ Some id
long_one id e = ap (λ b. cond b (Some id) None) (eq-eqb (length id) 1 e)

pub not_long : (id : List ℕ) → length id ≢ 1 → if_long 1 id ≡ None
not_long id h = by (length id == 1) refl
  where
    by : (b : Bool) → (length id == 1) ≡ b → cond b (Some id) None ≡ None
    by true e = absurd (h (eqb-true (length id) 1 e))
    by false e = refl
