-- The id that a text is.
use Rattle.std.proofs.Common.{◌≡◌, ◌≢◌, ℕ, Bool, true, false, cond, nat_eq, List, length, Option, None, Some, refl, ap, ◌∙◌}
use Rattle.std.specs.Option.{option_and_then}
use Rattle.std.proofs.lemmas.Bool.Decides.{Decides-eqb}
use Rattle.obj_kinds.specs.Ids.{IsId, id_text}
use Rattle.obj_kinds.specs.IdReading.{id_in}
use Rattle.obj_kinds.proofs.IdTexts.{id_in-is, id_in-takes}
use Rattle.record_layout.specs.Items.{if_long}

pub id_found : (text id : List ℕ) → IsId id → text ≡ id_text id → length id ≡ 1 → option_and_then (if_long 1) (id_in text) ≡ Some id
id_found text id good same long =
    let read : id_in text ≡ Some id = ap id_in same ∙ id_in-takes id good in
    rw (read, (Decides-eqb (length id) 1).1 long) refl

pub id_long : (text id : List ℕ) → IsId id → text ≡ id_text id → length id ≢ 1 → option_and_then (if_long 1) (id_in text) ≡ None
id_long text id good same long =
    let read : id_in text ≡ Some id = ap id_in same ∙ id_in-takes id good in
    rw read (by (nat_eq (length id) 1) refl)
  where
    by : (t : Bool) → nat_eq (length id) 1 ≡ t → cond t (Some id) None ≡ None
    by true e = absurd (long ((Decides-eqb (length id) 1).0 e))
    by false e = refl

pub id_none : (text : List ℕ) → ((id : List ℕ) → IsId id → text ≢ id_text id) → option_and_then (if_long 1) (id_in text) ≡ None
id_none text none = by (id_in text) refl
  where
    by : (o : Option (List ℕ)) → id_in text ≡ o → option_and_then (if_long 1) o ≡ None
    by None e = refl
    by (Some id) e = let read = id_in-is text id e in absurd (none id read.id read.spelt)
