-- Who stands in the world after some acts.
use Rattle.std.proofs.Common.{◌≡◌, ◌≢◌, ◌⊎◌, inl, inr, ℕ, zero, suc, ◌==◌, Bool, true, false, cond, List, [], ◌∷◌, ◌++◌, length, map, Option, Some, None, refl, sym, ap, subst, ◌∙◌}
use Rattle.std.specs.Prelude.{slice_get}
use Rattle.std.specs.Option.{option_map, is_some}
use Rattle.std.proofs.lemmas.List.{length-map}
use Rattle.std.proofs.lemmas.Option.{slice_get-map}
use Rattle.std.proofs.lemmas.Bool.Decides.{Decides-eqb}
use Rattle.first_path.specs.World.{Past, saved_fields, place_among, first_saves, world_after}
use Rattle.first_path.specs.WorldLaw.{IsSavedBy, Tells, WorldLaw}
use Rattle.first_path.specs.declared.act.Act.TheVariants.{Make, Fill, Save}
use Rattle.first_path.proofs.Places.{same_number, number_itself, other_number, place-append_new, place-append_other}

-- some place, or none
place_or_none : (o : Option ℕ) → ((row : ℕ) × (o ≡ Some row)) ⊎ (o ≡ None)
place_or_none None = inr refl
place_or_none (Some row) = inl (row, refl)

number_or_other : (a b : ℕ) → (a ≡ b) ⊎ (a ≢ b)
number_or_other a b = by (a == b) refl
  where
    by : (t : Bool) → (a == b) ≡ t → (a ≡ b) ⊎ (a ≢ b)
    by true e = inl (same_number a b e)
    by false e = inr (λ same. let t = (Decides-eqb a b).1 same in cc)

pub place_get : (xs : List ℕ) (x row : ℕ) → place_among xs x ≡ Some row → slice_get xs row ≡ Some x
place_get [] x row h = cc
place_get (y ∷ xs) x row h = by (λ n e. place_get xs x n e) (y == x) refl (place_among xs x) refl h
  where
    by : ((n : ℕ) → place_among xs x ≡ Some n → slice_get xs n ≡ Some x) → (b : Bool) → (y == x) ≡ b → (o : Option ℕ) → place_among xs x ≡ o → cond b (Some 0) (option_map (λ n. suc n) o) ≡ Some row → slice_get (y ∷ xs) row ≡ Some x
    by again true e o is k = let first : 0 ≡ row = cc in subst (λ r. slice_get (y ∷ xs) r ≡ Some x) first (ap Some (same_number y x e))
    by again false e None is k = cc
    by again false e (Some n) is k = let next : suc n ≡ row = cc in subst (λ r. slice_get (y ∷ xs) r ≡ Some x) next (again n is)

-- a save leaves its object among the first saves, and takes none away
save_keeps : (before : Past) (o object row : ℕ) → place_among (first_saves before) object ≡ Some row → (r : ℕ) × (place_among (first_saves (Save o ∷ before)) object ≡ Some r)
save_keeps before o object row is = by (place_or_none (place_among (first_saves before) o))
  where
    by : ((r : ℕ) × (place_among (first_saves before) o ≡ Some r)) ⊎ (place_among (first_saves before) o ≡ None) → (r : ℕ) × (place_among (first_saves (Save o ∷ before)) object ≡ Some r)
    by (inl old) = (row, rw old.1 is)
    by (inr none) =
        let apart : o ≢ object = λ same. let e = ap (place_among (first_saves before)) same in cc in
        (row, rw none (place-append_other (first_saves before) o object apart ∙ is))

save_adds : (before : Past) (o : ℕ) → (r : ℕ) × (place_among (first_saves (Save o ∷ before)) o ≡ Some r)
save_adds before o = by (place_or_none (place_among (first_saves before) o))
  where
    by : ((r : ℕ) × (place_among (first_saves before) o ≡ Some r)) ⊎ (place_among (first_saves before) o ≡ None) → (r : ℕ) × (place_among (first_saves (Save o ∷ before)) o ≡ Some r)
    by (inl old) = (old.0, rw old.1 old.1)
    by (inr none) = (length (first_saves before), rw none (place-append_new (first_saves before) o none))

saved_stands : (past : Past) (object : ℕ) → IsSavedBy past object → (row : ℕ) × (place_among (first_saves past) object ≡ Some row)
saved_stands [] object is = absurd is
saved_stands (Make ∷ before) object is = saved_stands before object is
saved_stands (Fill o place text ∷ before) object is = saved_stands before object is
saved_stands (Save o ∷ before) object (inl same) = subst (λ x. (row : ℕ) × (place_among (first_saves (Save o ∷ before)) x ≡ Some row)) same (save_adds before o)
saved_stands (Save o ∷ before) object (inr is) = let was = saved_stands before object is in save_keeps before o object was.0 was.1

only_saved : (past : Past) (object row : ℕ) → place_among (first_saves past) object ≡ Some row → IsSavedBy past object
only_saved [] object row is = cc
only_saved (Make ∷ before) object row is = only_saved before object row is
only_saved (Fill o place text ∷ before) object row is = only_saved before object row is
only_saved (Save o ∷ before) object row is = by (λ e. only_saved before object row e) (number_or_other o object) (place_or_none (place_among (first_saves before) o))
  where
    by : (place_among (first_saves before) object ≡ Some row → IsSavedBy before object) → (o ≡ object) ⊎ (o ≢ object) → ((r : ℕ) × (place_among (first_saves before) o ≡ Some r)) ⊎ (place_among (first_saves before) o ≡ None) → (o ≡ object) ⊎ IsSavedBy before object
    by again (inl same) which = inl same
    by again (inr apart) (inl old) = inr (again (sym (cases (place_among (first_saves before) o) old.0 old.1) ∙ is))
      where
        cases : (p : Option ℕ) (r : ℕ) → p ≡ Some r → place_among (cond (is_some p) (first_saves before) (first_saves before ++ o ∷ [])) object ≡ place_among (first_saves before) object
        cases p r e = rw e refl
    by again (inr apart) (inr none) = inr (again (sym (place-append_other (first_saves before) o object apart) ∙ sym (new (place_among (first_saves before) o) none) ∙ is))
      where
        new : (p : Option ℕ) → p ≡ None → place_among (cond (is_some p) (first_saves before) (first_saves before ++ o ∷ [])) object ≡ place_among (first_saves before ++ o ∷ []) object
        new p e = rw e refl

pub world_law_lem : WorldLaw
world_law_lem n past = record {
  stands = λ object is.
      let place = saved_stands past object is in
      (place.0, place.1, slice_get-map (saved_fields n past) (first_saves past) place.0 ∙ ap (option_map (saved_fields n past)) (place_get (first_saves past) object place.0 place.1));
  only = only_saved past;
  many = length-map (first_saves past) (saved_fields n past);
}
