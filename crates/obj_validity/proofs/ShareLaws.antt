-- What each field adds to its list.
use Rattle.std.proofs.Common.{◌≡◌, ℕ, ◌+◌, ◌≤◌, arith, List, [], ◌∷◌, ◌++◌, map, length, Option, None, Some, refl, ap, sym, ◌∙◌}
use Rattle.std.proofs.lemmas.List.{map-append}
use Rattle.obj_kinds.specs.declared.sub.Sub.{Sub}
use Rattle.schema_kinds.specs.declared.record.Field.{Field}
use Rattle.schema_kinds.specs.declared.record.Field.TheVariants as field
use Rattle.schema_kinds.specs.declared.record.Field.TheVariants.{rolls-Plain, rolls-Target, rolls-Part, rolls-List as rolls-Fields, rolls-Map}
use Rattle.schema_kinds.specs.declared.record.Field.TheOpen.{Field-F}
use Rattle.schema_kinds.specs.declared.record.Field.TheFolds.{fold-roll-Field}
use Rattle.obj_validity.specs.Weights.{share_step, share, room_after, total}
use Rattle.obj_validity.proofs.RoomLaws.{total-append, room_then, room_stop}

pub share_plain : (t : List ℕ) → share (field.Plain t) ≡ 2 + length t
unfolding share
share_plain t = ap share (sym (rolls-Plain t)) ∙ fold-roll-Field ℕ share_step (Field-F.Plain t)

pub share_target : (o : Option (List ℕ)) → share (field.Target o) ≡ 66
unfolding share
share_target o = ap share (sym (rolls-Target o)) ∙ fold-roll-Field ℕ share_step (Field-F.Target o)

pub share_no_part : share (field.Part None) ≡ 2
unfolding share
share_no_part = ap share (sym (rolls-Part None)) ∙ fold-roll-Field ℕ share_step (Field-F.Part None)

pub share_part : (fs : List Field) → share (field.Part (Some fs)) ≡ 4 + total (map share fs)
unfolding share
share_part fs = ap share (sym (rolls-Part (Some fs))) ∙ fold-roll-Field ℕ share_step (Field-F.Part (Some fs))

pub share_no_list : share (field.List []) ≡ 2
unfolding share
share_no_list = ap share (sym (rolls-Fields [])) ∙ fold-roll-Field ℕ share_step (Field-F.List [])

share_some : (f : Field) (fs : List Field) → share (field.List (f ∷ fs)) ≡ 4 + total (map share (f ∷ fs))
unfolding share
share_some f fs = ap share (sym (rolls-Fields (f ∷ fs))) ∙ fold-roll-Field ℕ share_step (Field-F.List (f ∷ fs))

pub share_map : (ps : List (Sub × Field)) → share (field.Map ps) ≡ 0
unfolding share
share_map ps = ap share (sym (rolls-Map ps)) ∙ fold-roll-Field ℕ share_step (Field-F.Map ps)

shares_map : {X : Type 0} (f : X → Field) (xs : List X) → map share (map f xs) ≡ map (λ x. share (f x)) xs
shares_map f [] = refl
shares_map f (x ∷ xs) = ap (λ ws. share (f x) ∷ ws) (shares_map f xs)

-- a list that isn't empty, of what is made of each item
pub share_list : {X : Type 0} (f : X → Field) (xs : List X) → (xs ≡ [] → ⊥) → share (field.List (map f xs)) ≡ 4 + total (map (λ x. share (f x)) xs)
share_list f [] h = absurd (h refl)
share_list f (x ∷ xs) h = share_some (f x) (map f xs) ∙ ap (λ ws. 4 + total ws) (shares_map f (x ∷ xs))

pub shares_then : (r q : ℕ) (fs gs : List Field) → room_after r (total (map share fs)) ≡ Some q → room_after r (total (map share (fs ++ gs))) ≡ room_after q (total (map share gs))
shares_then r q fs gs h =
    ap (λ ws. room_after r (total ws)) (map-append share fs gs) ∙ ap (room_after r) (total-append (map share fs) (map share gs))
    ∙ room_then r (total (map share fs)) (total (map share gs)) q h

pub shares_stop : (r : ℕ) (fs gs : List Field) → room_after r (total (map share fs)) ≡ None → room_after r (total (map share (fs ++ gs))) ≡ None
shares_stop r fs gs h =
    ap (λ ws. room_after r (total ws)) (map-append share fs gs) ∙ ap (room_after r) (total-append (map share fs) (map share gs))
    ∙ room_stop r (total (map share fs)) (total (map share gs)) h

-- an empty list
pub share_empty : {X : Type 0} (f : X → Field) (xs : List X) → length xs ≡ 0 → share (field.List (map f xs)) ≡ 2
share_empty f [] h = share_no_list
share_empty f (x ∷ xs) h = absurd (omega (arith, h))

-- one field alone
pub share_alone : (f : Field) → total (map share (f ∷ [])) ≡ share f
share_alone f = omega arith
