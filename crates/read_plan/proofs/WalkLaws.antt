-- Walks that found elements before.
use Rattle.std.proofs.Common.{◌≡◌, ℕ, zero, suc, Bool, true, false, [], ◌∷◌, ◌++◌, Option, Some, refl, ap, ◌∙◌}
use Rattle.std.specs.Prelude.{cond}
use Rattle.std.proofs.lemmas.List.{append_assoc}
use Rattle.obj_kinds.specs.declared.node.Node.{Node}
use Rattle.obj_kinds.specs.declared.sub.Sub.{Sub}
use Rattle.obj_kinds.specs.declared.value.Value.{Value}
use Rattle.obj_kinds.specs.declared.op.Op.TheVariants.{Get, Order}
use Rattle.obj_kinds.specs.declared.op.Reply.{Reply}
use Rattle.obj_kinds.specs.declared.op.Reply.TheVariants.{Found, Next}
use Rattle.obj_kinds.specs.declared.cause.Cause.TheVariants.{Damaged}
use Rattle.store_calls.specs.Calls.{Call, Give, Ask, Tag, Tried, Got, Lost, then, then_on, Again, round, turns}
use Rattle.store_calls.specs.Walks.{child, Elements, Walk, on_element, on_key, walk_turn, walk}

module _ (n : Node) (tag : Tag) (is_form : Node → Value → Bool) where
  abbrev behind_found : Option Sub → Elements → Walk
  behind_found behind found = record { behind = behind; found = found }

  abbrev put_before : Elements → Elements → Call (Tried Elements)
  put_before xs es = Give (Got (xs ++ es))

  -- elements that were found before stand before those that are found
  pub walk_shift : (xs ys : Elements) (most : ℕ) (behind : Option Sub)
      → walk n tag is_form most (behind_found behind (xs ++ ys)) ≡ then (walk n tag is_form most (behind_found behind ys)) (put_before xs)
  unfolding walk
  walk_shift xs ys zero behind = refl
  walk_shift xs ys (suc m) behind = λ i. Ask (Order n behind) tag (λ r. by_key (λ k v. walk_shift xs (ys ++ (k, v) ∷ []) m (Some k)) r i)
    where
      more : Walk → Call (Tried Elements)
      more = turns m (walk_turn n tag is_form)

      Shifted : Type 0
      Shifted = (k : Sub) (v : Value) → more (behind_found (Some k) (xs ++ (ys ++ (k, v) ∷ []))) ≡ then (more (behind_found (Some k) (ys ++ (k, v) ∷ []))) (put_before xs)

      by_form : Shifted → (k : Sub) (v : Value) (b : Bool)
          → then_on (round more) (cond b (Got (Again (behind_found (Some k) ((xs ++ ys) ++ (k, v) ∷ [])))) (Lost (Damaged (child n k))))
          ≡ then (then_on (round more) (cond b (Got (Again (behind_found (Some k) (ys ++ (k, v) ∷ [])))) (Lost (Damaged (child n k))))) (put_before xs)
      by_form shifted k v true = ap (λ es. more (behind_found (Some k) es)) (append_assoc xs ys ((k, v) ∷ [])) ∙ shifted k v
      by_form shifted k v false = refl

      by_element : Shifted → (k : Sub) (r : Reply) → then_on (round more) (on_element n tag is_form (xs ++ ys) k r) ≡ then (then_on (round more) (on_element n tag is_form ys k r)) (put_before xs)
      by_element shifted k (Found v) = by_form shifted k v (is_form (child n k) v)
      by_element shifted k r = refl

      by_key : Shifted → (r : Reply) → then (on_key n tag is_form (xs ++ ys) r) (round more) ≡ then (then (on_key n tag is_form ys r) (round more)) (put_before xs)
      by_key shifted (Next k) = λ i. Ask (Get (child n k)) tag (λ r. by_element shifted k r i)
      by_key shifted r = refl
