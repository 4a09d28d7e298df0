-- What changes make of the record of a key.
use Rattle.std.proofs.Common.{◌≡◌, Bool, true, false, cond, ◌||◌, List, [], ◌∷◌, ◌++◌, Option, Some, None, refl, sym, ap, ◌∙◌, arith}
use Rattle.std.specs.FinMap.{get, insert, remove, get-insert, get-remove}
use Rattle.schema_kinds.specs.declared.key.Key.{Key}
use Rattle.schema_kinds.specs.declared.record.Part.TheVariants.{Put, Del}
use Rattle.object_calls.specs.Saves.{is_key}
use Rattle.object_runs.specs.Invariant.{changes, key_of, some_changes}
use Rattle.object_runs.specs.ObjectMachine.{apply_all}
use Rattle.schema_kinds.specs.KeyLaws.{key_total}
use Rattle.schema_kinds.specs.Worlds.{Change, World, apply}

pub or_false : (a b : Bool) → (a || b) ≡ false → (a ≡ false) × (b ≡ false)
or_false a b e = grind arith

pub or_assoc : (a b c : Bool) → (a || (b || c)) ≡ ((a || b) || c)
or_assoc a b c = grind arith

pub apply-append : (c d : Change) (w : World) → apply (c ++ d) w ≡ apply d (apply c w)
unfolding apply
apply-append [] d w = refl
apply-append (Put k r ∷ c) d w = apply-append c d (insert w k r)
apply-append (Del k ∷ c) d w = apply-append c d (remove w k)

pub changes-append : (c d : Change) (k : Key) → changes (c ++ d) k ≡ (changes c k || changes d k)
changes-append [] d k = refl
changes-append (x ∷ c) d k = ap (λ b. is_key k (key_of x) || b) (changes-append c d k) ∙ or_assoc (is_key k (key_of x)) (changes c k) (changes d k)

pub unchanged : (c : Change) (w : World) (k : Key) → changes c k ≡ false → get (apply c w) k ≡ get w k
unfolding apply
unchanged [] w k e = refl
unchanged (Put j r ∷ c) w k e =
    let h = or_false (is_key k j) (changes c k) e in
    unchanged c (insert w j r) k h.1 ∙ get-insert key_total w j r k ∙ ap (λ b. cond b (Some r) (get w k)) h.0
unchanged (Del j ∷ c) w k e =
    let h = or_false (is_key k j) (changes c k) e in
    unchanged c (remove w j) k h.1 ∙ get-remove key_total w j k ∙ ap (λ b. cond b None (get w k)) h.0

-- what a change makes of a key depends on the key's record alone
pub alike : (c : Change) (w w' : World) (k : Key) → get w' k ≡ get w k → get (apply c w') k ≡ get (apply c w) k
unfolding apply
alike [] w w' k e = e
alike (Put j r ∷ c) w w' k e =
    alike c (insert w j r) (insert w' j r) k
    (get-insert key_total w' j r k ∙ ap (cond (is_key k j) (Some r)) e ∙ sym (get-insert key_total w j r k))
alike (Del j ∷ c) w w' k e =
    alike c (remove w j) (remove w' j) k
    (get-remove key_total w' j k ∙ ap (cond (is_key k j) None) e ∙ sym (get-remove key_total w j k))

pub all_unchanged : (cs : List Change) (w : World) (k : Key) → some_changes cs k ≡ false → get (apply_all cs w) k ≡ get w k
all_unchanged [] w k e = refl
all_unchanged (c ∷ cs) w k e =
    let h = or_false (changes c k) (some_changes cs k) e in
    unchanged c (apply_all cs w) k h.0 ∙ all_unchanged cs w k h.1

pub all_alike : (cs : List Change) (w w' : World) (k : Key) → get w' k ≡ get w k → get (apply_all cs w') k ≡ get (apply_all cs w) k
all_alike [] w w' k e = e
all_alike (c ∷ cs) w w' k e = alike c (apply_all cs w) (apply_all cs w') k (all_alike cs w w' k e)
