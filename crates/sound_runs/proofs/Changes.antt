-- What changes make of the record of a key.
use Rattle.std.proofs.Common.{◌≡◌, ◌≢◌, ◌⊎◌, inl, inr, Bool, true, false, cond, ◌||◌, List, [], ◌∷◌, ◌++◌, Some, None, refl, sym, ap, ◌∙◌, arith}
use Rattle.std.specs.Ordering.{is_eq}
use Rattle.std.specs.Cmp.{tied_itself}
use Rattle.std.specs.FinMap.{get, insert, remove, get-insert, get-remove}
use Rattle.global_tree.proofs.MapLaws.{one_key}
use Rattle.schema_kinds.specs.declared.key.Key.{Key}
use Rattle.schema_kinds.specs.declared.record.Record.{Record}
use Rattle.schema_kinds.specs.declared.record.Part.{Part}
use Rattle.schema_kinds.specs.declared.record.Part.TheVariants.{Put, Del}
use Rattle.schema_kinds.specs.Worlds.{World, Change, apply}
use Rattle.schema_kinds.specs.KeyLaws.{key_total, key_exact}
use Rattle.object_calls.specs.Saves.{is_key}
use Rattle.object_runs.specs.ObjectMachine.{apply_all}
use Rattle.object_runs.specs.Causes.{Has}
use Rattle.object_runs.specs.Invariant.{key_of, changes, some_changes, IsPending}

pub or_false : (a b : Bool) → (a || b) ≡ false → (a ≡ false) × (b ≡ false)
or_false a b e = grind arith

pub or_assoc : (a b c : Bool) → (a || (b || c)) ≡ ((a || b) || c)
or_assoc a b c = grind arith

pub or_true : (a b : Bool) → (a || b) ≡ true → (a ≡ true) ⊎ (b ≡ true)
or_true true b e = inl refl
or_true false b e = inr e

pub not_both : {A : Type 0} {b : Bool} → b ≡ true → b ≡ false → A
not_both e f = absurd (cc (e, f))

pub not_true : (b : Bool) → (b ≡ true → ⊥) → b ≡ false
not_true true h = absurd (h refl)
not_true false h = refl

pub not_false : (b : Bool) → (b ≡ false → ⊥) → b ≡ true
not_false true h = refl
not_false false h = absurd (h refl)

-- ---- keys

pub same_key : (k : Key) → is_key k k ≡ true
same_key k = ap is_eq (tied_itself key_total k)

pub key_is : (k j : Key) → is_key k j ≡ true → k ≡ j
key_is k j e = one_key key_exact k j e

pub other_key : (k j : Key) → is_key k j ≡ false → k ≢ j
other_key k j e is = not_both (same_key k) (ap (is_key k) is ∙ e)

pub apart_key : (k j : Key) → k ≢ j → is_key k j ≡ false
apart_key k j ne = not_true (is_key k j) (λ e. ne (key_is k j e))

pub put_same : (k j : Key) (r q : Record) → k ≡ j → Some q ≡ Some r → Put k r ≡ Put j q
put_same k j r q e f = cc (e, f)

-- ---- changes

pub apply-append : (c d : Change) (w : World) → apply (c ++ d) w ≡ apply d (apply c w)
unfolding apply
apply-append [] d w = refl
apply-append (Put k r ∷ c) d w = apply-append c d (insert w k r)
apply-append (Del k ∷ c) d w = apply-append c d (remove w k)

pub changes-append : (c d : Change) (k : Key) → changes (c ++ d) k ≡ (changes c k || changes d k)
changes-append [] d k = refl
changes-append (x ∷ c) d k = ap (λ b. is_key k (key_of x) || b) (changes-append c d k) ∙ or_assoc (is_key k (key_of x)) (changes c k) (changes d k)

pub unchanged : (c : Change) (w : World) (k : Key) → changes c k ≡ false → get (apply c w) k ≡ get w k
unfolding apply
unchanged [] w k e = refl
unchanged (Put j r ∷ c) w k e =
    let h = or_false (is_key k j) (changes c k) e in
    unchanged c (insert w j r) k h.1 ∙ get-insert key_total w j r k ∙ ap (λ b. cond b (Some r) (get w k)) h.0
unchanged (Del j ∷ c) w k e =
    let h = or_false (is_key k j) (changes c k) e in
    unchanged c (remove w j) k h.1 ∙ get-remove key_total w j k ∙ ap (λ b. cond b None (get w k)) h.0

-- what a change makes of a key depends on the key's record alone
pub alike : (c : Change) (w w' : World) (k : Key) → get w' k ≡ get w k → get (apply c w') k ≡ get (apply c w) k
unfolding apply
alike [] w w' k e = e
alike (Put j r ∷ c) w w' k e =
    alike c (insert w j r) (insert w' j r) k
    (get-insert key_total w' j r k ∙ ap (cond (is_key k j) (Some r)) e ∙ sym (get-insert key_total w j r k))
alike (Del j ∷ c) w w' k e =
    alike c (remove w j) (remove w' j) k
    (get-remove key_total w' j k ∙ ap (cond (is_key k j) None) e ∙ sym (get-remove key_total w j k))

-- a record that a change leaves at a key that it changes was put by it
pub was_put : (c : Change) (w : World) (k : Key) (r : Record) → changes c k ≡ true → get (apply c w) k ≡ Some r → Has (Put k r) c
unfolding apply
was_put [] w k r e is = absurd (cc e)
was_put (Put j q ∷ c) w k r e is = by (λ v f g. was_put c v k r f g) (changes c k) refl
  where
    at : changes c k ≡ false → (d : Bool) → is_key k j ≡ d → cond (is_key k j) (Some q) (get w k) ≡ Some r → Put k r ≡ Put j q
    at f true g h = let one : k ≡ j = key_is k j g in let rec : Some q ≡ Some r = sym (ap (λ b. cond b (Some q) (get w k)) g) ∙ h in put_same k j r q one rec
    at f false g h = not_both (sym (ap (λ b. b || changes c k) g) ∙ e) f

    by : ((v : World) → changes c k ≡ true → get (apply c v) k ≡ Some r → Has (Put k r) c) → (b : Bool) → changes c k ≡ b → Has (Put k r) (Put j q ∷ c)
    by more true f = inr (more (insert w j q) f is)
    by more false f = inl (at f (is_key k j) refl (sym (get-insert key_total w j q k) ∙ sym (unchanged c (insert w j q) k f) ∙ is))
was_put (Del j ∷ c) w k r e is = by (λ v f g. was_put c v k r f g) (changes c k) refl
  where
    at : changes c k ≡ false → (d : Bool) → is_key k j ≡ d → cond (is_key k j) None (get w k) ≡ Some r → Put k r ≡ Del j
    at f true g h = absurd (cc (sym (ap (λ b. cond b None (get w k)) g) ∙ h))
    at f false g h = not_both (sym (ap (λ b. b || changes c k) g) ∙ e) f

    by : ((v : World) → changes c k ≡ true → get (apply c v) k ≡ Some r → Has (Put k r) c) → (b : Bool) → changes c k ≡ b → Has (Put k r) (Del j ∷ c)
    by more true f = inr (more (remove w j) f is)
    by more false f = inl (at f (is_key k j) refl (sym (get-remove key_total w j k) ∙ sym (unchanged c (remove w j) k f) ∙ is))

pub all_unchanged : (cs : List Change) (w : World) (k : Key) → some_changes cs k ≡ false → get (apply_all cs w) k ≡ get w k
all_unchanged [] w k e = refl
all_unchanged (c ∷ cs) w k e =
    let h = or_false (changes c k) (some_changes cs k) e in
    unchanged c (apply_all cs w) k h.0 ∙ all_unchanged cs w k h.1

pub all_alike : (cs : List Change) (w w' : World) (k : Key) → get w' k ≡ get w k → get (apply_all cs w') k ≡ get (apply_all cs w) k
all_alike [] w w' k e = e
all_alike (c ∷ cs) w w' k e = alike c (apply_all cs w) (apply_all cs w') k (all_alike cs w w' k e)

pub all_was_put : (cs : List Change) (w : World) (k : Key) (r : Record) → some_changes cs k ≡ true → get (apply_all cs w) k ≡ Some r → IsPending cs (Put k r)
all_was_put [] w k r e is = absurd (cc e)
all_was_put (c ∷ cs) w k r e is = by (λ f g. all_was_put cs w k r f g) (changes c k) refl
  where
    by : (some_changes cs k ≡ true → get (apply_all cs w) k ≡ Some r → IsPending cs (Put k r)) → (b : Bool) → changes c k ≡ b → IsPending (c ∷ cs) (Put k r)
    by more true f = inl (was_put c (apply_all cs w) k r f is)
    by more false f = inr (more (sym (ap (λ b. b || some_changes cs k) f) ∙ e) (sym (unchanged c (apply_all cs w) k f) ∙ is))

-- ---- what is pending in some of the lists

pub has-append : (c d : Change) (x : Part) → Has x (c ++ d) → Has x c ⊎ Has x d
has-append [] d x h = inr h
has-append (y ∷ c) d x (inl e) = inl (inl e)
has-append (y ∷ c) d x (inr h) = by (has-append c d x h)
  where
    by : Has x c ⊎ Has x d → Has x (y ∷ c) ⊎ Has x d
    by (inl g) = inl (inr g)
    by (inr g) = inr g

pub has_front : (c d : Change) (x : Part) → Has x c → Has x (c ++ d)
has_front (y ∷ c) d x (inl e) = inl e
has_front (y ∷ c) d x (inr h) = inr (has_front c d x h)
has_front [] d x h = absurd h

pub has_back : (c d : Change) (x : Part) → Has x d → Has x (c ++ d)
has_back [] d x h = h
has_back (y ∷ c) d x h = inr (has_back c d x h)

pub has_changed : (c : Change) (x : Part) → Has x c → changes c (key_of x) ≡ true
has_changed [] x h = absurd h
has_changed (y ∷ c) x (inl e) = ap (λ z. is_key (key_of x) (key_of z) || changes c (key_of x)) (sym e) ∙ ap (λ b. b || changes c (key_of x)) (same_key (key_of x))
has_changed (y ∷ c) x (inr h) = ap (λ b. is_key (key_of x) (key_of y) || b) (has_changed c x h) ∙ right (is_key (key_of x) (key_of y))
  where
    right : (a : Bool) → (a || true) ≡ true
    right a = grind arith

pub pending_changed : (cs : List Change) (x : Part) → IsPending cs x → some_changes cs (key_of x) ≡ true
pending_changed [] x h = absurd h
pending_changed (c ∷ cs) x (inl h) = ap (λ b. b || some_changes cs (key_of x)) (has_changed c x h)
pending_changed (c ∷ cs) x (inr h) = ap (λ b. changes c (key_of x) || b) (pending_changed cs x h) ∙ right (changes c (key_of x))
  where
    right : (a : Bool) → (a || true) ≡ true
    right a = grind arith

pub some_front : (front ds : List Change) (k : Key) → some_changes ds k ≡ true → some_changes (front ++ ds) k ≡ true
some_front [] ds k e = e
some_front (c ∷ front) ds k e = ap (λ b. changes c k || b) (some_front front ds k e) ∙ right (changes c k)
  where
    right : (a : Bool) → (a || true) ≡ true
    right a = grind arith

pub pending_front : (front ds : List Change) (x : Part) → IsPending ds x → IsPending (front ++ ds) x
pending_front [] ds x h = h
pending_front (c ∷ front) ds x h = inr (pending_front front ds x h)
