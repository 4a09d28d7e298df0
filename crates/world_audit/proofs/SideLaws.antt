-- Sides that are noted in turn.
use Rattle.std.proofs.Common.{◌≡◌, ℕ, zero, suc, ◌+◌, ◌<◌, ◌≤◌, length, drop, get_or, Result, Ok, Err, OnOk, arith, ◌⊎◌, inl, inr, List, [], ◌∷◌, Option, Some, refl, sym, ap, subst, ◌∙◌}
use Rattle.obj_kinds.specs.declared.node.Node.{Node}
use Rattle.schema_kinds.specs.declared.class.Class.{Class}
use Rattle.schema_kinds.specs.declared.key.Key.{Key}
use Rattle.schema_kinds.specs.declared.record.Record.{Record}
use Rattle.storage_map.specs.Keys.{Side, sides_of}
use Rattle.storage_map.specs.SoundWorlds.{HasSide}
use Rattle.world_audit.specs.declared.found.Found.{Found}
use Rattle.world_audit.specs.declared.found.Found.TheVariants.{Whole, Broken}
use Rattle.world_audit.specs.Faults.{entry_of_side}
use Rattle.world_audit.specs.Finds.{Finds}
use Rattle.world_audit.specs.Least.{lesser, noted, IsElement, IsUpTo}
use Rattle.world_audit.specs.Sides.{IsMetIn, IsUnmet, Notes, IsOneOf, IsSideIn, IsSideOfAny}
use Rattle.world_audit.proofs.LeastLaws.{noted_keeps, noted_all, noted_from}

module _ (classes : List Class) (finds : Finds) where
  -- nothing is noted of no sides
  pub no_notes : (These : Key → Side → Type 0) (least : Option Node) → ((k : Key) (s : Side) → These k s → ⊥) → Notes classes finds These least least
  no_notes These least none = record { keeps = λ n h. h; from = λ n h. inl h; met = λ k s h. absurd (none k s h) }

  -- of sides that are met
  pub met_notes : (These : Key → Side → Type 0) (least : Option Node) → ((k : Key) (s : Side) → These k s → IsMetIn classes finds s s.target) → Notes classes finds These least least
  met_notes These least met = record { keeps = λ n h. h; from = λ n h. inl h; met = λ k s h. inl (met k s h) }

  -- first some and then others
  pub notes_then : (A B C : Key → Side → Type 0) (a b c : Option Node) → ((k : Key) (s : Side) → A k s → C k s) → ((k : Key) (s : Side) → B k s → C k s) → ((k : Key) (s : Side) → C k s → A k s ⊎ B k s)
      → Notes classes finds A a b → Notes classes finds B b c → Notes classes finds C a c
  notes_then A B C a b c of_a of_b split first second = record {
    keeps = λ n h. second.keeps n (first.keeps n h);
    from = λ n h. from n (second.from n h);
    met = λ k s h. met k s (split k s h);
  }
    where
      from_first : (n : Node) → (a ≡ Some n) ⊎ ((k : Key) × (s : Side) × A k s × IsUnmet classes finds k s n) → (a ≡ Some n) ⊎ ((k : Key) × (s : Side) × C k s × IsUnmet classes finds k s n)
      from_first n (inl h) = inl h
      from_first n (inr h) = inr (h.0, h.1, of_a h.0 h.1 h.2, h.3)

      from : (n : Node) → (b ≡ Some n) ⊎ ((k : Key) × (s : Side) × B k s × IsUnmet classes finds k s n) → (a ≡ Some n) ⊎ ((k : Key) × (s : Side) × C k s × IsUnmet classes finds k s n)
      from n (inl h) = from_first n (first.from n h)
      from n (inr h) = inr (h.0, h.1, of_b h.0 h.1 h.2, h.3)

      met_first : (k : Key) (s : Side) → IsMetIn classes finds s s.target ⊎ ((n : Node) × IsUnmet classes finds k s n × IsUpTo b n) → IsMetIn classes finds s s.target ⊎ ((n : Node) × IsUnmet classes finds k s n × IsUpTo c n)
      met_first k s (inl h) = inl h
      met_first k s (inr h) = inr (h.0, h.1, second.keeps h.0 h.2)

      met : (k : Key) (s : Side) → A k s ⊎ B k s → IsMetIn classes finds s s.target ⊎ ((n : Node) × IsUnmet classes finds k s n × IsUpTo c n)
      met k s (inl h) = met_first k s (first.met k s h)
      met k s (inr h) = second.met k s h

  pub sides_then : (key : Key) (side : Side) (more : List Side) (a b c : Option Node) → Notes classes finds (IsOneOf key (side ∷ [])) a b → Notes classes finds (IsOneOf key more) b c → Notes classes finds (IsOneOf key (side ∷ more)) a c
  sides_then key side more a b c =
      notes_then (IsOneOf key (side ∷ [])) (IsOneOf key more) (IsOneOf key (side ∷ more)) a b c (λ k s h. (h.0, one s h.1)) (λ k s h. (h.0, inr h.1)) (λ k s h. split k s h.0 h.1)
    where
      one : (s : Side) → HasSide s (side ∷ []) → HasSide s (side ∷ more)
      one s (inl h) = inl h
      one s (inr h) = absurd h

      split : (k : Key) (s : Side) → k ≡ key → HasSide s (side ∷ more) → IsOneOf key (side ∷ []) k s ⊎ IsOneOf key more k s
      split k s is (inl h) = inl (is, inl h)
      split k s is (inr h) = inr (is, h)

  pub finds_then : (e : Key × Found) (es : Finds) (a b c : Option Node) → Notes classes finds (IsSideIn classes e) a b → Notes classes finds (IsSideOfAny classes es) b c → Notes classes finds (IsSideOfAny classes (e ∷ es)) a c
  finds_then e es a b c =
      notes_then (IsSideIn classes e) (IsSideOfAny classes es) (IsSideOfAny classes (e ∷ es)) a b c (λ k s h. (e, inl refl, h)) (λ k s h. (h.0, inr h.1, h.2)) (λ k s h. split k s h.0 h.1 h.2)
    where
      split : (k : Key) (s : Side) (d : Key × Found) → IsElement d (e ∷ es) → IsSideIn classes d k s → IsSideIn classes e k s ⊎ IsSideOfAny classes es k s
      split k s d (inl same) h = inl (subst (λ (f : Key × Found). IsSideIn classes f k s) same h)
      split k s d (inr more) h = inr (d, more, h)

  -- one side that is met
  pub one_met : (key : Key) (side : Side) (least : Option Node) → IsMetIn classes finds side side.target → Notes classes finds (IsOneOf key (side ∷ [])) least least
  one_met key side least met = met_notes (IsOneOf key (side ∷ [])) least (λ k s h. at s h.1)
    where
      at : (s : Side) → HasSide s (side ∷ []) → IsMetIn classes finds s s.target
      at s (inl same) = subst (λ (t : Side). IsMetIn classes finds t t.target) (sym same) met
      at s (inr h) = absurd h

  -- one side that lacks its target
  pub one_unmet : (key : Key) (side : Side) (id : List ℕ) (least : Option Node) (n : Node) → side.target ≡ Some id → (IsMetIn classes finds side (Some id) → ⊥) → n ≡ entry_of_side key side.name id
      → Notes classes finds (IsOneOf key (side ∷ [])) least (lesser least n)
  one_unmet key side id least n names unmet entry = record {
    keeps = λ m h. noted_keeps (n ∷ []) least m h;
    from = λ m h. from m (noted_from (n ∷ []) least m h);
    met = λ k s h. inr (n, all k s h.0 h.1, noted_all (n ∷ []) least n (inl refl));
  }
    where
      from : (m : Node) → (least ≡ Some m) ⊎ Rattle.world_audit.specs.Least.IsAmong m (n ∷ []) → (least ≡ Some m) ⊎ ((k : Key) × (s : Side) × IsOneOf key (side ∷ []) k s × IsUnmet classes finds k s m)
      from m (inl h) = inl h
      from m (inr (inl same)) = inr (key, side, (refl, inl refl), record { id = id; names = names; unmet = unmet; entry = same ∙ entry })
      from m (inr (inr h)) = absurd h

      all : (k : Key) (s : Side) → k ≡ key → HasSide s (side ∷ []) → IsUnmet classes finds k s n
      all k s is (inl same) =
          subst (λ (j : Key). IsUnmet classes finds j s n) (sym is) (subst (λ (t : Side). IsUnmet classes finds key t n) (sym same) (record { id = id; names = names; unmet = unmet; entry = entry }))
      all k s is (inr h) = absurd h

  -- the sides of a record are those of its find
  pub of_record : (key : Key) (r : Record) (ss : List Side) (a b : Option Node) → ss ≡ sides_of classes r → Notes classes finds (IsOneOf key ss) a b → Notes classes finds (IsSideIn classes (key, Whole r)) a b
  of_record key r ss a b is h = record {
    keeps = h.keeps;
    from = λ n e. from n (h.from n e);
    met = λ k s m. h.met k s (back k s m);
  }
    where
      from : (n : Node) → (a ≡ Some n) ⊎ ((k : Key) × (s : Side) × IsOneOf key ss k s × IsUnmet classes finds k s n) → (a ≡ Some n) ⊎ ((k : Key) × (s : Side) × IsSideIn classes (key, Whole r) k s × IsUnmet classes finds k s n)
      from n (inl e) = inl e
      from n (inr e) = inr (e.0, e.1, record { own = r; whole = refl; key = e.2.0; has = subst (HasSide e.1) is e.2.1 }, e.3)

      back : (k : Key) (s : Side) → IsSideIn classes (key, Whole r) k s → IsOneOf key ss k s
      back k s m =
          let whole : Whole r ≡ Whole m.own = m.whole in
          let same : r ≡ m.own = cc in
          (m.key, subst (HasSide s) (sym is) (subst (λ (q : Record). HasSide s (sides_of classes q)) (sym same) m.has))

  pub of_broken : (key : Key) (n : Node) (least : Option Node) → Notes classes finds (IsSideIn classes (key, Broken n)) least least
  of_broken key n least = no_notes (IsSideIn classes (key, Broken n)) least (λ k s h. no k s h)
    where
      no : (k : Key) (s : Side) → IsSideIn classes (key, Broken n) k s → ⊥
      no k s h = let e : Broken n ≡ Whole h.own = h.whole in cc

-- ---- lists that are gone through

pub drop_at : {A : Type 0} (xs : List A) (i : ℕ) (x : A) → i < length xs → x ≡ get_or xs i x → drop i xs ≡ x ∷ drop (i + 1) xs
drop_at [] i x lt is = absurd (omega (arith, lt))
drop_at (y ∷ ys) zero x lt is = λ j. sym is j ∷ ys
drop_at (y ∷ ys) (suc i) x lt is = drop_at ys i x (omega (arith, lt)) is ∙ ap (λ k. x ∷ drop k (y ∷ ys)) (let e : suc (i + 1) ≡ suc i + 1 = omega arith in e)

pub drop_past : {A : Type 0} (xs : List A) (i : ℕ) → length xs ≤ i → drop i xs ≡ []
drop_past [] zero le = refl
drop_past [] (suc i) le = refl
drop_past (x ∷ xs) zero le = absurd (omega (arith, le))
drop_past (x ∷ xs) (suc i) le = drop_past xs i (omega (arith, le))

pub on_more : {A E : Type 0} (r : Result A E) (P Q : Type 0) → (P → Q) → OnOk r P → OnOk r Q
on_more (Ok a) P Q f h = f h
on_more (Err e) P Q f h = tt
