-- What marking one object, and several, changes.
use Rattle.std.proofs.Common.{◌≡◌, ◌⊎◌, inl, inr, ℕ, suc, ◌+◌, ◌≤◌, ◌<◌, ◌==◌, nat_lt, Bool, true, false, cond, ◌||◌, List, [], ◌∷◌, ◌++◌, length, refl, sym, ap, subst, ◌∙◌, arith}
use Rattle.std.specs.Ordering.{nat_cmp, match_ordering, is_eq}
use Rattle.std.specs.declared.cmp.Ordering.{Ordering}
use Rattle.std.specs.declared.cmp.Ordering.TheVariants.{Less, Equal, Greater}
use Rattle.std.specs.BTreeSet.{insert_key}
use Rattle.std.proofs.lemmas.Bool.{eqb-true, eq-eqb}
use Rattle.object_calls.specs.Reach.{is_among}
use Rattle.call_laws.proofs.Growth.{among_first, among_more, among_split}
use Rattle.save_set.specs.Marking.{Found, has_mark, mark_one, mark_each}

-- ---- the test of marks, and what is in a list

eq_cmp : (n x : ℕ) → is_eq (nat_cmp n x) ≡ (x == n)
eq_cmp n x = by (nat_lt n x) (n == x) (x == n) refl refl refl
  where
    by : (l e f : Bool) → nat_lt n x ≡ l → (n == x) ≡ e → (x == n) ≡ f → is_eq (cond l Less (cond e Equal Greater)) ≡ f
    by true e true p q r = absurd (let s = eqb-true x n r in let t = ap (nat_lt n) s in grind (arith, p))
    by true e false p q r = refl
    by false true true p q r = refl
    by false true false p q r = let s = eq-eqb x n (sym (eqb-true n x q)) in cc
    by false false true p q r = let s = eq-eqb n x (sym (eqb-true x n r)) in cc
    by false false false p q r = refl

pub mark_among : (marks : List ℕ) (n : ℕ) → has_mark marks n ≡ is_among n marks
mark_among [] n = refl
mark_among (x ∷ xs) n = ap (λ b. b || has_mark xs n) (eq_cmp n x) ∙ ap (λ b. (x == n) || b) (mark_among xs n)

cmp_equal : (n x : ℕ) → nat_cmp n x ≡ Equal → x ≡ n
cmp_equal n x e = eqb-true x n (sym (eq_cmp n x) ∙ ap is_eq e)

-- ---- one more

inserted : (marks : List ℕ) (n k : ℕ) → is_among k (insert_key nat_cmp marks n) ≡ (n == k) || is_among k marks
inserted [] n k = refl
inserted (x ∷ xs) n k = by (nat_cmp n x) refl (inserted xs n k)
  where
    swap : (a b c : Bool) → a || (b || c) ≡ b || (a || c)
    swap true true c = refl
    swap true false c = refl
    swap false b c = refl

    twice : (b c : Bool) → b || c ≡ b || (b || c)
    twice true c = refl
    twice false c = refl

    by : (o : Ordering) → nat_cmp n x ≡ o → is_among k (insert_key nat_cmp xs n) ≡ (n == k) || is_among k xs
        → is_among k (match_ordering o (n ∷ x ∷ xs) (x ∷ xs) (x ∷ insert_key nat_cmp xs n)) ≡ (n == k) || ((x == k) || is_among k xs)
    by Less e more = refl
    by Equal e more = twice (x == k) (is_among k xs) ∙ ap (λ (y : ℕ). (y == k) || ((x == k) || is_among k xs)) (cmp_equal n x e)
    by Greater e more = ap (λ b. (x == k) || b) more ∙ swap (x == k) (n == k) (is_among k xs)

among_append : (xs ys : List ℕ) (k : ℕ) → is_among k (xs ++ ys) ≡ is_among k xs || is_among k ys
among_append [] ys k = refl
among_append (x ∷ xs) ys k = by (x == k) (among_append xs ys k)
  where
    by : (b : Bool) → is_among k (xs ++ ys) ≡ is_among k xs || is_among k ys → b || is_among k (xs ++ ys) ≡ (b || is_among k xs) || is_among k ys
    by true e = refl
    by false e = e

or_left : (a b : Bool) → a ≡ true → a || b ≡ true
or_left true b e = refl
or_left false b e = cc

or_right : (a b : Bool) → b ≡ true → a || b ≡ true
or_right true b e = refl
or_right false b e = e

or_split : (a b : Bool) → a || b ≡ true → (a ≡ true) ⊎ (b ≡ true)
or_split true b e = inl refl
or_split false b e = inr e

pub append_left : (xs ys : List ℕ) (k : ℕ) → is_among k xs ≡ true → is_among k (xs ++ ys) ≡ true
append_left xs ys k h = among_append xs ys k ∙ or_left (is_among k xs) (is_among k ys) h

pub append_right : (xs ys : List ℕ) (k : ℕ) → is_among k ys ≡ true → is_among k (xs ++ ys) ≡ true
append_right xs ys k h = among_append xs ys k ∙ or_right (is_among k xs) (is_among k ys) h

pub append_split : (xs ys : List ℕ) (k : ℕ) → is_among k (xs ++ ys) ≡ true → (is_among k xs ≡ true) ⊎ (is_among k ys ≡ true)
append_split xs ys k h = or_split (is_among k xs) (is_among k ys) (sym (among_append xs ys k) ∙ h)

-- ---- how many aren't found

abbrev pub unfound : List ℕ → List ℕ → ℕ
unfound marks [] = 0
unfound marks (k ∷ ks) = cond (is_among k marks) 0 1 + unfound marks ks

unfound_le : (a b ks : List ℕ) → ((k : ℕ) → is_among k a ≡ true → is_among k b ≡ true) → unfound b ks ≤ unfound a ks
unfound_le a b [] h = omega arith
unfound_le a b (k ∷ ks) h = by (is_among k a) (is_among k b) (h k) (unfound_le a b ks h)
  where
    by : (p q : Bool) → (p ≡ true → q ≡ true) → unfound b ks ≤ unfound a ks → cond q 0 1 + unfound b ks ≤ cond p 0 1 + unfound a ks
    by true true f l = omega arith
    by true false f l = let wrong = f refl in cc
    by false true f l = omega arith
    by false false f l = omega arith

unfound_less : (a b ks : List ℕ) (n : ℕ) → ((k : ℕ) → is_among k a ≡ true → is_among k b ≡ true) → is_among n ks ≡ true → is_among n a ≡ false → is_among n b ≡ true
    → unfound b ks < unfound a ks
unfound_less a b [] n h into off on = cc
unfound_less a b (k ∷ ks) n h into off on = by (among_split n k ks into) (λ more. unfound_less a b ks n h more off on)
  where
    first : (p q : Bool) → p ≡ false → q ≡ true → unfound b ks ≤ unfound a ks → cond q 0 1 + unfound b ks < cond p 0 1 + unfound a ks
    first true q e f l = cc
    first false true e f l = omega arith
    first false false e f l = cc

    other : (p q : Bool) → (p ≡ true → q ≡ true) → unfound b ks < unfound a ks → cond q 0 1 + unfound b ks < cond p 0 1 + unfound a ks
    other true true f l = omega arith
    other true false f l = let wrong = f refl in cc
    other false true f l = omega arith
    other false false f l = omega arith

    by : (k ≡ n) ⊎ (is_among n ks ≡ true) → (is_among n ks ≡ true → unfound b ks < unfound a ks) → unfound b (k ∷ ks) < unfound a (k ∷ ks)
    by (inl same) rest = first (is_among k a) (is_among k b) (ap (λ j. is_among j a) same ∙ off) (ap (λ j. is_among j b) same ∙ on) (unfound_le a b ks h)
    by (inr more) rest = other (is_among k a) (is_among k b) (h k) (rest more)

-- ---- what marking several does

pub record Gains (live ns : List ℕ) (f g : Found) : Type 0 where
  pub more : (k : ℕ) → is_among k f.marks ≡ true → is_among k g.marks ≡ true
  pub has : (k : ℕ) → is_among k ns ≡ true → is_among k g.marks ≡ true
  pub from : (k : ℕ) → is_among k g.marks ≡ true → (is_among k f.marks ≡ true) ⊎ ((is_among k ns ≡ true) × (is_among k g.ahead ≡ true))
  pub keeps : (k : ℕ) → is_among k f.ahead ≡ true → is_among k g.ahead ≡ true
  pub queued : (k : ℕ) → is_among k g.ahead ≡ true → (is_among k f.ahead ≡ true) ⊎ (is_among k ns ≡ true)
  pub size : ((k : ℕ) → is_among k ns ≡ true → is_among k live ≡ true) → unfound g.marks live + length g.ahead ≤ unfound f.marks live + length f.ahead

-- with one more, found before or not
abbrev one_by : Bool → ℕ → Found → Found
one_by b n f = record { marks = insert_key nat_cmp f.marks n; ahead = f.ahead ++ cond b [] (n ∷ []) }

one_is : (n : ℕ) (f : Found) → mark_one n f ≡ one_by (is_among n f.marks) n f
unfolding mark_one
one_is n f = ap (λ b. one_by b n f) (mark_among f.marks n)

as_long : (xs : List ℕ) → length (xs ++ []) ≡ length xs
as_long [] = refl
as_long (x ∷ xs) = ap suc (as_long xs)

one_longer : (xs : List ℕ) (n : ℕ) → length (xs ++ n ∷ []) ≡ suc (length xs)
one_longer [] n = refl
one_longer (x ∷ xs) n = ap suc (one_longer xs n)

module _ (live : List ℕ) (n : ℕ) (f : Found) where
  abbrev marks : List ℕ
  marks = insert_key nat_cmp f.marks n

  more_marks : (k : ℕ) → is_among k f.marks ≡ true → is_among k marks ≡ true
  more_marks k h = inserted f.marks n k ∙ or_right (n == k) (is_among k f.marks) h

  one_has : (k : ℕ) → is_among k (n ∷ []) ≡ true → is_among k marks ≡ true
  one_has k h = by (among_split k n [] h)
    where
      by : (n ≡ k) ⊎ (is_among k [] ≡ true) → is_among k marks ≡ true
      by (inl same) = inserted f.marks n k ∙ or_left (n == k) (is_among k f.marks) (eq-eqb n k same)
      by (inr none) = cc

  from_marks : (k : ℕ) → is_among k marks ≡ true → (n ≡ k) ⊎ (is_among k f.marks ≡ true)
  from_marks k h = by (or_split (n == k) (is_among k f.marks) (sym (inserted f.marks n k) ∙ h))
    where
      by : ((n == k) ≡ true) ⊎ (is_among k f.marks ≡ true) → (n ≡ k) ⊎ (is_among k f.marks ≡ true)
      by (inl e) = inl (eqb-true n k e)
      by (inr e) = inr e

  one_gains : (b : Bool) → is_among n f.marks ≡ b → Gains live (n ∷ []) f (one_by b n f)
  one_gains true old = record {
    more = more_marks;
    has = one_has;
    from = λ k h. from_old k (from_marks k h);
    keeps = λ k h. append_left f.ahead [] k h;
    queued = λ k h. queued_old k (append_split f.ahead [] k h);
    size = λ l. let less = unfound_le f.marks marks live more_marks in let same = append-nil in omega (arith, less, same);
  }
    where
      from_old : (k : ℕ) → (n ≡ k) ⊎ (is_among k f.marks ≡ true) → (is_among k f.marks ≡ true) ⊎ ((is_among k (n ∷ []) ≡ true) × (is_among k (f.ahead ++ []) ≡ true))
      from_old k (inl same) = inl (sym (ap (λ j. is_among j f.marks) same) ∙ old)
      from_old k (inr h) = inl h

      queued_old : (k : ℕ) → (is_among k f.ahead ≡ true) ⊎ (is_among k [] ≡ true) → (is_among k f.ahead ≡ true) ⊎ (is_among k (n ∷ []) ≡ true)
      queued_old k (inl h) = inl h
      queued_old k (inr h) = cc

      append-nil : length (f.ahead ++ []) ≡ length f.ahead
      append-nil = as_long f.ahead
  one_gains false new = record {
    more = more_marks;
    has = one_has;
    from = λ k h. from_new k (from_marks k h);
    keeps = λ k h. append_left f.ahead (n ∷ []) k h;
    queued = λ k h. append_split f.ahead (n ∷ []) k h;
    size = λ l. let less = unfound_less f.marks marks live n more_marks (l n (among_first n [])) new (one_has n (among_first n [])) in let long = append-one in omega (arith, less, long);
  }
    where
      from_new : (k : ℕ) → (n ≡ k) ⊎ (is_among k f.marks ≡ true) → (is_among k f.marks ≡ true) ⊎ ((is_among k (n ∷ []) ≡ true) × (is_among k (f.ahead ++ n ∷ []) ≡ true))
      from_new k (inl same) = let here = ap (λ b. b || false) (eq-eqb n k same) in inr (here, append_right f.ahead (n ∷ []) k here)
      from_new k (inr h) = inl h

      append-one : length (f.ahead ++ n ∷ []) ≡ suc (length f.ahead)
      append-one = one_longer f.ahead n

pub gains_one : (live : List ℕ) (n : ℕ) (f : Found) → Gains live (n ∷ []) f (mark_one n f)
gains_one live n f = subst (Gains live (n ∷ []) f) (sym (one_is n f)) (one_gains live n f (is_among n f.marks) refl)

module _ (live : List ℕ) (n : ℕ) (ns : List ℕ) (f g h : Found) (first : Gains live (n ∷ []) f g) (rest : Gains live ns g h) where
  head_of : (k : ℕ) → is_among k (n ∷ []) ≡ true → is_among k (n ∷ ns) ≡ true
  head_of k e = by (among_split k n [] e)
    where
      by : (n ≡ k) ⊎ (is_among k [] ≡ true) → is_among k (n ∷ ns) ≡ true
      by (inl same) = ap (λ b. b || is_among k ns) (eq-eqb n k same)
      by (inr none) = cc

  both_has : (k : ℕ) → (n ≡ k) ⊎ (is_among k ns ≡ true) → is_among k h.marks ≡ true
  both_has k (inl same) = rest.more k (first.has k (ap (λ b. b || false) (eq-eqb n k same)))
  both_has k (inr e) = rest.has k e

  from_first : (k : ℕ) → (is_among k f.marks ≡ true) ⊎ ((is_among k (n ∷ []) ≡ true) × (is_among k g.ahead ≡ true)) → (is_among k f.marks ≡ true) ⊎ ((is_among k (n ∷ ns) ≡ true) × (is_among k h.ahead ≡ true))
  from_first k (inl e) = inl e
  from_first k (inr p) = inr (head_of k p.0, rest.keeps k p.1)

  from_both : (k : ℕ) → (is_among k g.marks ≡ true) ⊎ ((is_among k ns ≡ true) × (is_among k h.ahead ≡ true)) → (is_among k f.marks ≡ true) ⊎ ((is_among k (n ∷ ns) ≡ true) × (is_among k h.ahead ≡ true))
  from_both k (inl e) = from_first k (first.from k e)
  from_both k (inr p) = inr (among_more k n ns p.0, p.1)

  queued_first : (k : ℕ) → (is_among k f.ahead ≡ true) ⊎ (is_among k (n ∷ []) ≡ true) → (is_among k f.ahead ≡ true) ⊎ (is_among k (n ∷ ns) ≡ true)
  queued_first k (inl e) = inl e
  queued_first k (inr e) = inr (head_of k e)

  queued_both : (k : ℕ) → (is_among k g.ahead ≡ true) ⊎ (is_among k ns ≡ true) → (is_among k f.ahead ≡ true) ⊎ (is_among k (n ∷ ns) ≡ true)
  queued_both k (inl e) = queued_first k (first.queued k e)
  queued_both k (inr e) = inr (among_more k n ns e)

  gains_both : Gains live (n ∷ ns) f h
  gains_both = record {
    more = λ k e. rest.more k (first.more k e);
    has = λ k e. both_has k (among_split k n ns e);
    from = λ k e. from_both k (rest.from k e);
    keeps = λ k e. rest.keeps k (first.keeps k e);
    queued = λ k e. queued_both k (rest.queued k e);
    size = λ l. let a = first.size (λ k e. l k (head_of k e)) in let b = rest.size (λ k e. l k (among_more k n ns e)) in omega (arith, a, b);
  }

pub gains : (live ns : List ℕ) (f : Found) → Gains live ns f (mark_each ns f)
gains live [] f = record {
  more = λ k h. h;
  has = λ k h. cc;
  from = λ k h. inl h;
  keeps = λ k h. h;
  queued = λ k h. inl h;
  size = λ l. omega arith;
}
gains live (n ∷ ns) f = gains_both live n ns f (mark_one n f) (mark_each ns (mark_one n f)) (gains_one live n f) (gains live ns (mark_one n f))

-- ---- several after several

pub each_append : (xs ys : List ℕ) (f : Found) → mark_each (xs ++ ys) f ≡ mark_each ys (mark_each xs f)
each_append [] ys f = refl
each_append (x ∷ xs) ys f = each_append xs ys (mark_one x f)
