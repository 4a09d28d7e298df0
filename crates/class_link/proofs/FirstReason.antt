-- What the passes find is the first reason.
use Rattle.std.proofs.Common.{◌≡◌, ◌≢◌, ℕ, zero, suc, ◌+◌, ◌<◌, ◌≤◌, ◌⊎◌, inl, inr, Bool, true, false, cond, List, [], ◌∷◌, length, find, Option, Some, None, refl, sym, ap, subst, ◌∙◌, arith}
use Rattle.schema_kinds.specs.declared.tree.ClassTree.{ClassTree}
use Rattle.class_link.specs.declared.error.LinkWhy.{LinkWhy}
use Rattle.class_link.specs.declared.error.LinkWhy.TheVariants.{RepeatedClass, UnknownSuper, SuperRing, KindClash, UnknownType, BadType, SerialRing, NotYet, NoInverse, UnknownIndexProperty, BadIndexProperty, NameClash, BadParameter, TooMany}
use Rattle.class_facts.specs.Facts.{facts_of}
use Rattle.class_link.specs.Refusal.{test_of, Has, group_of, number_of, IsUpTo, IsFirstReason, shape_reasons, name_reasons, why_or, late_reason}
use Rattle.class_link.specs.Passes.{IsFirstOf}
use Rattle.class_link.specs.Linking.{NoneBelow}

-- a function that finds the first reason of a group of one class
pub record IsGroup (trees : List ClassTree) (g : ℕ) (reason : ℕ → Option LinkWhy) : Type 0 where
  pub sound : (i : ℕ) (why : LinkWhy) → i < length trees → reason i ≡ Some why → Has trees i why × (group_of why ≡ g)
  pub least : (i : ℕ) (why other : LinkWhy) → i < length trees → reason i ≡ Some why → Has trees i other → group_of other ≡ g → number_of why ≤ number_of other
  pub whole : (i : ℕ) (other : LinkWhy) → i < length trees → reason i ≡ None → Has trees i other → group_of other ≢ g

compare : (i j : ℕ) → (i < j) ⊎ (i ≡ j) ⊎ (j < i)
compare zero zero = inr (inl refl)
compare zero (suc j) = inl (omega arith)
compare (suc i) zero = inr (inr (omega arith))
compare (suc i) (suc j) = elim (compare i j) [ inl l ↦ inl (omega (arith, l)) | inr r ↦ elim r [ inl e ↦ inr (inl (ap suc e)) | inr m ↦ inr (inr (omega (arith, m))) ] ]

module _ (trees : List ClassTree) (g : ℕ) (reason : ℕ → Option LinkWhy) (is : IsGroup trees g reason) (none : NoneBelow trees g) where
  pub found-first : (i : ℕ) (why : LinkWhy) → IsFirstOf reason (length trees) (Some (i, why)) → IsFirstReason trees i why
  found-first i why found = record {
    within = found.0;
    has = (is.sound i why found.0 found.1).0;
    first = λ j other small has. by j other small has (compare g (group_of other));
  }
    where
      group : group_of why ≡ g
      group = (is.sound i why found.0 found.1).1

      here : (j : ℕ) (other : LinkWhy) → j < length trees → Has trees j other → group_of other ≡ g → (i < j) ⊎ (i ≡ j) ⊎ (j < i) → IsUpTo i why j other
      here j other small has same (inl l) = inr (group ∙ sym same, inl l)
      here j other small has same (inr (inl e)) =
          inr (group ∙ sym same, inr (e, is.least i why other found.0 found.1 (subst (λ k. Has trees k other) (sym e) has) same))
      here j other small has same (inr (inr l)) = absurd (is.whole j other small (found.2 j l) has same)

      by : (j : ℕ) (other : LinkWhy) → j < length trees → Has trees j other → (g < group_of other) ⊎ (g ≡ group_of other) ⊎ (group_of other < g) → IsUpTo i why j other
      by j other small has (inl l) = inl (omega (arith, l, group))
      by j other small has (inr (inl e)) = here j other small has (sym e) (compare i j)
      by j other small has (inr (inr l)) = let least = none j other small has in absurd (omega (arith, l, least))

  pub none-more : IsFirstOf reason (length trees) None → NoneBelow trees (g + 1)
  none-more nothing j other small has = by (compare g (group_of other))
    where
      by : (g < group_of other) ⊎ (g ≡ group_of other) ⊎ (group_of other < g) → g + 1 ≤ group_of other
      by (inl l) = omega (arith, l)
      by (inr (inl e)) = absurd (is.whole j other small (nothing j small) has (sym e))
      by (inr (inr l)) = let least = none j other small has in absurd (omega (arith, l, least))

pub none-first : (trees : List ClassTree) → NoneBelow trees 1
none-first trees j RepeatedClass small has = omega arith
none-first trees j UnknownSuper small has = omega arith
none-first trees j SuperRing small has = omega arith
none-first trees j KindClash small has = omega arith
none-first trees j UnknownType small has = omega arith
none-first trees j BadType small has = omega arith
none-first trees j SerialRing small has = omega arith
none-first trees j NotYet small has = omega arith
none-first trees j NoInverse small has = omega arith
none-first trees j UnknownIndexProperty small has = omega arith
none-first trees j BadIndexProperty small has = omega arith
none-first trees j NameClash small has = omega arith
none-first trees j BadParameter small has = omega arith
none-first trees j TooMany small has = omega arith

-- the last group
abbrev AllOf : (LinkWhy → Type 0) → List LinkWhy → Type 0
AllOf P [] = Unit {0}
AllOf P (x ∷ xs) = P x × AllOf P xs

abbrev IsAmong : LinkWhy → List LinkWhy → Type 0
IsAmong w [] = ⊥
IsAmong w (x ∷ xs) = (w ≡ x) ⊎ IsAmong w xs

abbrev Rising : List LinkWhy → Type 0
Rising [] = Unit {0}
Rising (x ∷ xs) = AllOf (λ y. number_of x ≤ number_of y) xs × Rising xs

among : (P : LinkWhy → Type 0) (w : LinkWhy) (ws : List LinkWhy) → AllOf P ws → IsAmong w ws → P w
among P w [] all h = absurd h
among P w (x ∷ xs) all (inl e) = subst P (sym e) all.0
among P w (x ∷ xs) all (inr h) = among P w xs all.1 h

find-is : (test : LinkWhy → Bool) (ws : List LinkWhy) (w : LinkWhy) → find test ws ≡ Some w → IsAmong w ws × (test w ≡ true)
find-is test [] w h = cc
find-is test (x ∷ xs) w h = by (find-is test xs w) (test x) refl h
  where
    by : (find test xs ≡ Some w → IsAmong w xs × (test w ≡ true)) → (b : Bool) → test x ≡ b → cond b (Some x) (find test xs) ≡ Some w → IsAmong w (x ∷ xs) × (test w ≡ true)
    by more true e h = let same : w ≡ x = cc in (inl same, ap test same ∙ e)
    by more false e h = let rest = more h in (inr rest.0, rest.1)

find-none : (test : LinkWhy → Bool) (ws : List LinkWhy) (w : LinkWhy) → find test ws ≡ None → IsAmong w ws → test w ≡ false
find-none test [] w h into = absurd into
find-none test (x ∷ xs) w h into = by (find-none test xs w) (test x) refl h into
  where
    by : (find test xs ≡ None → IsAmong w xs → test w ≡ false) → (b : Bool) → test x ≡ b → cond b (Some x) (find test xs) ≡ None → IsAmong w (x ∷ xs) → test w ≡ false
    by more true e h into = cc
    by more false e h (inl same) = ap test same ∙ e
    by more false e h (inr rest) = more h rest

find-least : (test : LinkWhy → Bool) (ws : List LinkWhy) (w v : LinkWhy) → Rising ws → find test ws ≡ Some w → IsAmong v ws → test v ≡ true → number_of w ≤ number_of v
find-least test [] w v rising h into t = absurd into
find-least test (x ∷ xs) w v rising h into t = by (find-least test xs w v rising.1) (test x) refl h into
  where
    by : (find test xs ≡ Some w → IsAmong v xs → test v ≡ true → number_of w ≤ number_of v) → (b : Bool) → test x ≡ b → cond b (Some x) (find test xs) ≡ Some w → IsAmong v (x ∷ xs) → number_of w ≤ number_of v
    by more true e h (inl same) = let is : w ≡ v = cc in omega (arith, ap number_of is)
    by more true e h (inr rest) = let is : x ≡ w = cc in let up = among (λ y. number_of x ≤ number_of y) v xs rising.0 rest in omega (arith, up, ap number_of is)
    by more false e h (inl same) = let off : test v ≡ false = ap test same ∙ e in cc
    by more false e h (inr rest) = more h rest t

late-member : (v : LinkWhy) → group_of v ≡ 4 → IsAmong v shape_reasons ⊎ IsAmong v name_reasons
late-member KindClash g = inl (inl refl)
late-member BadType g = inl (inr (inl refl))
late-member SerialRing g = inl (inr (inr (inl refl)))
late-member NotYet g = inl (inr (inr (inr (inl refl))))
late-member NoInverse g = inl (inr (inr (inr (inr (inl refl)))))
late-member UnknownIndexProperty g = inr (inl refl)
late-member BadIndexProperty g = inr (inr (inl refl))
late-member NameClash g = inr (inr (inr (inl refl)))
late-member BadParameter g = inr (inr (inr (inr (inl refl))))
late-member TooMany g = inr (inr (inr (inr (inr (inl refl)))))
late-member RepeatedClass g = absurd (omega (arith, g))
late-member UnknownSuper g = absurd (omega (arith, g))
late-member SuperRing g = absurd (omega (arith, g))
late-member UnknownType g = absurd (omega (arith, g))

shape_group : AllOf (λ w. group_of w ≡ 4) shape_reasons
shape_group = (refl, (refl, (refl, (refl, (refl, tt)))))

name_group : AllOf (λ w. group_of w ≡ 4) name_reasons
name_group = (refl, (refl, (refl, (refl, (refl, tt)))))

shape_low : AllOf (λ w. number_of w ≤ 9) shape_reasons
shape_low = (omega arith, (omega arith, (omega arith, (omega arith, (omega arith, tt)))))

name_high : AllOf (λ w. 10 ≤ number_of w) name_reasons
name_high = (omega arith, (omega arith, (omega arith, (omega arith, (omega arith, tt)))))

shape_rising : Rising shape_reasons
shape_rising = ((omega arith, (omega arith, (omega arith, (omega arith, tt)))), ((omega arith, (omega arith, (omega arith, tt))), ((omega arith, (omega arith, tt)), ((omega arith, tt), (tt, tt)))))

name_rising : Rising name_reasons
name_rising = ((omega arith, (omega arith, (omega arith, (omega arith, tt)))), ((omega arith, (omega arith, (omega arith, tt))), ((omega arith, (omega arith, tt)), ((omega arith, tt), (tt, tt)))))

module _ (trees : List ClassTree) (i : ℕ) where
  late-Has : (v : LinkWhy) → group_of v ≡ 4 → test_of trees (facts_of trees) i v ≡ true → Has trees i v
  late-Has KindClash g t = t
  late-Has BadType g t = t
  late-Has SerialRing g t = t
  late-Has NotYet g t = t
  late-Has NoInverse g t = t
  late-Has UnknownIndexProperty g t = t
  late-Has BadIndexProperty g t = t
  late-Has NameClash g t = t
  late-Has BadParameter g t = t
  late-Has TooMany g t = t
  late-Has RepeatedClass g t = absurd (omega (arith, g))
  late-Has UnknownSuper g t = absurd (omega (arith, g))
  late-Has SuperRing g t = absurd (omega (arith, g))
  late-Has UnknownType g t = absurd (omega (arith, g))

  Has-late : (v : LinkWhy) → group_of v ≡ 4 → Has trees i v → test_of trees (facts_of trees) i v ≡ true
  Has-late KindClash g t = t
  Has-late BadType g t = t
  Has-late SerialRing g t = t
  Has-late NotYet g t = t
  Has-late NoInverse g t = t
  Has-late UnknownIndexProperty g t = t
  Has-late BadIndexProperty g t = t
  Has-late NameClash g t = t
  Has-late BadParameter g t = t
  Has-late TooMany g t = t
  Has-late RepeatedClass g t = absurd (omega (arith, g))
  Has-late UnknownSuper g t = absurd (omega (arith, g))
  Has-late SuperRing g t = absurd (omega (arith, g))
  Has-late UnknownType g t = absurd (omega (arith, g))

module _ (test : LinkWhy → Bool) where
  either-is : (a : Option LinkWhy) (w : LinkWhy) → find test shape_reasons ≡ a → why_or a (find test name_reasons) ≡ Some w → (group_of w ≡ 4) × (test w ≡ true)
  either-is None w e h = let is = find-is test name_reasons w h in (among (λ v. group_of v ≡ 4) w name_reasons name_group is.0, is.1)
  either-is (Some v) w e h = let is = find-is test shape_reasons w (e ∙ h) in (among (λ v. group_of v ≡ 4) w shape_reasons shape_group is.0, is.1)

  either-none : (a : Option LinkWhy) (v : LinkWhy) → find test shape_reasons ≡ a → why_or a (find test name_reasons) ≡ None → IsAmong v shape_reasons ⊎ IsAmong v name_reasons → test v ≡ false
  either-none None v e h (inl into) = find-none test shape_reasons v e into
  either-none None v e h (inr into) = find-none test name_reasons v h into
  either-none (Some x) v e h into = cc

  either-least : (a : Option LinkWhy) (w v : LinkWhy) → find test shape_reasons ≡ a → why_or a (find test name_reasons) ≡ Some w → test v ≡ true
      → IsAmong v shape_reasons ⊎ IsAmong v name_reasons → number_of w ≤ number_of v
  either-least None w v e h t (inl into) = let off = find-none test shape_reasons v e into in cc
  either-least None w v e h t (inr into) = find-least test name_reasons w v name_rising h into t
  either-least (Some x) w v e h t (inl into) = find-least test shape_reasons w v shape_rising (e ∙ h) into t
  either-least (Some x) w v e h t (inr into) =
      let low = among (λ y. number_of y ≤ 9) w shape_reasons shape_low (find-is test shape_reasons w (e ∙ h)).0 in
      let high = among (λ y. 10 ≤ number_of y) v name_reasons name_high into in
      omega (arith, low, high)

pub late-group : (trees : List ClassTree) → IsGroup trees 4 (late_reason trees (facts_of trees))
late-group trees = record {
  sound = λ i why small h. let is = either-is (test_of trees (facts_of trees) i) (find (test_of trees (facts_of trees) i) shape_reasons) why refl h in (late-Has trees i why is.0 is.1, is.0);
  least = λ i why other small h has g. either-least (test_of trees (facts_of trees) i) (find (test_of trees (facts_of trees) i) shape_reasons) why other refl h (Has-late trees i other g has) (late-member other g);
  whole = λ i other small h has g.
      let off = either-none (test_of trees (facts_of trees) i) (find (test_of trees (facts_of trees) i) shape_reasons) other refl h (late-member other g) in
      let on = Has-late trees i other g has in
      cc;
}
