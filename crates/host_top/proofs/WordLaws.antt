-- Names are read exactly where the words are those of a run.
use Rattle.std.proofs.Common.{◌≡◌, ℕ, Bool, true, false, ◌&&◌, not, cond, List, [], ◌∷◌, codes, Option, Some, None, IfSome, IfNone, refl, sym, ap, subst, ◌∙◌}
use Rattle.std.specs.Option.{option_map}
use Rattle.std.specs.Str.{bytes_eq}
use Rattle.std.proofs.lemmas.Slice.Eq.{bytes_eq-Decides}
use Rattle.host_top.specs.Words.{Names, is_class_file, begins_with_dash, AreRunWords, AreNoRunWords}
use Rattle.host_top.specs.WordReading.{first_word, is_end, names_test, names_in}

both_true : (a b : Bool) → (a && b) ≡ true → (a ≡ true) × (b ≡ true)
both_true true b h = (refl, h)
both_true false b h = cc

all_true : (a b c d : Bool) → a ≡ true → b ≡ true → c ≡ true → d ≡ true → (a && b && c && d) ≡ true
all_true true true true d h k l m = m
all_true false b c d h k l m = cc
all_true true false c d h k l m = cc
all_true true true false d h k l m = cc

pub names_in-is : (words : List (List ℕ)) (n : List ℕ × List ℕ) → names_in words ≡ Some n → AreRunWords words (record { class = n.0; script = n.1 })
unfolding names_in
names_in-is [] n h = cc
names_in-is (run ∷ []) n h = cc
names_in-is (run ∷ class ∷ []) n h = cc
names_in-is (run ∷ class ∷ script ∷ more ∷ words) n h = by (bytes_eq run (codes "run")) h
  where
    by : (b : Bool) → cond {A = Option (List ℕ × List ℕ)} (b && false && names_test class script) (Some (class, script)) None ≡ Some n → AreRunWords (run ∷ class ∷ script ∷ more ∷ words) (record { class = n.0; script = n.1 })
    by true h = cc
    by false h = cc
names_in-is (run ∷ class ∷ script ∷ []) n h = by (bytes_eq run (codes "run") && true && names_test class script) refl h
  where
    facts : bytes_eq run (codes "run") && true && names_test class script ≡ true → AreRunWords (run ∷ class ∷ script ∷ []) (record { class = class; script = script })
    facts e =
        let first = both_true (bytes_eq run (codes "run") && true) (names_test class script) e in
        let word = both_true (bytes_eq run (codes "run")) true first.0 in
        let last = both_true (is_class_file class && not (is_class_file script) && not (begins_with_dash class)) (not (begins_with_dash script)) first.1 in
        let third = both_true (is_class_file class && not (is_class_file script)) (not (begins_with_dash class)) last.0 in
        let second = both_true (is_class_file class) (not (is_class_file script)) third.0 in
        record {
          words_are = ap (λ w. w ∷ class ∷ script ∷ []) ((bytes_eq-Decides run (codes "run")).0 word.0);
          class_file = second.0;
          script_file = second.1;
          class_plain = third.1;
          script_plain = last.1;
        }

    by : (b : Bool) → bytes_eq run (codes "run") && true && names_test class script ≡ b → cond {A = Option (List ℕ × List ℕ)} b (Some (class, script)) None ≡ Some n → AreRunWords (run ∷ class ∷ script ∷ []) (record { class = n.0; script = n.1 })
    by true e h = let same : (class, script) ≡ n = cc in subst (λ (m : List ℕ × List ℕ). AreRunWords (run ∷ class ∷ script ∷ []) (record { class = m.0; script = m.1 })) same (facts e)
    by false e h = cc

pub names_in-takes : (words : List (List ℕ)) (n : Names) → AreRunWords words n → names_in words ≡ Some (n.class, n.script)
unfolding names_in
names_in-takes words n are =
    ap names_in are.words_are ∙ ap (λ b. cond (bytes_eq (codes "run") (codes "run") && true && b) (Some (n.class, n.script)) None) (all_true (is_class_file n.class) (not (is_class_file n.script)) (not (begins_with_dash n.class)) (not (begins_with_dash n.script)) are.class_file are.script_file are.class_plain are.script_plain)

pub found_names : {A : Type 0} (f : A → List ℕ × List ℕ) (words : List (List ℕ)) (o : Option A) → option_map f o ≡ names_in words → IfSome o (λ a. AreRunWords words (record { class = (f a).0; script = (f a).1 }))
found_names f words None h = tt
found_names f words (Some a) h = names_in-is words (f a) (sym h)

pub no_names : {A : Type 0} (f : A → List ℕ × List ℕ) (words : List (List ℕ)) (o : Option A) → option_map f o ≡ names_in words → IfNone o (AreNoRunWords words)
no_names f words None h = λ n are. let some = names_in-takes words n are in cc
no_names f words (Some a) h = tt
