-- How the words of a run are read.
use Rattle.std.specs.Prelude.{ℕ, Bool, true, false, ◌&&◌, not, cond, List, [], ◌∷◌, codes, Option, Some, None}
use Rattle.std.specs.Option.{option_and_then}
use Rattle.std.specs.Str.{bytes_eq}
use Rattle.host_top.specs.Words.{is_class_file, begins_with_dash}

abbrev pub first_word : List (List ℕ) → Option (List ℕ × List (List ℕ))
first_word [] = None
first_word (word ∷ words) = Some (word, words)

abbrev pub is_end : List (List ℕ) → Bool
is_end [] = true
is_end (word ∷ words) = false

abbrev pub names_test : List ℕ → List ℕ → Bool
names_test class script = is_class_file class && not (is_class_file script) && not (begins_with_dash class) && not (begins_with_dash script)

unfoldable pub names_in : List (List ℕ) → Option (List ℕ × List ℕ)
names_in words =
    option_and_then (λ r. option_and_then (λ c. option_and_then (λ s.
    cond (bytes_eq r.0 (codes "run") && is_end s.1 && names_test c.0 s.0) (Some (c.0, s.0)) None) (first_word c.1)) (first_word r.1)) (first_word words)
