-- How a line is read from the front of a text.
use Rattle.std.specs.Prelude.{ℕ, List, codes, Option, Some, None}
use Rattle.std.specs.Option.{option_map, option_and_then}
use Rattle.first_path.specs.Pieces.{after, name_in, text_in}
use Rattle.first_path.specs.Lines.{Line, New, Fill, Save}

-- what follows the end of a line that makes an object
abbrev pub new_end : List ℕ → List ℕ → Option (List ℕ)
new_end class text = option_and_then (after (codes ").%New()\n")) (option_and_then (after class) (after (codes "=##class(") text))

-- the variable that is set, and what follows it
abbrev pub set_in : List ℕ → Option (List ℕ × List ℕ)
set_in text = option_and_then name_in (after (codes "Set ") text)

-- a variable is set to a new object of the class
unfoldable pub new_in : List ℕ → List ℕ → Option (List ℕ × List ℕ)
new_in class text = option_and_then (λ v. option_map (λ rest. (v.0, rest)) (new_end class v.1)) (set_in text)

-- the property and its text, and what follows the line
unfoldable pub value_in : List ℕ → Option (List ℕ × List ℕ × List ℕ)
value_in text =
    option_and_then (λ p. option_and_then (λ t. option_map (λ rest. (p.0, t.0, rest)) (after (codes "\"\n") t.1)) (option_and_then text_in (after (codes "=\"") p.1)))
    (option_and_then name_in (after (codes ".") text))

-- a property of the object is set to a text
unfoldable pub fill_in : List ℕ → Option (List ℕ × List ℕ × List ℕ × List ℕ)
fill_in text = option_and_then (λ v. option_map (λ p. (v.0, p.0, p.1, p.2)) (value_in v.1)) (set_in text)

-- the object is saved
unfoldable pub save_in : List ℕ → Option (List ℕ × List ℕ)
save_in text = option_and_then (λ v. option_map (λ rest. (v.0, rest)) (after (codes ".%Save(),!\n") v.1)) (option_and_then name_in (after (codes "Write ") text))

abbrev pub first_of : {A : Type 0} → Option A → Option A → Option A
first_of None other = other
first_of (Some a) other = Some a

-- the line at the front of a text, and what follows it
unfoldable pub line_in : List ℕ → List ℕ → Option (Line × List ℕ)
line_in class text =
    first_of (option_map (λ v. (New v.0, v.1)) (new_in class text))
    (first_of (option_map (λ f. (Fill f.0 f.1 f.2, f.3)) (fill_in text)) (option_map (λ v. (Save v.0, v.1)) (save_in text)))
