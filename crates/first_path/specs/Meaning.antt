-- What the lines of a script mean: which object each variable names, and which property is set.
use Rattle.std.specs.Prelude.{ℕ, zero, suc, Bool, cond, List, [], ◌∷◌, Option, Some, None}
use Rattle.std.specs.Option.{option_map, option_and_then}
use Rattle.std.specs.Ordering.{is_eq}
use Rattle.std.specs.Str.{bytes_eq}
use Rattle.obj_kinds.specs.SubOrder.{text_cmp}
use Rattle.first_path.specs.Lines.{Line, New, Fill, Save}
use Rattle.first_path.specs.declared.act.Act.{Act}
use Rattle.first_path.specs.declared.act.Act.TheVariants as act

-- lines that came before, the latest first
abbrev pub History : Type 0
History = List Line

-- how many objects were made
abbrev pub made : History → ℕ
made [] = 0
made (New var ∷ before) = suc (made before)
made (Fill var prop text ∷ before) = made before
made (Save var ∷ before) = made before

-- the object that a variable names, counted from 0 in the order of making: the one of the last line that set it
abbrev pub named : History → List ℕ → Option ℕ
named [] name = None
named (New var ∷ before) name = cond (is_eq (text_cmp var name)) (Some (made before)) (named before name)
named (Fill var prop text ∷ before) name = named before name
named (Save var ∷ before) name = named before name

-- the place of the first item that passes
abbrev pub place_of : {A : Type 0} → (A → Bool) → List A → Option ℕ
place_of test [] = None
place_of test (x ∷ xs) = cond (test x) (Some 0) (option_map (λ n. suc n) (place_of test xs))

-- the place of a property in its class
abbrev pub property_of : List (List ℕ) → List ℕ → Option ℕ
property_of props name = place_of (λ prop. bytes_eq prop name) props

-- what a line does where the variables name these objects, if its variable names one and its property is one of the class
abbrev pub act_with : List (List ℕ) → (List ℕ → Option ℕ) → Line → Option Act
act_with props names (New var) = Some act.Make
act_with props names (Fill var prop text) =
    option_and_then (λ object. option_map (λ place. act.Fill object place text) (property_of props prop)) (names var)
act_with props names (Save var) = option_map (λ object. act.Save object) (names var)

-- what a line does behind these
abbrev pub act_of : List (List ℕ) → History → Line → Option Act
act_of props before line = act_with props (named before) line

abbrev pub with_act : Option Act → Option (List Act) → Option (List Act)
with_act None others = None
with_act (Some a) others = option_map (λ acts. a ∷ acts) others

-- what the lines do, one after the other
abbrev pub acts_of : List (List ℕ) → History → List Line → Option (List Act)
acts_of props before [] = Some []
acts_of props before (line ∷ lines) = with_act (act_of props before line) (acts_of props (line ∷ before) lines)
