-- The form of a script, and how it is read.
use Rattle.std.specs.Prelude.{◌≡◌, ℕ, zero, suc, ◌≤◌, Bool, List, [], ◌∷◌, length, Option, Some, None, IsTrue}
use Rattle.std.specs.List.{flat_map, list_all}
use Rattle.first_path.specs.Lines.{Line, line_text, is_formed}
use Rattle.first_path.specs.LineReading.{line_in}
use Rattle.first_path.specs.Meaning.{History, act_of, with_act, acts_of}
use Rattle.first_path.specs.declared.act.Act.{Act}

-- the text is that of these lines, 10,000 at most, and they do this
pub record IsScript (class : List ℕ) (props : List (List ℕ)) (text : List ℕ) (lines : List Line) (acts : List Act) : Type 0 where
  pub spelt : text ≡ flat_map (line_text class) lines
  pub formed : IsTrue (list_all is_formed lines)
  pub few : length lines ≤ 10000
  pub meant : acts_of props [] lines ≡ Some acts

abbrev pub turned : Option (Line × List ℕ) → (Line → Option Act) → (Line → List ℕ → Option (List Act)) → Option (List Act)
turned None act more = None
turned (Some p) act more = with_act (act p.0) (more p.0 p.1)

-- what the text does behind these lines, if it is one of so many lines at most
unfoldable pub script_in : ℕ → List ℕ → List (List ℕ) → History → List ℕ → Option (List Act)
script_in room class props before [] = Some []
script_in zero class props before (byte ∷ text) = None
script_in (suc room) class props before (byte ∷ text) =
    turned (line_in class (byte ∷ text)) (act_of props before) (λ line rest. script_in room class props (line ∷ before) rest)
