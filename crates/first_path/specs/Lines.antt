-- The lines of a script: an object is made, a property is set, an object is saved.
use Rattle.std.specs.Prelude.{ℕ, Bool, ◌&&◌, List, ◌∷◌, ◌++◌, codes}
use Rattle.std.specs.List.{list_all}
use Rattle.first_class.specs.Names.{is_name}
use Rattle.first_path.specs.Pieces.{is_text_byte, is_short}

pub data Line : Type 0 where
  New : List ℕ → Line
  Fill : List ℕ → List ℕ → List ℕ → Line
  Save : List ℕ → Line

-- how a line is spelt, with the class of the script
abbrev pub line_text : List ℕ → Line → List ℕ
line_text class (New var) = codes "Set " ++ (var ++ (codes "=##class(" ++ (class ++ codes ").%New()\n")))
line_text class (Fill var prop text) = codes "Set " ++ (var ++ (codes "." ++ (prop ++ (codes "=\"" ++ (text ++ codes "\"\n")))))
line_text class (Save var) = codes "Write " ++ (var ++ codes ".%Save(),!\n")

-- the names are names, and the text has 50 bytes at most, from 32 to 126 and no quotes
abbrev pub is_formed : Line → Bool
is_formed (New var) = is_name var
is_formed (Fill var prop text) = is_name var && is_name prop && is_short text && list_all is_text_byte text
is_formed (Save var) = is_name var
