-- What the reader of class files answers.
use Rattle.std.specs.Prelude.{◌≡◌, ◌⊎◌, ℕ, List, Result, Ok, Err}
use Rattle.schema_kinds.specs.declared.tree.ClassTree.{ClassTree}
use Rattle.class_tokens.specs.declared.error.ClassWhy.{ClassWhy}
use Rattle.class_reader.specs.declared.error.ReadError.{ReadError}
use Rattle.class_reader.specs.declared.error.ReadError.TheVariants.{BadClass, NoMemory}
use Rattle.text_reading.specs.declared.stop.Refusal.{Refusal}
use Rattle.text_reading.specs.Tokens.{Bytes}
use Rattle.text_reading.specs.Places.{place_of, whole_text}
use Rattle.text_reading.specs.Grammar.{none_free, all_free, free_by}
use Rattle.text_reading.specs.Reading.{IsRefused, whole}
use Rattle.class_tokens.specs.ClassLex.{file_tokens}
use Rattle.class_tokens.specs.ClassTongue.{tongue}
use Rattle.class_reader.specs.ClassGrammar.{classes, read, Classes}

-- the classes of a text, or its first refusal
abbrev pub reading : Bytes → Result (List ClassTree) (Refusal ClassWhy)
reading text = whole tongue (read classes (whole_text text)) (file_tokens text)

-- the refusal that has this reason and stands at this line and column
abbrev pub IsPlaced : Bytes → Refusal ClassWhy → ℕ → ℕ → ClassWhy → Type 0
IsPlaced text r line column why = (r.why ≡ why) × ((place_of text r.left).line ≡ line) × ((place_of text r.left).column ≡ column)

-- The answer is the text's reading, unless memory ran out.
abbrev pub IsRead : Bytes → Result (List ClassTree) ReadError → Type 0
IsRead text (Ok trees) = reading text ≡ Ok trees
IsRead text (Err NoMemory) = Unit {0}
IsRead text (Err (BadClass line column why)) = (r : Refusal ClassWhy) × (reading text ≡ Err r) × IsPlaced text r line column why

-- ---- against the grammar

-- The text is refused so: by the grammar of class files, over its tokens.
abbrev pub IsNoClassFile : Bytes → Refusal ClassWhy → Type 0
IsNoClassFile text r =
    IsRefused tongue (Classes none_free text) (λ w. Classes (free_by w) text) (Classes all_free text) (file_tokens text) r

-- What is answered, against the grammar of class files, over the tokens of the text.
pub record IsClassFile (text : Bytes) (result : Result (List ClassTree) ReadError) : Type 0 where
  -- the text is a class file, and these are its classes
  pub found : (trees : List ClassTree) → result ≡ Ok trees → Classes none_free text (file_tokens text) trees
  -- a class file is read, unless memory runs out
  pub only : (trees : List ClassTree) → Classes none_free text (file_tokens text) trees
      → (result ≡ Ok trees) ⊎ (result ≡ Err NoMemory)
  -- What stands before the place begins a class file whose tokens so far meet no limit, and with the token at the place
  -- it begins none. The reason is a limit where with the token it begins a text that meets this one limit and, so far, no
  -- other; else it begins none even if no limit counts.
  pub refused : (line column : ℕ) (why : ClassWhy) → result ≡ Err (BadClass line column why)
      → (r : Refusal ClassWhy) × IsPlaced text r line column why × IsNoClassFile text r
