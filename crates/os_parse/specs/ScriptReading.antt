-- What the reader of scripts answers.
use Rattle.std.specs.Prelude.{◌≡◌, ◌⊎◌, ℕ, List, Result, Ok, Err, false}
use Rattle.text_reading.specs.declared.stop.Refusal.{Refusal}
use Rattle.text_reading.specs.Tokens.{Bytes}
use Rattle.text_reading.specs.Places.{Placed, place_in}
use Rattle.text_reading.specs.Phrases.{Free, Is}
use Rattle.text_reading.specs.Grammar.{Lang, none_free, all_free, free_by}
use Rattle.text_reading.specs.Reading.{IsRefused, whole}
use Rattle.script_tokens.specs.declared.token.Kind.{Kind}
use Rattle.script_tokens.specs.declared.error.ScriptWhy.{ScriptWhy}
use Rattle.script_tokens.specs.ScriptLex.{script_tokens}
use Rattle.script_tokens.specs.ScriptTongue.{tongue}
use Rattle.os_kinds.specs.declared.command.Command.{Command}
use Rattle.os_expressions.specs.Trees.{Site, site, ground}
use Rattle.os_expressions.specs.ScriptGrammar.{grammar, script, read}
use Rattle.os_parse.specs.declared.error.ScriptError.{ScriptError}
use Rattle.os_parse.specs.declared.error.ScriptError.TheVariants.{BadScript, NoMemory}

-- a text that begins at this line and column
abbrev pub placed : ℕ → ℕ → Bytes → Placed
placed line column text = record { start = record { line = line; column = column }; text = text }

-- where no block is open and no loop turns
abbrev pub top : Placed → Site
top p = site p (ground 0 false)

-- the commands of a text, or its first refusal
abbrev pub reading : Placed → Result (List Command) (Refusal ScriptWhy)
reading p = whole tongue (read script (top p)) (script_tokens p.text)

-- the refusal that has this reason and stands at this line and column
abbrev pub IsPlaced : Placed → Refusal ScriptWhy → ℕ → ℕ → ScriptWhy → Type 0
IsPlaced p r line column why = (r.why ≡ why) × ((place_in p r.left).line ≡ line) × ((place_in p r.left).column ≡ column)

-- The answer is the text's reading, unless memory ran out.
abbrev pub IsRead : Placed → Result (List Command) ScriptError → Type 0
IsRead p (Ok commands) = reading p ≡ Ok commands
IsRead p (Err NoMemory) = Unit {0}
IsRead p (Err (BadScript line column why)) = (r : Refusal ScriptWhy) × (reading p ≡ Err r) × IsPlaced p r line column why

-- ---- against the grammar

-- the scripts of the grammar; `free` tells which limits don't count for which tokens
abbrev pub Scripts : Free Kind ScriptWhy → Placed → Lang Kind (List Command)
Scripts free p = Is tongue grammar free script (top p)

-- The text is refused so: by the grammar of scripts, over its tokens.
abbrev pub IsNoScript : Placed → Refusal ScriptWhy → Type 0
IsNoScript p r = IsRefused tongue (Scripts none_free p) (λ w. Scripts (free_by w) p) (Scripts all_free p) (script_tokens p.text) r

-- What is answered, against the grammar of scripts, over the tokens of the text.
pub record IsScript (p : Placed) (result : Result (List Command) ScriptError) : Type 0 where
  -- the text is a script, and these are its commands
  pub found : (commands : List Command) → result ≡ Ok commands → Scripts none_free p (script_tokens p.text) commands
  -- a script is read, unless memory runs out
  pub only : (commands : List Command) → Scripts none_free p (script_tokens p.text) commands → (result ≡ Ok commands) ⊎ (result ≡ Err NoMemory)
  -- What stands before the place begins a script whose tokens so far meet no limit, and with the token at the place it
  -- begins none. The reason is a limit where with the token it begins a text that meets this one limit and, so far, no
  -- other; else it begins none even if no limit counts.
  pub refused : (line column : ℕ) (why : ScriptWhy) → result ≡ Err (BadScript line column why)
      → (r : Refusal ScriptWhy) × IsPlaced p r line column why × IsNoScript p r
