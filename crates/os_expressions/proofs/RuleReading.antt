-- What the code of the grammar's rules stands on.
use Rattle.std.proofs.Common.{◌≡◌, ◌<◌, ℕ, Bool, false, nat_le, Option, None, Ok, inl, inr}
use Rattle.std.proofs.lemmas.Bool.{leb-false}
use Rattle.text_reading.specs.Phrases.{parser}
use Rattle.text_reading.specs.PhraseReading.{pick_if}
use Rattle.text_reading.proofs.PhrasePicks.{picked_free}
use Rattle.text_reading.proofs.PhraseRules.{rule_reads}
use Rattle.text_reading.proofs.Theory.{bool_cases}
use Rattle.script_tokens.specs.declared.error.ScriptWhy.{ScriptWhy}
use Rattle.script_tokens.specs.declared.error.ScriptWhy.TheVariants as why
use Rattle.script_tokens.specs.ScriptTongue.{tongue, Token, Tokens}
use Rattle.script_tokens.proofs.AllKinds.{all_kinds}
use Rattle.os_expressions.specs.declared.given.Spot.{Spot}
use Rattle.os_expressions.specs.declared.given.Calling.{Calling}
use Rattle.os_expressions.specs.Trees.{free_args}
use Rattle.os_expressions.specs.ScriptGrammar.{grammar, barred, too_deep, opening, where_holds, Inside, Listed, Arguments, Looking, Ordering, nested, read, expression, listed, arguments, looking, ordering}
use Rattle.os_expressions.proofs.GrammarFits.{rule_fits}

pub inside_is : (s : Spot) (ts : Tokens) → nested Inside s ts ≡ read expression s ts
inside_is s ts = rule_reads tongue all_kinds.list grammar rule_fits false Inside s ts

pub listed_is : (d : ℕ) (ts : Tokens) → nested Listed d ts ≡ read listed (free_args d) ts
unfolding parser
listed_is d ts = rule_reads tongue all_kinds.list grammar rule_fits false Listed d ts

pub arguments_is : (c : Calling) (ts : Tokens) → nested Arguments c ts ≡ read arguments c ts
arguments_is c ts = rule_reads tongue all_kinds.list grammar rule_fits false Arguments c ts

pub looking_is : (j : ℕ × Bool) (ts : Tokens) → nested Looking j ts ≡ read looking j ts
looking_is j ts = rule_reads tongue all_kinds.list grammar rule_fits false Looking j ts

pub ordering_is : (d : ℕ) (ts : Tokens) → nested Ordering d ts ≡ read ordering d ts
ordering_is d ts = rule_reads tongue all_kinds.list grammar rule_fits false Ordering d ts

deep_none : (d : ℕ) (l : Option ScriptWhy) → where_holds (nat_le 64 d) why.TooDeep l ≡ None → d < 64
deep_none d l e = elim (bool_cases (nat_le 64 d)) [
  | inl here ↦ absurd (let f = rw here at e in (cc))
  | inr gone ↦ leb-false 64 d gone
]

-- what opens stands less than 64 deep
pub not_deep : (can : Bool) (d : ℕ) (ts : Tokens) (t : Token) (us : Tokens) → pick_if tongue can (too_deep d) ts ≡ Ok (t, us) → d < 64
not_deep can d ts t us e = deep_none d None (picked_free tongue can (too_deep d) ts t us e)

pub passed : (can : Bool) (s : Spot) (ts : Tokens) (t : Token) (us : Tokens) → pick_if tongue can (opening s) ts ≡ Ok (t, us) → s.depth < 64
passed can s ts t us e = deep_none s.depth (barred s.barred) (picked_free tongue can (opening s) ts t us e)
