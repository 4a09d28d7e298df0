-- What phrases of class files say, whatever stands there.
use Rattle.std.proofs.Common.{◌≡◌, ◌≢◌, ◌||◌, ℕ, Bool, true, false, List, [], ◌∷◌, ◌++◌, Option, Some, None, refl, sym, ap, ◌∙◌}
use Rattle.std.specs.Prelude.{nat_lt, ◌==◌, length}
use Rattle.std.specs.List.{list_any}
use Rattle.text_reading.specs.declared.stop.Refusal.{Refusal}
use Rattle.text_reading.specs.Tokens.{Bytes, Tok, Toks, at_left}
use Rattle.text_reading.specs.Grammar.{Lang, none_free, Done, Next}
use Rattle.text_reading.specs.Grammar as languages
use Rattle.text_reading.specs.Phrases.{Is, language, plain, first_limit, limited}
use Rattle.class_tokens.specs.declared.token.Kind.{Kind}
use Rattle.class_tokens.specs.declared.error.ClassWhy.{ClassWhy}
use Rattle.class_tokens.specs.declared.error.ClassWhy.TheVariants as why
use Rattle.class_tokens.specs.ClassTongue.{tongue}
use Rattle.class_reader.specs.ClassNames.{has_dot}
use Rattle.class_reader.specs.ClassGrammar.{Phrase, Limit, where_holds, fresh_limit, fresh, dotted, name_rest, own_name}

-- the tokens are the phrase, none of them free of a limit
abbrev pub Says : {I A : Type 0} → Phrase I A → I → Lang Kind A
Says p i = Is tongue plain none_free p i

-- what each step keeps, the whole keeps
pub many_keeps : {K A : Type 0} {Step : A → Lang K A} (P : A → Type 0) → ((a b : A) (ts : Toks K) → P a → Step a ts b → P b) → {a b : A} {ts : Toks K} → languages.Many Step a ts b → P a → P b
many_keeps P keeps Done p = p
many_keeps P keeps (Next {a = a} {b = b} {ts = ts} one two) p = many_keeps P keeps two (keeps a b ts p one)

-- ---- a token that meets no limit

no_limit_met : {W : Type 0} (t : Tok Kind) (own : Option (Refusal W)) (at : Option W) (late : Option (Refusal W)) → ((r : Refusal W) → first_limit t own at late ≡ Some r → ⊥) → at ≡ None
no_limit_met t (Some r) at late none = absurd (none r refl)
no_limit_met t None (Some w) late none = absurd (none (at_left w t.left) refl)
no_limit_met t None None late none = refl

not_taken : (long taken : Bool) → where_holds long why.NameTooLong (where_holds taken why.RepeatedMember None) ≡ None → taken ≡ false
not_taken true taken e = absurd (cc)
not_taken false true e = absurd (cc)
not_taken false false e = refl

-- a name that isn't taken yet
pub fresh_says : (taken : Bytes → Bool) (ts : Toks Kind) (name : Bytes) → Says fresh taken ts name → taken name ≡ false
unfolding language limited fresh
fresh_says taken ts name l =
    let none : fresh_limit (taken l.2.text) l.2.text ≡ None = no_limit_met l.2 (tongue.own l.2) (fresh_limit (taken l.2.text) l.2.text) (tongue.late l.2) l.4.2 in
    ap taken l.5.1 ∙ not_taken (nat_lt 31 (length l.2.text)) (taken l.2.text) none

-- ---- names of classes have a dot

or_true : (t u : Bool) → u ≡ true → (t || u) ≡ true
or_true true u e = refl
or_true false u e = e

pub dot_within : (name word : Bytes) → has_dot (name ++ 46 ∷ word) ≡ true
dot_within [] word = refl
dot_within (b ∷ name) word = or_true (b == 46) (has_dot (name ++ 46 ∷ word)) (dot_within name word)

pub dotted_says : (i : Bool × Bytes) (ts : Toks Kind) (name : Bytes) → Says dotted i ts name → has_dot name ≡ true
unfolding language dotted
dotted_says i ts name l = ap has_dot l.5.5.1 ∙ dot_within i.1 l.5.2

rest_says : (bars : Bool) (found : Bytes) (ts : Toks Kind) (name : Bytes) → Says name_rest (bars, found) ts name → has_dot found ≡ true → has_dot name ≡ true
unfolding language name_rest
rest_says bars found ts name l dot = many_keeps (λ z. has_dot z ≡ true) (λ a b us h s. dotted_says (bars, a) us b s.1) l dot

-- a class's own name
pub own_says : (ts : Toks Kind) (name : Bytes) → Says own_name tt ts name → has_dot name ≡ true
unfolding language own_name
own_says ts name l = rest_says false l.5.2 l.5.1 name l.5.5 (dotted_says (false, l.2) l.5.0 l.5.2 l.5.4)
