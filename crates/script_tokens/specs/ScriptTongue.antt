-- What readers of scripts know of their tokens.
use Rattle.std.specs.Prelude.{◌≡◌, ◌⊎◌, refl, Option, Some, None, ◌-◌, [], ◌∷◌, length}
use Rattle.std.proofs.Common.{inl, inr}
use Rattle.script_tokens.specs.declared.token.Kind.{Kind}
use Rattle.script_tokens.specs.declared.token.Kind.TheVariants as k
use Rattle.script_tokens.specs.declared.error.ScriptWhy.{ScriptWhy}
use Rattle.script_tokens.specs.declared.error.ScriptWhy.TheVariants as why
use Rattle.text_reading.specs.declared.stop.Refusal.{Refusal}
use Rattle.text_reading.specs.Tokens.{Tok, Toks, Tongue, left, behind, at_left}
use Rattle.script_tokens.specs.ScriptKinds.{same_kind, same_kind_is, same_kind_self}

abbrev pub Token : Type 0
Token = Tok Kind

abbrev pub Tokens : Type 0
Tokens = Toks Kind

abbrev pub Stopped : Type 0
Stopped = Refusal ScriptWhy

abbrev pub kind_of_head : Tokens → Kind
kind_of_head [] = k.End
kind_of_head (t ∷ ts) = t.kind

-- why and where no text goes on with the next token
abbrev pub refusal_by : Kind → Tokens → Stopped
refusal_by k.End ts = at_left why.UnexpectedEnd (left ts)
refusal_by k.NotAscii ts = at_left why.NotAscii (left ts)
refusal_by k.OpenComment ts = at_left why.UnexpectedEnd (behind ts)
refusal_by _ ts = at_left why.UnexpectedToken (left ts)

unfoldable pub refusal : Tokens → Stopped
refusal ts = refusal_by (kind_of_head ts) ts

-- a function that isn't known, and a number that is too long, wherever one could stand
abbrev pub own_by : Kind → Token → Option Stopped
own_by k.LongDigits t = Some (at_left why.NumberTooLong t.left)
own_by k.UnknownFunction t = Some (at_left why.UnknownFunction t.left)
own_by _ t = None

unfoldable pub own : Token → Option Stopped
own t = own_by t.kind t

-- A string that is cut short, where one could stand: the place is behind it, so its other limits come first.
abbrev pub late_by : Kind → Token → Option Stopped
late_by k.OpenText t = Some (at_left why.UnexpectedEnd (t.left - length t.text))
late_by k.BadText t = Some (at_left why.NotAscii (t.left - length t.text))
late_by _ t = None

unfoldable pub late : Token → Option Stopped
late t = late_by t.kind t

abbrev pub late_of_head : Tokens → Option Stopped
late_of_head [] = None
late_of_head (t ∷ ts) = late t

-- A limit that keeps out the next token: at its first byte, or behind it where it is cut short.
abbrev pub IsFault : Tokens → Stopped → Type 0
IsFault ts r = (r ≡ at_left r.why (left ts)) ⊎ (late_of_head ts ≡ Some r)

pub own_first : (kind : Kind) (t : Token) (ts : Tokens) (r : Stopped) → own_by kind t ≡ Some r → IsFault (t ∷ ts) r
own_first k.LongDigits t ts r e = inl (let is : at_left why.NumberTooLong t.left ≡ r = cc in (cc))
own_first k.UnknownFunction t ts r e = inl (let is : at_left why.UnknownFunction t.left ≡ r = cc in (cc))
own_first _ t ts r e = absurd (cc)

pub own_is : (t : Token) (ts : Tokens) (r : Stopped) → own t ≡ Some r → IsFault (t ∷ ts) r
unfolding own
own_is t ts r e = own_first t.kind t ts r e

abbrev pub tongue : Tongue Kind ScriptWhy
tongue = record {
  end = k.End;
  same = same_kind;
  same_is = same_kind_is;
  same_self = same_kind_self;
  refusal = refusal;
  IsFault = IsFault;
  own = own;
  own_is = own_is;
  late = late;
  late_is = λ t ts r e. inr e;
  first_is = λ t ts w. inl refl;
}
