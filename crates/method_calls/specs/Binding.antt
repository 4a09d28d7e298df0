-- The values of a call, one after the other, as variables.
use Rattle.std.specs.Prelude.{ℕ, List, [], ◌∷◌, Option, Some, None}
use Rattle.schema_kinds.specs.declared.method.Arg.{Arg}
use Rattle.os_kinds.specs.declared.val.Val.{Val}
use Rattle.os_meaning.specs.Syntax.{Name}
use Rattle.os_meaning.specs.Values.{text_value}
use Rattle.os_meaning.specs.Frames.{Vars, with_var}

abbrev pub first : List Val → Option Val
first [] = None
first (v ∷ vs) = Some v

abbrev pub later : List Val → List Val
later [] = []
later (v ∷ vs) = vs

-- a value, or else the default
abbrev pub or_default : Option (List ℕ) → Option Val → Option Val
or_default default (Some v) = Some v
or_default None None = None
or_default (Some text) None = Some (text_value text)

abbrev pub put_value : Name → Option Val → Vars → Vars
put_value name None vars = vars
put_value name (Some v) vars = with_var name v vars

-- the arguments in order, each with the next value
abbrev pub bound : List Arg → List Val → Vars → Vars
bound [] vs vars = vars
bound (a ∷ args) vs vars = bound args (later vs) (put_value a.name (or_default a.default (first vs)) vars)
