-- Values as operators take them.
use Rattle.std.specs.Prelude.{ℕ, Bool, true, false, nat_le, cond, List, ◌++◌, Ok, Err}
use Rattle.obj_kinds.specs.declared.node.Node.{Node}
use Rattle.obj_kinds.specs.declared.sub.Sub.{Sub}
use Rattle.obj_kinds.specs.declared.value.Value.{Value}
use Rattle.os_kinds.specs.declared.expression.Function.{Function}
use Rattle.os_kinds.specs.declared.expression.Function.TheVariants as function
use Rattle.obj_kinds.specs.declared.error_name.ErrorName.TheVariants as error
use Rattle.os_kinds.specs.declared.val.Val.{Val}
use Rattle.os_value.specs.Answers.{and_then}
use Rattle.os_value.specs.Readings.{text_in}
use Rattle.os_meaning.specs.Syntax.{Name}
use Rattle.os_meaning.specs.Values.{Checked}
use Rattle.os_meaning.specs.Frames.{node, subs_by}
use Rattle.os_machine.specs.declared.plain.Plain.{Plain}
use Rattle.os_machine.specs.declared.plain.Plain.TheVariants.{Kept, Made}

abbrev pub seen : Plain → Value
seen (Kept v) = v.now
seen (Made v) = v

-- whether a function has any number of arguments
abbrev pub takes_any : Function → Bool
takes_any function.Char = true
takes_any function.ListBuild = true
takes_any _ = false

-- the text that is to be a subscript behind so many others
abbrev pub sub_text_of : ℕ → Value → Checked (List ℕ)
sub_text_of others v = and_then (text_in v) (λ t. cond (nat_le 8 others) (Err error.Subscript) (Ok t))

-- the node of a global with these subscripts
abbrev pub node_by : Name → List Val → Checked Node
node_by global vs = and_then (subs_by 0 vs) (λ subs. Ok (node global subs))

-- subscripts that follow others
abbrev pub subs_after : List Sub → Checked (List Sub) → Checked (List Sub)
subs_after subs r = and_then r (λ more. Ok (subs ++ more))
