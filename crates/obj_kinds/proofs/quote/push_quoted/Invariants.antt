use Rattle.std.proofs.Common.{◌≡◌, ◌++◌, drop}
use Rattle.obj_kinds.specs.declared.quote.Run.TheVariants.{Start}
use Rattle.obj_kinds.specs.Quoted.{rest_of_text}
use Rattle.obj_kinds.proofs.quote.push_quoted.Given as goal

-- what is written, with the rest as it would be written here
abbrev pub invariant-loop-byte : goal.invariant-loop-byte
invariant-loop-byte l = l.out ++ rest_of_text l.run (drop l.byte-index l.text) ≡ l.initial.out ++ rest_of_text Start l.text
