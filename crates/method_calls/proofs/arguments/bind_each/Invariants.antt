use Rattle.std.proofs.Common.{◌≡◌, [], drop, reverse}
use Rattle.method_calls.specs.Binding.{bound}
use Rattle.method_calls.proofs.arguments.bind_each.Given as goal

-- what is left to bind gives the same variables
abbrev pub invariant-loop-arg : goal.invariant-loop-arg
invariant-loop-arg l = bound (drop l.arg-index l.args) (reverse l.values) l.vars ≡ bound l.args (reverse l.fn.values) []
