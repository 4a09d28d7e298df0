use Rattle.std.proofs.Common.{◌≡◌, []}
use Rattle.world_audit.specs.Firsts.{firsts_of}
use Rattle.world_audit.proofs.firsts.find_firsts.Given as goal

abbrev pub invariant-loop-key : goal.invariant-loop-key
invariant-loop-key l = firsts_of l.schema l.firsts.entries l.key-iterator ≡ firsts_of l.schema [] l.finds.entries
