use Rattle.std.proofs.Common.{◌≡◌, vec_len}
use Rattle.step_program.proofs.run.devices.Given as goal

abbrev pub invariant-loop-index : goal.invariant-loop-index
invariant-loop-index l = vec_len l.devices ≡ l.index
