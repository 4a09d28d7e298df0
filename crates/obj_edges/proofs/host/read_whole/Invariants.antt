use Rattle.std.proofs.Common.{◌≤◌, vec_len}
use Rattle.obj_edges.proofs.host.read_whole.Given as goal

abbrev pub invariant-loop : goal.invariant-loop
invariant-loop g l = vec_len l.bytes ≤ 16777216
