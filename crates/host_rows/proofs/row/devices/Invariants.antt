use Rattle.std.proofs.Common.{◌≡◌, vec_len}
use Rattle.host_rows.proofs.row.devices.Given as goal

-- a device for each turn so far
abbrev pub invariant-loop : goal.invariant-loop
invariant-loop l = vec_len l.devices ≡ l.counter
