use Rattle.std.proofs.Common.{◌≡◌, [], None, false}
use Rattle.os_code.specs.Machine.{flat}
use Rattle.os_machine.specs.Runs.{is_waiting}
use Rattle.lone_process.specs.Plays.{fresh, plays}
use Rattle.lone_process.specs.Processes.{played_of}
use Rattle.lone_process.proofs.process.play.Given as goal

-- what is left is still to be played
abbrev pub invariant-events : goal.invariant-events
invariant-events l = record {
  ready : is_waiting l.process.machine ≡ false;
  played : plays (flat None l.units l.code []) fresh l.fn.store l.fn.out ≡ played_of l.process l.store l.out;
}
