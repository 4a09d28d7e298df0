use Rattle.std.proofs.Common.{◌≡◌, false}
use Rattle.process_core.specs.Left.{left_of, is_asking, Stands}
use Rattle.process_core.proofs.process.Proc.next.Given as goal

-- nothing was shown, so all is left
abbrev pub invariant-loop-step : goal.invariant-loop-step
invariant-loop-step l = record {
  stands : Stands l.self;
  quiet : is_asking l.self ≡ false;
  left : left_of l.self ≡ left_of l.initial.self;
}
