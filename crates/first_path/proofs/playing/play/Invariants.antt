use Rattle.std.proofs.Common.{take, drop}
use Rattle.first_path.specs.Amid.{IsAmid}
use Rattle.first_path.proofs.playing.play.Given as goal

abbrev pub invariant-loop-act : goal.invariant-loop-act
invariant-loop-act g l = IsAmid l.properties (take l.act-index l.acts) (drop l.act-index l.acts) l.session (g.D.Device.bytes l.fn.device) (g.D.Device.bytes l.device) (g.D.Device.faults l.fn.device) (g.D.Device.faults l.device)
