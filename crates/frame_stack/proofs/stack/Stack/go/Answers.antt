use Rattle.frame_stack.proofs.Standing.{if_stands}
use Rattle.frame_stack.proofs.stack.Stack.go.Goals as goal

pub returns-clause-stands : goal.returns-clause-stands
returns-clause-stands c =
    if_stands c.go.result c.args.units.now c.go.new.units c.args.self.now c.go.new.self c.requires.ready c.go.ensures.sees c.go.ensures.waits
