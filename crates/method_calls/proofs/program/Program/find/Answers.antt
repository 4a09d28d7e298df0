use Rattle.method_calls.proofs.Finding.{no_class, no_method, finds}
use Rattle.method_calls.proofs.program.Program.find.Goals as goal

pub returns-in-Some-find : goal.returns-in-Some-find
returns-in-Some-find c meant is =
    finds meant c.args.self.now is c.args.class.now c.args.name.now c.in-Some.on.now c.in-Some-find.place c.callee_at.result c.in-Some.ensures c.in-Some-find.ensures (c.callee_at.ensures meant is)

pub returns-in-None-find : goal.returns-in-None-find
returns-in-None-find c meant is = no_method meant c.args.self.now is c.args.class.now c.args.name.now c.in-Some.on.now c.in-Some.ensures c.in-None-find.ensures

pub returns-in-None : goal.returns-in-None
returns-in-None c meant is = no_class meant c.args.self.now is c.args.class.now c.args.name.now c.in-None.ensures
