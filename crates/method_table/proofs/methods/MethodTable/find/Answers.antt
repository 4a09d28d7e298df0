use Rattle.std.proofs.Common.{◌∙◌}
use Rattle.method_table.proofs.Leading.{found, unknown, no_class}
use Rattle.method_table.proofs.methods.MethodTable.find.Goals as goal

pub returns-in-Some-get : goal.returns-in-Some-get
returns-in-Some-get c =
    c.find.ensures ∙ found c.args.schema.now c.args.self.now.tables c.requires c.args.class.now c.args.name.now c.in-Some.at c.in-Some-get.table.now c.in-Some.ensures c.in-Some-get.ensures.value

pub returns-in-None-get : goal.returns-in-None-get
returns-in-None-get c = unknown c.args.schema.now c.args.self.now.tables c.requires c.args.class.now c.args.name.now c.in-Some.at c.in-Some.ensures c.in-None-get.ensures.value

pub returns-in-None : goal.returns-in-None
returns-in-None c = no_class c.args.schema.now c.args.self.now.tables c.requires c.args.class.now c.args.name.now c.in-None.ensures
