use Rattle.std.proofs.Common.{◌∙◌}
use Rattle.oref_table.specs.Memory.{outside_of}
use Rattle.oref_cases.proofs.ParkedLaws.{held-of, gave-hold, gave-plain, gave-target, gave-nothing}
use Rattle.oref_cases.proofs.filling.give_back.Goals as goal

pub let_go-requires : goal.let_go-requires
let_go-requires c = held-of c.args.table.now c.args.with c.in-To.held c.in-To.is c.requires

pub returns-in-To : goal.returns-in-To
returns-in-To c = λ n. c.let_go.ensures.holds n ∙ gave-hold c.args.with c.in-To.held (outside_of c.args.table.now n) n c.in-To.is

pub returns-in-Plain : goal.returns-in-Plain
returns-in-Plain c = λ n. gave-plain c.args.with c.in-Plain.value (outside_of c.args.table.now n) n c.in-Plain.is

pub returns-in-Target : goal.returns-in-Target
returns-in-Target c = λ n. gave-target c.args.with c.in-Target.field-0 (outside_of c.args.table.now n) n c.in-Target.is

pub returns-in-Nothing : goal.returns-in-Nothing
returns-in-Nothing c = λ n. gave-nothing c.args.with (outside_of c.args.table.now n) n c.in-Nothing.is
