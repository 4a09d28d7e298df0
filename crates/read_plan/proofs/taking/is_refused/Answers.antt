use Rattle.std.proofs.Common.{◌∙◌, ap}
use Rattle.std.specs.Option.{option_copied}
use Rattle.read_plan.specs.Reads.{refuses}
use Rattle.read_plan.proofs.ReadLaws.{refused}
use Rattle.read_plan.proofs.taking.is_refused.Goals as goal

pub returns-in-Some : goal.returns-in-Some
returns-in-Some c =
    ap (λ wanted. refuses c.args.call.schema.now (option_copied wanted) c.args.class.now) c.in-Some.is
    ∙ refused c.args.call.schema.now c.args.class.now c.in-Some.wanted.now c.is_below.result c.is_below.ensures
