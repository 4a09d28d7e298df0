use Rattle.save_looks.specs.Looks.{item_of}
use Rattle.save_looks.proofs.LookLaws.{asks_on, tells_on}
use Rattle.save_looks.proofs.plan.LookPlan.read_on.Goals as goal

pub returns-in-Ask-clause-on : goal.returns-in-Ask-clause-on
returns-in-Ask-clause-on c =
    rw c.in-Reading.is
    (asks_on c.read_call.result c.args.call.schema.now (item_of c.args.call.item.now) c.read_call.ensures.schema c.read_call.ensures.key c.read_call.ensures.wanted
    c.in-Reading.read c.next.new.self c.in_ok-op.field-0 c.in-Ask.op c.in-Ask.is c.in_ok-op.ensures.says c.in_ok-op.ensures.stays)

pub returns-in-Read-clause-on : goal.returns-in-Read-clause-on
returns-in-Read-clause-on c =
    rw c.in-Reading.is
    (tells_on c.read_call.result c.args.call.schema.now (item_of c.args.call.item.now) c.read_call.ensures.schema c.read_call.ensures.key c.read_call.ensures.wanted
    c.in-Reading.read c.in_ok-op.field-0 c.in-Read.outcome c.in-Read.is c.in_ok-op.ensures.says)
