use Rattle.load_plan.specs.Loads.{load_of}
use Rattle.load_plan.proofs.LoadLaws.{goes_on_asking, goes_behind}
use Rattle.load_plan.proofs.plan.LoadPlan.read_on.Goals as goal

pub returns-in-Ask-clause-on : goal.returns-in-Ask-clause-on
returns-in-Ask-clause-on c =
    rw c.in-Reading.is
    (goes_on_asking c.args.self.now.schema.now (load_of c.args.self.now.call) c.in-Reading.reading c.read_step.new.reading c.in_ok-op.field-0 c.in-Ask.op c.in-Ask.is
    c.in_ok-op.ensures.says c.in_ok-op.ensures.stays c.in_ok-op.ensures.lock)

pub returns-in-Read-clause-on : goal.returns-in-Read-clause-on
returns-in-Read-clause-on c = (
  c.read_ends.ensures.ended,
  c.read_ends.ensures.told,
  rw c.in-Reading.is
      (goes_behind c.args.self.now.schema.now (load_of c.args.self.now.call) c.in-Reading.reading c.read_ends.result c.read_step.new.reading.lock c.in_ok-op.field-0 c.in-Read.outcome c.in-Read.is
      c.in_ok-op.ensures.says c.in_ok-op.ensures.lock (c.read_ends.ensures.left c.args.self.now.schema.now)),
)
