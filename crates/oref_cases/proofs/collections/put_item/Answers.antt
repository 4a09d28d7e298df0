use Rattle.std.proofs.Common.{ap, ◌∙◌, ◌-◌}
use Rattle.oref_table.specs.Memory.{outside_of}
use Rattle.oref_cases.proofs.ParkedLaws.{held-for}
use Rattle.oref_cases.proofs.PlaceLaws.{passed_hold}
use Rattle.oref_cases.proofs.collections.put_item.Goals as goal

pub put-requires-clause-held : goal.put-requires-clause-held
put-requires-clause-held c = held-for c.args.table.now c.args.held c.requires

pub returns-then-takes_item : goal.returns-then-takes_item
returns-then-takes_item c = λ n. c.put.ensures n ∙ ap (λ k. outside_of c.args.table.now n - k) (passed_hold c.args.held n)
