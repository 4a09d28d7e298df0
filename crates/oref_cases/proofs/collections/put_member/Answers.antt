use Rattle.std.proofs.Common.{ap, ◌∙◌, ◌-◌}
use Rattle.oref_table.specs.Memory.{outside_of}
use Rattle.oref_cases.proofs.ParkedLaws.{held-for}
use Rattle.oref_cases.proofs.PlaceLaws.{passed_hold}
use Rattle.oref_cases.proofs.collections.put_member.Goals as goal

pub put-requires-clause-held : goal.put-requires-clause-held
put-requires-clause-held c = held-for c.args.table.now c.args.held c.requires.held

pub returns-then-takes_member : goal.returns-then-takes_member
returns-then-takes_member c = λ n. c.put.ensures n ∙ ap (λ k. outside_of c.args.table.now n - k) (passed_hold c.args.held n)
