use Rattle.std.proofs.Common.{arith}
use Rattle.oref_cases.proofs.ParkedLaws.{nothing-for}
use Rattle.oref_cases.proofs.PlaceLaws.{passed_none}
use Rattle.oref_cases.proofs.collections.take_pair.Goals as goal

pub put-requires-clause-held : goal.put-requires-clause-held
put-requires-clause-held c = nothing-for c.args.table.now

pub returns-then-has_pair : goal.returns-then-has_pair
returns-then-has_pair c = λ n. let e = c.put.ensures n in omega (arith, e, passed_none n)
