use Rattle.std.proofs.Common.{ap, sym, ◌∙◌}
use Rattle.std.specs.Option.{option_copied}
use Rattle.lock_table.proofs.AgainstLaws.{holder_found}
use Rattle.lock_table.proofs.refusal.refuser_at.Goals as goal

pub returns-in-Some : goal.returns-in-Some
returns-in-Some c = holder_found c.args.rows.now c.args.pid c.args.mode c.args.node.now c.in-Some.holders.now c.first_against.result (sym c.get.ensures.value ∙ ap option_copied c.in-Some.is) c.first_against.ensures.first c.first_against.ensures.ordered
