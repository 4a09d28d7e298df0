use Rattle.std.proofs.Common.{sym, ap, ◌∙◌}
use Rattle.std.specs.Option.{option_copied}
use Rattle.lock_table.proofs.RowLaws.{empty_row}
use Rattle.lock_table.proofs.rows.is_idle.Goals as goal

pub returns-in-Some : goal.returns-in-Some
returns-in-Some c = λ yes q. empty_row _ _ q (sym c.get.ensures.value ∙ ap option_copied c.in-Some.is) (c.is_empty.ensures.0 yes)
