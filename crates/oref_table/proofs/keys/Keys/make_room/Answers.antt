use Rattle.std.proofs.Common.{ap, ◌∙◌}
use Rattle.oref_table.specs.Keys.{numbers_in}
use Rattle.oref_table.proofs.keys.Keys.make_room.Goals as goal

pub returns-clause-numbers : goal.returns-clause-numbers
returns-clause-numbers c = λ s. c.reserve.ensures.entries.2 s ∙ ap (λ m. numbers_in m.entries s) c.meet_any.ensures.numbers
