use Rattle.std.proofs.Common.{◌∙◌}
use Rattle.os_machine.proofs.Tops.{value_at}
use Rattle.os_machine.proofs.numbers.Numbers.below.Goals as goal

pub returns-then-count-len : goal.returns-then-count-len
returns-then-count-len c =
    c.copied.ensures ∙ c.at.ensures ∙ value_at c.args.count c.len-len.result c.self.inside.numbers.items c.as_slice.result.now c.args.self.now c.as_slice.ensures.value (c.len-len.ensures ∙ c.self.inside.numbers.ok.0) c.self.view_is c.if-count-len.true
