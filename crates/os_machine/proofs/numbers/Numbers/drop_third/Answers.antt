use Rattle.std.proofs.Common.{◌∙◌, ap, reverse, ◌-◌, subst, ◌<◌}
use Rattle.os_machine.proofs.Tops.{third_removed}
use Rattle.os_machine.proofs.numbers.Numbers.drop_third.Goals as goal

pub returns-then-len-gt2 : goal.returns-then-len-gt2
returns-then-len-gt2 c =
    let len = c.len-len.ensures ∙ c.self.inside.numbers.ok.0 in
    ap reverse c.remove.ensures.items
    ∙ third_removed c.self.inside.numbers.items c.args.self.now _ c.self.view_is (subst (λ n. 2 < n) len c.if-len-gt2.true) (ap (λ n. n - 3) len)
