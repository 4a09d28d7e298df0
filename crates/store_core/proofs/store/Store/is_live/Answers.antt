use Rattle.std.proofs.Common.{◌≡◌, ◌+◌, ap, ◌∙◌, is_some, get_or, None, arith}
use Rattle.store_core.proofs.StoreLaws.{live_is, none_is_live}
use Rattle.store_core.proofs.store.Store.is_live.Goals as goal

pub returns-in-Some : goal.returns-in-Some
returns-in-Some c =
    let k : c.args.pid.0 ≡ c.in-Some.at + 1 = omega (arith, c.in-Some.ensures) in
    c.has_log.ensures ∙ ap (λ logs. is_some (get_or logs c.in-Some.at None)) c.as_slice.ensures.value
    ∙ live_is c.self.invariant c.args.self.now c.self.view_is c.args.pid c.in-Some.at k

pub returns-in-None : goal.returns-in-None
returns-in-None c = none_is_live c.self.invariant c.args.self.now c.self.view_is c.args.pid (omega (arith, c.in-None.ensures))
