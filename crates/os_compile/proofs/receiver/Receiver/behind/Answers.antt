use Rattle.std.proofs.Common.{◌≡◌, IfOk, map, sym, ap, subst, ◌∙◌}
use Rattle.os_compile.specs.Chains.{member_of, receiver_behind}
use Rattle.os_compile.proofs.Chains.{behind_last}
use Rattle.os_compile.proofs.receiver.Receiver.behind.Goals as goal

-- src/receiver.rt:45:5
pub returns-in-Some : goal.returns-in-Some
returns-in-Some c =
    subst (λ x. IfOk c.after.result (λ r. r ≡ x))
    (sym (behind_last c.args.self.now c.in-Some.field-0-1.now c.in-Some.last.now) ∙ sym (ap (λ l. receiver_behind c.args.self.now (map member_of l)) c.in-Some.ensures.cases.0))
    c.after.ensures
