use Rattle.std.proofs.Common.{sym, ap, subst, ◌∙◌, cond}
use Rattle.std.proofs.lemmas.Bool.{lt-ltb}
use Rattle.oref_table.specs.Memory.{edited, tighten, with_level, IsLive}
use Rattle.open_plan.proofs.EditsOf.{held_first, held_live}
use Rattle.open_plan.proofs.ends.hold.Goals as goal

pub set_level-requires : goal.set_level-requires
set_level-requires c =
    subst (λ m. IsLive m c.args.raised.now.oref.0) (sym c.in_ok-held.ensures.ok) (held_live c.args.table.now c.args.raised.now.oref.0 c.requires)

pub returns-then-raised-clause-memory : goal.returns-then-raised-clause-memory
returns-then-raised-clause-memory c =
    c.set_level.ensures ∙ ap (λ m. edited m c.args.raised.now.oref.0 (with_level c.args.raised.now.to)) c.in_ok-held.ensures.ok
    ∙ held_first c.args.table.now c.args.raised.now.oref.0 c.args.raised.now.to
    ∙ ap (λ b. edited (cond b (edited c.args.table.now c.args.raised.now.oref.0 (with_level c.args.raised.now.to)) c.args.table.now) c.args.raised.now.oref.0 tighten)
    (sym (lt-ltb c.args.raised.now.from c.args.raised.now.to c.if-raised.true))
