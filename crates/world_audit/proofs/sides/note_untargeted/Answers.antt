use Rattle.std.proofs.Common.{[], sym, subst}
use Rattle.world_audit.specs.Sides.{IsSideOfAny, Notes}
use Rattle.world_audit.proofs.SideLaws.{finds_then, no_notes}
use Rattle.world_audit.proofs.sides.note_untargeted.Goals as goal

pub loop-key-preserved : goal.loop-key-preserved
loop-key-preserved c =
    let classes = c.args.among.now.schema.now in
    let finds = c.args.among.now.finds.now.entries in
    λ end h. c.loop-key.invariant end
    (subst (λ es. Notes classes finds (IsSideOfAny classes es) c.loop-key.least end) (sym c.in-Some.ensures.steps)
    (finds_then classes finds (c.in-Some.key.now, c.in-Some.found.now) c.next.new.self c.loop-key.least c.note_sides_of.new.least end c.in_ok-note_sides_of.ensures h))

pub returns : goal.returns
returns c =
    let classes = c.args.among.now.schema.now in
    let finds = c.args.among.now.finds.now.entries in
    c.loop-key.invariant c.loop-key.least
    (subst (λ es. Notes classes finds (IsSideOfAny classes es) c.loop-key.least c.loop-key.least) (sym c.in-None.ensures.steps.0) (no_notes classes finds (IsSideOfAny classes []) c.loop-key.least (λ k s h. h.1)))
