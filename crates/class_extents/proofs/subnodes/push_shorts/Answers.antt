use Rattle.std.proofs.Common.{◌++◌, ◌-◌, ap, sym, filter_map, ◌∙◌}
use Rattle.schema_kinds.specs.Hierarchy.{chain}
use Rattle.class_extents.specs.Extents.{short_at}
use Rattle.class_extents.proofs.ChainSteps.{chain-on}
use Rattle.class_extents.proofs.subnodes.push_shorts.Goals as goal

pub loop-left-preserved : goal.loop-left-preserved
loop-left-preserved c =
    ap (λ l. l ++ filter_map (short_at c.args.trees.now) (chain (c.loop-left.left - 1) c.args.firsts.now c.in-Some.first)) c.in_ok-push_short.ensures
    ∙ chain-on (short_at c.args.trees.now) c.loop-left.words c.loop-left.left c.args.firsts.now c.loop-left.here c.in-Some.first c.loop-left-test.true (sym c.in-Some.ensures)
    ∙ c.loop-left.invariant
