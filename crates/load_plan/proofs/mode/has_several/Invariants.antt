use Rattle.std.proofs.Common.{◌≡◌, ◌&&◌, drop}
use Rattle.std.specs.List.{list_any}
use Rattle.object_calls.specs.Extents.{is_at_or_below, adds_nodes}
use Rattle.load_plan.proofs.mode.has_several.Given as goal

-- none so far
abbrev pub invariant-loop-other : goal.invariant-loop-other
invariant-loop-other l =
    list_any (λ c. is_at_or_below l.schema c.name l.class && adds_nodes l.schema c) (drop l.other-index l.schema)
    ≡ list_any (λ c. is_at_or_below l.schema c.name l.class && adds_nodes l.schema c) l.schema
