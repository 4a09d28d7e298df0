use Rattle.std.proofs.Common.{rules, not}
use Rattle.std.specs.Ordering.{is_lt}
use Rattle.std.proofs.lemmas.List.Sorted.{IsPartitionPoint-from_clause}
use Rattle.obj_kinds.specs.Order.{node_cmp}
use Rattle.record_reading.proofs.KeyLaws.{parted_keys, start_is}
use Rattle.record_reading.proofs.keys.start_of.Goals as goal

pub returns : goal.returns
returns c =
    let pairs = c.args.pairs.now in
    let node = c.args.node.now in
    let start = c.partition_point.result in
    let parts = IsPartitionPoint-from_clause (λ e. not (is_lt (node_cmp node e.0))) pairs start c.partition_point.ensures.partitioned (parted_keys node pairs c.requires) (λ a r h called. search rules) in
    start_is node pairs start c.requires c.partition_point.ensures.bound parts.0 parts.1
