use Rattle.std.proofs.Common.{rules, not}
use Rattle.std.specs.Ordering.{is_lt}
use Rattle.std.proofs.lemmas.List.Sorted.{IsPartitionPoint-from_clause}
use Rattle.obj_kinds.specs.Order.{node_cmp}
use Rattle.global_tree.specs.Run.{is_past}
use Rattle.global_tree.proofs.RunLaws.{parted_start, parted_end, run_between}
use Rattle.global_tree.proofs.run.run_of.Goals as goal

pub returns : goal.returns
returns c =
    let places = c.args.places.now in
    let node = c.args.node.now in
    let start = c.partition_point-start.ensures in
    let end = c.partition_point-end.ensures in
    let starts = IsPartitionPoint-from_clause (λ e. is_lt (node_cmp e.0 node)) places c.partition_point-start.result start.partitioned (parted_start node places c.requires) (λ a r h called. search rules) in
    let ends = IsPartitionPoint-from_clause (λ e. not (is_past node e.0)) places c.partition_point-end.result end.partitioned (parted_end node places c.requires) (λ a r h called. search rules) in
    run_between places node c.partition_point-start.result c.partition_point-end.result start.bound end.bound starts.0 starts.1 ends.0 ends.1
