use Rattle.std.proofs.Common.{rules, ap, ◌∙◌}
use Rattle.std.specs.Ordering.{is_lt}
use Rattle.std.proofs.lemmas.List.Sorted.{IsPartitionPoint-from_clause}
use Rattle.obj_kinds.specs.Order.{node_cmp}
use Rattle.world_audit.specs.Runs.{front_run}
use Rattle.world_audit.proofs.RunLaws.{parted_rows, run_is}
use Rattle.world_audit.proofs.run.from_row.Goals as goal

pub returns : goal.returns
returns c =
    let pairs = c.args.pairs.now in
    let row = c.args.row.now in
    let start = c.partition_point-start.result in
    let parts = IsPartitionPoint-from_clause (λ e. is_lt (node_cmp e.0 row)) pairs start c.partition_point-start.ensures.partitioned (parted_rows row pairs c.requires) (λ a r h called. search rules) in
    ap (front_run row) c.split_at.ensures.back ∙ run_is row pairs start c.requires c.partition_point-start.ensures.bound parts.0 parts.1
