use Rattle.std.proofs.Common.{rules, ap, ◌∙◌}
use Rattle.std.proofs.lemmas.Fn.{filter_same}
use Rattle.obj_kinds.specs.declared.node.Node.{Node}
use Rattle.lock_table.specs.Table.{holds_node}
use Rattle.lock_table.proofs.TurnLaws.{has, has_filter}
use Rattle.lock_table.proofs.turn.keep_held.Goals as goal

pub returns : goal.returns
returns c =
    let test = λ (n : Node). holds_node c.args.rows.now n c.args.pid in
    let is = filter_same _ test _ (λ x b f called. search rules) c.args.nodes.now.keys c.retain.new.self.keys c.retain.ensures.filtered in
    λ n. ap (λ ks. has ks n) is ∙ has_filter test n c.args.nodes.now.keys
