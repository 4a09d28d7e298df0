use Rattle.std.proofs.Common.{ap, ◌∙◌, arith}
use Rattle.global_tree.specs.Contents.{pins_of}
use Rattle.store_core.proofs.OpenLaws.{planted, no_pins}
use Rattle.store_core.proofs.opening.tree_of.Goals as goal

pub loop-pair-init : goal.loop-pair-init
loop-pair-init c = record {
  globals = c.new-tree.ensures.values;
  pins = λ n. ap (λ p. pins_of p n) c.new-tree.ensures.pins ∙ no_pins n;
}

pub put-requires : goal.put-requires
put-requires c = record { room = omega (arith, c.loop-pair.invariant.pins c.pair-item.result.0) }

pub loop-pair-preserved : goal.loop-pair-preserved
loop-pair-preserved c = record {
  globals =
      c.in_ok-put.ensures.globals
      ∙ planted c.args.nodes.now c.loop-pair.pair-index c.pair-item.result c.loop-pair.tree.globals c.in_ok-copy.field-0 c.requires (omega arith) c.pair-item.is c.in_ok-copy.ensures c.loop-pair.invariant.globals;
  pins = λ n. c.in_ok-put.ensures.pins n ∙ c.loop-pair.invariant.pins n;
}
