use Rattle.std.proofs.Common.{refl, arith}
use Rattle.tran_log.specs.Levels.{pins_of}
use Rattle.tran_log.specs.Kept.{levels_of}
use Rattle.tran_log.proofs.StackLaws.{top_owed, top_kept}
use Rattle.tran_log.proofs.stack.drop_last.Goals as goal

pub unpin_all-requires : goal.unpin_all-requires
unpin_all-requires c = record {
  pins = λ m.
      let owed = top_owed c.args.levels.now.items c.pop.new.self.items c.in-Some.top (levels_of c.args.levels.now.items) (pins_of c.args.tree.now.pins m) m c.requires.log c.in-Some.ensures.items refl (c.requires.pins m) in
      omega arith;
}

pub returns-in-Some-clause-pins : goal.returns-in-Some-clause-pins
returns-in-Some-clause-pins c = λ n.
    let kept = top_kept c.args.levels.now.items c.pop.new.self.items c.in-Some.top (levels_of c.args.levels.now.items) n c.requires.log c.in-Some.ensures.items refl in
    omega (arith, c.unpin_all.ensures.pins n)
