use Rattle.std.proofs.Common.{◌∙◌, arith}
use Rattle.tran_log.specs.Levels.{pins_of}
use Rattle.tran_log.proofs.StackLaws.{top_owed, top_kept, undone_top}
use Rattle.tran_log.proofs.log.Log.undo_one.Goals as goal

pub put_all_back-requires-clause-pins : goal.put_all_back-requires-clause-pins
put_all_back-requires-clause-pins c = λ m.
    let owed = top_owed c.self.inside.levels.items c.pop.new.self.items c.in-Some.top _ (pins_of c.args.tree.now.pins m) m c.self.invariant c.in-Some.ensures.items c.self.view_is (c.requires m) in
    omega arith

pub returns-clause-globals : goal.returns-clause-globals
returns-clause-globals c =
    c.put_all_back.ensures.globals
    ∙ undone_top c.self.inside.levels.items c.pop.new.self.items c.in-Some.top _ c.args.tree.now.globals c.self.invariant c.in-Some.ensures.items c.self.view_is

pub returns-clause-pins : goal.returns-clause-pins
returns-clause-pins c = λ n.
    let kept = top_kept c.self.inside.levels.items c.pop.new.self.items c.in-Some.top _ n c.self.invariant c.in-Some.ensures.items c.self.view_is in
    omega (arith, c.put_all_back.ensures.pins n)
