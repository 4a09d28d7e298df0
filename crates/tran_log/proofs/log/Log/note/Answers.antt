use Rattle.std.proofs.Common.{◌-◌, length, refl, ◌∙◌, ap, arith}
use Rattle.tran_log.specs.Kept.{Kept}
use Rattle.tran_log.proofs.StackLaws.{length_levels, levels_same, Noted, noted_levels, noted_pins}
use Rattle.tran_log.proofs.log.Log.note.Goals as goal

pub returns-in-Err-clause-err : goal.returns-in-Err-clause-err
returns-in-Err-clause-err c =
    let e = c.index_mut.result.now in
    (refl, levels_same c.self.inside.levels.items (c.len-top.result - 1) c.reserve.new.self e (c.in-Err.ensures.items ∙ ap (λ (x : Kept). x.items) c.index_mut.ensures.value) ∙ c.self.view_is, refl)

noted_top : (c : goal.After-self-in-Ok-1) → Noted c.self.inside.levels.items (c.len-top.result - 1) c.index_mut.result.now c.reserve.new.self c.index_mut-in-Ok.result.now c.note_all.new.kept c.args.olds.items
noted_top c = record {
  top = omega (arith, c.requires.open, length_levels c.self.inside.levels.items, ap length c.self.view_is);
  was = c.index_mut.ensures.value;
  same = c.in-Ok.ensures.items;
  is_here = c.index_mut-in-Ok.ensures.value;
  level = c.note_all.ensures.level;
}

pub returns-in-Ok-clause-levels : goal.returns-in-Ok-clause-levels
returns-in-Ok-clause-levels c =
    noted_levels c.self.inside.levels.items (c.len-top.result - 1) c.index_mut.result.now c.reserve.new.self c.index_mut-in-Ok.result.now c.note_all.new.kept c.args.olds.items _ (noted_top c) c.self.view_is

pub returns-in-Ok-clause-pins : goal.returns-in-Ok-clause-pins
returns-in-Ok-clause-pins c = λ n.
    noted_pins c.self.inside.levels.items (c.len-top.result - 1) c.index_mut.result.now c.reserve.new.self c.index_mut-in-Ok.result.now c.note_all.new.kept c.args.olds.items _ n _ _ (noted_top c) c.self.view_is (c.note_all.ensures.pins n)
