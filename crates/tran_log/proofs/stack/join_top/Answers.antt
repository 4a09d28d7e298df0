use Rattle.std.proofs.Common.{◌-◌, OnErr, Result, Ok, Err, refl, ap, ◌∙◌, arith}
use Rattle.tran_log.specs.Levels.{pins_of}
use Rattle.tran_log.specs.Kept.{Kept}
use Rattle.tran_log.proofs.StackLaws.{levels_same, log_set, Joined, joined_rest, joined_levels, joined_owed, joined_pins}
use Rattle.tran_log.proofs.stack.join_top.Goals as goal

on_err : {A E : Type 0} {P : Type 0} (r : Result A E) → P → OnErr r P
on_err (Ok x) p = tt
on_err (Err e) p = p

pub returns-in_err-reserve-clause-err : goal.returns-in_err-reserve-clause-err
returns-in_err-reserve-clause-err c =
    on_err c.from_residual.result (levels_same c.args.levels.now.items (c.len-top.result - 1 - 1) c.reserve.new.self c.index_mut.result.now (c.in_err-reserve.ensures.items ∙ ap (λ (x : Kept). x.items) c.index_mut.ensures.value), refl)

pub note_all-requires-clause-pins : goal.note_all-requires-clause-pins
note_all-requires-clause-pins c = λ m.
    joined_owed c.args.levels.now.items (c.len-top.result - 1 - 1) c.index_mut.result.now c.reserve.new.self c.pop.new.self.items c.in-Some.kept c.index_mut-in-Some.result.now m (pins_of c.args.tree.now.pins m)
    (record { inner = omega arith; was = c.index_mut.ensures.value; same = c.in_ok-reserve.ensures.items; popped = c.in-Some.ensures.items; log = c.requires.log })
    c.index_mut-in-Some.ensures.value (c.requires.pins m)

joined : (c : goal.After-levels-in-Some-1) → Joined c.args.levels.now.items (c.len-top.result - 1 - 1) c.index_mut.result.now c.reserve.new.self c.pop.new.self.items c.in-Some.kept
joined c = record { inner = omega arith; was = c.index_mut.ensures.value; same = c.in_ok-reserve.ensures.items; popped = c.in-Some.ensures.items; log = c.requires.log }

pub returns-in-Some-clause-log : goal.returns-in-Some-clause-log
returns-in-Some-clause-log c =
    log_set c.pop.new.self.items (c.len-top.result - 1 - 1) c.note_all.new.kept (joined_rest c.args.levels.now.items (c.len-top.result - 1 - 1) c.index_mut.result.now c.reserve.new.self c.pop.new.self.items c.in-Some.kept (joined c)) c.note_all.ensures.rising

pub returns-in-Some-clause-levels : goal.returns-in-Some-clause-levels
returns-in-Some-clause-levels c =
    joined_levels c.args.levels.now.items (c.len-top.result - 1 - 1) c.index_mut.result.now c.reserve.new.self c.pop.new.self.items c.in-Some.kept c.index_mut-in-Some.result.now c.note_all.new.kept (joined c) c.index_mut-in-Some.ensures.value c.note_all.ensures.level

pub returns-in-Some-clause-pins : goal.returns-in-Some-clause-pins
returns-in-Some-clause-pins c = λ n.
    joined_pins c.args.levels.now.items (c.len-top.result - 1 - 1) c.index_mut.result.now c.reserve.new.self c.pop.new.self.items c.in-Some.kept c.index_mut-in-Some.result.now c.note_all.new.kept n _ _ (joined c) c.index_mut-in-Some.ensures.value (c.note_all.ensures.pins n)
