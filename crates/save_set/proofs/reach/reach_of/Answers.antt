use Rattle.std.proofs.Common.{◌≡◌, [], ap, refl, ◌∙◌}
use Rattle.object_members.specs.Seeing.{numbers_of}
use Rattle.save_set.specs.Marking.{found_in, mark_one, refs_at}
use Rattle.save_set.proofs.Walking.{all_found, live_closed, live_root, same_found, worked_first, worked_less, worked_turn}
use Rattle.save_set.proofs.reach.reach_of.Goals as goal

pub loop-number-init : goal.loop-number-init
loop-number-init c =
    worked_first (refs_at c.args.table.now) c.args.root.0 (found_in c.mark.new.reach)
    (c.in_ok-mark.ensures ∙ ap (mark_one c.args.root.0) (same_found _ _ [] [] c.new.ensures.empty c.new-2.ensures))

pub loop-number-smaller : goal.loop-number-smaller
loop-number-smaller c =
    worked_less (refs_at c.args.table.now) (numbers_of c.args.table.now) (live_closed c.args.table.now c.live.ensures.sound) c.args.root.0 c.in-Some.number
    (found_in c.loop-number.reach) (record { marks = c.loop-number.reach.marks.keys; ahead = c.pop.new.self }) (found_in c.look_at.new.reach)
    (live_root c.args.table.now c.args.root.0 c.requires) c.loop-number.invariant c.in-Some.ensures refl c.in_ok-look_at.ensures

pub loop-number-preserved : goal.loop-number-preserved
loop-number-preserved c =
    worked_turn (refs_at c.args.table.now) c.args.root.0 c.in-Some.number
    (found_in c.loop-number.reach) (record { marks = c.loop-number.reach.marks.keys; ahead = c.pop.new.self }) (found_in c.look_at.new.reach)
    c.loop-number.invariant c.in-Some.ensures refl c.in_ok-look_at.ensures

pub returns : goal.returns
returns c =
    let none : c.loop-number.reach.ahead ≡ [] = c.in_default.ensures.0 in
    all_found c.args.table.now c.args.root.0 (found_in c.loop-number.reach) c.live.ensures.sound c.requires c.loop-number.invariant none c.len.ensures.ordered
