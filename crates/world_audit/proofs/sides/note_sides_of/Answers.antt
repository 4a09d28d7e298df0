use Rattle.std.proofs.Common.{map, sym, ap, subst, ◌∙◌}
use Rattle.world_audit.specs.declared.found.Found.{Found}
use Rattle.world_audit.specs.Sides.{side_seen, IsOneOf, IsSideIn, Notes}
use Rattle.world_audit.proofs.SideLaws.{of_record, on_more}
use Rattle.world_audit.proofs.sides.note_sides_of.Goals as goal

pub returns-in_ok-sides-in-Whole : goal.returns-in_ok-sides-in-Whole
returns-in_ok-sides-in-Whole c =
    let classes = c.args.among.now.schema.now in
    let finds = c.args.among.now.finds.now.entries in
    let key = c.args.key.now in
    let sides = map side_seen c.as_slice.result.now in
    on_more c.note_sides.result (Notes classes finds (IsOneOf key sides) c.args.least.now c.note_sides.new.least) (Notes classes finds (IsSideIn classes (key, c.args.found.now)) c.args.least.now c.note_sides.new.least)
    (λ h. subst (λ (f : Found). Notes classes finds (IsSideIn classes (key, f)) c.args.least.now c.note_sides.new.least) (sym c.in-Whole.is)
    (of_record classes finds key c.in-Whole.record sides c.args.least.now c.note_sides.new.least (ap (map side_seen) c.as_slice.ensures.value ∙ c.in_ok-sides-in-Whole.ensures) h)) c.note_sides.ensures
