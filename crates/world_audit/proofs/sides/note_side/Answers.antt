use Rattle.std.proofs.Common.{◌≡◌, ◌∷◌, [], true, false, sym, subst, ◌∙◌}
use Rattle.world_audit.specs.Sides.{side_seen, IsMetIn, IsOneOf, Notes}
use Rattle.world_audit.proofs.SideLaws.{one_unmet}
use Rattle.world_audit.proofs.sides.note_side.Goals as goal

pub returns-in_ok-side_entry-in-Some : goal.returns-in_ok-side_entry-in-Some
returns-in_ok-side_entry-in-Some c =
    let classes = c.args.among.now.schema.now in
    let finds = c.args.among.now.finds.now.entries in
    let side = side_seen c.args.side.now in
    subst (λ t. Notes classes finds (IsOneOf c.args.key.now (side ∷ [])) c.args.least.now t) (sym c.note.ensures)
    (one_unmet classes finds c.args.key.now side c.in-Some.id c.args.least.now c.in_ok-side_entry-in-Some.field-0 (sym c.target_in-target.ensures ∙ c.in-Some.is)
    (λ m. let yes : c.in_ok-is_met.field-0 ≡ true = c.in_ok-is_met.ensures.1 (subst (IsMetIn classes finds side) (sym c.in-Some.is) m) in let no : c.in_ok-is_met.field-0 ≡ false = c.if-branch.false in cc)
    c.in_ok-side_entry-in-Some.ensures)
