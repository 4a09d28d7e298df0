use Rattle.std.proofs.Common.{◌+◌, [], map, drop, sym, ap, subst}
use Rattle.world_audit.specs.Sides.{side_seen, IsOneOf, Notes}
use Rattle.world_audit.proofs.SideLaws.{sides_then, no_notes, drop_at, drop_past}
use Rattle.world_audit.proofs.sides.note_sides.Goals as goal

pub loop-side-preserved : goal.loop-side-preserved
loop-side-preserved c =
    let classes = c.args.among.now.schema.now in
    let finds = c.args.among.now.finds.now.entries in
    let key = c.args.key.now in
    let side = side_seen c.side-item.result in
    let rest = map side_seen (drop (c.loop-side.side-index + 1) c.args.sides.now) in
    let split = ap (map side_seen) (drop_at c.args.sides.now c.loop-side.side-index c.side-item.result c.loop-side-test.true c.side-item.is) in
    λ end h. c.loop-side.invariant end
    (subst (λ ss. Notes classes finds (IsOneOf key ss) c.loop-side.least end) (sym split) (sides_then classes finds key side rest c.loop-side.least c.note_side.new.least end c.in_ok-note_side.ensures h))

pub returns : goal.returns
returns c =
    let classes = c.args.among.now.schema.now in
    let finds = c.args.among.now.finds.now.entries in
    let key = c.args.key.now in
    let gone = ap (map side_seen) (drop_past c.args.sides.now c.loop-side.side-index c.loop-side-test.false) in
    c.loop-side.invariant c.loop-side.least (subst (λ ss. Notes classes finds (IsOneOf key ss) c.loop-side.least c.loop-side.least) (sym gone) (no_notes classes finds (IsOneOf key []) c.loop-side.least (λ k s h. h.1)))
