use Rattle.std.proofs.Common.{◌≡◌, Some}
use Rattle.oref_table.specs.Memory.{Object, object_of}
use Rattle.oref_table.specs.Places.{IsAmong}
use Rattle.oref_table.proofs.EditLaws.{entry-of}
use Rattle.oref_table.proofs.PlaceLaws.{not_ok}
use Rattle.std.proofs.Common.{ap, ◌∙◌, sym, subst, arith, vec_capacity, ◌-◌}
use Rattle.oref_table.specs.Memory.{Memory, edited, loosed}
use Rattle.oref_table.specs.Refs.{refs_of}
use Rattle.oref_table.specs.Stands.{memory_of}
use Rattle.oref_table.specs.Filling.{IsHeldFor, passed, with_slots}
use Rattle.oref_table.specs.Places.{MayFill, IsFilledTo}
use Rattle.oref_table.proofs.PlaceLaws.{IsPlaceFilled, place-takes, fill-place}
use Rattle.oref_table.proofs.TableLaws.{IsReleasedTo, released-to}
use Rattle.oref_table.proofs.OutsideLaws.{filled-holds}
use Rattle.oref_table.specs.Memory.{outside_of}
use Rattle.oref_table.specs.Refs.{times}
use Rattle.oref_table.proofs.table.Table.fill.Goals as goal
use Rattle.oref_table.proofs.table.Table.fill.Goals.{After-release}

pub fill-requires : goal.fill-requires
fill-requires c = place-takes c.self.inside.objects c.self.inside.last c.self.inside.released.items c.args.oref.0 c.args.at.now c.args.with (subst (λ (m : Memory). MayFill m c.args.oref.0 c.args.at.now c.args.with) (sym c.self.view_is) c.requires.place)

filled : (c : goal.After-release-arg-in-Ok-1) → IsPlaceFilled (memory_of c.self.inside.objects c.self.inside.last c.self.inside.released.items) c.args.oref.0 c.args.at.now c.args.with c.self.inside.objects c.give_up.new.objects
filled c =
    fill-place c.self.inside.objects c.self.inside.last c.self.inside.released.items c.args.oref.0 (vec_capacity c.self.inside.released) c.args.at.now c.args.with c.fill.new.self c.give_up.new.objects (refs_of c.in-Ok.out) c.self.invariant
    (subst (λ (m : Memory). IsHeldFor m c.args.with) (sym c.self.view_is) c.requires.held) c.in-Ok.ensures.ok c.give_up.ensures

pub release-requires-clause-counted : goal.release-requires-clause-counted
release-requires-clause-counted c = (filled c).filled.counted

pub release-requires-clause-room : goal.release-requires-clause-room
release-requires-clause-room c = omega (arith, (filled c).long, c.self.invariant.room)

done : (c : After-release) → IsPlaceFilled (memory_of c.self.inside.objects c.self.inside.last c.self.inside.released.items) c.args.oref.0 c.args.at.now c.args.with c.self.inside.objects c.give_up.new.objects
done c =
    fill-place c.self.inside.objects c.self.inside.last c.self.inside.released.items c.args.oref.0 (vec_capacity c.self.inside.released) c.args.at.now c.args.with c.fill.new.self c.give_up.new.objects (refs_of c.in-Ok.out) c.self.invariant
    (subst (λ (m : Memory). IsHeldFor m c.args.with) (sym c.self.view_is) c.requires.held) c.in-Ok.ensures.ok c.give_up.ensures

went : (c : After-release) → IsReleasedTo (loosed (edited (memory_of c.self.inside.objects c.self.inside.last c.self.inside.released.items) c.args.oref.0 (with_slots (λ _. (done c).slots))) (passed c.args.with)) c.release.new.objects c.release.new.released.items (vec_capacity c.release.new.released)
unfolding edited loosed
went c =
    let f = done c in
    released-to (loosed (edited (memory_of c.self.inside.objects c.self.inside.last c.self.inside.released.items) c.args.oref.0 (with_slots (λ _. f.slots))) (passed c.args.with)) c.give_up.new.objects c.release.new.objects c.release.new.released.items (vec_capacity c.release.new.released) f.filled.objects f.filled.sound c.release.ensures.objects c.release.ensures.told c.release.ensures.counted c.release.ensures.held (omega (arith, c.release.ensures.room))

pub invariant_of-self : goal.invariant_of-self
unfolding edited loosed
invariant_of-self c = (went c).stands

pub returns-in-Ok-clause-ok : goal.returns-in-Ok-clause-ok
unfolding edited loosed
returns-in-Ok-clause-ok c =
    let f = done c in
    subst (λ (m : Memory). IsFilledTo m (memory_of c.release.new.objects c.self.inside.last c.release.new.released.items) c.args.oref.0 c.args.at.now c.args.with) c.self.view_is
    (f.object, f.slots, f.found, f.fills, (went c).is)

pub returns-in-Ok-clause-holds : goal.returns-in-Ok-clause-holds
unfolding edited loosed
returns-in-Ok-clause-holds c = λ k.
    let f = done c in
    ap (λ (w : Memory). outside_of w k) (went c).is
    ∙ filled-holds (memory_of c.self.inside.objects c.self.inside.last c.self.inside.released.items) c.args.oref.0 (λ _. f.slots) (passed c.args.with) f.filled.sound k
    ∙ ap (λ (m : Memory). outside_of m k - times k (passed c.args.with)) c.self.view_is

pub returns-in-Err-clause-there : goal.returns-in-Err-clause-there
returns-in-Err-clause-there c = λ o found among.
    let e = entry-of c.args.oref.0 c.self.inside.objects o (subst (λ (m : Memory). object_of c.args.oref.0 m.objects ≡ Some o) (sym c.self.view_is) found) in
    absurd (not_ok c.fill.result c.in-Err.with c.in-Err.is (c.fill.ensures.there e.0 e.1 (subst (λ (x : Object). IsAmong c.args.at.now x.slots) e.2 among)))
