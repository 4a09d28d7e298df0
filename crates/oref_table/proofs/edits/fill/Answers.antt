use Rattle.std.proofs.Common.{subst}
use Rattle.oref_table.specs.Places.{IsAmong}
use Rattle.std.proofs.Common.{◌≡◌, ◌==◌, List, ap, sym, ◌∙◌}
use Rattle.std.specs.Option.{option_copied_mut}
use Rattle.oref_table.specs.declared.obj.Obj.{Obj}
use Rattle.oref_table.specs.declared.slot.Slot.{Slot}
use Rattle.oref_table.specs.Refs.{refs_of}
use Rattle.oref_table.specs.Entries.{with_entry_slots}
use Rattle.oref_table.specs.Exchanges.{FillsRow, IsFilling}
use Rattle.oref_table.proofs.RowLaws.{numbered, edit-some, edit-back}
use Rattle.oref_table.proofs.PlaceLaws.{ok_then, err_then}
use Rattle.oref_table.proofs.edits.fill.Goals as goal

pub returns-in-Some-clause-ok : goal.returns-in-Some-clause-ok
returns-in-Some-clause-ok c =
    let there = sym c.get_mut.ensures.value ∙ ap option_copied_mut c.in-Some.is in
    ok_then (λ out. (slots : List Slot) × (c.fill_obj.new.obj ≡ record c.in-Some.obj.now { slots = slots }) × IsFilling c.args.at.now c.args.with c.in-Some.obj.now.slots slots (refs_of out))
    (λ out. FillsRow c.args.at.now c.args.with c.args.number c.args.rows.now.entries (c.get_mut.follows.lender c.fill_obj.new.obj).entries (refs_of out)) c.fill_obj.result
    (λ out h. (
      c.in-Some.obj.now,
      h.0,
      there,
      h.2,
      edit-some c.args.number (with_entry_slots (λ _. h.0)) c.in-Some.obj.now c.fill_obj.new.obj c.args.rows.now.entries (c.get_mut.follows.lender c.fill_obj.new.obj).entries
          there (c.get_mut.follows.holds c.fill_obj.new.obj).0 (ap (numbered c.args.number) (sym h.1)) (ap (λ (o : Obj). o.count == 0) h.1),
    ))
    c.fill_obj.ensures.ok

pub returns-in-Some-clause-err : goal.returns-in-Some-clause-err
returns-in-Some-clause-err c =
    err_then (λ back. (back ≡ c.args.with) × (c.fill_obj.new.obj ≡ c.in-Some.obj.now)) (λ back. (back ≡ c.args.with) × ((c.get_mut.follows.lender c.fill_obj.new.obj).entries ≡ c.args.rows.now.entries)) c.fill_obj.result
    (λ back h. (h.0, edit-back c.args.number c.in-Some.obj.now c.fill_obj.new.obj c.args.rows.now.entries (c.get_mut.follows.lender c.fill_obj.new.obj).entries (sym c.get_mut.ensures.value ∙ ap option_copied_mut c.in-Some.is) (c.get_mut.follows.holds c.fill_obj.new.obj).0 h.1))
    c.fill_obj.ensures.err

pub returns-in-Some-clause-there : goal.returns-in-Some-clause-there
returns-in-Some-clause-there c = λ v found among.
    let there = sym c.get_mut.ensures.value ∙ ap option_copied_mut c.in-Some.is in
    let same : v ≡ c.in-Some.obj.now = let both = sym found ∙ there in cc in
    c.fill_obj.ensures.there (subst (λ (x : Obj). IsAmong c.args.at.now x.slots) same among)
