use Rattle.std.proofs.Common.{◌==◌, ap, sym, ◌∙◌, insert}
use Rattle.std.specs.Option.{option_copied_mut}
use Rattle.oref_table.specs.declared.obj.Obj.{Obj}
use Rattle.oref_table.specs.declared.slot.Slot.TheVariants.{Items}
use Rattle.oref_table.specs.Entries.{with_entry_slot}
use Rattle.oref_table.proofs.RowLaws.{numbered, edit-some, edit-back}
use Rattle.oref_table.proofs.edits.insert_item.Goals as goal

pub returns-in-Some-clause-added : goal.returns-in-Some-clause-added
returns-in-Some-clause-added c = λ e.
    let h = c.insert_in.ensures.added e in
    let there = sym c.get_mut.ensures.value ∙ ap option_copied_mut c.in-Some.is in (
      c.in-Some.obj.now,
      h.0,
      there,
      h.1,
      edit-some c.args.number (with_entry_slot c.args.at (Items (insert h.0 c.args.before c.args.item))) c.in-Some.obj.now c.insert_in.new.obj c.args.rows.now.entries (c.get_mut.follows.lender c.insert_in.new.obj).entries
          there (c.get_mut.follows.holds c.insert_in.new.obj).0 (ap (numbered c.args.number) (sym h.2)) (ap (λ (o : Obj). o.count == 0) h.2),
    )

pub returns-in-Some-clause-refused : goal.returns-in-Some-clause-refused
returns-in-Some-clause-refused c = λ back e.
    let h = c.insert_in.ensures.refused back e in
    (h.0, edit-back c.args.number c.in-Some.obj.now c.insert_in.new.obj c.args.rows.now.entries (c.get_mut.follows.lender c.insert_in.new.obj).entries (sym c.get_mut.ensures.value ∙ ap option_copied_mut c.in-Some.is) (c.get_mut.follows.holds c.insert_in.new.obj).0 h.1)
