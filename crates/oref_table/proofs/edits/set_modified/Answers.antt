use Rattle.std.proofs.Common.{◌==◌, ap, sym, ◌∙◌}
use Rattle.std.specs.Option.{option_copied_mut}
use Rattle.oref_table.specs.declared.obj.Obj.{Obj}
use Rattle.oref_table.specs.Entries.{with_entry_mark}
use Rattle.oref_table.proofs.RowLaws.{numbered, edit-none, edit-some}
use Rattle.oref_table.proofs.edits.set_modified.Goals as goal

pub returns-in-None : goal.returns-in-None
returns-in-None c =
    edit-none c.args.number (with_entry_mark c.args.modified) c.args.rows.now.entries c.get_mut.follows.lender-at-none.entries
    (sym c.get_mut.ensures.value ∙ ap option_copied_mut c.in-None.is) (ap (λ m. m.entries) c.get_mut.follows.holds-at-none)

pub returns-in-Some : goal.returns-in-Some
returns-in-Some c =
    edit-some c.args.number (with_entry_mark c.args.modified) c.in-Some.obj.now c.put_mark.new.obj c.args.rows.now.entries (c.get_mut.follows.lender c.put_mark.new.obj).entries
    (sym c.get_mut.ensures.value ∙ ap option_copied_mut c.in-Some.is) (c.get_mut.follows.holds c.put_mark.new.obj).0
    (ap (numbered c.args.number) (sym c.put_mark.ensures)) (ap (λ (o : Obj). o.count == 0) c.put_mark.ensures)
