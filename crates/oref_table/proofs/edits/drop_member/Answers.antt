use Rattle.std.proofs.Common.{◌==◌, ap, sym, ◌∙◌}
use Rattle.std.specs.Option.{option_copied_mut}
use Rattle.oref_table.specs.declared.obj.Obj.{Obj}
use Rattle.oref_table.specs.declared.slot.Slot.TheVariants.{Members}
use Rattle.oref_table.specs.Entries.{with_entry_slot}
use Rattle.oref_table.specs.Memory.{without_first}
use Rattle.oref_table.specs.Filling.{is_member}
use Rattle.oref_table.proofs.RowLaws.{numbered, edit-some}
use Rattle.oref_table.proofs.edits.drop_member.Goals as goal

pub returns-in-Some : goal.returns-in-Some
returns-in-Some c =
    let h = c.drop_in.ensures in
    let there = sym c.get_mut.ensures.value ∙ ap option_copied_mut c.in-Some.is in (
      c.in-Some.obj.now,
      h.0,
      there,
      h.1,
      edit-some c.args.number (with_entry_slot c.args.at (Members (without_first (is_member c.args.member) h.0))) c.in-Some.obj.now c.drop_in.new.obj c.args.rows.now.entries (c.get_mut.follows.lender c.drop_in.new.obj).entries
          there (c.get_mut.follows.holds c.drop_in.new.obj).0 (ap (numbered c.args.number) (sym h.2)) (ap (λ (o : Obj). o.count == 0) h.2),
    )
