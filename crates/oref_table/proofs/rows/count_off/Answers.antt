use Rattle.std.proofs.Common.{◌+◌, cond, ap, sym, subst, ◌∙◌}
use Rattle.std.specs.Map.{set_value}
use Rattle.std.specs.BTreeMap.{is_at}
use Rattle.std.specs.List.{AllByRecursion}
use Rattle.std.specs.Ordering.{nat_cmp}
use Rattle.std.specs.Option.{option_copied_mut}
use Rattle.oref_table.specs.Rows.{AwaitsRelease, counted_rows, entries_in}
use Rattle.oref_table.proofs.RowLaws.{one_less, lowered-absent, lowered-row, counted-lowered, awaited-lowered}
use Rattle.oref_table.proofs.rows.count_off.Goals as goal

pub returns-in-None-clause-rows : goal.returns-in-None-clause-rows
returns-in-None-clause-rows c =
    ap (λ m. entries_in m.entries) c.get_mut.follows.holds-at-none
    ∙ sym (lowered-absent c.args.number c.args.rows.now.entries (sym c.get_mut.ensures.value ∙ ap option_copied_mut c.in-None.is))

pub returns-in-Some-clause-rows : goal.returns-in-Some-clause-rows
returns-in-Some-clause-rows c =
    ap entries_in (c.get_mut.follows.holds c.lower_count.new.obj).0
    ∙ ap (λ o. entries_in (set_value (is_at (nat_cmp c.args.number)) c.args.rows.now.entries o)) c.lower_count.ensures.obj
    ∙ lowered-row c.args.number c.in-Some.obj.now c.args.rows.now.entries c.requires (sym c.get_mut.ensures.value ∙ ap option_copied_mut c.in-Some.is)

pub returns-in-Some-clause-counted : goal.returns-in-Some-clause-counted
returns-in-Some-clause-counted c =
    ap (λ rows. counted_rows rows + cond c.lower_count.result 1 0) (c.get_mut.follows.holds c.lower_count.new.obj).0
    ∙ ap (λ o. counted_rows (set_value (is_at (nat_cmp c.args.number)) c.args.rows.now.entries o) + cond c.lower_count.result 1 0) c.lower_count.ensures.obj
    ∙ ap (λ b. counted_rows (set_value (is_at (nat_cmp c.args.number)) c.args.rows.now.entries (one_less c.in-Some.obj.now)) + cond b 1 0) c.lower_count.ensures.last
    ∙ counted-lowered c.args.number c.in-Some.obj.now c.args.rows.now.entries (sym c.get_mut.ensures.value ∙ ap option_copied_mut c.in-Some.is)

pub returns-in-Some-clause-awaited : goal.returns-in-Some-clause-awaited
returns-in-Some-clause-awaited c = λ waiting h i.
    subst (λ rows. AllByRecursion (AwaitsRelease waiting) rows) (sym ((c.get_mut.follows.holds c.lower_count.new.obj).0 ∙ ap (λ o. set_value (is_at (nat_cmp c.args.number)) c.args.rows.now.entries o) c.lower_count.ensures.obj))
    (awaited-lowered waiting c.args.number c.in-Some.obj.now c.args.rows.now.entries h (sym c.get_mut.ensures.value ∙ ap option_copied_mut c.in-Some.is) (λ e. i (c.lower_count.ensures.last ∙ e)))
