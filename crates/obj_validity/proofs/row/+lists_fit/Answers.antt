use Rattle.std.proofs.Common.{◌≡◌, ◌&&◌, ◌-◌, sym, ap, ◌∙◌}
use Rattle.schema_kinds.specs.Hierarchy.{chain, firsts_of}
use Rattle.schema_kinds.specs.Classes.{headers_of}
use Rattle.obj_validity.specs.Faults.{lists_fit}
use Rattle.obj_validity.proofs.RowLaws.{fit_under}
use Rattle.obj_validity.proofs.row.+lists_fit.Goals as goal

pub returns-then-list_fits : goal.returns-then-list_fits
returns-then-list_fits t c =
    let classes = c.args.row.now.of.schema.now in
    let m = c.args.row.now.of.table.now in
    let firsts = firsts_of (headers_of classes) in
    c.lists_fit.ensures
    ∙ ap (λ b. b && lists_fit classes m c.args.row.now.obj.now (chain (c.args.most - 1) firsts c.in-Some.above)) c.if-list_fits.ensures
    ∙ sym (fit_under classes m c.args.row.now.obj.now firsts c.args.most c.args.place c.in-Some.above c.if-most-eq0.false (sym c.in-Some.ensures))

pub returns-else-list_fits : goal.returns-else-list_fits
returns-else-list_fits t c =
    let classes = c.args.row.now.of.schema.now in
    let m = c.args.row.now.of.table.now in
    let firsts = firsts_of (headers_of classes) in
    c.list_fits.ensures ∙ sym c.if-list_fits.ensures
    ∙ ap (λ b. b && lists_fit classes m c.args.row.now.obj.now (chain (c.args.most - 1) firsts c.in-Some.above)) c.if-list_fits.ensures
    ∙ sym (fit_under classes m c.args.row.now.obj.now firsts c.args.most c.args.place c.in-Some.above c.if-most-eq0.false (sym c.in-Some.ensures))
