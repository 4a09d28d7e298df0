use Rattle.oref_table.proofs.RowLaws.{row-of}
use Rattle.oref_table.proofs.IndexLaws as index
use Rattle.std.specs.HashMap.{spare}
use Rattle.std.proofs.Common.{◌≡◌}
use Rattle.std.specs.BinaryHeap.{heap_items, heap_len, heap_capacity}
use Rattle.oref_table.specs.Refs.{refs_of}
use Rattle.oref_table.specs.Places.{Takes}
use Rattle.oref_table.specs.Rows.{entries_in}
use Rattle.oref_table.specs.Exchanges.{FillsRow, FillsFirst}
use Rattle.oref_table.proofs.RowLaws.{row-slots, filled-kept, fills-first}
use Rattle.oref_table.proofs.PlaceLaws.{ok_then}
use Rattle.oref_table.proofs.objects.Objects.fill.Goals as goal

pub fill-requires : goal.fill-requires
fill-requires c = row-slots (Takes c.args.at.now c.args.with) c.args.number c.self.inside.rows.entries c.args.self.now c.self.view_is c.requires

pub invariant_of-self : goal.invariant_of-self
invariant_of-self c = (
  filled-kept c.args.at.now c.args.with c.args.number c.self.inside.rows.entries c.fill.new.rows.entries (heap_items c.self.inside.waiting) (heap_len c.self.inside.waiting) (heap_capacity c.self.inside.waiting) c.fill.result (λ back. back ≡ c.args.with) c.fill.ensures.ok c.fill.ensures.err c.self.invariant.0,
  index.indexed-kept (entries_in c.self.inside.rows.entries) (entries_in c.fill.new.rows.entries) c.self.inside.keys.extents.keys c.self.inside.keys.numbers.entries (spare c.self.inside.keys.numbers)
      (index.filled-tags c.args.at.now c.args.with c.args.number c.self.inside.rows.entries c.fill.new.rows.entries c.fill.result (λ back. back ≡ c.args.with) c.fill.ensures.ok c.fill.ensures.err)
      c.self.invariant.1,
)

pub returns-clause-ok : goal.returns-clause-ok
returns-clause-ok c =
    ok_then (λ out. FillsRow c.args.at.now c.args.with c.args.number c.self.inside.rows.entries c.fill.new.rows.entries (refs_of out)) (λ out. FillsFirst c.args.at.now c.args.with c.args.number c.args.self.now (entries_in c.fill.new.rows.entries) (refs_of out)) c.fill.result
    (λ out h. fills-first c.args.at.now c.args.with c.args.number c.self.inside.rows.entries c.fill.new.rows.entries c.args.self.now (refs_of out) c.self.view_is h) c.fill.ensures.ok

pub returns-clause-there : goal.returns-clause-there
returns-clause-there c = λ e found among. c.fill.ensures.there e.obj (row-of c.args.number c.self.inside.rows.entries c.args.self.now e c.self.view_is found) among
