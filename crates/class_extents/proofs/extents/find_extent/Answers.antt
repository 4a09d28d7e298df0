use Rattle.std.proofs.Common.{ℕ, List, [], fold, sym, ap, ◌∙◌}
use Rattle.class_facts.specs.Facts.{seen, count_from}
use Rattle.class_facts.proofs.FactLemmas.{count-last}
use Rattle.class_extents.specs.declared.entry.Entry.{Entry}
use Rattle.class_extents.specs.declared.extent.Extent.{Extent}
use Rattle.class_extents.specs.Books.{extent_with}
use Rattle.class_extents.specs.Extents.{is_in_extent, entries_in, add_entries_if}
use Rattle.class_extents.proofs.BookLaws.{booked, fold-last}
use Rattle.class_extents.proofs.extents.find_extent.Goals as goal

pub add_class_entries-requires : goal.add_class_entries-requires
add_class_entries-requires c = booked c.args.trees.now _ _ c.loop-class.invariant

pub loop-class-preserved : goal.loop-class-preserved
loop-class-preserved c =
    let f = seen c.args.hierarchy.now c.args.tables.now in
    let step : List Entry → ℕ → List Entry = λ entries i. add_entries_if (is_in_extent f c.args.root i) entries (entries_in c.args.trees.now f i) in
    c.in_ok-add_class_entries.ensures
    ∙ ap (λ (x : Extent). extent_with c.args.trees.now (step x.entries c.loop-class.class)) c.loop-class.invariant
    ∙ ap (extent_with c.args.trees.now) (sym (fold-last step (count_from 0 c.loop-class.class) [] c.loop-class.class) ∙ ap (fold step []) (count-last c.loop-class.class))
