use Rattle.std.proofs.Common.{List, IfSome, IfNone, Some, ◌≡◌, subst}
use Rattle.std.specs.HashMap.{spare}
use Rattle.std.specs.List.{AllByRecursion}
use Rattle.oref_table.specs.declared.obj.Entry.{Entry}
use Rattle.oref_table.specs.Memory.{first_that}
use Rattle.oref_table.specs.Entries.{is_entry, IsEntryKey}
use Rattle.oref_table.specs.Rows.{entries_in}
use Rattle.oref_table.proofs.IndexLaws as index
use Rattle.oref_table.proofs.objects.Objects.find_key.Goals as goal

pub returns-clause-found : goal.returns-clause-found
returns-clause-found c = subst (λ (es : List Entry). IfSome c.find.result (λ n. (e : Entry) × (first_that (is_entry n) es ≡ Some e) × IsEntryKey c.args.extent.now c.args.id e)) c.self.view_is
    (index.found-entry (entries_in c.self.inside.rows.entries) c.self.inside.keys.extents.keys c.self.inside.keys.numbers.entries (spare c.self.inside.keys.numbers) c.args.extent.now c.args.id c.find.result c.self.invariant.1 c.find.ensures)

pub returns-clause-none : goal.returns-clause-none
returns-clause-none c = subst (λ (es : List Entry). IfNone c.find.result (AllByRecursion (λ (e : Entry). ¬ IsEntryKey c.args.extent.now c.args.id e) es)) c.self.view_is
    (index.none-there (entries_in c.self.inside.rows.entries) c.self.inside.keys.extents.keys c.self.inside.keys.numbers.entries (spare c.self.inside.keys.numbers) c.args.extent.now c.args.id c.find.result c.self.invariant.1 c.find.ensures)
