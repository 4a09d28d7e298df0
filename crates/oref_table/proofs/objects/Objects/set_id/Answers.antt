use Rattle.std.proofs.Common.{ℕ, List, Option, Some, ◌≡◌, ap, sym, subst, refl, ◌∙◌, length}
use Rattle.std.specs.BinaryHeap.{heap_items, heap_len, heap_capacity}
use Rattle.std.specs.HashMap.{spare}
use Rattle.std.specs.List.{AllByRecursion}
use Rattle.std.specs.List.Sorted.{IsStrictlySortedBy}
use Rattle.std.specs.Ordering.{nat_cmp}
use Rattle.obj_kinds.specs.declared.name.ClassName.{ClassName}
use Rattle.oref_table.specs.declared.spot.Spot.{Spot}
use Rattle.oref_table.specs.declared.obj.Entry.{Entry}
use Rattle.oref_table.specs.Entries.{is_entry, with_entry_id, IsEntryKey}
use Rattle.oref_table.specs.Memory.{at_first, first_that}
use Rattle.oref_table.specs.Rows.{entries_in}
use Rattle.oref_table.specs.Indexed.{extent_in}
use Rattle.oref_table.specs.Keys.{tags, place_of, numbers_in, spot_for, same_spot, IsIndexed, IsPut, IsMore, HasSpare}
use Rattle.oref_table.proofs.RowLaws.{rows-kept, row-of}
use Rattle.oref_table.proofs.IndexLaws as index
use Rattle.oref_table.proofs.objects.Objects.set_id.Goals as goal

pub put-requires : goal.put-requires
put-requires c = λ _. index.has-room c.args.number (entries_in c.self.inside.rows.entries) c.requires.0 (place_of c.self.inside.keys.extents.keys) (numbers_in c.self.inside.keys.numbers.entries) (length c.self.inside.keys.numbers.entries) (spare c.self.inside.keys.numbers) (ap (first_that (is_entry c.args.number)) c.self.view_is ∙ c.requires.2) c.requires.4 c.self.invariant.1

pub invariant_of-self : goal.invariant_of-self
invariant_of-self c =
    let es : List Entry = entries_in c.self.inside.rows.entries in
    let e : Entry = c.requires.0 in
    let names : List (List ℕ) = c.self.inside.keys.extents.keys in
    let hit : first_that (is_entry c.args.number) es ≡ Some e = ap (first_that (is_entry c.args.number)) c.self.view_is ∙ c.requires.2 in
    let spot : c.spot-spot.result ≡ spot_for (place_of names) (Some c.requires.1) (Some c.args.id) =
    c.spot-spot.ensures ∙ ap (λ (y : Option ClassName). spot_for (place_of names) y (Some c.args.id)) (c.extent_of.ensures ∙ ap extent_in (c.get.ensures.value ∙ row-of c.args.number c.self.inside.rows.entries es e refl hit) ∙ c.requires.3) in (
      rows-kept c.self.inside.rows.entries c.set_id.new.rows.entries (heap_items c.self.inside.waiting) (heap_len c.self.inside.waiting) (heap_capacity c.self.inside.waiting) c.set_id.ensures.idle c.self.invariant.0,
      subst (λ (xs : List Entry). IsIndexed (tags xs) (place_of c.put.new.self.extents.keys) (numbers_in c.put.new.self.numbers.entries) (length c.put.new.self.numbers.entries) (spare c.put.new.self.numbers)) (sym c.set_id.ensures.entries)
          (subst (λ (ns : List (List ℕ)). IsIndexed (tags (at_first (is_entry c.args.number) (with_entry_id c.args.id) es)) (place_of ns) (numbers_in c.put.new.self.numbers.entries) (length c.put.new.self.numbers.entries) (spare c.put.new.self.numbers)) (sym c.put.ensures.extents)
          (index.given c.args.number c.args.id es e c.requires.1 names c.self.inside.keys.numbers.entries c.put.new.self.numbers.entries (spare c.self.inside.keys.numbers) (spare c.put.new.self.numbers)
          (subst (λ ks. IsStrictlySortedBy nat_cmp ks) (index.keys-numbers c.self.inside.rows.entries) c.self.invariant.0.rising)
          hit c.requires.3 c.requires.4
          (subst (λ (xs : List Entry). AllByRecursion (λ (o : Entry). ¬ IsEntryKey c.requires.1 c.args.id o) xs) (sym c.self.view_is) c.requires.5)
          (subst (λ (o : Option Spot). IsPut same_spot o c.args.number (numbers_in c.self.inside.keys.numbers.entries) (numbers_in c.put.new.self.numbers.entries)) spot c.put.ensures.numbers)
          (subst (λ (o : Option Spot). IsMore o (length c.self.inside.keys.numbers.entries) (length c.put.new.self.numbers.entries)) spot c.put.ensures.len)
          (subst (λ (o : Option Spot). HasSpare o (spare c.self.inside.keys.numbers) (spare c.put.new.self.numbers)) spot c.put.ensures.spare)
          c.self.invariant.1)),
    )

pub returns : goal.returns
returns c = c.set_id.ensures.entries ∙ ap (at_first (is_entry c.args.number) (with_entry_id c.args.id)) c.self.view_is
