use Rattle.std.proofs.Common.{ℕ, List, Option, refl, ◌≡◌, ◌<◌, ◌++◌, ◌∷◌, [], ap, sym, subst, ◌∙◌, arith, length, Some}
use Rattle.std.specs.BinaryHeap.{heap_items, heap_len, heap_capacity}
use Rattle.std.specs.HashMap.{spare}
use Rattle.std.specs.List.{AllByRecursion}
use Rattle.obj_kinds.specs.declared.name.ClassName.{ClassName}
use Rattle.obj_kinds.specs.declared.id.Id.{Id}
use Rattle.oref_table.specs.declared.spot.Spot.{Spot}
use Rattle.oref_table.specs.declared.obj.Entry.{Entry}
use Rattle.oref_table.specs.Entries.{IsEntryKey}
use Rattle.oref_table.specs.Rows.{AreRows, entries_in}
use Rattle.oref_table.specs.Keys.{tags, tag_of, place_of, numbers_in, spot_for, spot_in, same_spot, IsIndexed, IsPut, IsMore, HasSpare, IsKnown}
use Rattle.oref_table.proofs.RowLaws.{IsAdded, add-row, numbered, roomier}
use Rattle.oref_table.proofs.IndexLaws as index
use Rattle.oref_table.proofs.objects.Objects.add.Goals as goal
use Rattle.oref_table.proofs.objects.Objects.add.Goals.{After-put}

wide : (c : After-put) → IsIndexed (tags (entries_in c.self.inside.rows.entries)) (place_of c.make_room.new.self.extents.keys) (numbers_in c.make_room.new.self.numbers.entries) (length c.make_room.new.self.numbers.entries) (spare c.make_room.new.self.numbers)
wide c = index.wider (entries_in c.self.inside.rows.entries) c.self.inside.keys.extents.keys c.make_room.new.self.extents.keys c.self.inside.keys.numbers.entries c.make_room.new.self.numbers.entries (spare c.self.inside.keys.numbers) (spare c.make_room.new.self.numbers) c.make_room.ensures.places c.make_room.ensures.numbers c.make_room.ensures.len c.make_room.ensures.spare c.self.invariant.1

pub invariant_of-self-in_err-make_room : goal.invariant_of-self-in_err-make_room
invariant_of-self-in_err-make_room c = (
  roomier c.self.inside.rows.entries c.self.inside.rows.entries (heap_items c.self.inside.waiting) (heap_items c.reserve.new.self) (heap_len c.self.inside.waiting) (heap_len c.reserve.new.self) (heap_capacity c.self.inside.waiting) (heap_capacity c.reserve.new.self) refl c.reserve.ensures.items c.reserve.ensures.len c.reserve.ensures.capacity c.self.invariant.0,
  index.wider (entries_in c.self.inside.rows.entries) c.self.inside.keys.extents.keys c.make_room.new.self.extents.keys c.self.inside.keys.numbers.entries c.make_room.new.self.numbers.entries (spare c.self.inside.keys.numbers) (spare c.make_room.new.self.numbers) c.make_room.ensures.places c.make_room.ensures.numbers c.make_room.ensures.len c.make_room.ensures.spare c.self.invariant.1,
)

pub invariant_of-self-in_err-insert : goal.invariant_of-self-in_err-insert
invariant_of-self-in_err-insert c = (subst (λ rows. AreRows rows (heap_items c.reserve.new.self) (heap_len c.reserve.new.self) (heap_capacity c.reserve.new.self)) (sym c.in_err-insert.ensures.err) (roomier c.self.inside.rows.entries c.self.inside.rows.entries (heap_items c.self.inside.waiting) (heap_items c.reserve.new.self) (heap_len c.self.inside.waiting) (heap_len c.reserve.new.self) (heap_capacity c.self.inside.waiting) (heap_capacity c.reserve.new.self) refl c.reserve.ensures.items c.reserve.ensures.len c.reserve.ensures.capacity c.self.invariant.0), subst (λ rows. IsIndexed (tags (entries_in rows)) (place_of c.make_room.new.self.extents.keys) (numbers_in c.make_room.new.self.numbers.entries) (length c.make_room.new.self.numbers.entries) (spare c.make_room.new.self.numbers)) (sym c.in_err-insert.ensures.err) (index.wider (entries_in c.self.inside.rows.entries) c.self.inside.keys.extents.keys c.make_room.new.self.extents.keys c.self.inside.keys.numbers.entries c.make_room.new.self.numbers.entries (spare c.self.inside.keys.numbers) (spare c.make_room.new.self.numbers) c.make_room.ensures.places c.make_room.ensures.numbers c.make_room.ensures.len c.make_room.ensures.spare c.self.invariant.1))

added : (c : After-put) → IsAdded c.args.number c.args.obj c.self.inside.rows.entries c.insert.new.self.entries (heap_items c.self.inside.waiting) (heap_len c.reserve.new.self) (heap_capacity c.reserve.new.self)
added c =
    add-row c.args.number c.args.obj c.self.inside.rows.entries c.insert.new.self.entries (heap_items c.self.inside.waiting) (heap_len c.reserve.new.self) (heap_capacity c.self.inside.waiting) (heap_capacity c.reserve.new.self)
    (subst (λ k. AreRows c.self.inside.rows.entries (heap_items c.self.inside.waiting) k (heap_capacity c.self.inside.waiting)) (sym c.reserve.ensures.len) c.self.invariant.0)
    (subst (λ (es : List Entry). AllByRecursion (λ (e : Entry). e.number < c.args.number) es) (sym c.self.view_is) c.requires.above) c.requires.held
    c.in_ok-insert.ensures.entries c.insert.ensures.ordered (omega (arith, c.in_ok-reserve.ensures.ok, c.reserve.ensures.len, c.len.ensures.len))

indexed : (c : After-put) → IsIndexed (tags (entries_in c.insert.new.self.entries)) (place_of c.put.new.self.extents.keys) (numbers_in c.put.new.self.numbers.entries) (length c.put.new.self.numbers.entries) (spare c.put.new.self.numbers)
indexed c =
    let es : List Entry = entries_in c.self.inside.rows.entries in
    let e : Entry = numbered c.args.number c.args.obj in
    let names : List (List ℕ) = c.make_room.new.self.extents.keys in
    let spot : c.spot-spot.result ≡ spot_in (place_of names) (tag_of e) = c.spot-spot.ensures ∙ ap (λ (x : Option ClassName). spot_for (place_of names) x c.args.obj.id) c.as_ref-2.ensures.value in
    subst (λ xs. IsIndexed (tags xs) (place_of c.put.new.self.extents.keys) (numbers_in c.put.new.self.numbers.entries) (length c.put.new.self.numbers.entries) (spare c.put.new.self.numbers)) (sym (added c).entries)
    (subst (λ (ns : List (List ℕ)). IsIndexed (tags (es ++ e ∷ [])) (place_of ns) (numbers_in c.put.new.self.numbers.entries) (length c.put.new.self.numbers.entries) (spare c.put.new.self.numbers)) (sym c.put.ensures.extents)
    (index.added es e names c.make_room.new.self.numbers.entries c.put.new.self.numbers.entries (spare c.make_room.new.self.numbers) (spare c.put.new.self.numbers)
    (subst (λ (xs : List Entry). AllByRecursion (λ (x : Entry). x.number < c.args.number) xs) (sym c.self.view_is) c.requires.above)
    (subst (λ (xs : List Entry). (x : ClassName) (i : Id) → c.args.obj.extent ≡ Some x → c.args.obj.id ≡ Some i → AllByRecursion (λ (o : Entry). ¬ IsEntryKey x i o) xs) (sym c.self.view_is) c.requires.free)
    (subst (λ (x : Option ClassName). IsKnown (place_of names) x) c.as_ref.ensures.value c.in_ok-make_room.ensures.met)
    (subst (λ (o : Option Spot). IsPut same_spot o c.args.number (numbers_in c.make_room.new.self.numbers.entries) (numbers_in c.put.new.self.numbers.entries)) spot c.put.ensures.numbers)
    (subst (λ (o : Option Spot). IsMore o (length c.make_room.new.self.numbers.entries) (length c.put.new.self.numbers.entries)) spot c.put.ensures.len)
    (subst (λ (o : Option Spot). HasSpare o (spare c.make_room.new.self.numbers) (spare c.put.new.self.numbers)) spot c.put.ensures.spare)
    (index.room-left c.self.inside.rows.entries c.self.inside.keys.extents.keys c.self.inside.keys.numbers.entries (spare c.self.inside.keys.numbers) (spare c.make_room.new.self.numbers) c.len-2.result c.len-2.ensures.len c.in_ok-make_room.ensures.room c.self.invariant.1)
    (wide c)))

pub invariant_of-self-2 : goal.invariant_of-self-2
invariant_of-self-2 c = (subst (λ ws. AreRows c.insert.new.self.entries ws (heap_len c.reserve.new.self) (heap_capacity c.reserve.new.self)) (sym c.reserve.ensures.items) (added c).stand, indexed c)

pub returns-clause-ok : goal.returns-clause-ok
returns-clause-ok c = (added c).entries ∙ ap (λ es. es ++ numbered c.args.number c.args.obj ∷ []) c.self.view_is
