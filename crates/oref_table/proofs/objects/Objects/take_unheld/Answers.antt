use Rattle.std.proofs.Common.{ℕ, List, Option, Some, None, ◌≡◌, ◌+◌, ap, sym, subst, ◌∙◌, length}
use Rattle.std.specs.HashMap.{spare}
use Rattle.std.specs.List.Sorted.{IsStrictlySortedBy}
use Rattle.std.specs.Ordering.{nat_cmp}
use Rattle.obj_kinds.specs.declared.name.ClassName.{ClassName}
use Rattle.oref_table.specs.declared.spot.Spot.{Spot}
use Rattle.oref_table.specs.Memory.{without_first}
use Rattle.oref_table.specs.Entries.{is_uncounted}
use Rattle.oref_table.specs.Rows.{entries_in}
use Rattle.oref_table.specs.Keys.{tags, tag_of, place_of, numbers_in, found_at, spot_for, spot_in, same_spot, IsIndexed, IsForgotten}
use Rattle.oref_table.proofs.IndexLaws as index
use Rattle.oref_table.proofs.objects.Objects.take_unheld.Goals as goal

pub invariant_of-self-2 : goal.invariant_of-self-2
invariant_of-self-2 c =
    let names : List (List ℕ) = c.self.inside.keys.extents.keys in
    let s = c.in_ok-entry.ensures.some in
    let spot : c.spot-spot.result ≡ spot_in (place_of names) (tag_of c.in_ok-entry.entry) = c.spot-spot.ensures ∙ ap (λ (x : Option ClassName). spot_for (place_of names) x c.in_ok-entry.entry.obj.id) c.as_ref.ensures.value in (
      c.take_first.ensures.rows,
      subst (λ es. IsIndexed (tags es) (place_of c.forget.new.self.extents.keys) (numbers_in c.forget.new.self.numbers.entries) (length c.forget.new.self.numbers.entries) (spare c.forget.new.self.numbers)) (sym s.1)
          (subst (λ (ns : List (List ℕ)). IsIndexed (tags (without_first is_uncounted (entries_in c.self.inside.rows.entries))) (place_of ns) (numbers_in c.forget.new.self.numbers.entries) (length c.forget.new.self.numbers.entries) (spare c.forget.new.self.numbers)) (sym c.forget.ensures.extents)
          (index.taken is_uncounted (entries_in c.self.inside.rows.entries) c.in_ok-entry.entry names c.self.inside.keys.numbers.entries c.forget.new.self.numbers.entries (spare c.self.inside.keys.numbers) (spare c.forget.new.self.numbers)
          (subst (λ ks. IsStrictlySortedBy nat_cmp ks) (index.keys-numbers c.self.inside.rows.entries) c.self.invariant.0.rising) s.0
          (subst (λ (o : Option Spot). IsForgotten same_spot o (numbers_in c.self.inside.keys.numbers.entries) (numbers_in c.forget.new.self.numbers.entries)) spot c.forget.ensures.numbers)
          (subst (λ (o : Option Spot). o ≡ None → length c.forget.new.self.numbers.entries ≡ length c.self.inside.keys.numbers.entries) spot c.forget.ensures.none)
          (subst (λ (o : Option Spot). (n : ℕ) → found_at o (numbers_in c.self.inside.keys.numbers.entries) ≡ Some n → length c.forget.new.self.numbers.entries + 1 ≡ length c.self.inside.keys.numbers.entries) spot c.forget.ensures.some)
          c.forget.ensures.spare c.self.invariant.1)),
    )
