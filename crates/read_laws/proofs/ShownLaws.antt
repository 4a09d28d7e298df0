-- A read of a key shows the world whose image its nodes are.
use Rattle.std.proofs.Common.{◌≡◌, ℕ, List, [], Option, Some, None, refl, sym, ap, ◌∙◌, arith, append-nil}
use Rattle.std.specs.Option.{option_and_then}
use Rattle.std.specs.FinMap.{find, get, entries as listed, get-entries}
use Rattle.obj_kinds.specs.declared.node.Node.{Node}
use Rattle.obj_kinds.specs.declared.sub.Sub.{Sub}
use Rattle.obj_kinds.specs.declared.value.Value.{Value}
use Rattle.obj_kinds.specs.Order.{node_cmp}
use Rattle.schema_kinds.specs.declared.class.Class.{Class}
use Rattle.schema_kinds.specs.declared.key.Key.{Key}
use Rattle.schema_kinds.specs.declared.record.Record.{Record}
use Rattle.schema_kinds.specs.Worlds.{World}
use Rattle.record_layout.specs.Rows.{Globals, data_node, below, rows}
use Rattle.storage_map.specs.Entries.{entry_node, key_node, entries}
use Rattle.storage_map.specs.Worlds.{or_value, stands_at, owned_at, image, IsKeyOf}
use Rattle.storage_map.proofs.OwnerLaws.{rows_belong}
use Rattle.world_images.proofs.EntryLaws.{IsEntry, entry_there, last_letter}
use Rattle.store_calls.specs.Calls.{Got}
use Rattle.read_laws.specs.Undisturbed.{told_by_row, record_told, HoldsRecord}
use Rattle.read_laws.specs.Shown.{HasStorable, ShowsAt, ReadsShowWorlds}
use Rattle.read_laws.proofs.ReadingLaws.{reads_tell_nodes}
use Rattle.read_laws.proofs.StoredLaws.{told_there}

-- entries stand in another global than rows
not_entry : (key k : Key) (c : Class) (way : List Sub) → IsEntry key c (below (data_node k) way) → ◌≡◌ {A = ℕ} 68 73
unfolding data_node entry_node key_node
not_entry key k c way is = last_letter k.extent.0 key.extent.0 68 73 (ap (λ (n : Node). n.global) is.node)

pub no_entry : (classes : List Class) (key k : Key) (r : Record) (way : List Sub) → get (entries classes key r) (below (data_node k) way) ≡ None
no_entry classes key k r way = by (get (entries classes key r) (below (data_node k) way)) refl
  where
    by : (o : Option Value) → get (entries classes key r) (below (data_node k) way) ≡ o → o ≡ None
    by None e = refl
    by (Some v) e = let there = entry_there classes key r (below (data_node k) way) v e in let letter : ◌≡◌ {A = ℕ} 68 73 = not_entry key k there.0 way there.2 in absurd (omega (arith, letter))

no_other : (o : Option Value) → or_value o None ≡ o
no_other None = refl
no_other (Some v) = refl

module _ (classes : List Class) (key : Key) (g : Globals) (w : World) (real : IsKeyOf classes key) (shows : ShowsAt classes g w key) where
  -- what stands at a way below the row is what the record of the world has there
  shown_is : (way : List Sub) → get g (below (data_node key) way) ≡ option_and_then (stands_at classes key (below (data_node key) way)) (get w key)
  unfolding image
  shown_is way = shows (below (data_node key) way) (rows_belong classes key way real) ∙ ap (owned_at classes w (below (data_node key) way)) (rows_belong classes key way real)

  holds : (r : Record) → get w key ≡ Some r → HoldsRecord classes key g r
  unfolding stands_at
  holds r there way =
      shown_is way
      ∙ ap (option_and_then (stands_at classes key (below (data_node key) way))) there
      ∙ ap (or_value (get (rows classes key r) (below (data_node key) way))) (no_entry classes key key r way)
      ∙ no_other (get (rows classes key r) (below (data_node key) way))

  nothing_below : below (data_node key) [] ≡ data_node key
  nothing_below = λ i. record { global = (data_node key).global; subs = append-nil (data_node key).subs i }

  no_row : get w key ≡ None → find node_cmp (data_node key) (listed g) ≡ None
  no_row there = sym (get-entries g (data_node key)) ∙ ap (get g) (sym nothing_below) ∙ shown_is [] ∙ ap (option_and_then (stands_at classes key (below (data_node key) []))) there

  told_none : get w key ≡ None → record_told classes key (listed g) ≡ Got None
  unfolding record_told
  told_none e = ap (told_by_row classes key (listed g)) (no_row e)

  told_world : HasStorable classes w key → record_told classes key (listed g) ≡ Got (get w key)
  told_world storable = by (get w key) refl
    where
      by : (o : Option Record) → get w key ≡ o → record_told classes key (listed g) ≡ Got o
      by None e = told_none e
      by (Some r) e = told_there classes key g r (storable r e).0 (storable r e).1 (holds r e)

pub reads_show_worlds : ReadsShowWorlds
reads_show_worlds classes key tag most s p w few real storable shows = reads_tell_nodes classes key tag most s p few ∙ ap Some (told_world classes key s.globals w real shows storable)
