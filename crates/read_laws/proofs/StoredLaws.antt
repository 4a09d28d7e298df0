-- A read of a key whose nodes are the rows of a record answers this record.
use Rattle.std.proofs.Common.{◌≡◌, cond, List, [], ◌∷◌, Some, is_some, refl, sym, ap, ◌∙◌, append-nil}
use Rattle.std.specs.FinMap.{find, get, from_entries, entries, get-entries, get-from_entries}
use Rattle.obj_kinds.specs.declared.sub.Sub.{Sub}
use Rattle.obj_kinds.specs.declared.sub.Sub.TheVariants.{Str}
use Rattle.obj_kinds.specs.declared.value.Value.{Value}
use Rattle.obj_kinds.specs.declared.value.Value.TheVariants as value
use Rattle.obj_kinds.specs.declared.cause.Cause.TheVariants as cause
use Rattle.obj_kinds.specs.Order.{node_cmp}
use Rattle.obj_kinds.proofs.OrderLemmas.{node_total}
use Rattle.schema_kinds.specs.declared.class.Class.{Class}
use Rattle.schema_kinds.specs.declared.key.Key.{Key}
use Rattle.schema_kinds.specs.declared.record.Record.{Record}
use Rattle.record_layout.specs.Layout.{layout_of}
use Rattle.record_layout.specs.Rows.{Globals, data_node, below, marker, rows}
use Rattle.record_layout.specs.Reading.{Read, read_fields}
use Rattle.record_layout.specs.Records.{IsReadWhole, IsTrueSource}
use Rattle.record_layout.specs.Schemas.{IsStorable}
use Rattle.record_layout.proofs.RecordLaws.{rows_are_read}
use Rattle.record_layout.proofs.SourceLaws as layout
use Rattle.record_layout.proofs.SchemaLaws.{storable_is_laid_out}
use Rattle.storage_map.specs.Markers.{row_class}
use Rattle.storage_map.proofs.ChangeLaws.{listed_rises}
use Rattle.record_reading.specs.Rows.{source_in, items_behind, read_record}
use Rattle.record_reading.specs.Laws.{IsStoredAt}
use Rattle.record_reading.proofs.KeyLaws.{true_source}
use Rattle.record_reading.proofs.MarkerLaws.{list_behind, is_class}
use Rattle.store_calls.specs.Calls.{Got, Lost}
use Rattle.read_laws.specs.Undisturbed.{told_reading, told_by_row, record_told, HoldsRecord, ReadsAnswerStoredRecords}
use Rattle.read_laws.proofs.ReadingLaws.{reads_tell_nodes}

module _ (classes : List Class) (key : Key) (g : Globals) (r : Record) (storable : IsStorable classes r.class) (stored : IsStoredAt classes key r) (holds : HoldsRecord classes key g r) where
  -- what the listed nodes have at a way below the row is what the rows have there
  listed_is : (way : List Sub) → get (from_entries {R = node_cmp} (entries g)) (below (data_node key) way) ≡ get (rows classes key r) (below (data_node key) way)
  listed_is way = get-from_entries node_total (entries g) (below (data_node key) way) ∙ sym (get-entries g (below (data_node key) way)) ∙ holds way

  source_of_rows : IsTrueSource (rows classes key r) (data_node key) (source_in (entries g) (data_node key))
  source_of_rows =
      let of_nodes = true_source (entries g) (data_node key) (listed_rises g) in
      record {
        values = λ way. of_nodes.values way ∙ listed_is way;
        rising = of_nodes.rising;
        true_keys = λ name k is. (let stands = of_nodes.true_keys name k is in (stands.0, ap is_some (sym (listed_is (Str name ∷ k ∷ stands.0))) ∙ stands.1));
        all_keys = λ name k stands. of_nodes.all_keys name k (stands.0, ap is_some (listed_is (Str name ∷ k ∷ stands.0)) ∙ stands.1);
      }

  read_whole_there : IsReadWhole classes key (rows classes key r) (source_in (entries g) (data_node key)) r
  read_whole_there =
      let laid = storable_is_laid_out classes r.class storable in
      let source = source_in (entries g) (data_node key) in
      rows_are_read classes key source r laid.0 stored.fields (layout.true_source classes key source r laid.0 laid.1 stored.fields source_of_rows)

  abbrev row_there : Value
  row_there = value.List (value.Str (marker key.extent r.class) ∷ read_whole_there.items)

  behind : items_behind row_there ≡ read_whole_there.items
  behind = list_behind (value.Str (marker key.extent r.class)) read_whole_there.items

  found_there : find node_cmp (data_node key) (entries g) ≡ Some row_there
  found_there = sym (get-from_entries node_total (entries g) (data_node key)) ∙ at_row ∙ read_whole_there.row
    where
      nothing_below : below (data_node key) [] ≡ data_node key
      nothing_below = λ i. record { global = (data_node key).global; subs = append-nil (data_node key).subs i }

      at_row : get (from_entries {R = node_cmp} (entries g)) (data_node key) ≡ get (rows classes key r) (data_node key)
      at_row = ap (get (from_entries {R = node_cmp} (entries g))) (sym nothing_below) ∙ listed_is [] ∙ ap (get (rows classes key r)) nothing_below

  class_there : row_class classes key.extent row_there ≡ Some r.class
  class_there = is_class classes key.extent r.class row_there (ap (λ vs. value.List (value.Str (marker key.extent r.class) ∷ vs)) (sym behind)) stored.extent

  fields_there : read_fields classes (source_in (entries g) (data_node key)) (layout_of classes r.class) (items_behind row_there) ≡ Read r.fields
  fields_there = ap (read_fields classes (source_in (entries g) (data_node key)) (layout_of classes r.class)) behind ∙ read_whole_there.read

  record_there : read_record classes key (entries g) ≡ Read r
  unfolding read_record
  record_there = rw (found_there, class_there, fields_there) refl

  pub told_there : record_told classes key (entries g) ≡ Got (Some r)
  unfolding record_told
  told_there =
      ap (told_by_row classes key (entries g)) found_there
      ∙ ap (told_reading classes key) record_there
      ∙ ap (λ b. cond b (Got (Some r)) (Lost (cause.Damaged (data_node key)))) stored.entries

pub reads_answer_stored_records : ReadsAnswerStoredRecords
reads_answer_stored_records classes key tag most s p r few storable stored holds = reads_tell_nodes classes key tag most s p few ∙ ap Some (told_there classes key s.globals r storable stored holds)
