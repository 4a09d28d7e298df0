-- What the worked loads show, by computation.
use Rattle.std.proofs.Common.{refl}
use Rattle.std.specs.Fmt.{digits}
use Rattle.schema_kinds.specs.declared.record.Field as field
use Rattle.obj_kinds.specs.Subscript as subs
use Rattle.obj_kinds.specs.Subscript.{whole_of, is_number}
use Rattle.obj_kinds.specs.IdReading.{part_in, id_in}
use Rattle.obj_kinds.specs.Limits.{is_legal_node, is_legal_sub, is_sub_text, is_global_name}
use Rattle.record_layout.specs.Items.{row_field}
use Rattle.record_layout.specs.Layout.{line_of, layout_of}
use Rattle.record_layout.specs.Rows.{data_node, marker}
use Rattle.storage_map.specs.Markers.{row_class}
use Rattle.storage_map.specs.Entries.{index_key, key_node, entry_node, entry_list}
use Rattle.storage_map.specs.Entries.{has_legal_entries}
use Rattle.store_calls.specs.Walks.{child, walk}
use Rattle.object_calls.proofs.Lists.{list_out, text_out}
use Rattle.object_calls.specs.Extents.{is_at_or_below, has_several}
use Rattle.object_calls.specs.Reading.{read, read_as}
use Rattle.object_calls.specs.Loads.{load, raise}
use Rattle.object_calls.specs.LoadSamples.{loads, AreLoadsSeen, raises, AreRaisesSeen}

pub loads_seen : AreLoadsSeen loads
unfolding digits whole_of is_number subs.number_in part_in id_in is_legal_node is_legal_sub is_sub_text is_global_name row_field line_of layout_of data_node marker row_class index_key key_node entry_node entry_list has_legal_entries child walk is_at_or_below has_several read read_as load field.out-Field denote.Hole.Carrier.out
loads_seen = (
  simp (list_out, text_out) refl,
  (
    simp (list_out, text_out) refl,
    (
      simp (list_out, text_out) refl,
      (
        refl,
        (
          simp (list_out, text_out) refl,
          (
            simp (list_out, text_out) refl,
            (
              refl,
              (
                simp (list_out, text_out) refl,
                (simp (list_out, text_out) refl, tt),
              ),
            ),
          ),
        ),
      ),
    ),
  ),
)

pub raises_seen : AreRaisesSeen raises
unfolding digits whole_of is_number subs.number_in data_node raise
raises_seen = (refl, (refl, (refl, (refl, (refl, (refl, tt))))))
