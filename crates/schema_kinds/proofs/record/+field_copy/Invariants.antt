use Rattle.std.proofs.Common.{◌≡◌, take}
use Rattle.schema_kinds.proofs.record.+field_copy.Given as goal

-- the fields so far are copied
abbrev pub invariant-copy_fields-loop-field : goal.invariant-copy_fields-loop-field
invariant-copy_fields-loop-field l = l.copy ≡ take l.field-index l.fields

-- the elements so far are copied
abbrev pub invariant-copy_field_pairs-loop-pair : goal.invariant-copy_field_pairs-loop-pair
invariant-copy_field_pairs-loop-pair l = l.copy ≡ take l.pair-index l.pairs
