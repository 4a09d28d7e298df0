-- The edits of a record, as they are worked out and as a save means them.
use Rattle.std.proofs.Common.{◌≡◌, List, ◌++◌, map, Option, Some, sym, ap, ◌∙◌}
use Rattle.schema_kinds.specs.declared.class.Class.{Class}
use Rattle.schema_kinds.specs.declared.key.Key.{Key}
use Rattle.schema_kinds.specs.declared.record.Record.{Record}
use Rattle.storage_map.specs.declared.edits.Edits.{Edits}
use Rattle.storage_map.specs.Changes.{AreChanges}
use Rattle.object_calls.specs.Edits.{edits_of}
use Rattle.object_calls.proofs.EditLaws.{edits_are_changes}
use Rattle.save_works.specs.Works.{kill_of, set_of, key_tests_of, kills_of, writes_of}

module _ (classes : List Class) (key : Key) (old : Option Record) (now : Record) (e : Edits) (are : AreChanges classes key old (Some now) e) where
  abbrev meant : AreChanges classes key old (Some now) (edits_of classes key old (Some now))
  meant = edits_are_changes classes key old (Some now)

  pub kills_are : map kill_of e.entry_kills ≡ kills_of classes key old now
  unfolding kills_of
  kills_are = ap (map kill_of) (are.entry_kills ∙ sym meant.entry_kills)

  pub writes_are : key_tests_of classes key old now ++ map kill_of e.row_kills ++ map set_of e.row_sets ++ map set_of e.entry_sets ≡ writes_of classes key old now
  unfolding writes_of
  writes_are =
      ap (λ ks. key_tests_of classes key old now ++ map kill_of ks ++ map set_of e.row_sets ++ map set_of e.entry_sets) (are.row_kills ∙ sym meant.row_kills)
      ∙ ap (λ ss. key_tests_of classes key old now ++ map kill_of (edits_of classes key old (Some now)).row_kills ++ map set_of ss ++ map set_of e.entry_sets) (are.row_sets ∙ sym meant.row_sets)
      ∙ ap (λ ss. key_tests_of classes key old now ++ map kill_of (edits_of classes key old (Some now)).row_kills ++ map set_of (edits_of classes key old (Some now)).row_sets ++ map set_of ss) (are.entry_sets ∙ sym meant.entry_sets)
