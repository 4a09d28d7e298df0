-- What is asked of a schema, tried on the classes of worked calls: accounts with a unique number, savers, branches with their clerks.
use Rattle.std.specs.Prelude.{◌≡◌, true, false, codes, Some}
use Rattle.schema_kinds.specs.Classes.{class_of, extent_of}
use Rattle.record_layout.specs.Layout.{layout_of}
use Rattle.record_layout.specs.Shapes.{forms_of}
use Rattle.storage_map.specs.Entries.{props_in}
use Rattle.object_calls.specs.Banking.{bank, account, saver, branch, clerk}
use Rattle.object_runs.specs.Invariant.{is_unique_name, is_side_name}

pub record BankIsApart : Type 0 where
  pub unique : is_unique_name bank account (codes "NumIdx") ≡ true
  pub no_side : is_side_name bank account (codes "NumIdx") ≡ false
  pub side : is_side_name bank clerk (codes "Branch") ≡ true
  pub not_unique : is_unique_name bank clerk (codes "Branch") ≡ false
  -- a name is looked for in its extent alone
  pub elsewhere : is_unique_name bank clerk (codes "NumIdx") ≡ false
  pub accounts : (layout_of bank account).forms ≡ forms_of (props_in (class_of bank account))
  pub savers : (layout_of bank saver).forms ≡ forms_of (props_in (class_of bank saver))
  pub branches : (layout_of bank branch).forms ≡ forms_of (props_in (class_of bank branch))
  pub clerks : (layout_of bank clerk).forms ≡ forms_of (props_in (class_of bank clerk))
