-- How the contents of a tree are stored as a value.
use Rattle.std.specs.Prelude.{refl}
use Rattle.std.specs.Coded.{Coded, code_by, coded×, coded_ℕ}
use Rattle.std.specs.FinMap.{code}
use Rattle.obj_kinds.specs.contracts.node.Node as node
use Rattle.obj_kinds.specs.contracts.value.Value as value
use Rattle.global_tree.specs.Contents.{Contents, Globals, Pins}

abbrev pub contents_code : Coded Contents
contents_code =
    code_by (Globals × Pins) (coded× (code (node.the_row).coded (value.the_row).coded) (code (node.the_row).coded coded_ℕ)) (λ c. (c.globals, c.pins)) (λ p. record { globals = p.0; pins = p.1 }) (λ _. refl)
