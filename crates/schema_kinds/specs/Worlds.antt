-- Worlds: which stored object has which record, and changes of them.
use Rattle.std.specs.Prelude.{List, [], ◌∷◌}
use Rattle.std.specs.declared.cmp.Ordering.{Ordering}
use Rattle.std.specs.Ordering.{ordering_then}
use Rattle.std.specs.FinMap.{FinMap, insert, remove}
use Rattle.obj_kinds.specs.SubOrder.{text_cmp}
use Rattle.schema_kinds.specs.declared.key.Key.{Key}
use Rattle.schema_kinds.specs.declared.record.Record.{Record}
use Rattle.schema_kinds.specs.declared.record.Part.{Part}
use Rattle.schema_kinds.specs.declared.record.Part.TheVariants.{Put, Del}

-- by the extent's name, and then by the numbers of the id
unfoldable pub key_cmp : Key → Key → Ordering
key_cmp a b = ordering_then (text_cmp a.extent.0 b.extent.0) (text_cmp a.id b.id)

-- the record of each stored object
abbrev pub World : Type 0
World = FinMap key_cmp Record

abbrev pub Change : Type 0
Change = List Part

-- the world with all of the change carried out, the first part first
unfoldable pub apply : Change → World → World
apply [] w = w
apply (Put k r ∷ change) w = apply change (insert w k r)
apply (Del k ∷ change) w = apply change (remove w k)
