-- A linked schema is as runs ask of it.
use Rattle.std.proofs.Common.{refl}
use Rattle.linked_storage.proofs.ClassLaws.{linked_storable, linked_extents_even}
use Rattle.linked_runs.specs.Laws.{LinkedIsStorableSchema}
use Rattle.linked_names.proofs.Apart.{linked_forms_are_own, linked_sides_are_apart, linked_indexes_are_apart}
use Rattle.linked_runs.proofs.OnSide.{linked_indexes_are_on_sides}

pub linked_schemas_are_storable : LinkedIsStorableSchema
linked_schemas_are_storable trees schema is none = record {
  storable = λ name extent in'. linked_storable trees schema name extent is none in';
  forms = λ name extent in'. linked_forms_are_own trees schema name extent is none in';
  even = λ extent. linked_extents_even trees schema extent is;
  plain = λ class extent i in' has no_unique. (linked_indexes_are_apart trees schema class extent i is in' has no_unique, linked_indexes_are_on_sides trees schema class extent i is none in' has no_unique);
  sides = λ class extent p target inverse in' has kind. linked_sides_are_apart trees schema class extent p target inverse is in' has kind;
}
