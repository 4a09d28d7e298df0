use Rattle.linked_runs.proofs.Paired.{linked_sides_are_paired}
use Rattle.linked_runs.proofs.Storable.{linked_schemas_are_storable}
use Rattle.read_schemas.proofs.Files.{files_sound}
use Rattle.read_schemas.proofs.laws.schemas_of_files_are_sound.Goals as goal

pub returns : goal.returns
returns c = files_sound linked_schemas_are_storable linked_sides_are_paired
