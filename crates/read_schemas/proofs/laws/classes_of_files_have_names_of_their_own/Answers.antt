use Rattle.read_schemas.proofs.Files.{files_own}
use Rattle.read_schemas.proofs.laws.classes_of_files_have_names_of_their_own.Goals as goal

pub returns : goal.returns
returns c = files_own
