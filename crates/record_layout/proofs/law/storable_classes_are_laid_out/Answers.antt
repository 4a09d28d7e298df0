use Rattle.record_layout.proofs.SchemaLaws.{storable_is_laid_out}
use Rattle.record_layout.proofs.law.storable_classes_are_laid_out.Goals as goal

pub returns : goal.returns
returns c = storable_is_laid_out
