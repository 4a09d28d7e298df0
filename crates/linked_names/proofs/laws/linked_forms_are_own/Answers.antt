use Rattle.linked_names.proofs.Apart.{linked_forms_are_own}
use Rattle.linked_names.proofs.laws.linked_forms_are_own.Goals as goal

pub returns : goal.returns
returns c = linked_forms_are_own
