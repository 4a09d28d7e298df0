use Rattle.obj_kinds.proofs.IdTexts.{found_id, no_id}
use Rattle.obj_kinds.proofs.id.Id.from_text.Goals as goal

pub returns-in-None-clause-none : goal.returns-in-None-clause-none
returns-in-None-clause-none c = no_id c.args.text.now c.in-None.ensures.value

pub returns-in-Some-clause-found : goal.returns-in-Some-clause-found
returns-in-Some-clause-found c = found_id c.args.text.now _ c.in-Some.ensures.value
