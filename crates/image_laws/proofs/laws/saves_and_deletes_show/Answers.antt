use Rattle.image_laws.proofs.ChangeLaws.{saves_show, deletes_show}
use Rattle.image_laws.proofs.laws.saves_and_deletes_show.Goals as goal

pub returns-clause-saves : goal.returns-clause-saves
returns-clause-saves c = saves_show

pub returns-clause-deletes : goal.returns-clause-deletes
returns-clause-deletes c = deletes_show
