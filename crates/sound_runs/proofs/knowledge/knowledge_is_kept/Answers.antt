use Rattle.sound_runs.proofs.Laws.{knowledge_stays, views_are_known, draws_are_known}
use Rattle.sound_runs.proofs.knowledge.knowledge_is_kept.Goals as goal

pub returns-clause-stays : goal.returns-clause-stays
returns-clause-stays c = knowledge_stays

pub returns-clause-views : goal.returns-clause-views
returns-clause-views c = views_are_known

pub returns-clause-draws : goal.returns-clause-draws
returns-clause-draws c = draws_are_known
