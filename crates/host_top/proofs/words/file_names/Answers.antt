use Rattle.std.proofs.Common.{List, ℕ}
use Rattle.host_top.specs.declared.words.FileNames.{FileNames}
use Rattle.host_top.proofs.WordLaws.{found_names, no_names}
use Rattle.host_top.proofs.words.file_names.Goals as goal

pub returns-clause-found : goal.returns-clause-found
returns-clause-found c = found_names (λ (n : FileNames). (n.class.now, n.script.now)) _ c.names_at.result c.names_at.ensures

pub returns-clause-none : goal.returns-clause-none
returns-clause-none c = no_names (λ (n : FileNames). (n.class.now, n.script.now)) _ c.names_at.result c.names_at.ensures
