use Rattle.record_layout.proofs.ReadLaws.{read_where_they_stand}
use Rattle.record_layout.proofs.law.records_are_read_where_they_stand.Goals as goal

pub returns : goal.returns
returns c = read_where_they_stand
