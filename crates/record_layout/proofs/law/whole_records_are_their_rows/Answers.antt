use Rattle.record_layout.proofs.RecordLaws.{read_whole}
use Rattle.record_layout.proofs.law.whole_records_are_their_rows.Goals as goal

pub returns : goal.returns
returns c = read_whole
