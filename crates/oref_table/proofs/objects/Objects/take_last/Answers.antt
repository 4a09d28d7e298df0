use Rattle.oref_table.proofs.MakeAllLaws.{last-out}
use Rattle.oref_table.proofs.objects.Objects.take_last.Goals as goal

pub returns : goal.returns
returns c = λ es n is held below. last-out c.args.number c.take_unheld.result c.args.self.now c.lower.new.self c.take_unheld.new.self es n c.lower.ensures c.take_unheld.ensures.some c.take_unheld.ensures.none is held below
