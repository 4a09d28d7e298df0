use Rattle.os_value.proofs.FindLaws.{finds, stands}
use Rattle.os_value.proofs.comparisons.place_of.Goals as goal

pub returns : goal.returns
returns c = record {
  place = finds c.args.text.now c.args.sought.now c.find.result c.find.ensures;
  within = stands c.args.text.now c.args.sought.now c.find.result c.find.ensures;
}
