use Rattle.std.proofs.Common.{length}
use Rattle.dump_reading.proofs.SortedLaws.{read_rises}
use Rattle.dump_reading.proofs.LimitLaws.{read_within}
use Rattle.dump_reading.proofs.dump.read_dump.Goals as goal

pub into_pairs-requires-clause-rising : goal.into_pairs-requires-clause-rising
into_pairs-requires-clause-rising c = read_rises (length c.args.text.now) c.new.result.entries c.args.text.now c.in-Ok.said c.new.ensures.empty c.in-Ok.ensures

pub into_pairs-requires-clause-within : goal.into_pairs-requires-clause-within
into_pairs-requires-clause-within c = read_within (length c.args.text.now) c.new.result.entries c.args.text.now c.in-Ok.said c.new.ensures.empty c.in-Ok.ensures
