use Rattle.first_path.proofs.ImageLaws.{pinned_by}
use Rattle.first_path.proofs.imaging.set_counter.Goals as goal

pub returns-clause-pins : goal.returns-clause-pins
returns-clause-pins c = pinned_by c.args.tree.now.pins c.set.new.self.pins _ 0 c.in_ok-set.ensures.pins c.requires
