use Rattle.std.proofs.Common.{refl}
use Rattle.std.proofs.lemmas.Option.{slice_get-get_or}
use Rattle.save_passes.proofs.PassLaws.{next_object}
use Rattle.save_passes.proofs.pass.Pass.go_on.Goals as goal

-- the next object's list stands ready
pub returns-clause-ok : goal.returns-clause-ok
returns-clause-ok c =
    let there = slice_get-get_or c.args.of.now.items.now c.args.self.now.at c.index-of-self.result c.requires.there in
    next_object c.args.of.now c.args.self.now _ _ _ c.in_ok-askings.askings there c.old_at-old.ensures c.requires.asked c.in_ok-askings.ensures c.new.ensures refl refl
