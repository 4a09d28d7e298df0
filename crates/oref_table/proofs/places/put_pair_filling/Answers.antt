use Rattle.std.proofs.Common.{◌≡◌, IfOk, subst}
use Rattle.std.specs.FinMap.{put}
use Rattle.obj_kinds.specs.SubOrder.{sub_cmp}
use Rattle.oref_table.specs.Refs.{refs_of_pairs, refs_of}
use Rattle.oref_table.specs.Places.{IsExchange}
use Rattle.oref_table.proofs.PlaceLaws.{put_pair_as}
use Rattle.oref_table.proofs.PlaceLaws.{not_ok}
use Rattle.oref_table.proofs.places.put_pair_filling.Goals as goal

pub returns-in-Ok-clause-ok : goal.returns-in-Ok-clause-ok
returns-in-Ok-clause-ok c =
    put_pair_as c.args.key.now c.args.with c.slot_of.result c.args.pairs c.put_pair-pairs.result.0 c.in-Ok.old c.slot_of.ensures
    (subst (λ r. IfOk r (λ old. (c.put_pair-pairs.result.0 ≡ put sub_cmp c.args.key.now c.slot_of.result c.args.pairs) × IsExchange (refs_of_pairs c.args.pairs) (refs_of c.slot_of.result) (refs_of_pairs c.put_pair-pairs.result.0) (refs_of old))) c.in-Ok.is c.put_pair-pairs.ensures.ok)

pub returns-in-Err-clause-there : goal.returns-in-Err-clause-there
returns-in-Err-clause-there c = λ found. absurd (not_ok c.put_pair-pairs.result.1 c.in-Err.slot c.in-Err.is (c.put_pair-pairs.ensures.there found))
