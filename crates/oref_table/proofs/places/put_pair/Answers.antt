use Rattle.std.proofs.Common.{◌≡◌, None, insert, subst}
use Rattle.obj_kinds.specs.SubOrder.{sub_cmp}
use Rattle.obj_kinds.specs.Search.{IsHit, IsGap}
use Rattle.std.specs.FinMap.{put}
use Rattle.oref_table.specs.declared.slot.Slot.TheVariants.{Target}
use Rattle.oref_table.specs.Refs.{refs_of, refs_of_pairs}
use Rattle.oref_table.specs.Places.{IsExchange}
use Rattle.oref_table.proofs.PlaceLaws.{put_in_place, put_among, ok_then}
use Rattle.oref_table.proofs.PlaceLaws.{none-found}
use Rattle.oref_table.proofs.places.put_pair.Goals as goal

pub returns-in-Ok-clause-ok : goal.returns-in-Ok-clause-ok
returns-in-Ok-clause-ok c =
    let hit : IsHit sub_cmp c.args.pairs c.args.key.now c.in-Ok.at = subst (λ ps. IsHit sub_cmp ps c.args.key.now c.in-Ok.at) c.as_slice.ensures c.in-Ok.ensures.found in
    let p = put_in_place c.args.pairs c.args.key.now c.args.slot c.set_pair-pairs.result.1 c.set_pair-pairs.result.0 c.in-Ok.at c.requires hit c.set_pair-pairs.ensures.pairs c.set_pair-pairs.ensures.old in
    (p.is, p.exchange)

pub returns-in-Err-clause-ok : goal.returns-in-Err-clause-ok
returns-in-Err-clause-ok c =
    let gap : IsGap sub_cmp c.args.pairs c.args.key.now c.in-Err.at = subst (λ ps. IsGap sub_cmp ps c.args.key.now c.in-Err.at) c.as_slice.ensures c.in-Err.ensures.absent in
    ok_then (λ old. (c.add_pair.result.0 ≡ insert c.args.pairs c.in-Err.at (c.args.key.now, c.args.slot)) × (old ≡ Target None)) (λ old. (c.add_pair.result.0 ≡ put sub_cmp c.args.key.now c.args.slot c.args.pairs) × IsExchange (refs_of_pairs c.args.pairs) (refs_of c.args.slot) (refs_of_pairs c.add_pair.result.0) (refs_of old)) c.add_pair.result.1
    (λ old h. let p = put_among c.args.pairs c.args.key.now c.args.slot old c.add_pair.result.0 c.in-Err.at c.requires gap h.0 h.1 in (p.is, p.exchange))
    c.add_pair.ensures.ok

pub returns-in-Err-clause-there : goal.returns-in-Err-clause-there
returns-in-Err-clause-there c = λ found. absurd (none-found c.args.pairs c.args.key.now c.in-Err.at (subst (λ ps. IsGap sub_cmp ps c.args.key.now c.in-Err.at) c.as_slice.ensures c.in-Err.ensures.absent) found)
