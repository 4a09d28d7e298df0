use Rattle.std.proofs.Common.{◌≡◌}
use Rattle.std.specs.FinMap.{put}
use Rattle.obj_kinds.specs.SubOrder.{sub_cmp}
use Rattle.oref_table.specs.Refs.{refs_of_pairs, refs_of}
use Rattle.oref_table.specs.Filling.{slot_from, passed}
use Rattle.oref_table.specs.Places.{pairs_filled, IsExchange}
use Rattle.oref_table.proofs.PlaceLaws.{ok_then, pair_taken, put_pair_filled, take_pair_filled}
use Rattle.oref_table.proofs.places.fill_pairs.Goals as goal

pub take_pair-pairs-requires-clause-there : goal.take_pair-pairs-requires-clause-there
take_pair-pairs-requires-clause-there c = pair_taken c.args.key.now c.args.with c.args.pairs c.in-Nothing.is c.requires.takes

pub returns-in-Nothing-clause-ok : goal.returns-in-Nothing-clause-ok
returns-in-Nothing-clause-ok c =
    take_pair_filled c.args.key.now c.args.with c.args.pairs c.take_pair-pairs.result.0 c.take_pair-pairs.result.1 c.in-Nothing.is c.take_pair-pairs.ensures.rest c.take_pair-pairs.ensures.exchange

pub returns-in_default : goal.returns-in_default
returns-in_default c = record {
  ok = ok_then (λ old. (c.put_pair_filling.result.0 ≡ put sub_cmp c.args.key.now (slot_from c.args.with) c.args.pairs) × IsExchange (refs_of_pairs c.args.pairs) (passed c.args.with) (refs_of_pairs c.put_pair_filling.result.0) (refs_of old))
      (λ old. (c.put_pair_filling.result.0 ≡ pairs_filled c.args.key.now c.args.with c.args.pairs) × IsExchange (refs_of_pairs c.args.pairs) (passed c.args.with) (refs_of_pairs c.put_pair_filling.result.0) (refs_of old))
      c.put_pair_filling.result.1 (λ old h. put_pair_filled c.args.key.now c.args.with c.args.pairs c.put_pair_filling.result.0 old c.in_default.not-Nothing h) c.put_pair_filling.ensures.ok;
  err = c.put_pair_filling.ensures.err;
  there = c.put_pair_filling.ensures.there;
}
