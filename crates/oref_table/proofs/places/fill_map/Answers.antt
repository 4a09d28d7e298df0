use Rattle.std.proofs.Common.{◌≡◌, IsSome, List, subst}
use Rattle.std.specs.FinMap.{find}
use Rattle.obj_kinds.specs.SubOrder.{sub_cmp}
use Rattle.obj_kinds.specs.declared.sub.Sub.{Sub}
use Rattle.oref_table.specs.declared.slot.Slot.{Slot}
use Rattle.oref_table.specs.declared.slot.Slot.TheVariants.{Map}
use Rattle.oref_table.specs.Refs.{refs_of_pairs, refs_of}
use Rattle.oref_table.specs.Filling.{passed}
use Rattle.oref_table.specs.Places.{pairs_filled, IsExchange}
use Rattle.oref_table.proofs.PlaceLaws.{ok_then, map_filled}
use Rattle.oref_table.proofs.PlaceLaws.{same_pairs}
use Rattle.oref_table.proofs.places.fill_map.Goals as goal

pub returns-in-Map-clause-ok : goal.returns-in-Map-clause-ok
returns-in-Map-clause-ok c =
    ok_then (λ out. (c.fill_pairs-pairs.result.0 ≡ pairs_filled c.args.key.now c.args.with c.in-Map.pairs) × IsExchange (refs_of_pairs c.in-Map.pairs) (passed c.args.with) (refs_of_pairs c.fill_pairs-pairs.result.0) (refs_of out))
    (λ out. ((pairs : List (Sub × Slot)) × (c.args.old ≡ Map pairs) × (Map c.fill_pairs-pairs.result.0 ≡ Map (pairs_filled c.args.key.now c.args.with pairs))) × IsExchange (refs_of c.args.old) (passed c.args.with) (refs_of (Map c.fill_pairs-pairs.result.0)) (refs_of out))
    c.fill_pairs-pairs.result.1 (λ out h. map_filled c.args.key.now c.args.with c.args.old c.in-Map.pairs c.fill_pairs-pairs.result.0 out c.in-Map.is h) c.fill_pairs-pairs.ensures.ok

pub returns-in-Map-clause-there : goal.returns-in-Map-clause-there
returns-in-Map-clause-there c = λ pairs is found. c.fill_pairs-pairs.ensures.there (subst (λ (xs : List (Sub × Slot)). IsSome (find sub_cmp c.args.key.now xs)) (same_pairs c.args.old pairs c.in-Map.pairs is c.in-Map.is) found)

pub returns-in_default-clause-there : goal.returns-in_default-clause-there
returns-in_default-clause-there c = λ pairs is found. absurd (c.in_default.not-Map pairs is)
