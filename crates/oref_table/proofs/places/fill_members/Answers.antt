use Rattle.std.proofs.Common.{◌≡◌, ◌++◌, ◌∷◌, [], List}
use Rattle.oref_table.specs.declared.oref.Oref.{Oref}
use Rattle.oref_table.specs.declared.slot.Slot.TheVariants.{Members}
use Rattle.oref_table.specs.Refs.{refs_of}
use Rattle.oref_table.specs.Filling.{passed}
use Rattle.oref_table.specs.Places.{with_members, IsExchange}
use Rattle.oref_table.proofs.PlaceLaws.{ok_then, member_filled}
use Rattle.oref_table.proofs.places.fill_members.Goals as goal

pub returns-in-To-clause-ok : goal.returns-in-To-clause-ok
returns-in-To-clause-ok c =
    ok_then (λ out. ((members : List Oref) × (c.args.old ≡ Members members) × (c.add_in_slot.result.0 ≡ Members (members ++ record { 0 = c.in-To.held.number } ∷ []))) × IsExchange (refs_of c.args.old) (c.in-To.held.number ∷ []) (refs_of c.add_in_slot.result.0) (refs_of out))
    (λ out. ((members : List Oref) × (c.args.old ≡ Members members) × (c.add_in_slot.result.0 ≡ Members (with_members c.args.with members))) × IsExchange (refs_of c.args.old) (passed c.args.with) (refs_of c.add_in_slot.result.0) (refs_of out))
    c.add_in_slot.result.1 (λ out h. member_filled c.in-To.held c.args.with c.args.old c.add_in_slot.result.0 out c.in-To.is h) c.add_in_slot.ensures.ok
