use Rattle.std.proofs.Common.{ap, sym, subst, ◌∙◌, ◌-◌, ◌<◌}
use Rattle.oref_table.specs.declared.fill.Fill.{Fill}
use Rattle.oref_table.specs.Filling.{IsHeldFor, passed}
use Rattle.oref_table.specs.Refs.{times}
use Rattle.oref_table.specs.Memory.{Memory, outside_of}
use Rattle.oref_cases.proofs.ParkedLaws.{held-for}
use Rattle.oref_cases.proofs.PlaceLaws.{passed_hold}
use Rattle.oref_cases.proofs.collections.insert_item.Goals as goal

pub insert_item-requires-clause-live : goal.insert_item-requires-clause-live
insert_item-requires-clause-live c = c.takes_item.ensures.live c.if-not-takes_item.false

pub insert_item-requires-clause-held : goal.insert_item-requires-clause-held
insert_item-requires-clause-held c = held-for c.args.table.now c.args.held c.requires

pub give_back-requires : goal.give_back-requires
give_back-requires c = subst (λ (w : Fill). IsHeldFor c.insert_item.new.self w) (sym c.in-Err.ensures.back) (held-for c.insert_item.new.self c.args.held (subst (λ (m : Memory). 0 < outside_of m c.args.held.number) (sym c.in-Err.ensures.err) c.requires))

pub returns-in-Ok : goal.returns-in-Ok
returns-in-Ok c = λ n. c.in-Ok.ensures.holds n ∙ ap (λ k. outside_of c.args.table.now n - k) (passed_hold c.args.held n)

pub returns-in-Err : goal.returns-in-Err
returns-in-Err c = λ n. c.give_back.ensures n ∙ ap (λ m. outside_of m n - times n (passed c.in-Err.refused.0)) c.in-Err.ensures.err ∙ ap (λ (w : Fill). outside_of c.args.table.now n - times n (passed w)) c.in-Err.ensures.back ∙ ap (λ k. outside_of c.args.table.now n - k) (passed_hold c.args.held n)
