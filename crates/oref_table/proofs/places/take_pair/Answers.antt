use Rattle.std.proofs.Common.{subst}
use Rattle.obj_kinds.specs.SubOrder.{sub_cmp}
use Rattle.obj_kinds.specs.Search.{IsHit, IsGap}
use Rattle.oref_table.proofs.PlaceLaws.{take_hit, none-found}
use Rattle.oref_table.proofs.places.take_pair.Goals as goal

pub returns-in-Ok-clause-rest : goal.returns-in-Ok-clause-rest
returns-in-Ok-clause-rest c =
    (take_hit c.args.pairs c.args.key.now c.in-Ok.at c.remove-old.result c.remove-old.new.self c.requires.sorted (subst (λ ps. IsHit sub_cmp ps c.args.key.now c.in-Ok.at) c.as_slice.ensures c.in-Ok.ensures.found) c.remove-old.ensures.item c.remove-old.ensures.rest).0

pub returns-in-Ok-clause-exchange : goal.returns-in-Ok-clause-exchange
returns-in-Ok-clause-exchange c =
    (take_hit c.args.pairs c.args.key.now c.in-Ok.at c.remove-old.result c.remove-old.new.self c.requires.sorted (subst (λ ps. IsHit sub_cmp ps c.args.key.now c.in-Ok.at) c.as_slice.ensures c.in-Ok.ensures.found) c.remove-old.ensures.item c.remove-old.ensures.rest).1

pub returns-in-Err-clause-rest : goal.returns-in-Err-clause-rest
returns-in-Err-clause-rest c = absurd (none-found c.args.pairs c.args.key.now c.in-Err.field-0 (subst (λ ps. IsGap sub_cmp ps c.args.key.now c.in-Err.field-0) c.as_slice.ensures c.in-Err.ensures.absent) c.requires.there)
