-- A run may start with nodes and a world exactly where no node is a fault and the world is the one that they give.
use Rattle.std.proofs.Common.{◌≡◌, Option, None, Some, refl, sym, ◌∙◌}
use Rattle.std.specs.FinMap.{get, same_map}
use Rattle.schema_kinds.specs.declared.key.Key.{Key}
use Rattle.schema_kinds.specs.declared.record.Record.{Record}
use Rattle.schema_kinds.specs.KeyLaws.{key_total, key_exact}
use Rattle.world_audit.specs.Laws.{FaultlessIsOpening, OneWorld}
use Rattle.world_audit.proofs.FaultlessLaws.{is_opening}
use Rattle.world_audit.proofs.StartLaws.{is_faultless, is_world_of}

pub faultless_is_opening : FaultlessIsOpening
faultless_is_opening classes nodes w storable are =
    (λ h. is_opening classes nodes w storable are h.0 h.1, λ o. (is_faultless classes nodes w storable are o, is_world_of classes nodes w storable are o))

pub one_world : OneWorld
one_world classes nodes v w storable are first second = same_map key_total key_exact v w (λ q. by q (get v q) refl)
  where
    by : (q : Key) (o : Option Record) → get v q ≡ o → get v q ≡ get w q
    by q (Some r) e = e ∙ sym ((is_world_of classes nodes w storable are second q r).1 ((is_world_of classes nodes v storable are first q r).0 e))
    by q None e = at (get w q) refl
      where
        at : (o : Option Record) → get w q ≡ o → get v q ≡ get w q
        at None k = e ∙ sym k
        at (Some r) k = let no : None ≡ Some r = sym e ∙ (is_world_of classes nodes v storable are first q r).1 ((is_world_of classes nodes w storable are second q r).0 k) in cc
