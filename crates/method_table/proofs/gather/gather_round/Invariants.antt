use Rattle.std.proofs.Common.{◌≡◌, ◌++◌, drop}
use Rattle.schema_kinds.specs.Classes.{class_names}
use Rattle.method_table.specs.Places.{round, round_from}
use Rattle.method_table.proofs.gather.gather_round.Given as goal

-- what is gathered, and what is left to gather, is the round
abbrev pub invariant-loop-class : goal.invariant-loop-class
invariant-loop-class l = record {
  left : l.next ++ round_from (class_names l.schema) l.tables l.at (drop l.class-index l.schema) ≡ round l.schema l.tables;
  place : l.at ≡ l.class-index;
}
