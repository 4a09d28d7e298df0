use Rattle.std.proofs.Common.{◌≡◌, drop}
use Rattle.method_table.specs.Places.{put_all, own_places}
use Rattle.method_table.proofs.gather.put_own.Given as goal

-- what is left to put makes the same table
abbrev pub invariant-loop-method : goal.invariant-loop-method
invariant-loop-method l = record {
  left : put_all l.table (own_places l.class l.at (drop l.method-index l.methods)) ≡ put_all l.initial.table (own_places l.class 0 l.methods);
  place : l.at ≡ l.method-index;
}
