use Rattle.std.proofs.Common.{◌≡◌, ◌++◌, drop, length}
use Rattle.schema_kinds.specs.Links.{IsWithin, mark_all, news}
use Rattle.schema_kinds.proofs.links.mark_row.Given as goal

abbrev pub invariant-loop-link : goal.invariant-loop-link
invariant-loop-link l =
    IsWithin (drop l.link-index l.row) (length l.marks)
    × (mark_all (drop l.link-index l.row) l.marks ≡ mark_all l.row l.initial.marks)
    × (l.ahead ++ news (drop l.link-index l.row) l.marks ≡ l.initial.ahead ++ news l.row l.initial.marks)
