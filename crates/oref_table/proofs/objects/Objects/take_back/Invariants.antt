use Rattle.std.proofs.Common.{◌≡◌, ◌+◌, ◌-◌, ◌<◌, ◌++◌, List, length}
use Rattle.std.specs.List.{AllByRecursion}
use Rattle.oref_table.specs.declared.obj.Entry.{Entry}
use Rattle.oref_table.specs.declared.obj.NewObj.{NewObj}
use Rattle.oref_table.specs.Entries.{HasHolder}
use Rattle.oref_table.specs.Making.{new_entries}
use Rattle.oref_table.proofs.MakeAllLaws.{IsBack}
use Rattle.oref_table.proofs.objects.Objects.take_back.Given as goal

-- those that are left behind the last number are still there
abbrev pub invariant-loop-left : goal.invariant-loop-left
invariant-loop-left l =
    (es : List Entry) (news : List NewObj) → l.initial.self ≡ es ++ new_entries l.last news → l.number ≡ l.last + length news → AllByRecursion HasHolder es → AllByRecursion (λ (e : Entry). e.number < l.last + 1) es
    → IsBack l.last l.left es l.self

abbrev pub decreases-loop-left : goal.decreases-loop-left
decreases-loop-left l = l.left - l.last
