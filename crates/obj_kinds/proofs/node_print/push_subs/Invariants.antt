use Rattle.std.proofs.Common.{◌≡◌, ◌++◌, ◌∷◌, [], drop}
use Rattle.obj_kinds.specs.NodeText.{more_subs, subs_text}
use Rattle.obj_kinds.proofs.node_print.push_subs.Given as goal

-- what is written, with the subscripts that are left
abbrev pub invariant-loop-sub : goal.invariant-loop-sub
invariant-loop-sub l = l.out ++ more_subs (drop l.sub-index l.others) ++ 41 ∷ [] ≡ l.fn.out ++ subs_text l.subs
