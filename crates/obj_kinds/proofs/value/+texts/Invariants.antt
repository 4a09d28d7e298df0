use Rattle.std.proofs.Common.{◌≡◌, map, drop}
use Rattle.obj_kinds.specs.Values.{all_true, all_texts}
use Rattle.obj_kinds.specs.Limits.{is_legal_text}
use Rattle.obj_kinds.proofs.value.+texts.Given as goal

-- the values so far pass, so those that are left decide
abbrev pub invariant-have_legal_texts-loop-value : goal.invariant-have_legal_texts-loop-value
invariant-have_legal_texts-loop-value l = all_true (map (all_texts is_legal_text) (drop l.value-index l.values)) ≡ all_true (map (all_texts is_legal_text) l.values)
