use Rattle.std.proofs.Common.{◌≡◌, take}
use Rattle.obj_props.proofs.copies.copy_orefs.Given as goal

-- those so far are copied
abbrev pub invariant-loop-oref : goal.invariant-loop-oref
invariant-loop-oref l = l.copy ≡ take l.oref-index l.orefs
