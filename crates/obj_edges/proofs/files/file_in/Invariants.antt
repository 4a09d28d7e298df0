use Rattle.std.proofs.Common.{◌≡◌, drop}
use Rattle.obj_edges.specs.Memory.{contents_in}
use Rattle.obj_edges.proofs.files.file_in.Given as goal

-- no file so far has the name
abbrev pub invariant-loop-file : goal.invariant-loop-file
invariant-loop-file l = contents_in (drop l.file-index l.files) l.name ≡ contents_in l.files l.name
