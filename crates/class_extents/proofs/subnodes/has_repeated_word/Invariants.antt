use Rattle.std.proofs.Common.{◌≡◌, [], drop}
use Rattle.class_extents.specs.Extents.{repeats}
use Rattle.class_extents.proofs.subnodes.has_repeated_word.Given as goal

abbrev pub invariant-loop-word : goal.invariant-loop-word
invariant-loop-word l = repeats l.seen (drop l.word-index l.words) ≡ repeats [] l.words
