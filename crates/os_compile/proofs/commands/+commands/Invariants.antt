use Rattle.std.proofs.Common.{◌≡◌, ◌+◌, map, reverse, length}
use Rattle.os_meaning.specs.Tree.{script_of}
use Rattle.os_code.specs.Coding.{block_code}
use Rattle.os_compile.specs.Pieces.{beyond, parts_of, cases_code}
use Rattle.os_compile.proofs.commands.+commands.Given as goal

abbrev pub invariant-put_block-loop-command : goal.invariant-put_block-loop-command
invariant-put_block-loop-command l = l.out ≡ block_code (length l.fn.out + beyond l.exit) (script_of (map (λ b. b.now) (reverse l.yielded))) l.fn.out

abbrev pub invariant-put_branches-loop-branch : goal.invariant-put_branches-loop-branch
invariant-put_branches-loop-branch l =
    l.out ≡ cases_code l.end (beyond l.exit) (map parts_of (map (λ b. b.now) (reverse l.yielded))) l.fn.out
