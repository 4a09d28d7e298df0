use Rattle.std.proofs.Common.{◌≡◌, drop}
use Rattle.os_value.specs.Texts.{prefixed, chars}
use Rattle.os_value.proofs.texts.text_of_codes.Given as goal

-- the bytes so far, and those of the codes that are left
abbrev pub invariant-loop-code : goal.invariant-loop-code
invariant-loop-code l = prefixed l.text (chars (drop l.code-index l.codes)) ≡ chars l.codes
