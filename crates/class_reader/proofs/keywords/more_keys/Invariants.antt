use Rattle.std.proofs.Common.{◌≡◌, [], length}
use Rattle.text_reading.specs.Parsing.{many}
use Rattle.class_tokens.specs.declared.token.Kind.TheVariants as k
use Rattle.class_tokens.specs.ClassKinds.{is, is_member_word}
use Rattle.class_tokens.specs.ClassTongue.{tongue}
use Rattle.class_reader.specs.ClassTrees.{site, no_members}
use Rattle.class_reader.specs.ClassGrammar.{further_key, read}
use Rattle.class_reader.proofs.keywords.more_keys.Given as goal

abbrev pub invariant-turns : goal.invariant-turns
invariant-turns l =
    (many tongue (is k.Comma) (λ x. read further_key (l.section, x)) l.given l.cursor ≡ many tongue (is k.Comma) (λ x. read further_key (l.section, x)) l.initial.given l.initial.cursor)

abbrev pub decreases-turns : goal.decreases-turns
decreases-turns l = length l.cursor
