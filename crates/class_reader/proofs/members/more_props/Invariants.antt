use Rattle.std.proofs.Common.{◌≡◌, [], length}
use Rattle.text_reading.specs.Parsing.{many}
use Rattle.class_tokens.specs.declared.token.Kind.TheVariants as k
use Rattle.class_tokens.specs.ClassKinds.{is, is_member_word}
use Rattle.class_tokens.specs.ClassTongue.{tongue}
use Rattle.class_reader.specs.ClassTrees.{site, no_members}
use Rattle.class_reader.specs.ClassGrammar.{further_prop, read}
use Rattle.class_reader.proofs.members.more_props.Given as goal

abbrev pub invariant-turns : goal.invariant-turns
invariant-turns l =
    (many tongue (is k.Comma) (λ x. read further_prop x) l.props l.cursor ≡ many tongue (is k.Comma) (λ x. read further_prop x) l.initial.props l.initial.cursor)

abbrev pub decreases-turns : goal.decreases-turns
decreases-turns l = length l.cursor
