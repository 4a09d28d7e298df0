use Rattle.std.proofs.Common.{◌≡◌, ◌+◌, ◌*◌, ◌-◌, [], length}
use Rattle.text_reading.specs.Parsing.{many}
use Rattle.script_tokens.specs.declared.token.Kind.TheVariants as k
use Rattle.script_tokens.specs.ScriptKinds.{is, is_operator}
use Rattle.script_tokens.specs.ScriptTongue.{tongue}
use Rattle.os_expressions.specs.ScriptGrammar.{read, further_member, further_operation, further_arg}
use Rattle.os_expressions.proofs.expressions.+expression.Given as goal

abbrev pub decreases-subscripts : goal.decreases-subscripts
decreases-subscripts l = 64 * (64 - l.depth) + 0

abbrev pub decreases-args : goal.decreases-args
decreases-args l = 64 * (64 - l.depth) + 0

abbrev pub decreases-counted_args : goal.decreases-counted_args
decreases-counted_args l = 64 * (64 - l.depth) + 0

abbrev pub decreases-looking_args : goal.decreases-looking_args
decreases-looking_args l = 64 * (64 - l.depth) + 0

abbrev pub decreases-looked_args : goal.decreases-looked_args
decreases-looked_args l = 64 * (64 - l.depth) + 1

abbrev pub decreases-ordering_args : goal.decreases-ordering_args
decreases-ordering_args l = 64 * (64 - l.depth) + 0

abbrev pub decreases-parens : goal.decreases-parens
decreases-parens l = 64 * (64 - l.spot.depth) + 0

abbrev pub decreases-args_given : goal.decreases-args_given
decreases-args_given l = 64 * (64 - l.depth) + 1

abbrev pub decreases-subscripts_given : goal.decreases-subscripts_given
decreases-subscripts_given l = 64 * (64 - l.depth) + 1

abbrev pub decreases-global : goal.decreases-global
decreases-global l = 64 * (64 - l.spot.depth) + 2

abbrev pub decreases-some_place : goal.decreases-some_place
decreases-some_place l = 64 * (64 - l.spot.depth) + 3

abbrev pub decreases-member : goal.decreases-member
decreases-member l = 64 * (64 - l.depth) + 2

abbrev pub decreases-function : goal.decreases-function
decreases-function l = 64 * (64 - l.spot.depth) + 1

abbrev pub decreases-looking_function : goal.decreases-looking_function
decreases-looking_function l = 64 * (64 - l.spot.depth) + 2

abbrev pub decreases-order_function : goal.decreases-order_function
decreases-order_function l = 64 * (64 - l.spot.depth) + 1

abbrev pub decreases-class_call : goal.decreases-class_call
decreases-class_call l = 64 * (64 - l.spot.depth) + 1

abbrev pub decreases-own : goal.decreases-own
decreases-own l = 64 * (64 - l.spot.depth) + 3

abbrev pub decreases-called : goal.decreases-called
decreases-called l = 64 * (64 - l.spot.depth) + 4

abbrev pub decreases-place_value : goal.decreases-place_value
decreases-place_value l = 64 * (64 - l.spot.depth) + 4

abbrev pub decreases-uncalled : goal.decreases-uncalled
decreases-uncalled l = 64 * (64 - l.spot.depth) + 5

abbrev pub decreases-primary : goal.decreases-primary
decreases-primary l = 64 * (64 - l.spot.depth) + 6

abbrev pub decreases-further_member : goal.decreases-further_member
decreases-further_member l = 64 * (64 - l.depth) + 3

abbrev pub decreases-members : goal.decreases-members
decreases-members l = 64 * (64 - l.depth) + 4

abbrev pub decreases-unsigned : goal.decreases-unsigned
decreases-unsigned l = 64 * (64 - l.spot.depth) + 7

abbrev pub decreases-operand : goal.decreases-operand
decreases-operand l = 64 * (64 - l.spot.depth) + 8

abbrev pub decreases-further_operation : goal.decreases-further_operation
decreases-further_operation l = 64 * (64 - l.depth) + 9

abbrev pub decreases-operations : goal.decreases-operations
decreases-operations l = 64 * (64 - l.depth) + 10

abbrev pub decreases-expression : goal.decreases-expression
decreases-expression l = 64 * (64 - l.spot.depth) + 11

abbrev pub decreases-value : goal.decreases-value
decreases-value l = 64 * (64 - l.depth) + 12

abbrev pub decreases-further_arg : goal.decreases-further_arg
decreases-further_arg l = 64 * (64 - l.calling.depth) + 13

abbrev pub decreases-more_args : goal.decreases-more_args
decreases-more_args l = 64 * (64 - l.calling.depth) + 14

abbrev pub decreases-some_args : goal.decreases-some_args
decreases-some_args l = 64 * (64 - l.calling.depth) + 15

abbrev pub decreases-any_args : goal.decreases-any_args
decreases-any_args l = 64 * (64 - l.calling.depth) + 16

abbrev pub decreases-listed : goal.decreases-listed
decreases-listed l = 64 * (64 - l.calling.depth) + 17

abbrev pub decreases-arguments : goal.decreases-arguments
decreases-arguments l = 64 * (64 - l.calling.depth) + 17

abbrev pub decreases-looked_place : goal.decreases-looked_place
decreases-looked_place l = 64 * (64 - l.depth) + 4

abbrev pub decreases-second : goal.decreases-second
decreases-second l = 64 * (64 - l.depth) + 13

abbrev pub decreases-looked_rest : goal.decreases-looked_rest
decreases-looked_rest l = 64 * (64 - l.depth) + 14

abbrev pub decreases-looking : goal.decreases-looking
decreases-looking l = 64 * (64 - l.depth) + 15

abbrev pub decreases-ordered_global : goal.decreases-ordered_global
decreases-ordered_global l = 64 * (64 - l.depth) + 1

abbrev pub decreases-ordered : goal.decreases-ordered
decreases-ordered l = 64 * (64 - l.depth) + 2

abbrev pub decreases-ordering : goal.decreases-ordering
decreases-ordering l = 64 * (64 - l.depth) + 3

abbrev pub decreases-nested_inside : goal.decreases-nested_inside
decreases-nested_inside l = 64 * (64 - l.depth) + 12

abbrev pub decreases-nested_listed : goal.decreases-nested_listed
decreases-nested_listed l = 64 * (64 - l.depth) + 18

abbrev pub decreases-nested_arguments : goal.decreases-nested_arguments
decreases-nested_arguments l = 64 * (64 - l.calling.depth) + 18

abbrev pub decreases-nested_looking : goal.decreases-nested_looking
decreases-nested_looking l = 64 * (64 - l.depth) + 16

abbrev pub decreases-nested_ordering : goal.decreases-nested_ordering
decreases-nested_ordering l = 64 * (64 - l.depth) + 4

abbrev pub invariant-members-turns : goal.invariant-members-turns
invariant-members-turns l =
    many tongue (is k.Dot) (λ x. read further_member (l.depth, x)) l.found l.cursor ≡ many tongue (is k.Dot) (λ x. read further_member (l.depth, x)) [] l.initial.cursor

abbrev pub decreases-members-turns : goal.decreases-members-turns
decreases-members-turns l = length l.cursor

abbrev pub invariant-operations-turns : goal.invariant-operations-turns
invariant-operations-turns l =
    many tongue (is_operator) (λ x. read further_operation (l.depth, x)) l.found l.cursor ≡ many tongue (is_operator) (λ x. read further_operation (l.depth, x)) [] l.initial.cursor

abbrev pub decreases-operations-turns : goal.decreases-operations-turns
decreases-operations-turns l = length l.cursor

abbrev pub invariant-more_args-turns : goal.invariant-more_args-turns
invariant-more_args-turns l =
    many tongue (is k.Comma) (λ x. read further_arg (l.calling, x)) l.found l.cursor ≡ many tongue (is k.Comma) (λ x. read further_arg (l.calling, x)) l.initial.found l.initial.cursor

abbrev pub decreases-more_args-turns : goal.decreases-more_args-turns
decreases-more_args-turns l = length l.cursor
