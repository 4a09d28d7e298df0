-- The turns of the loops that read expressions.
use Rattle.std.proofs.Common.{ℕ, Bool, refl}
use Rattle.text_reading.proofs.PhraseShape.{fits, may_be_empty, begins, stops, is_some, some_kind}
use Rattle.text_reading.proofs.PhraseLoops.{TurnLaws, turn_laws}
use Rattle.script_tokens.specs.declared.token.Kind.TheVariants as k
use Rattle.script_tokens.specs.ScriptKinds.{is, same_kind, is_operator, is_sign}
use Rattle.script_tokens.specs.ScriptTongue.{tongue}
use Rattle.script_tokens.proofs.AllKinds.{all_kinds}
use Rattle.os_expressions.specs.declared.given.Calling.{Calling}
use Rattle.os_expressions.proofs.GrammarFits.{grammar_fits}
use Rattle.os_expressions.specs.ScriptGrammar.{grammar, read, variable, member_name, class_name, global_name, opens, subscripts, args, args_given, counted_args, looking_args, ordering_args, subscripts_given, global, some_place, member, number, string, special, parens, function_word, function, looking_word, looked_args, looking_function, order_function, class_call, own, called, place_value, uncalled, primary, further_member, members, one_sign, signs, unsigned, operand, operator, further_operation, operations, expression, value, comma, close_args, further_arg, more_args, some_args, any_args, listed, arguments, miscount, closing, missing_place, looked_place, second_comma, second, looked_rest, looking, ordered_global, missing_global, ordered, ordering}

pub members_turns : (d : ℕ) → TurnLaws tongue (is k.Dot) (λ x. read further_member (d, x))
unfolding fits may_be_empty begins stops is_some some_kind same_kind variable member_name class_name global_name opens subscripts args args_given counted_args looking_args ordering_args subscripts_given global some_place member number string special parens function_word function looking_word looked_args looking_function order_function class_call own called place_value uncalled primary further_member members one_sign signs unsigned operand operator further_operation operations expression value comma close_args further_arg more_args some_args any_args listed arguments miscount closing missing_place looked_place second_comma second looked_rest looking ordered_global missing_global ordered ordering
members_turns d = turn_laws tongue all_kinds grammar grammar_fits (is k.Dot) further_member refl refl refl d

pub operations_turns : (d : ℕ) → TurnLaws tongue (is_operator) (λ x. read further_operation (d, x))
unfolding fits may_be_empty begins stops is_some some_kind same_kind variable member_name class_name global_name opens subscripts args args_given counted_args looking_args ordering_args subscripts_given global some_place member number string special parens function_word function looking_word looked_args looking_function order_function class_call own called place_value uncalled primary further_member members one_sign signs unsigned operand operator further_operation operations expression value comma close_args further_arg more_args some_args any_args listed arguments miscount closing missing_place looked_place second_comma second looked_rest looking ordered_global missing_global ordered ordering
operations_turns d = turn_laws tongue all_kinds grammar grammar_fits (is_operator) further_operation refl refl refl d

pub args_turns : (c : Calling) → TurnLaws tongue (is k.Comma) (λ x. read further_arg (c, x))
unfolding fits may_be_empty begins stops is_some some_kind same_kind variable member_name class_name global_name opens subscripts args args_given counted_args looking_args ordering_args subscripts_given global some_place member number string special parens function_word function looking_word looked_args looking_function order_function class_call own called place_value uncalled primary further_member members one_sign signs unsigned operand operator further_operation operations expression value comma close_args further_arg more_args some_args any_args listed arguments miscount closing missing_place looked_place second_comma second looked_rest looking ordered_global missing_global ordered ordering
args_turns c = turn_laws tongue all_kinds grammar grammar_fits (is k.Comma) further_arg refl refl refl c

pub signs_turns : (b : Bool) → TurnLaws tongue (is_sign) (λ x. read one_sign (b, x))
unfolding fits may_be_empty begins stops is_some some_kind same_kind variable member_name class_name global_name opens subscripts args args_given counted_args looking_args ordering_args subscripts_given global some_place member number string special parens function_word function looking_word looked_args looking_function order_function class_call own called place_value uncalled primary further_member members one_sign signs unsigned operand operator further_operation operations expression value comma close_args further_arg more_args some_args any_args listed arguments miscount closing missing_place looked_place second_comma second looked_rest looking ordered_global missing_global ordered ordering
signs_turns b = turn_laws tongue all_kinds grammar grammar_fits (is_sign) one_sign refl refl refl b
