-- The turns of the loops that read calls and targets.
use Rattle.std.proofs.Common.{ℕ, refl}
use Rattle.text_reading.specs.Phrases.{With, parser}
use Rattle.text_reading.proofs.PhraseShape.{fits, may_be_empty, begins, stops, is_some, some_kind}
use Rattle.text_reading.proofs.PhraseLoops.{TurnLaws, turn_laws}
use Rattle.script_tokens.specs.declared.token.Kind.TheVariants as k
use Rattle.script_tokens.specs.ScriptKinds.{is, same_kind}
use Rattle.script_tokens.specs.ScriptTongue.{tongue}
use Rattle.script_tokens.proofs.AllKinds.{all_kinds}
use Rattle.os_expressions.specs.declared.given.Path.{Path}
use Rattle.os_expressions.proofs.GrammarFits.{grammar_fits}
use Rattle.os_expressions.specs.ScriptGrammar.{grammar, read, goes_on, variable, member_name, class_name, global_name, opens, subscripts, args, args_given, counted_args, looking_args, ordering_args, subscripts_given, global, some_place, member, number, string, special, parens, function_word, function, looking_word, looked_args, looking_function, order_function, class_call, own, called, place_value, uncalled, primary, further_member, members, one_sign, signs, unsigned, operand, operator, further_operation, operations, expression, value, comma, close_args, further_arg, more_args, some_args, any_args, listed, arguments, miscount, closing, missing_place, looked_place, second_comma, second, looked_rest, looking, ordered_global, missing_global, ordered, ordering, further_name, first_name, more_names, names, called_member, called_members, some_called, own_method, own_property, own_callee, own_called, called_callee, uncalled_callee, callee, call, called_step, path_step}

pub names_turns : TurnLaws tongue (is k.Dot) (λ x. read further_name x)
unfolding fits may_be_empty begins stops is_some some_kind same_kind variable member_name class_name global_name opens subscripts args args_given counted_args looking_args ordering_args subscripts_given global some_place member number string special parens function_word function looking_word looked_args looking_function order_function class_call own called place_value uncalled primary further_member members one_sign signs unsigned operand operator further_operation operations expression value comma close_args further_arg more_args some_args any_args listed arguments miscount closing missing_place looked_place second_comma second looked_rest looking ordered_global missing_global ordered ordering further_name parser
names_turns = turn_laws tongue all_kinds grammar grammar_fits (is k.Dot) (With (λ (j : Unit {0} × Path). j.1) further_name) refl refl refl tt

pub called_turns : (i : ℕ) → TurnLaws tongue (is k.Dot) (λ x. read called_member (i, x))
unfolding fits may_be_empty begins stops is_some some_kind same_kind variable member_name class_name global_name opens subscripts args args_given counted_args looking_args ordering_args subscripts_given global some_place member number string special parens function_word function looking_word looked_args looking_function order_function class_call own called place_value uncalled primary further_member members one_sign signs unsigned operand operator further_operation operations expression value comma close_args further_arg more_args some_args any_args listed arguments miscount closing missing_place looked_place second_comma second looked_rest looking ordered_global missing_global ordered ordering further_name first_name more_names names called_member
called_turns i = turn_laws tongue all_kinds grammar grammar_fits (is k.Dot) called_member refl refl refl i

pub path_turns : (i : ℕ) → TurnLaws tongue (goes_on) (λ x. read path_step (i, x))
unfolding fits may_be_empty begins stops is_some some_kind same_kind variable member_name class_name global_name opens subscripts args args_given counted_args looking_args ordering_args subscripts_given global some_place member number string special parens function_word function looking_word looked_args looking_function order_function class_call own called place_value uncalled primary further_member members one_sign signs unsigned operand operator further_operation operations expression value comma close_args further_arg more_args some_args any_args listed arguments miscount closing missing_place looked_place second_comma second looked_rest looking ordered_global missing_global ordered ordering further_name first_name more_names names called_member called_members some_called own_method own_property own_callee own_called called_callee uncalled_callee callee call called_step path_step
path_turns i = turn_laws tongue all_kinds grammar grammar_fits (goes_on) path_step refl refl refl i
