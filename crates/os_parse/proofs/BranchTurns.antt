-- The turns of the loop that reads branches.
use Rattle.std.proofs.Common.{refl}
use Rattle.text_reading.proofs.PhraseShape.{fits, may_be_empty, begins, stops, is_some, some_kind}
use Rattle.text_reading.proofs.PhraseLoops.{TurnLaws, turn_laws}
use Rattle.script_tokens.specs.declared.token.Kind.TheVariants as k
use Rattle.script_tokens.specs.ScriptKinds.{is, same_kind}
use Rattle.script_tokens.specs.ScriptTongue.{tongue}
use Rattle.script_tokens.proofs.AllKinds.{all_kinds}
use Rattle.os_expressions.specs.Trees.{Site}
use Rattle.os_expressions.proofs.GrammarFits.{grammar_fits}
use Rattle.os_expressions.specs.ScriptGrammar.{grammar, read, variable, member_name, class_name, global_name, opens, subscripts, args, args_given, counted_args, looking_args, ordering_args, subscripts_given, global, some_place, member, number, string, special, parens, function_word, function, looking_word, looked_args, looking_function, order_function, class_call, own, called, place_value, uncalled, primary, further_member, members, one_sign, signs, unsigned, operand, operator, further_operation, operations, expression, value, comma, close_args, further_arg, more_args, some_args, any_args, listed, arguments, miscount, closing, missing_place, looked_place, second_comma, second, looked_rest, looking, ordered_global, missing_global, ordered, ordering, further_name, first_name, more_names, names, called_member, called_members, some_called, own_method, own_property, own_callee, own_called, called_callee, uncalled_callee, callee, call, called_step, path_step, path_rest, property_path, place_property, place_target, own_path, own_target, object_target, some_target, assignment, further_assignment, more_assignments, assignments, some_output, further_output, more_outputs, outputs, further_call, more_calls, calls, further_place, more_places, places, shared, after_colon, asked, given_back, added, claim, further_claim, more_claims, claims, further_condition, more_conditions, conditions, word, quit_value, quit_action, kill_action, lock_action, rollback_action, set_command, write_command, do_command, quit_command, kill_command, lock_command, start_command, commit_command, rollback_command, halt_command, unknown_command, tran_command, simple_command, newline, newlines, braces, block, branch, further_branch}

pub branches_turns : (i : Site) → TurnLaws tongue (is k.ElseIf) (λ x. read further_branch (i, x))
unfolding fits may_be_empty begins stops is_some some_kind same_kind variable member_name class_name global_name opens subscripts args args_given counted_args looking_args ordering_args subscripts_given global some_place member number string special parens function_word function looking_word looked_args looking_function order_function class_call own called place_value uncalled primary further_member members one_sign signs unsigned operand operator further_operation operations expression value comma close_args further_arg more_args some_args any_args listed arguments miscount closing missing_place looked_place second_comma second looked_rest looking ordered_global missing_global ordered ordering further_name first_name more_names names called_member called_members some_called own_method own_property own_callee own_called called_callee uncalled_callee callee call called_step path_step path_rest property_path place_property place_target own_path own_target object_target some_target assignment further_assignment more_assignments assignments some_output further_output more_outputs outputs further_call more_calls calls further_place more_places places shared after_colon asked given_back added claim further_claim more_claims claims further_condition more_conditions conditions word quit_value quit_action kill_action lock_action rollback_action set_command write_command do_command quit_command kill_command lock_command start_command commit_command rollback_command halt_command unknown_command tran_command simple_command newline newlines braces block branch further_branch
branches_turns i = turn_laws tongue all_kinds grammar grammar_fits (is k.ElseIf) further_branch refl refl refl i
