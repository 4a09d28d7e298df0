-- The grammar of scripts fits together: a test of all kinds of token.
use Rattle.std.proofs.Common.{◌≡◌, true, refl}
use Rattle.text_reading.proofs.PhraseShape.{may_be_empty, begins, stops, is_some, fits, some_kind}
use Rattle.text_reading.proofs.PhraseLaw.{Fits, some_at}
use Rattle.text_reading.proofs.KindTests.{each, implies}
use Rattle.script_tokens.specs.ScriptKinds.{same_kind}
use Rattle.script_tokens.specs.ScriptTongue.{tongue}
use Rattle.script_tokens.proofs.AllKinds.{all_kinds}
use Rattle.os_expressions.specs.ScriptGrammar.{Rule, Inside, Listed, Arguments, Looking, Ordering, Script, grammar, rule, variable, member_name, class_name, global_name, opens, subscripts, args, args_given, counted_args, looking_args, ordering_args, subscripts_given, global, some_place, member, number, string, special, parens, function_word, function, looking_word, looked_args, looking_function, order_function, class_call, own, called, place_value, uncalled, primary, further_member, members, one_sign, signs, unsigned, operand, operator, further_operation, operations, expression, value, comma, close_args, further_arg, more_args, some_args, any_args, listed, arguments, miscount, closing, missing_place, looked_place, second_comma, second, looked_rest, looking, ordered_global, missing_global, ordered, ordering, further_name, first_name, more_names, names, called_member, called_members, some_called, own_method, own_property, own_callee, own_called, called_callee, uncalled_callee, callee, call, called_step, path_step, path_rest, property_path, place_property, place_target, own_path, own_target, object_target, some_target, assignment, further_assignment, more_assignments, assignments, some_output, further_output, more_outputs, outputs, further_call, more_calls, calls, further_place, more_places, places, shared, after_colon, asked, given_back, added, claim, further_claim, more_claims, claims, further_condition, more_conditions, conditions, word, quit_value, quit_action, kill_action, lock_action, rollback_action, set_command, write_command, do_command, quit_command, kill_command, lock_command, start_command, commit_command, rollback_command, halt_command, unknown_command, tran_command, simple_command, newline, newlines, braces, block, branch, further_branch, more_branches, branches, otherwise, if_command, counting, counting_given, for_command, while_command, lined_command, command, further_command, commands, script}

inside_fits : fits tongue all_kinds.list (rule Inside) ≡ true
unfolding fits may_be_empty begins stops is_some some_kind same_kind variable member_name class_name global_name opens subscripts args args_given counted_args looking_args ordering_args subscripts_given global some_place member number string special parens function_word function looking_word looked_args looking_function order_function class_call own called place_value uncalled primary further_member members one_sign signs unsigned operand operator further_operation operations expression value comma close_args further_arg more_args some_args any_args listed arguments miscount closing missing_place looked_place second_comma second looked_rest looking ordered_global missing_global ordered ordering
inside_fits = refl

inside_ends : each (λ h. implies (grammar.rules.ends Inside h) (stops (grammar.rule Inside) h)) all_kinds.list ≡ true
unfolding fits may_be_empty begins stops is_some some_kind same_kind variable member_name class_name global_name opens subscripts args args_given counted_args looking_args ordering_args subscripts_given global some_place member number string special parens function_word function looking_word looked_args looking_function order_function class_call own called place_value uncalled primary further_member members one_sign signs unsigned operand operator further_operation operations expression value comma close_args further_arg more_args some_args any_args listed arguments miscount closing missing_place looked_place second_comma second looked_rest looking ordered_global missing_global ordered ordering
inside_ends = refl

inside_some : some_at all_kinds grammar 1 Inside ≡ true
unfolding some_at fits may_be_empty begins stops is_some some_kind same_kind variable member_name class_name global_name opens subscripts args args_given counted_args looking_args ordering_args subscripts_given global some_place member number string special parens function_word function looking_word looked_args looking_function order_function class_call own called place_value uncalled primary further_member members one_sign signs unsigned operand operator further_operation operations expression value comma close_args further_arg more_args some_args any_args listed arguments miscount closing missing_place looked_place second_comma second looked_rest looking ordered_global missing_global ordered ordering
inside_some = refl

listed_fits : fits tongue all_kinds.list (rule Listed) ≡ true
unfolding fits may_be_empty begins stops is_some some_kind same_kind variable member_name class_name global_name opens subscripts args args_given counted_args looking_args ordering_args subscripts_given global some_place member number string special parens function_word function looking_word looked_args looking_function order_function class_call own called place_value uncalled primary further_member members one_sign signs unsigned operand operator further_operation operations expression value comma close_args further_arg more_args some_args any_args listed arguments miscount closing missing_place looked_place second_comma second looked_rest looking ordered_global missing_global ordered ordering
listed_fits = refl

listed_ends : each (λ h. implies (grammar.rules.ends Listed h) (stops (grammar.rule Listed) h)) all_kinds.list ≡ true
unfolding fits may_be_empty begins stops is_some some_kind same_kind variable member_name class_name global_name opens subscripts args args_given counted_args looking_args ordering_args subscripts_given global some_place member number string special parens function_word function looking_word looked_args looking_function order_function class_call own called place_value uncalled primary further_member members one_sign signs unsigned operand operator further_operation operations expression value comma close_args further_arg more_args some_args any_args listed arguments miscount closing missing_place looked_place second_comma second looked_rest looking ordered_global missing_global ordered ordering
listed_ends = refl

listed_some : some_at all_kinds grammar 1 Listed ≡ true
unfolding some_at fits may_be_empty begins stops is_some some_kind same_kind variable member_name class_name global_name opens subscripts args args_given counted_args looking_args ordering_args subscripts_given global some_place member number string special parens function_word function looking_word looked_args looking_function order_function class_call own called place_value uncalled primary further_member members one_sign signs unsigned operand operator further_operation operations expression value comma close_args further_arg more_args some_args any_args listed arguments miscount closing missing_place looked_place second_comma second looked_rest looking ordered_global missing_global ordered ordering
listed_some = refl

arguments_fits : fits tongue all_kinds.list (rule Arguments) ≡ true
unfolding fits may_be_empty begins stops is_some some_kind same_kind variable member_name class_name global_name opens subscripts args args_given counted_args looking_args ordering_args subscripts_given global some_place member number string special parens function_word function looking_word looked_args looking_function order_function class_call own called place_value uncalled primary further_member members one_sign signs unsigned operand operator further_operation operations expression value comma close_args further_arg more_args some_args any_args listed arguments miscount closing missing_place looked_place second_comma second looked_rest looking ordered_global missing_global ordered ordering
arguments_fits = refl

arguments_ends : each (λ h. implies (grammar.rules.ends Arguments h) (stops (grammar.rule Arguments) h)) all_kinds.list ≡ true
unfolding fits may_be_empty begins stops is_some some_kind same_kind variable member_name class_name global_name opens subscripts args args_given counted_args looking_args ordering_args subscripts_given global some_place member number string special parens function_word function looking_word looked_args looking_function order_function class_call own called place_value uncalled primary further_member members one_sign signs unsigned operand operator further_operation operations expression value comma close_args further_arg more_args some_args any_args listed arguments miscount closing missing_place looked_place second_comma second looked_rest looking ordered_global missing_global ordered ordering
arguments_ends = refl

arguments_some : some_at all_kinds grammar 1 Arguments ≡ true
unfolding some_at fits may_be_empty begins stops is_some some_kind same_kind variable member_name class_name global_name opens subscripts args args_given counted_args looking_args ordering_args subscripts_given global some_place member number string special parens function_word function looking_word looked_args looking_function order_function class_call own called place_value uncalled primary further_member members one_sign signs unsigned operand operator further_operation operations expression value comma close_args further_arg more_args some_args any_args listed arguments miscount closing missing_place looked_place second_comma second looked_rest looking ordered_global missing_global ordered ordering
arguments_some = refl

looking_fits : fits tongue all_kinds.list (rule Looking) ≡ true
unfolding fits may_be_empty begins stops is_some some_kind same_kind variable member_name class_name global_name opens subscripts args args_given counted_args looking_args ordering_args subscripts_given global some_place member number string special parens function_word function looking_word looked_args looking_function order_function class_call own called place_value uncalled primary further_member members one_sign signs unsigned operand operator further_operation operations expression value comma close_args further_arg more_args some_args any_args listed arguments miscount closing missing_place looked_place second_comma second looked_rest looking ordered_global missing_global ordered ordering
looking_fits = refl

looking_ends : each (λ h. implies (grammar.rules.ends Looking h) (stops (grammar.rule Looking) h)) all_kinds.list ≡ true
unfolding fits may_be_empty begins stops is_some some_kind same_kind variable member_name class_name global_name opens subscripts args args_given counted_args looking_args ordering_args subscripts_given global some_place member number string special parens function_word function looking_word looked_args looking_function order_function class_call own called place_value uncalled primary further_member members one_sign signs unsigned operand operator further_operation operations expression value comma close_args further_arg more_args some_args any_args listed arguments miscount closing missing_place looked_place second_comma second looked_rest looking ordered_global missing_global ordered ordering
looking_ends = refl

looking_some : some_at all_kinds grammar 1 Looking ≡ true
unfolding some_at fits may_be_empty begins stops is_some some_kind same_kind variable member_name class_name global_name opens subscripts args args_given counted_args looking_args ordering_args subscripts_given global some_place member number string special parens function_word function looking_word looked_args looking_function order_function class_call own called place_value uncalled primary further_member members one_sign signs unsigned operand operator further_operation operations expression value comma close_args further_arg more_args some_args any_args listed arguments miscount closing missing_place looked_place second_comma second looked_rest looking ordered_global missing_global ordered ordering
looking_some = refl

ordering_fits : fits tongue all_kinds.list (rule Ordering) ≡ true
unfolding fits may_be_empty begins stops is_some some_kind same_kind variable member_name class_name global_name opens subscripts args args_given counted_args looking_args ordering_args subscripts_given global some_place member number string special parens function_word function looking_word looked_args looking_function order_function class_call own called place_value uncalled primary further_member members one_sign signs unsigned operand operator further_operation operations expression value comma close_args further_arg more_args some_args any_args listed arguments miscount closing missing_place looked_place second_comma second looked_rest looking ordered_global missing_global ordered ordering
ordering_fits = refl

ordering_ends : each (λ h. implies (grammar.rules.ends Ordering h) (stops (grammar.rule Ordering) h)) all_kinds.list ≡ true
unfolding fits may_be_empty begins stops is_some some_kind same_kind variable member_name class_name global_name opens subscripts args args_given counted_args looking_args ordering_args subscripts_given global some_place member number string special parens function_word function looking_word looked_args looking_function order_function class_call own called place_value uncalled primary further_member members one_sign signs unsigned operand operator further_operation operations expression value comma close_args further_arg more_args some_args any_args listed arguments miscount closing missing_place looked_place second_comma second looked_rest looking ordered_global missing_global ordered ordering
ordering_ends = refl

ordering_some : some_at all_kinds grammar 1 Ordering ≡ true
unfolding some_at fits may_be_empty begins stops is_some some_kind same_kind variable member_name class_name global_name opens subscripts args args_given counted_args looking_args ordering_args subscripts_given global some_place member number string special parens function_word function looking_word looked_args looking_function order_function class_call own called place_value uncalled primary further_member members one_sign signs unsigned operand operator further_operation operations expression value comma close_args further_arg more_args some_args any_args listed arguments miscount closing missing_place looked_place second_comma second looked_rest looking ordered_global missing_global ordered ordering
ordering_some = refl

script_fits : fits tongue all_kinds.list (rule Script) ≡ true
unfolding fits may_be_empty begins stops is_some some_kind same_kind variable member_name class_name global_name opens subscripts args args_given counted_args looking_args ordering_args subscripts_given global some_place member number string special parens function_word function looking_word looked_args looking_function order_function class_call own called place_value uncalled primary further_member members one_sign signs unsigned operand operator further_operation operations expression value comma close_args further_arg more_args some_args any_args listed arguments miscount closing missing_place looked_place second_comma second looked_rest looking ordered_global missing_global ordered ordering further_name first_name more_names names called_member called_members some_called own_method own_property own_callee own_called called_callee uncalled_callee callee call called_step path_step path_rest property_path place_property place_target own_path own_target object_target some_target assignment further_assignment more_assignments assignments some_output further_output more_outputs outputs further_call more_calls calls further_place more_places places shared after_colon asked given_back added claim further_claim more_claims claims further_condition more_conditions conditions word quit_value quit_action kill_action lock_action rollback_action set_command write_command do_command quit_command kill_command lock_command start_command commit_command rollback_command halt_command unknown_command tran_command simple_command newline newlines braces block branch further_branch more_branches branches otherwise if_command counting counting_given for_command while_command lined_command command further_command commands script
script_fits = refl

script_ends : each (λ h. implies (grammar.rules.ends Script h) (stops (grammar.rule Script) h)) all_kinds.list ≡ true
unfolding fits may_be_empty begins stops is_some some_kind same_kind variable member_name class_name global_name opens subscripts args args_given counted_args looking_args ordering_args subscripts_given global some_place member number string special parens function_word function looking_word looked_args looking_function order_function class_call own called place_value uncalled primary further_member members one_sign signs unsigned operand operator further_operation operations expression value comma close_args further_arg more_args some_args any_args listed arguments miscount closing missing_place looked_place second_comma second looked_rest looking ordered_global missing_global ordered ordering further_name first_name more_names names called_member called_members some_called own_method own_property own_callee own_called called_callee uncalled_callee callee call called_step path_step path_rest property_path place_property place_target own_path own_target object_target some_target assignment further_assignment more_assignments assignments some_output further_output more_outputs outputs further_call more_calls calls further_place more_places places shared after_colon asked given_back added claim further_claim more_claims claims further_condition more_conditions conditions word quit_value quit_action kill_action lock_action rollback_action set_command write_command do_command quit_command kill_command lock_command start_command commit_command rollback_command halt_command unknown_command tran_command simple_command newline newlines braces block branch further_branch more_branches branches otherwise if_command counting counting_given for_command while_command lined_command command further_command commands script
script_ends = refl

script_some : some_at all_kinds grammar 1 Script ≡ true
unfolding some_at fits may_be_empty begins stops is_some some_kind same_kind variable member_name class_name global_name opens subscripts args args_given counted_args looking_args ordering_args subscripts_given global some_place member number string special parens function_word function looking_word looked_args looking_function order_function class_call own called place_value uncalled primary further_member members one_sign signs unsigned operand operator further_operation operations expression value comma close_args further_arg more_args some_args any_args listed arguments miscount closing missing_place looked_place second_comma second looked_rest looking ordered_global missing_global ordered ordering further_name first_name more_names names called_member called_members some_called own_method own_property own_callee own_called called_callee uncalled_callee callee call called_step path_step path_rest property_path place_property place_target own_path own_target object_target some_target assignment further_assignment more_assignments assignments some_output further_output more_outputs outputs further_call more_calls calls further_place more_places places shared after_colon asked given_back added claim further_claim more_claims claims further_condition more_conditions conditions word quit_value quit_action kill_action lock_action rollback_action set_command write_command do_command quit_command kill_command lock_command start_command commit_command rollback_command halt_command unknown_command tran_command simple_command newline newlines braces block branch further_branch more_branches branches otherwise if_command counting counting_given for_command while_command lined_command command further_command commands script
script_some = refl

pub rule_fits : (r : Rule) → fits tongue all_kinds.list (rule r) ≡ true
rule_fits Inside = inside_fits
rule_fits Listed = listed_fits
rule_fits Arguments = arguments_fits
rule_fits Looking = looking_fits
rule_fits Ordering = ordering_fits
rule_fits Script = script_fits

rule_ends : (r : Rule) → each (λ h. implies (grammar.rules.ends r h) (stops (grammar.rule r) h)) all_kinds.list ≡ true
rule_ends Inside = inside_ends
rule_ends Listed = listed_ends
rule_ends Arguments = arguments_ends
rule_ends Looking = looking_ends
rule_ends Ordering = ordering_ends
rule_ends Script = script_ends

rule_some : (r : Rule) → some_at all_kinds grammar 1 r ≡ true
rule_some Inside = inside_some
rule_some Listed = listed_some
rule_some Arguments = arguments_some
rule_some Looking = looking_some
rule_some Ordering = ordering_some
rule_some Script = script_some

pub grammar_fits : Fits tongue all_kinds grammar
grammar_fits = record { fit = rule_fits; ends = rule_ends; depth = 1; some = rule_some }
