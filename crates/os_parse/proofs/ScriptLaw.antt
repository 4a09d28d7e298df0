-- What is read is what the grammar says.
use Rattle.std.proofs.Common.{◌≡◌, true, List, Result, Ok, Err, inl, inr, refl, ap, ◌∙◌}
use Rattle.text_reading.specs.declared.stop.Stop.{Stop}
use Rattle.text_reading.specs.declared.stop.Stop.TheVariants.{Refused}
use Rattle.text_reading.specs.Places.{Placed}
use Rattle.text_reading.specs.Grammar.{none_free, all_free, free_by}
use Rattle.text_reading.specs.Reading.{IsReading, whole, Gives}
use Rattle.text_reading.proofs.PhraseShape.{may_be_empty, begins, stops}
use Rattle.text_reading.proofs.PhraseLaw.{is_reading}
use Rattle.script_tokens.specs.declared.error.ScriptWhy.{ScriptWhy}
use Rattle.script_tokens.specs.ScriptKinds.{same_kind}
use Rattle.script_tokens.specs.ScriptLex.{script_tokens}
use Rattle.script_tokens.specs.ScriptTongue.{tongue}
use Rattle.script_tokens.proofs.AllKinds.{all_kinds}
use Rattle.os_kinds.specs.declared.command.Command.{Command}
use Rattle.os_expressions.specs.ScriptGrammar.{grammar, Script, read, variable, member_name, class_name, global_name, opens, subscripts, args, args_given, counted_args, looking_args, ordering_args, subscripts_given, global, some_place, member, number, string, special, parens, function_word, function, looking_word, looked_args, looking_function, order_function, class_call, own, called, place_value, uncalled, primary, further_member, members, one_sign, signs, unsigned, operand, operator, further_operation, operations, expression, value, comma, close_args, further_arg, more_args, some_args, any_args, listed, arguments, miscount, closing, missing_place, looked_place, second_comma, second, looked_rest, looking, ordered_global, missing_global, ordered, ordering, further_name, first_name, more_names, names, called_member, called_members, some_called, own_method, own_property, own_callee, own_called, called_callee, uncalled_callee, callee, call, called_step, path_step, path_rest, property_path, place_property, place_target, own_path, own_target, object_target, some_target, assignment, further_assignment, more_assignments, assignments, some_output, further_output, more_outputs, outputs, further_call, more_calls, calls, further_place, more_places, places, shared, after_colon, asked, given_back, added, claim, further_claim, more_claims, claims, further_condition, more_conditions, conditions, word, quit_value, quit_action, kill_action, lock_action, rollback_action, set_command, write_command, do_command, quit_command, kill_command, lock_command, start_command, commit_command, rollback_command, halt_command, unknown_command, tran_command, simple_command, newline, newlines, braces, block, branch, further_branch, more_branches, branches, otherwise, if_command, counting, counting_given, for_command, while_command, lined_command, command, further_command, commands, script}
use Rattle.os_expressions.proofs.GrammarFits.{grammar_fits, rule_fits}
use Rattle.os_parse.specs.declared.error.ScriptError.{ScriptError}
use Rattle.os_parse.specs.declared.error.ScriptError.TheVariants.{BadScript, NoMemory}
use Rattle.os_parse.specs.ScriptReading.{top, Scripts, IsRead, IsScript}

ends_at_end : stops script tongue.end ≡ true
unfolding may_be_empty begins stops same_kind variable member_name class_name global_name opens subscripts args args_given counted_args looking_args ordering_args subscripts_given global some_place member number string special parens function_word function looking_word looked_args looking_function order_function class_call own called place_value uncalled primary further_member members one_sign signs unsigned operand operator further_operation operations expression value comma close_args further_arg more_args some_args any_args listed arguments miscount closing missing_place looked_place second_comma second looked_rest looking ordered_global missing_global ordered ordering further_name first_name more_names names called_member called_members some_called own_method own_property own_callee own_called called_callee uncalled_callee callee call called_step path_step path_rest property_path place_property place_target own_path own_target object_target some_target assignment further_assignment more_assignments assignments some_output further_output more_outputs outputs further_call more_calls calls further_place more_places places shared after_colon asked given_back added claim further_claim more_claims claims further_condition more_conditions conditions word quit_value quit_action kill_action lock_action rollback_action set_command write_command do_command quit_command kill_command lock_command start_command commit_command rollback_command halt_command unknown_command tran_command simple_command newline newlines braces block branch further_branch more_branches branches otherwise if_command counting counting_given for_command while_command lined_command command further_command commands script
ends_at_end = refl

-- against the grammar, for what the parser of the clause above answers
parsed : (p : Placed) (result : Result (List Command) (Stop ScriptWhy))
    → Gives result (whole tongue (read script (top p)) (script_tokens p.text))
    → IsReading tongue (Scripts none_free p) (λ w. Scripts (free_by w) p) (Scripts all_free p) (script_tokens p.text) result
parsed p result g = is_reading tongue all_kinds grammar grammar_fits script (rule_fits Script) ends_at_end (top p) (script_tokens p.text) result g

pub grammar_is : (p : Placed) (result : Result (List Command) ScriptError) → IsRead p result → IsScript p result
grammar_is p (Ok found) e =
    let one = parsed p (Ok found) e in
    record {
      found = λ commands is. let same : found ≡ commands = cc in one.found commands (ap Ok same);
      only = λ commands l. elim (one.only commands l) [ inl is ↦ let same : found ≡ commands = cc in inl (ap Ok same) | inr is ↦ absurd (cc) ];
      refused = λ line column why is. absurd (cc);
    }
grammar_is p (Err NoMemory) e = record { found = λ commands is. absurd (cc); only = λ commands l. inr refl; refused = λ line column why is. absurd (cc) }
grammar_is p (Err (BadScript line column why)) e =
    let one = parsed p (Err (Refused e.0)) e.1 in
    record {
      found = λ commands is. absurd (cc);
      only = λ commands l. elim (one.only commands l) [ inl is ↦ absurd (cc) | inr is ↦ absurd (cc) ];
      refused = λ l c w is.
          let lines : line ≡ l = cc in
          let columns : column ≡ c = cc in
          let whys : why ≡ w = cc in
          (e.0, (e.2.0 ∙ whys, e.2.1 ∙ lines, e.2.2 ∙ columns), one.refused e.0 refl);
    }
