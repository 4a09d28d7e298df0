-- What is read is what the grammar says.
use Rattle.std.proofs.Common.{◌≡◌, true, List, Result, Ok, Err, inl, inr, refl, ap, ◌∙◌}
use Rattle.schema_kinds.specs.declared.tree.ClassTree.{ClassTree}
use Rattle.text_reading.specs.declared.stop.Stop.{Stop}
use Rattle.text_reading.specs.declared.stop.Stop.TheVariants.{Refused}
use Rattle.text_reading.specs.Tokens.{Bytes}
use Rattle.text_reading.specs.Places.{whole_text}
use Rattle.text_reading.specs.Grammar.{none_free, all_free, free_by}
use Rattle.text_reading.specs.Reading.{IsReading, whole, Gives}
use Rattle.text_reading.specs.Phrases.{plain}
use Rattle.text_reading.proofs.PhraseShape.{fits, may_be_empty, begins, stops, is_some, some_kind}
use Rattle.text_reading.proofs.PhraseLaw.{plain_fits, is_reading}
use Rattle.class_tokens.specs.declared.error.ClassWhy.{ClassWhy}
use Rattle.class_tokens.specs.ClassKinds.{same_kind, is_name, is_word, is_own_word}
use Rattle.class_tokens.specs.ClassLex.{file_tokens}
use Rattle.class_tokens.specs.ClassTongue.{tongue}
use Rattle.class_tokens.proofs.AllKinds.{all_kinds}
use Rattle.class_reader.specs.declared.error.ReadError.{ReadError}
use Rattle.class_reader.specs.declared.error.ReadError.TheVariants.{BadClass, NoMemory}
use Rattle.class_reader.specs.ClassGrammar.{read, Classes, name, fresh, class_word, name_dot, further_word, dotted, name_rest, class_name, own_word, own_name, number, string, minus, negative, literal, block, value_word, named_rest, named_value, value, given_value, key_word, not_word, negated_key, one_key, keyword, key_comma, key_close, further_key, more_keys, all_keys, bracketed_keys, keywords, bound_word, one_bound, further_bound, more_bounds, all_bounds, bounds, bounds_given, word_of, collection, formed, as_type, type_given, opens, property, relation, comma_within, further_prop, more_props, one_prop, listed_props, index_props, index, result_type, skipped_value, parameter, storage, default, argument, further_arg, more_args, some_args, args_within, args, body, method, left_out, last_member, method_member, index_member, member, members, one_super, further_super, more_supers, first_super, listed_supers, supers, supers_given, class_rest, one_class, classes}
use Rattle.class_reader.specs.ClassReading.{IsRead, IsClassFile}

-- the grammar fits together: a test of all kinds of token
classes_fit : fits tongue all_kinds.list classes ≡ true
unfolding fits may_be_empty begins stops is_some some_kind same_kind is_name is_word is_own_word name fresh class_word name_dot further_word dotted name_rest class_name own_word own_name number string minus negative literal block value_word named_rest named_value value given_value key_word not_word negated_key one_key keyword key_comma key_close further_key more_keys all_keys bracketed_keys keywords bound_word one_bound further_bound more_bounds all_bounds bounds bounds_given word_of collection formed as_type type_given opens property relation comma_within further_prop more_props one_prop listed_props index_props index result_type skipped_value parameter storage default argument further_arg more_args some_args args_within args body method left_out last_member method_member index_member member members one_super further_super more_supers first_super listed_supers supers supers_given class_rest one_class classes
classes_fit = refl

classes_end : stops classes tongue.end ≡ true
unfolding may_be_empty begins stops same_kind is_name is_word is_own_word name fresh class_word name_dot further_word dotted name_rest class_name own_word own_name number string minus negative literal block value_word named_rest named_value value given_value key_word not_word negated_key one_key keyword key_comma key_close further_key more_keys all_keys bracketed_keys keywords bound_word one_bound further_bound more_bounds all_bounds bounds bounds_given word_of collection formed as_type type_given opens property relation comma_within further_prop more_props one_prop listed_props index_props index result_type skipped_value parameter storage default argument further_arg more_args some_args args_within args body method left_out last_member method_member index_member member members one_super further_super more_supers first_super listed_supers supers supers_given class_rest one_class classes
classes_end = refl

-- against the grammar, for what the parser of the clause above answers
parsed : (text : Bytes) (result : Result (List ClassTree) (Stop ClassWhy))
    → Gives result (whole tongue (read classes (whole_text text)) (file_tokens text))
    → IsReading tongue (Classes none_free text) (λ n. Classes (free_by n) text) (Classes all_free text) (file_tokens text) result
parsed text result g =
    is_reading tongue all_kinds plain (plain_fits tongue all_kinds) classes classes_fit classes_end (whole_text text) (file_tokens text) result g

pub grammar_is : (text : Bytes) (result : Result (List ClassTree) ReadError) → IsRead text result → IsClassFile text result
grammar_is text (Ok trees) e =
    let one = parsed text (Ok trees) e in
    record {
      found = λ found is. let same : trees ≡ found = cc in one.found found (ap Ok same);
      only = λ found l. elim (one.only found l) [ inl is ↦ let same : trees ≡ found = cc in inl (ap Ok same) | inr is ↦ absurd (cc) ];
      refused = λ line column why is. absurd (cc);
    }
grammar_is text (Err NoMemory) e = record { found = λ found is. absurd (cc); only = λ found l. inr refl; refused = λ line column why is. absurd (cc) }
grammar_is text (Err (BadClass line column why)) e =
    let one = parsed text (Err (Refused e.0)) e.1 in
    record {
      found = λ found is. absurd (cc);
      only = λ found l. elim (one.only found l) [ inl is ↦ absurd (cc) | inr is ↦ absurd (cc) ];
      refused = λ l c w is.
          let lines : line ≡ l = cc in
          let columns : column ≡ c = cc in
          let whys : why ≡ w = cc in
          (e.0, (e.2.0 ∙ whys, e.2.1 ∙ lines, e.2.2 ∙ columns), one.refused e.0 refl);
    }
