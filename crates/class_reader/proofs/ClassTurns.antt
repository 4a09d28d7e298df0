-- The turns of the loops that read class files.
use Rattle.std.proofs.Common.{Bool, List, refl}
use Rattle.text_reading.specs.Tokens.{Bytes}
use Rattle.text_reading.specs.Places.{Placed}
use Rattle.text_reading.specs.Phrases.{With, parser, plain}
use Rattle.text_reading.proofs.PhraseShape.{fits, may_be_empty, begins, stops, is_some, some_kind}
use Rattle.text_reading.proofs.PhraseLaw.{plain_fits}
use Rattle.text_reading.proofs.PhraseLoops.{TurnLaws, turn_laws}
use Rattle.class_tokens.specs.declared.token.Kind.TheVariants as k
use Rattle.class_tokens.specs.ClassKinds.{is, same_kind, is_name, is_word, is_own_word, is_member_word}
use Rattle.class_tokens.specs.ClassTongue.{tongue}
use Rattle.class_tokens.proofs.AllKinds.{all_kinds}
use Rattle.class_reader.specs.declared.keys.Section.{Section}
use Rattle.obj_kinds.specs.declared.name.ClassName.{ClassName}
use Rattle.schema_kinds.specs.declared.method.Arg.{Arg}
use Rattle.schema_kinds.specs.declared.tree.ClassTree.{ClassTree}
use Rattle.class_reader.specs.declared.keys.Bounds.{Bounds}
use Rattle.class_reader.specs.ClassTrees.{Site}
use Rattle.class_reader.specs.ClassGrammar.{read, name, fresh, class_word, name_dot, further_word, dotted, name_rest, class_name, own_word, own_name, number, string, minus, negative, literal, block, value_word, named_rest, named_value, value, given_value, key_word, not_word, negated_key, one_key, keyword, key_comma, key_close, further_key, more_keys, all_keys, bracketed_keys, keywords, bound_word, one_bound, further_bound, more_bounds, all_bounds, bounds, bounds_given, word_of, collection, formed, as_type, type_given, opens, property, relation, comma_within, further_prop, more_props, one_prop, listed_props, index_props, index, result_type, skipped_value, parameter, storage, default, argument, further_arg, more_args, some_args, args_within, args, body, method, left_out, last_member, method_member, index_member, member, members, one_super, further_super, more_supers, first_super, listed_supers, supers, supers_given, class_rest, one_class, classes}

pub dots : (bars : Bool) → TurnLaws tongue (is k.Dot) (λ x. read dotted (bars, x))
unfolding fits may_be_empty begins stops is_some some_kind same_kind is_name is_word is_own_word dotted name_dot further_word
dots bars = turn_laws tongue all_kinds plain (plain_fits tongue all_kinds) (is k.Dot) dotted refl refl refl bars

pub keys : (section : Section) → TurnLaws tongue (is k.Comma) (λ x. read further_key (section, x))
unfolding fits may_be_empty begins stops is_some some_kind same_kind is_name is_word is_own_word further_key key_comma keyword one_key negated_key not_word key_word value named_value value_word named_rest name_rest dotted name_dot further_word block literal number string negative minus given_value
keys section = turn_laws tongue all_kinds plain (plain_fits tongue all_kinds) (is k.Comma) further_key refl refl refl section

pub bounds_turns : TurnLaws tongue (is k.Comma) (λ x. read further_bound x)
unfolding parser fits may_be_empty begins stops is_some some_kind same_kind is_name is_word is_own_word further_bound one_bound bound_word literal number string negative minus
bounds_turns = turn_laws tongue all_kinds plain (plain_fits tongue all_kinds) (is k.Comma) (With (λ (j : Unit {0} × Bounds). j.1) further_bound) refl refl refl tt

pub props_turns : TurnLaws tongue (is k.Comma) (λ x. read further_prop x)
unfolding parser fits may_be_empty begins stops is_some some_kind same_kind is_name is_word is_own_word further_prop comma_within name
props_turns = turn_laws tongue all_kinds plain (plain_fits tongue all_kinds) (is k.Comma) (With (λ (j : Unit {0} × List Bytes). j.1) further_prop) refl refl refl tt

pub args_turns : TurnLaws tongue (is k.Comma) (λ x. read further_arg x)
unfolding parser fits may_be_empty begins stops is_some some_kind same_kind is_name is_word is_own_word further_arg args args_within some_args argument name result_type class_name class_word name_rest dotted name_dot further_word default literal number string negative minus more_args comma_within
args_turns = turn_laws tongue all_kinds plain (plain_fits tongue all_kinds) (is k.Comma) (With (λ (j : Unit {0} × List Arg). j.1) further_arg) refl refl refl tt

pub supers_turns : (home : Bytes) → TurnLaws tongue (is k.Comma) (λ x. read further_super (home, x))
unfolding fits may_be_empty begins stops is_some some_kind same_kind is_name is_word is_own_word further_super name one_super class_name class_word name_rest dotted name_dot further_word
supers_turns home = turn_laws tongue all_kinds plain (plain_fits tongue all_kinds) (is k.Comma) further_super refl refl refl home

pub members_turns : (site : Site) → TurnLaws tongue (is_member_word) (λ x. read member (site, x))
unfolding fits may_be_empty begins stops is_some some_kind same_kind is_name is_word is_own_word member property opens fresh type_given as_type formed collection word_of name class_name class_word name_rest dotted name_dot further_word bounds_given bounds all_bounds one_bound bound_word literal number string negative minus more_bounds further_bound keywords bracketed_keys all_keys keyword one_key negated_key not_word key_word value named_value value_word named_rest block given_value more_keys further_key key_comma key_close relation index_member index index_props listed_props one_prop more_props further_prop comma_within parameter result_type skipped_value method_member method args args_within some_args argument default more_args further_arg body last_member storage left_out
members_turns site = turn_laws tongue all_kinds plain (plain_fits tongue all_kinds) (is_member_word) member refl refl refl site

pub classes_turns : (text : Placed) → TurnLaws tongue (is k.Class) (λ x. read one_class (text, x))
unfolding fits may_be_empty begins stops is_some some_kind same_kind is_name is_word is_own_word one_class opens own_name own_word dotted name_dot further_word name_rest class_rest supers_given supers listed_supers first_super name one_super class_name class_word more_supers further_super keywords bracketed_keys all_keys keyword one_key negated_key not_word key_word value named_value value_word named_rest block literal number string negative minus given_value more_keys further_key key_comma key_close members member property fresh type_given as_type formed collection word_of bounds_given bounds all_bounds one_bound bound_word more_bounds further_bound relation index_member index index_props listed_props one_prop more_props further_prop comma_within parameter result_type skipped_value method_member method args args_within some_args argument default more_args further_arg body last_member storage left_out
classes_turns text = turn_laws tongue all_kinds plain (plain_fits tongue all_kinds) (is k.Class) one_class refl refl refl text
