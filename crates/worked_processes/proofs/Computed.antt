-- What the worked processes without objects show, by computation.
use Rattle.std.proofs.Common.{refl}
use Rattle.std.specs.Fmt.{digits}
use Rattle.obj_kinds.specs.Limits.{is_legal_text}
use Rattle.obj_kinds.specs.declared.value.Value as stored
use Rattle.obj_kinds.specs.Subscript as subs
use Rattle.obj_kinds.specs.Subscript.{whole_of, is_number}
use Rattle.os_meaning.specs.Values.{joins, subscript_of}
use Rattle.os_meaning.specs.Frames.{at_node, sets}
use Rattle.os_meaning.specs.Meaning.{frame}
use Rattle.host_meaning.specs.Process.{process}
use Rattle.worked_processes.specs.Bank.{IsWorked}
use Rattle.worked_processes.specs.Loading.{empty_script, commits_nothing, writes_ok, writes_twice, sets_in_turn, locks_node, locks_below}

pub empty_script_worked : IsWorked empty_script
unfolding digits is_legal_text whole_of is_number subs.number_in joins subscript_of at_node sets frame process stored.out-Value denote.Hole.Carrier.out
empty_script_worked = refl

pub commits_nothing_worked : IsWorked commits_nothing
unfolding digits is_legal_text whole_of is_number subs.number_in joins subscript_of at_node sets frame process stored.out-Value denote.Hole.Carrier.out
commits_nothing_worked = refl

pub writes_ok_worked : IsWorked writes_ok
unfolding digits is_legal_text whole_of is_number subs.number_in joins subscript_of at_node sets frame process stored.out-Value denote.Hole.Carrier.out
writes_ok_worked = refl

pub writes_twice_worked : IsWorked writes_twice
unfolding digits is_legal_text whole_of is_number subs.number_in joins subscript_of at_node sets frame process stored.out-Value denote.Hole.Carrier.out
writes_twice_worked = refl

pub sets_in_turn_worked : IsWorked sets_in_turn
unfolding digits is_legal_text whole_of is_number subs.number_in joins subscript_of at_node sets frame process stored.out-Value denote.Hole.Carrier.out
sets_in_turn_worked = refl

pub locks_node_worked : IsWorked locks_node
unfolding digits is_legal_text whole_of is_number subs.number_in joins subscript_of at_node sets frame process stored.out-Value denote.Hole.Carrier.out
locks_node_worked = refl

pub locks_below_worked : IsWorked locks_below
unfolding digits is_legal_text whole_of is_number subs.number_in joins subscript_of at_node sets frame process stored.out-Value denote.Hole.Carrier.out
locks_below_worked = refl
