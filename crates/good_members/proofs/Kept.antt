-- The memory of a process is as it is asked to be behind places, entries between calls, and calls that ask nothing.
use Rattle.std.proofs.Common.{◌≡◌, ◌≢◌, ℕ, Bool, true, List, [], ◌∷◌, sym, subst}
use Rattle.obj_kinds.specs.declared.op.Pid.{Pid}
use Rattle.schema_kinds.specs.declared.class.Class.{Class}
use Rattle.os_kinds.specs.declared.call.Answer.{Answer}
use Rattle.oref_table.specs.Memory.{Memory}
use Rattle.store_calls.specs.Calls.{Call, Give}
use Rattle.host_meaning.specs.Objects.{Known, ObjectCall}
use Rattle.object_runs.specs.Runs.{Both}
use Rattle.sound_runs.specs.Closing.{IsSafeChange}
use Rattle.good_calls.specs.Laws.{ShowsLoads, IsAtRest}
use Rattle.kept_runs.specs.Kept.{MeetsKept}
use Rattle.kept_runs.specs.GoodObjects.{RestsWith, IsGoodCall}
use Rattle.memory_laws.specs.Kept.{IsGood}
use Rattle.memory_laws.proofs.Keeping.{starts_good, tight-good, places_keep}
use Rattle.known_objects.specs.Classed.{Classed}
use Rattle.known_objects.proofs.Changes.{places_name}
use Rattle.known_keys.specs.Knowledge.{IsKnowledge}
use Rattle.known_keys.proofs.Steps.{others_keep_knowledge, plain_keeps_knowledge}
use Rattle.quiet_members.specs.Quiet.{IsFine, EndsFine, IsQuiet}
use Rattle.quiet_members.proofs.Calls.{writes_quiet}
use Rattle.quiet_members.proofs.Whole.{classes_quiet, objects_quiet, items_quiet}
use Rattle.good_members.specs.Memories.{IsMemory}
use Rattle.good_members.specs.Laws.{KeepsPlaces, PlacesKeepMemory, KeepsBetween, EntriesKeepMemory, QuietCallsAreGood, AreGoodQuietly, QuietMembersAreGood}

-- memory is another, and what is known is the same
other-memory : (classes : List Class) (p : Pid) (m w : Memory) (b : Both) (h : IsMemory classes p m b) → IsFine classes h.known w → IsMemory classes p w b
other-memory classes p m w b h fine = record { known = h.known; fine = fine; knowledge = h.knowledge }

pub places_keep_memory : PlacesKeepMemory
places_keep_memory classes tries most p = record {
  empty = λ b rest. record { known = []; fine = record { good = (starts_good classes tries most).0; names = tt }; knowledge = record { keys = tt; agrees = λ key c d h k. absurd h; knows = tt } };
  more = λ n m b h. other-memory classes p m _ b h (record { good = tight-good classes m h.fine.good n; names = (places_name classes h.known tries most m h.fine.names).more n });
  less = λ n m b h. other-memory classes p m _ b h (record { good = ((places_keep classes tries most m h.fine.good).less n).good; names = (places_name classes h.known tries most m h.fine.names).less n });
  given = λ m b h. other-memory classes p m _ b h (record { good = (places_keep classes tries most m h.fine.good).given.good; names = (places_name classes h.known tries most m h.fine.names).given });
}

pub entries_keep_memory : EntriesKeepMemory
entries_keep_memory classes p = record {
  others = λ m b e ne rest fit h. record { known = h.known; fine = h.fine; knowledge = others_keep_knowledge classes p h.known b e ne rest fit h.knowledge };
  plain = λ m b op rest live free no_end h. record { known = h.known; fine = h.fine; knowledge = plain_keeps_knowledge classes p h.known b op rest live free no_end h.knowledge };
}

pub quiet_calls_good : QuietCallsAreGood
quiet_calls_good classes p call quiet s low b h rest =
    let end : EndsFine classes h.known (call s) = quiet h.known s h.fine in
    subst (λ (c : Call (Known Memory × Answer)). MeetsKept classes (IsSafeChange classes) ShowsLoads p c low (RestsWith classes p (IsMemory classes p)) b) (sym end.is)
    (other-memory classes p s.memory end.left.memory b h end.fine, rest)

pub quiet_members_good : QuietMembersAreGood
quiet_members_good classes tries most p schema = record {
  write = λ n property v. quiet_calls_good classes p _ (λ known. writes_quiet classes known n property v schema);
  on_class = λ class name args no_open no_delete. quiet_calls_good classes p _ (λ known. classes_quiet classes known tries most class name args schema no_open no_delete);
  on_object = λ n name args no_save no_open no_delete. quiet_calls_good classes p _ (λ known. objects_quiet classes known tries most n name args schema no_save no_open no_delete);
  on_items = λ n property name args no_get no_next. quiet_calls_good classes p _ (λ known. items_quiet classes known tries most n property name args schema no_get no_next);
}
