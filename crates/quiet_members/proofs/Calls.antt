-- Sets and new objects ask nothing.
use Rattle.std.proofs.Common.{◌≡◌, ℕ, ◌⊎◌, inl, inr, List, refl}
use Rattle.schema_kinds.specs.declared.class.Class.{Class}
use Rattle.schema_kinds.specs.Classes.{extent_of}
use Rattle.os_kinds.specs.declared.val.Val.{Val}
use Rattle.os_kinds.specs.declared.call.Answer.{Answer}
use Rattle.os_kinds.specs.declared.call.Answer.TheVariants as answer
use Rattle.os_meaning.specs.Syntax.{Name}
use Rattle.oref_table.specs.Memory.{Memory}
use Rattle.store_calls.specs.Calls.{Give}
use Rattle.host_meaning.specs.Objects.{Known}
use Rattle.object_members.specs.Ends.{with_memory}
use Rattle.object_members.specs.Writes.{write_prop}
use Rattle.memory_laws.specs.Writes.{IsDone, IsRefused, set_at}
use Rattle.memory_laws.proofs.WritesKept.{writes_come, writes_keep}
use Rattle.memory_laws.proofs.MadeKept.{new_objects_keep}
use Rattle.known_objects.specs.Classed.{Classed}
use Rattle.known_objects.proofs.Changes.{news_name}
use Rattle.known_objects.proofs.Sets.{writes_name}
use Rattle.quiet_members.specs.Quiet.{IsFine, EndsFine, IsSchemaOfMembers}
use Rattle.quiet_members.specs.Laws.{WritesAreQuiet, NewsAreQuiet}

module _ (classes : List Class) (known : Classed) (n : ℕ) (name : Name) (v : Val) (schema : IsSchemaOfMembers classes) (s : Known Memory) (fine : IsFine classes known s.memory) where
  ends : (t : Known Memory) (a : Answer) → write_prop classes n name v s ≡ Give (t, a) → EndsFine classes known (write_prop classes n name v s)
  ends t a is = record {
    left = t;
    answer = a;
    is = is;
    fine = record {
      good = (writes_keep classes s t n name v a schema.whole fine.good (λ o found. schema.settable o name) is).good;
      names = writes_name classes known s t n name v a schema.whole schema.plain fine.good fine.names is;
    };
  }

  by_end : IsDone classes s n name v ⊎ IsRefused classes s n name v → EndsFine classes known (write_prop classes n name v s)
  by_end (inl done) = ends (with_memory (set_at classes s done.object done.at done.prop done.item v) s) answer.Done done.is
  by_end (inr no_set) = ends s (answer.Error no_set.0) no_set.1

pub writes_quiet : WritesAreQuiet
writes_quiet classes known n name v schema s fine = by_end classes known n name v schema s fine (writes_come classes s n name v)

pub news_quiet : NewsAreQuiet
news_quiet classes known tries most class c schema there s fine = record {
  left = _;
  answer = _;
  is = refl;
  fine = record {
    good = (new_objects_keep classes s.memory class c fine.good there (schema.initials class)).good;
    names = news_name classes known s.memory class (extent_of classes class) fine.names;
  };
}
