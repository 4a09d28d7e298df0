-- The members of a many side.
use Rattle.std.specs.Prelude.{ℕ, Bool, true, false, List, [], Option, None, Some}
use Rattle.obj_kinds.specs.declared.error_name.ErrorName.TheVariants as error
use Rattle.schema_kinds.specs.declared.class.Class.{Class}
use Rattle.os_kinds.specs.declared.val.Val.{Val}
use Rattle.os_kinds.specs.declared.val.Val.TheVariants.{Data, Ref}
use Rattle.os_meaning.specs.Values.{text_of}
use Rattle.os_meaning.specs.Syntax.{Name}
use Rattle.oref_table.specs.Memory.{Object, Memory, object_of}
use Rattle.obj_props.specs.Properties.{alone, prop_place}
use Rattle.object_calls.specs.Extents.{is_at_or_below}
use Rattle.object_calls.specs.Keys.{ManySide}
use Rattle.object_calls.specs.Memories.{Seen}
use Rattle.object_calls.specs.ObjectCalls.{member_at, next_id}
use Rattle.host_meaning.specs.Objects.{ObjectCall}
use Rattle.object_members.specs.Seeing.{memories, props_at}
use Rattle.object_members.specs.Ends.{with_memory, yes, answers, errs, opens, tells}
use Rattle.object_members.specs.Arguments.{with_arg, checks}
use Rattle.object_members.specs.Writes.{one_side_set}
use Rattle.object_members.specs.ItemMembers.{ItemMember, GetAt, Insert, Next}

-- the many side of these members of the object `o`, which is a property of that name
module _ (classes : List Class) (tries most : ℕ) (o : Object) (side : ManySide) (name : Name) where
  -- an object becomes a member as if its one side were set to the holder
  abbrev pub inserts_at : Object → Option ℕ → ObjectCall Memory
  inserts_at member None s = errs s error.CannotSetThisProperty
  inserts_at member (Some at) s = answers (with_memory (one_side_set classes s.memory member at name (alone o.number) []) s) yes

  abbrev pub inserts_if : Object → Bool → ObjectCall Memory
  inserts_if member true s = inserts_at member (prop_place side.side (props_at classes member.class)) s
  inserts_if member false s = errs s error.CannotSetThisProperty

  abbrev pub inserts_object : Option Object → ObjectCall Memory
  inserts_object None s = errs s error.CannotSetThisProperty
  inserts_object (Some member) s = inserts_if member (is_at_or_below classes member.class side.class) s

  -- it takes an object of a class at or below that of the members
  abbrev pub inserts : Val → ObjectCall Memory
  inserts (Data v) s = errs s error.CannotSetThisProperty
  inserts (Ref n class) s = inserts_object (object_of n s.memory.objects) s

  abbrev pub holder_seen : Seen
  holder_seen = record { class = o.class; extent = o.extent; id = o.id; level = o.level }

  unfoldable pub on_members : ItemMember → List Val → ObjectCall Memory
  on_members Insert args s = with_arg args inserts s
  on_members GetAt args s = with_arg args (λ v. checks (text_of v) (λ text s. opens s (member_at (memories classes) classes tries most s.memory o.number side holder_seen text))) s
  on_members Next args s = with_arg args (λ v. checks (text_of v) (λ text s. tells s (next_id (memories classes) classes tries most s.memory o.number side text))) s
  on_members _ args s = errs s error.MethodDoesNotExist
