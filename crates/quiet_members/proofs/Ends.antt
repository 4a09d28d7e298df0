-- How calls that ask nothing end: with an answer or an error, by their arguments and by what they take.
use Rattle.std.proofs.Common.{◌≡◌, ℕ, cond, Bool, true, false, List, [], ◌∷◌, None, Some, Ok, Err, refl}
use Rattle.obj_kinds.specs.declared.error_name.ErrorName.{ErrorName}
use Rattle.obj_kinds.specs.declared.error_name.ErrorName.TheVariants as error
use Rattle.schema_kinds.specs.declared.class.Class.{Class}
use Rattle.schema_kinds.specs.declared.kind.Item.{Item}
use Rattle.os_kinds.specs.declared.val.Val.{Val}
use Rattle.os_kinds.specs.declared.call.Answer.TheVariants as answer
use Rattle.os_meaning.specs.Values.{Checked}
use Rattle.oref_table.specs.declared.slot.Slot.{Slot}
use Rattle.oref_table.specs.Memory.{Object, Memory}
use Rattle.prop_setting.specs.Elements.{Standing, standing, error_of}
use Rattle.host_meaning.specs.Objects.{Known, ObjectCall}
use Rattle.object_members.specs.Ends.{nothing, answers, errs, with_memory}
use Rattle.object_members.specs.Arguments.{with_arg, with_args, without_args, checks}
use Rattle.object_members.specs.Standing.{fill_with, held_for, takes}
use Rattle.object_members.specs.Lists as lists
use Rattle.known_objects.specs.Classed.{Classed}
use Rattle.quiet_members.specs.Quiet.{IsFine, EndsFine}

module _ (classes : List Class) (known : Classed) (s : Known Memory) (fine : IsFine classes known s.memory) where
  pub ends-answer : (v : Val) → EndsFine classes known (answers s v)
  ends-answer v = record { left = s; answer = answer.Got v; is = refl; fine = fine }

  pub ends-error : (e : ErrorName) → EndsFine classes known (errs s e)
  ends-error e = record { left = s; answer = answer.Error e; is = refl; fine = fine }

  pub ends-with : (w : Memory) (v : Val) → IsFine classes known w → EndsFine classes known (answers (with_memory w s) v)
  ends-with w v h = record { left = with_memory w s; answer = answer.Got v; is = refl; fine = h }

  pub ends-checked : {A : Type 0} (x : Checked A) (go : A → ObjectCall Memory) → ((a : A) → EndsFine classes known (go a s)) → EndsFine classes known (checks x go s)
  ends-checked (Ok a) go h = h a
  ends-checked (Err e) go h = ends-error e

  pub ends-without : (args : List Val) (go : ObjectCall Memory) → EndsFine classes known (go s) → EndsFine classes known (without_args args go s)
  ends-without [] go h = h
  ends-without (v ∷ vs) go h = ends-error error.Parameter

  pub ends-arg : (args : List Val) (go : Val → ObjectCall Memory) → ((v : Val) → EndsFine classes known (go v s)) → EndsFine classes known (with_arg args go s)
  ends-arg [] go h = h nothing
  ends-arg (v ∷ []) go h = h v
  ends-arg (v ∷ w ∷ vs) go h = ends-error error.Parameter

  pub ends-args : (args : List Val) (go : Val → Val → ObjectCall Memory) → ((v w : Val) → EndsFine classes known (go v w s)) → EndsFine classes known (with_args args go s)
  ends-args [] go h = h nothing nothing
  ends-args (v ∷ []) go h = h v nothing
  ends-args (v ∷ w ∷ []) go h = h v w
  ends-args (v ∷ w ∷ x ∷ vs) go h = ends-error error.Parameter

  pub ends-standing : (tries most : ℕ) (o : Object) (at : ℕ) (items : List Slot) (i : Item) (v : Val) (go : Standing → ObjectCall Memory) → (takes classes (held_for v s.memory) i (fill_with v) ≡ true → EndsFine classes known (go (standing classes (held_for v s.memory) o.level i (fill_with v)) s))
      → EndsFine classes known (lists.with_standing classes tries most o at items i v go s)
  ends-standing tries most o at items i v go h = by (takes classes (held_for v s.memory) i (fill_with v)) refl
    where
      by : (b : Bool) → takes classes (held_for v s.memory) i (fill_with v) ≡ b → EndsFine classes known (lists.puts_standing classes tries most o at items i (cond b (Some (standing classes (held_for v s.memory) o.level i (fill_with v))) None) go s)
      by true e = h e
      by false e = ends-error (error_of i)
