-- Walks over the members of a many side: each operation may come.
use Rattle.std.proofs.Common.{ℕ, Bool, true, false, nat_lt, List, Option, Some, None, option_map, refl, sym, subst}
use Rattle.obj_kinds.specs.declared.op.Op.TheVariants.{Order}
use Rattle.obj_kinds.specs.declared.op.Mode.TheVariants.{Shared}
use Rattle.obj_kinds.specs.declared.op.Op.{Op}
use Rattle.obj_kinds.specs.declared.op.Reply.{Reply}
use Rattle.obj_kinds.specs.declared.op.Reply.TheVariants.{Next}
use Rattle.obj_kinds.specs.declared.cause.Cause.TheVariants.{Damaged}
use Rattle.obj_kinds.specs.declared.sub.Sub.{Sub}
use Rattle.obj_kinds.proofs.LineLaws.{covers_itself}
use Rattle.obj_kinds.specs.Subscript.{sub_of}
use Rattle.obj_kinds.specs.Ids.{id_text}
use Rattle.store_core.specs.Machine.{reply}
use Rattle.store_calls.specs.Calls.{Ask, Plain, Tried, Got, Lost, Walking, try}
use Rattle.object_calls.specs.Asking.{lock_counted, unlock}
use Rattle.object_calls.specs.Extents.{extent_at, id_below}
use Rattle.object_calls.specs.Keys.{ManySide, members_node}
use Rattle.object_calls.specs.Members.{member_or, on_next_member, next_ends, member_after, next_locked, next_by, next_member}
use Rattle.object_runs.specs.ObjectMachine.{desk_at}
use Rattle.object_runs.specs.Causes.{HasTrueCause}
use Rattle.object_runs.specs.Runs.{Both}
use Rattle.run_rules.specs.Steps.{next, Event, after_all, AreFit}
use Rattle.run_rules.specs.Good.{AreOthers}
use Rattle.call_rules.specs.Settings.{Setting}
use Rattle.call_rules.specs.Schemas.{IsStorableSchema}
use Rattle.call_rules.proofs.Rules.{Fits, meets_bind}
use Rattle.good_calls.proofs.Idle.{IsIdle, idle_all, plain_may, plain_next, own_next}
use Rattle.good_calls.proofs.Loads.{MayTellTrue, HasCause, Locked, cause_all, cause_later, meets_try}

module _ (t : Setting) (schema : IsStorableSchema t.classes) (tries most : ℕ) (tells : MayTellTrue t tries) (side : ManySide) (holder : List ℕ) where
  abbrev Stays : {A : Type 0} → A → Both → Type 0
  Stays a b = IsIdle t b

  -- behind so many further operations the walk has a member or none, or failed
  abbrev Walked : ℕ → Tried (Option (List ℕ)) → Both → Type 0
  Walked back (Got a) b = IsIdle t b
  Walked back (Lost x) b = IsIdle t b × HasCause t schema tries most tells Walking back x b

  walked_idle : (back : ℕ) (a : Tried (Option (List ℕ))) (b : Both) → Walked back a b → IsIdle t b
  walked_idle back (Got a) b h = h
  walked_idle back (Lost x) b h = h.0

  ends : (back : ℕ) (a : Tried (Option (List ℕ))) (b : Both) → Walked back a b → Fits t (next_ends back a) Stays b
  ends back (Got a) b i = i
  ends back (Lost x) b h = (tells.fails (desk_at b.objects t.p.0).own Walking back x h.1, h.0)

  -- a member, or a subscript that is no id of its extent
  found : (b : Both) (behind : Option Sub) (r : Reply) → IsIdle t (next b t.p (Order (members_node t.classes side holder) behind) Plain)
      → Walked 0 (on_next_member t.classes (extent_at t.classes side.class) (members_node t.classes side holder) r) (next b t.p (Order (members_node t.classes side holder) behind) Plain)
  found b behind (Next s) i = by (id_below t.classes (extent_at t.classes side.class) s)
    where
      by : (m : Option (List ℕ)) → Walked 0 (member_or (members_node t.classes side holder) m) (next b t.p (Order (members_node t.classes side holder) behind) Plain)
      by None = (
        i,
        λ some. subst (λ os. HasTrueCause t.classes tries os Walking 0 (Damaged (members_node t.classes side holder))) (sym (own_next t b (Order (members_node t.classes side holder) behind)))
            (_, refl, (members_node t.classes side holder, refl, covers_itself (members_node t.classes side holder))),
      )
      by (Some id) = i
  found b behind _ i = i

  after : (behind : Option (List ℕ)) (b : Both) → IsIdle t b → Fits t (member_after t.classes tries side holder behind) (Walked 0) b
  after behind b i = λ es others fit live.
      let b' = after_all b es in
      let i' = idle_all t b es others fit i in
      let at = option_map (λ id. sub_of (id_text id)) behind in
      let op = Order (members_node t.classes side holder) at in
      (plain_may t b' op tt (λ e. cc e) i', found b' at (reply b'.store t.p op) (plain_next t b' op live tt (λ e. cc e) i'))

  -- one operation later
  walked_later : (a : Tried (Option (List ℕ))) (b : Both) (op : Op) → IsIdle t (next b t.p op Plain) → Walked 0 a b → Walked 1 a (next b t.p op Plain)
  walked_later (Got a) b op i h = i
  walked_later (Lost x) b op i h = (i, cause_later t schema tries most tells Walking x b op h.1)

  walked_all : (a : Tried (Option (List ℕ))) (b : Both) (es : List Event) → AreOthers t.p es → AreFit t.classes t.Facts b es → Walked 0 a b → Walked 0 a (after_all b es)
  walked_all (Got a) b es others fit h = idle_all t b es others fit h
  walked_all (Lost x) b es others fit h = (idle_all t b es others fit h.0, cause_all t schema tries most tells Walking 0 x b es others h.1)

  locked : (behind : Option (List ℕ)) (x : Tried (Unit {0})) (b : Both) → Locked t schema tries most tells Walking (members_node t.classes side holder) x b → Fits t (next_locked t.classes tries side holder behind x) Stays b
  locked behind (Lost x) b h = (tells.fails (desk_at b.objects t.p.0).own Walking 0 x h.1, h.0)
  locked behind (Got u) b h = meets_bind t {B = Tried (Option (List ℕ))} (member_after t.classes tries side holder behind) (λ x. Ask (unlock Shared (members_node t.classes side holder)) Plain (λ r. next_ends 1 x)) (Walked 0) Stays b by (after behind b h.0)
    where
      by : (a : Tried (Option (List ℕ))) (b' : Both) → Walked 0 a b' → Fits t (Ask (unlock Shared (members_node t.classes side holder)) Plain (λ r. next_ends 1 a)) Stays b'
      by a b' w = λ es others fit live.
          let b'' = after_all b' es in
          let w' = walked_all a b' es others fit w in
          let i' = walked_idle 0 a b'' w' in
          let op = unlock Shared (members_node t.classes side holder) in
          (plain_may t b'' op tt (λ e. cc e) i', ends 1 a (next b'' t.p op Plain) (walked_later a b'' op (plain_next t b'' op live tt (λ e. cc e) i') w'))

  pub meets_next_member : (level : ℕ) (behind : Option (List ℕ)) (b : Both) → IsIdle t b → Fits t (next_member t.classes tries side holder level behind) Stays b
  unfolding next_member
  meets_next_member level behind b i = by (nat_lt 0 level)
    where
      by : (c : Bool) → Fits t (next_by t.classes tries side holder behind c) Stays b
      by true = meets_bind t (try Plain tries (lock_counted Shared (members_node t.classes side holder))) (next_locked t.classes tries side holder behind) (Locked t schema tries most tells Walking (members_node t.classes side holder)) Stays b (λ x b' h. locked behind x b' h)
          (meets_try t schema tries most tells Walking (members_node t.classes side holder) Shared b i)
      by false = meets_bind t (member_after t.classes tries side holder behind) (next_ends 0) (Walked 0) Stays b (λ a b' h. ends 0 a b' h) (after behind b i)
