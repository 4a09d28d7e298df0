-- A delete as a whole, at levels 1 to 4: each operation may come, and at the Commit the change is safe.
use Rattle.std.proofs.Common.{◌≡◌, ◌≢◌, ◌⊎◌, inl, inr, ⊎_elim, ℕ, ◌+◌, ℤ, pos, Bool, true, false, cond, ◌||◌, nat_lt, List, [], ◌∷◌, ◌++◌, length, Option, Some, None, is_some, refl, sym, ap, subst, ◌∙◌}
use Rattle.std.specs.FinMap.{get, entries as listed}
use Rattle.obj_kinds.specs.declared.name.ClassName.{ClassName}
use Rattle.obj_kinds.specs.declared.node.Node.{Node}
use Rattle.obj_kinds.specs.declared.sub.Sub.{Sub}
use Rattle.obj_kinds.specs.declared.value.Value.{Value}
use Rattle.obj_kinds.specs.declared.op.Op.{Op}
use Rattle.obj_kinds.specs.declared.op.Op.TheVariants.{Order, Kill, Begin, Commit, RollbackOne}
use Rattle.obj_kinds.specs.declared.op.Mode.TheVariants.{Exclusive}
use Rattle.obj_kinds.specs.declared.op.Reply.{Reply}
use Rattle.obj_kinds.specs.declared.op.Reply.TheVariants.{Number, TooDeep as NoLevel}
use Rattle.obj_kinds.specs.Order.{covers}
use Rattle.schema_kinds.specs.declared.key.Key.{Key}
use Rattle.schema_kinds.specs.declared.record.Record.{Record}
use Rattle.schema_kinds.specs.declared.record.Part.TheVariants.{Del}
use Rattle.schema_kinds.specs.Classes.{class_of}
use Rattle.schema_kinds.specs.Worlds.{Change}
use Rattle.global_tree.proofs.MapLaws.{one_key}
use Rattle.global_tree.proofs.StepLaws.{covers_itself}
use Rattle.global_tree.proofs.NextLaws.{is_last}
use Rattle.global_tree.specs.Below.{child, next_below, IsThere}
use Rattle.record_layout.specs.Rows.{data_node, below}
use Rattle.record_layout.specs.Shapes.{forms_of, AreOfForms}
use Rattle.storage_map.specs.Changes.{stale}
use Rattle.storage_map.specs.Entries.{entries, props_in}
use Rattle.storage_map.specs.Worlds.{owner, IsKeyOf}
use Rattle.storage_map.specs.SoundWorlds.{IsSoundAt}
use Rattle.schema_kinds.specs.KeyLaws.{key_exact}
use Rattle.store_core.specs.Machine.{State, is_live, levels_at, next_or, answer, reply}
use Rattle.store_core.specs.Guard.{HoldsGuard, HoldsToEnd}
use Rattle.store_calls.specs.Calls.{Call, Give, Ask, Inside, Opens, Closes, Fails, About, Deleting, Tried, Got, Lost, bind, then, then_on, all}
use Rattle.object_calls.specs.Asking.{Does as Done, done, when, kill, failing}
use Rattle.object_calls.specs.Extents.{extent_at, id_below, refuses_other}
use Rattle.object_calls.specs.Edits.{edits_of}
use Rattle.object_calls.specs.Keys.{Unique, uniques_of, Side, sides_of, side_node, ManySide, many_sides, members_node}
use Rattle.object_calls.specs.Reading.{read}
use Rattle.object_calls.specs.Saves.{is_key}
use Rattle.object_calls.specs.Deletes.{member_by, on_member, lock_end, lock_if, lock_keys_of, has_no_members, delete_record, delete_found, deleting, delete_ends, delete_begun, delete}
use Rattle.object_calls.proofs.EditLaws.{edits_are_changes}
use Rattle.object_runs.specs.ObjectMachine.{Desk, Within, desk_at, desk_after, view}
use Rattle.object_runs.specs.Causes.{Each}
use Rattle.object_runs.specs.Runs.{Both}
use Rattle.object_runs.specs.Invariant.{HoldsRow, key_guard, changes, written, shown}
use Rattle.run_rules.specs.Steps.{OwnsWritten, IsWritten, MayCome, IsFit, next, Event, after_all, AreFit, just_begun}
use Rattle.run_rules.specs.Good.{AreOthers}
use Rattle.run_rules.proofs.Whole.{desk_own}
use Rattle.sound_runs.specs.Closing.{IsSafeDelete, HasNoMembers}
use Rattle.sound_runs.proofs.Deleted.{no_members_unnamed}
use Rattle.call_rules.specs.Settings.{Setting}
use Rattle.call_rules.specs.Schemas.{IsStorableSchema}
use Rattle.call_rules.proofs.Rules.{Fits, In, IsOut, IsFact, Post, Does, in_all, fact_all, meets_bind, meets_post, does_give, does_ask, does_then, does_both, does_post, does_weaken, does_with, does_lock, HoldsNode, holds_fact, both_facts, true_fact, each_fact}
use Rattle.call_rules.proofs.Seen.{Sees, sees_fact}
use Rattle.call_rules.proofs.Readings.{does_read, row_itself}
use Rattle.call_rules.proofs.Apart.{IsBelow, reads_apart, IsBare, bare_fact}
use Rattle.call_rules.proofs.Writes.{kills_of, first_writes}
use Rattle.call_rules.proofs.Gone.{row_owner, row_guard_free, delete_writes, delete_written}
use Rattle.good_calls.proofs.Idle.{IsIdle, idle_all, idle_next}
use Rattle.good_calls.proofs.Loads.{MayTell}
use Rattle.good_deletes.proofs.Locks.{stale_there, HoldsIf, if_fact, does_lock_if, facts_of, AllHeld, held_fact, owns_entry}
use Rattle.good_deletes.proofs.NoMembers.{IsChild, no_member}

each_to : {A : Type 0} (P Q : A → Type 0) (xs : List A) → ((x : A) → P x → Q x) → Each P xs → Each Q xs
each_to P Q [] h e = tt
each_to P Q (x ∷ xs) h e = (h x e.0, each_to P Q xs h e.1)

append_none : {A : Type 0} (xs : List A) → xs ++ [] ≡ xs
append_none [] = refl
append_none (x ∷ xs) = ap (λ ys. x ∷ ys) (append_none xs)

module _ (t : Setting) (schema : IsStorableSchema t.classes) (tries most : ℕ) (tells : MayTell t)
    (safe : (b : Both) (key : Key) → IsSafeDelete t.classes b.store b.objects t.p key → t.Facts b.store b.objects t.p (Del key ∷ [])) where
  -- ---- members

  abbrev pub NoneBelow : Key → ManySide → Both → Type 0
  NoneBelow key m b = IsBare t (IsChild (members_node t.classes m key.id)) [] (members_node t.classes m key.id) b

  none_next : (extent : ClassName) (n : Node) (o : Option Sub) → on_member t.classes extent n (next_or o) ≡ Got (tt {0}) → o ≡ None
  none_next extent n None e = refl
  none_next extent n (Some s) e = by (id_below t.classes extent s) e
    where
      by : (o : Option (List ℕ)) → member_by n o ≡ Got (tt {0}) → Some s ≡ None
      by None e = absurd (cc e)
      by (Some id) e = absurd (cc e)

  order_reply : (s : State) (n : Node) → reply s t.p (Order n None) ≡ next_or (next_below s.globals n None)
  unfolding reply answer
  order_reply s n = refl

  nothing_there : (b : Both) (x n : Node) (s : Sub) → next_below b.store.globals x None ≡ None → n ≡ child x s → get b.store.globals n ≡ None
  nothing_there b x n s last is = by (get b.store.globals n) refl
    where
      by : (o : Option Value) → get b.store.globals n ≡ o → o ≡ None
      by None e = refl
      by (Some v) e = absurd (is_last b.store.globals x None last s refl (n, ap (λ m. covers m n) (sym is) ∙ covers_itself n, ap is_some e))

  does_members : (key : Key) (level : ℕ) (m : ManySide) → nat_lt 0 level ≡ true → Does t [] (λ b. Unit {0}) (has_no_members t.classes tries most key level m) (λ u. NoneBelow key m) []
  does_members key level m high =
      let x = members_node t.classes m key.id in
      does_then t [] (λ b. Unit {0}) (when (nat_lt 0 level) (lock_end t.classes tries most Exclusive x)) _ (λ u. HoldsNode t x) (λ u. NoneBelow key m) []
      (subst (λ c. Does t [] (λ b. Unit {0}) (when c (lock_end t.classes tries most Exclusive x)) (λ u. HoldsNode t x) []) (sym high) (does_lock t tries x []))
      (λ u. does_ask t [] (HoldsNode t x) (Order x None) (on_member t.classes (extent_at t.classes m.class) x) (λ v. NoneBelow key m) [] (holds_fact t x) tt (λ n y. refl) (λ b h. tt)
      (λ b y i h live e.
      let last = none_next (extent_at t.classes m.class) x (next_below b.store.globals x None) (ap (on_member t.classes (extent_at t.classes m.class) x) (sym (order_reply b.store x)) ∙ e) in
      (bare_fact t (IsChild x) [] x).own b (Order x None) i.whole live ((i.now, i.is), tt, tt)
      (record { held = h; none = λ n j below is. sym (reads_apart t x n j below b [] i h) ∙ nothing_there b x n is.0 last is.1 })))

  -- ---- the kills

  abbrev pub Killing : Key → Record → Both → Type 0
  Killing key r b = Sees t key (Some r) b × AllHeld t key r b × Each (λ m. NoneBelow key m b) (many_sides t.classes r.class)

  bares_fact : (key : Key) (ms : List ManySide) → IsFact t (λ b. Each (λ m. NoneBelow key m b) ms)
  bares_fact key ms = each_fact t (λ m. NoneBelow key m) (λ m. bare_fact t (IsChild (members_node t.classes m key.id)) [] (members_node t.classes m key.id)) ms

  killing_fact : (key : Key) (r : Record) → IsFact t (Killing key r)
  killing_fact key r = record {
    others = λ b e ne w fit h. ((sees_fact t key (Some r)).others b e ne w fit h.0, (held_fact t key r).others b e ne w fit h.1, (bares_fact key (many_sides t.classes r.class)).others b e ne w fit h.2);
    own = λ b op w live may h. ((sees_fact t key (Some r)).own b op w live may h.0, (held_fact t key r).own b op w live may h.1, (bares_fact key (many_sides t.classes r.class)).own b op w live may h.2);
  }

  does_kill : (key : Key) (r : Record) (m : Node) (es : List Op) → ((b : Both) → Killing key r b → OwnsWritten t.classes b.store.holds t.p (Kill m)) → Does t es (Killing key r) (kill m) (λ u. Killing key r) (Kill m ∷ [])
  does_kill key r m es owns = does_ask t es (Killing key r) (Kill m) (λ x. Got (tt {0})) (λ u. Killing key r) (Kill m ∷ []) (killing_fact key r) tt (λ n x. refl) owns
      (λ b y i h live e. (killing_fact key r).own b (Kill m) i.whole live ((i.now, i.is), tt, owns b h) h)

  does_kills : (key : Key) (r : Record) (ms : List Node) → Each (λ m. (b : Both) → Killing key r b → OwnsWritten t.classes b.store.holds t.p (Kill m)) ms → (es : List Op) → Does t es (Killing key r) (all kill ms) (λ u. Killing key r) (kills_of ms)
  does_kills key r [] hs es = does_give t es (Killing key r) (tt {0}) (λ u. Killing key r) (λ b h. h)
  does_kills key r (m ∷ ms) hs es = does_both t es (Killing key r) (kill m) (λ u. all kill ms) (Killing key r) (λ u. Killing key r) (Kill m ∷ []) (kills_of ms) (does_kill key r m es hs.0) (does_kills key r ms hs.1 (Kill m ∷ es))

  module _ (key : Key) (real : IsKeyOf t.classes key) (level : ℕ) (high : nat_lt 0 level ≡ true) (r : Record) (at : IsSoundAt t.classes key r) where
    good : AreOfForms t.classes (forms_of (props_in (class_of t.classes r.class))) r.fields
    good = subst (λ forms. AreOfForms t.classes forms r.fields) (schema.forms r.class key.extent at.record_of.extent) at.record_of.fields

    owns_row : (b : Both) → Killing key r b → OwnsWritten t.classes b.store.holds t.p (Kill (data_node key))
    owns_row b h = (
      (key, row_owner t.classes key real (data_node key) (covers_itself (data_node key))),
      λ n k own cov.
          (subst (HoldsRow b.store.holds t.p) (one key k (sym (row_owner t.classes key real n cov) ∙ own)) h.0.0, subst (HoldsGuard b.store.holds t.p) (sym (row_guard_free t.classes key real n cov)) tt),
    )
      where
        one : (a c : Key) → Some a ≡ Some c → a ≡ c
        one a c e = cc e

    kills_own : Each (λ m. (b : Both) → Killing key r b → OwnsWritten t.classes b.store.holds t.p (Kill m)) (edits_of t.classes key (Some r) None).entry_kills
    kills_own = subst (Each (λ m. (b : Both) → Killing key r b → OwnsWritten t.classes b.store.holds t.p (Kill m))) (sym (edits_are_changes t.classes key (Some r) None).entry_kills)
        (each_to (λ m. (v : Value) × (get (entries t.classes key r) m ≡ Some v)) (λ m. (b : Both) → Killing key r b → OwnsWritten t.classes b.store.holds t.p (Kill m)) _
        (λ m there b h. owns_entry t schema key real r at.record_of.extent good b m there.0 there.1 h.0.0 h.1) (stale_there t.classes key r _))

    abbrev Seen : Both → Type 0
    Seen b = Sees t key (Some r) b

    does_keys : Does t [] (λ b. Unit {0}) (lock_keys_of t.classes tries most key r) (λ u. AllHeld t key r) []
    does_keys =
        let Us : Both → Type 0 = λ b. Each (λ (u : Unique). HoldsIf t u.node b) (uniques_of t.classes key r) in
        let us : IsFact t Us = each_fact t (λ (u : Unique). HoldsIf t u.node) (λ u. if_fact t u.node) (uniques_of t.classes key r) in
        does_then t [] (λ b. Unit {0}) (all (λ (u : Unique). lock_if t.classes tries most u.node) (uniques_of t.classes key r)) _ (λ u. Us) (λ u. AllHeld t key r) []
        (facts_of t (λ (u : Unique). lock_if t.classes tries most u.node) (λ (u : Unique). HoldsIf t u.node) (λ u. if_fact t u.node) [] (λ u. does_lock_if t t.classes tries most [] u.node) (uniques_of t.classes key r))
        (λ u. does_post t [] Us _ (λ u b. Each (λ (s : Side). HoldsIf t (side_node key s.name s.target) b) (sides_of t.classes r) × Us b) (λ u. AllHeld t key r) [] (λ u b h. (h.1, h.0))
        (does_weaken t [] (λ b. Unit {0} × Us b) Us _ (λ u b. Each (λ (s : Side). HoldsIf t (side_node key s.name s.target) b) (sides_of t.classes r) × Us b) [] (λ b h. (tt, h))
        (does_with t [] (λ b. Unit {0}) Us (all (λ (s : Side). lock_if t.classes tries most (side_node key s.name s.target)) (sides_of t.classes r)) (λ u b. Each (λ (s : Side). HoldsIf t (side_node key s.name s.target) b) (sides_of t.classes r)) [] us
        (facts_of t (λ (s : Side). lock_if t.classes tries most (side_node key s.name s.target)) (λ (s : Side). HoldsIf t (side_node key s.name s.target)) (λ s. if_fact t (side_node key s.name s.target)) [] (λ s. does_lock_if t t.classes tries most [] (side_node key s.name s.target)) (sides_of t.classes r)))))

    does_record : Does t [] Seen (delete_record t.classes tries most key level r) (λ u. Killing key r) (delete_writes t.classes key real r at.record_of.extent (schema.even key.extent))
    does_record =
        let Held : Both → Type 0 = λ b. AllHeld t key r b × Seen b in
        let held : IsFact t Held = both_facts t (AllHeld t key r) Seen (held_fact t key r) (sees_fact t key (Some r)) in
        let Ms : Both → Type 0 = λ b. Each (λ m. NoneBelow key m b) (many_sides t.classes r.class) in
        does_then t [] Seen (when (nat_lt 0 level) (lock_keys_of t.classes tries most key r)) _ (λ u. Held) (λ u. Killing key r) (delete_writes t.classes key real r at.record_of.extent (schema.even key.extent))
        (subst (λ c. Does t [] Seen (when c (lock_keys_of t.classes tries most key r)) (λ u. Held) []) (sym high)
        (does_weaken t [] (λ b. Unit {0} × Seen b) Seen (lock_keys_of t.classes tries most key r) (λ u. Held) [] (λ b h. (tt, h))
        (does_with t [] (λ b. Unit {0}) Seen (lock_keys_of t.classes tries most key r) (λ u. AllHeld t key r) [] (sees_fact t key (Some r)) does_keys)))
        (λ u. does_then t [] Held (all (has_no_members t.classes tries most key level) (many_sides t.classes r.class)) _ (λ u. Killing key r) (λ u. Killing key r) (delete_writes t.classes key real r at.record_of.extent (schema.even key.extent))
        (does_post t [] Held (all (has_no_members t.classes tries most key level) (many_sides t.classes r.class)) (λ u b. Ms b × Held b) (λ u. Killing key r) [] (λ u b h. (h.1.1, h.1.0, h.0))
        (does_weaken t [] (λ b. Unit {0} × Held b) Held (all (has_no_members t.classes tries most key level) (many_sides t.classes r.class)) (λ u b. Ms b × Held b) [] (λ b h. (tt, h))
        (does_with t [] (λ b. Unit {0}) Held (all (has_no_members t.classes tries most key level) (many_sides t.classes r.class)) (λ u. Ms) [] held
        (facts_of t (has_no_members t.classes tries most key level) (λ m. NoneBelow key m) (λ m. bare_fact t (IsChild (members_node t.classes m key.id)) [] (members_node t.classes m key.id)) [] (λ m. does_members key level m high) (many_sides t.classes r.class)))))
        (λ u. does_both t [] (Killing key r) (all kill (edits_of t.classes key (Some r) None).entry_kills) _ (Killing key r) (λ u. Killing key r) (kills_of (edits_of t.classes key (Some r) None).entry_kills) (Kill (data_node key) ∷ [])
        (does_kills key r (edits_of t.classes key (Some r) None).entry_kills kills_own [])
        (does_kill key r (data_node key) (kills_of (edits_of t.classes key (Some r) None).entry_kills ++ []) owns_row)))

    -- ---- what is known at the Commit

    no_members_at : (b : Both) → t.Inv b → Killing key r b → Each (HasNoMembers t.classes b.store b.objects t.p key) (many_sides t.classes r.class)
    no_members_at b w h = each_to (λ m. NoneBelow key m b) (HasNoMembers t.classes b.store b.objects t.p key) (many_sides t.classes r.class)
        (λ m bare. record { held = bare.held; unnamed = no_members_unnamed t.classes (view b.objects t.p.0) key m (λ id member. no_member t schema (view b.objects t.p.0) (t.sound b t.p w) m key real (λ n j below is. bare.none n j below is) id member) }) h.2

    safe_now : (b : Both) → t.Inv b → Killing key r b → IsSafeDelete t.classes b.store b.objects t.p key
    safe_now b w h = record { row = h.0.0; object = r; there = h.0.1; members = no_members_at b w h }

    one_change : (b : Both) (k : Key) → changes (Del key ∷ []) k ≡ true → HoldsRow b.store.holds t.p key → HoldsRow b.store.holds t.p k
    one_change b k e h = subst (HoldsRow b.store.holds t.p) (sym (one_key key_exact k key (or_none (is_key k key) e))) h
      where
        or_none : (a : Bool) → (a || false) ≡ true → a ≡ true
        or_none true e = refl
        or_none false e = e

    written_now : (b : Both) (i : In t b (delete_writes t.classes key real r at.record_of.extent (schema.even key.extent))) → Killing key r b → IsWritten t.classes b.store.holds t.p (view b.objects t.p.0) i.now.asked (Del key ∷ [])
    written_now b i h = record {
      held = λ k e. one_change b k e h.0.0;
      whole = λ n k own. i.same n _ ∙ delete_written t.classes key real r at.record_of.extent (schema.even key.extent) (view b.objects t.p.0) n k own h.0.1;
    }

  -- ---- the whole

  abbrev Deleted : (key : Key) → IsKeyOf t.classes key → Tried (Unit {0}) → Both → Type 0
  Deleted key real (Got u) b = (r : Record) × (at : IsSoundAt t.classes key r) × In t b (delete_writes t.classes key real r at.record_of.extent (schema.even key.extent)) × Killing key r b
  Deleted key real (Lost x) b = IsOut t b

  module _ (key : Key) (real : IsKeyOf t.classes key) (class : ClassName) (level : ℕ) (high : nat_lt 0 level ≡ true) where
    meets_found : (o : Option Record) (b : Both) → In t b [] → Sees t key o b → Fits t (delete_found t.classes tries most key level o) (Deleted key real) b
    meets_found None b i h = ([], i)
    meets_found (Some r) b i h =
        let at = (t.sound b t.p i.whole).records key r h.1 in
        meets_post t (delete_record t.classes tries most key level r) (Post t (λ u. Killing key r) (delete_writes t.classes key real r at.record_of.extent (schema.even key.extent) ++ []) (λ b. Unit {0})) (Deleted key real) b (by at)
        (does_record key real level high r at (λ b. Unit {0}) (true_fact t (Unit {0})) b i h tt)
      where
        by : (at : IsSoundAt t.classes key r) (a : Tried (Unit {0})) (b' : Both) → Post t (λ u. Killing key r) (delete_writes t.classes key real r at.record_of.extent (schema.even key.extent) ++ []) (λ b. Unit {0}) a b' → Deleted key real a b'
        by at (Got u) b' m = (r, at, subst (In t b') (append_none (delete_writes t.classes key real r at.record_of.extent (schema.even key.extent))) m.0, m.1)
        by at (Lost x) b' m = m

    meets_deleting : (b : Both) → In t b [] → Fits t (deleting t.classes tries most key class level) (Deleted key real) b
    unfolding deleting
    meets_deleting b i =
        meets_bind t (when (nat_lt 0 level) (lock_end t.classes tries most Exclusive (data_node key))) (then_on (λ _. then (read t.classes key Inside most (refuses_other t.classes class)) (delete_found t.classes tries most key level)))
        (Post t (λ u. HoldsNode t (data_node key)) [] (λ b. Unit {0})) (Deleted key real) b locked
        (subst (λ c. Does t [] (λ b. Unit {0}) (when c (lock_end t.classes tries most Exclusive (data_node key))) (λ u. HoldsNode t (data_node key)) []) (sym high) (does_lock t tries (data_node key) []) (λ b. Unit {0}) (true_fact t (Unit {0})) b i tt tt)
      where
        got : (a : Tried (Option Record)) (b' : Both) → Post t (λ o b. Sees t key o b) [] (λ b. Unit {0}) a b' → Fits t (then_on (delete_found t.classes tries most key level) a) (Deleted key real) b'
        got (Got o) b' m = meets_found o b' m.0 m.1
        got (Lost x) b' m = m

        locked : (a : Tried (Unit {0})) (b' : Both) → Post t (λ u. HoldsNode t (data_node key)) [] (λ b. Unit {0}) a b'
            → Fits t (then_on (λ _. then (read t.classes key Inside most (refuses_other t.classes class)) (delete_found t.classes tries most key level)) a) (Deleted key real) b'
        locked (Got u) b' m = meets_bind t (read t.classes key Inside most (refuses_other t.classes class)) (then_on (delete_found t.classes tries most key level)) (Post t (λ o b. Sees t key o b) [] (λ b. Unit {0})) (Deleted key real) b' got
            (does_read t schema key real most (refuses_other t.classes class) (λ b. Unit {0}) (true_fact t (Unit {0})) b' m.0 m.1 tt)
        locked (Lost x) b' m = m

    ends : (a : Tried (Unit {0})) (b : Both) → Deleted key real a b → Fits t (delete_ends t.classes tries most key class a) (λ a b. IsIdle t b) b
    ends (Got u) b h = λ es others fit live.
        let b' = after_all b es in
        let r = h.0 in
        let at = h.1 in
        let i = in_all t b es _ others fit h.2 in
        let k = fact_all t (Killing key r) (killing_fact key r) b es others fit h.2.whole h.3 in
        let may : MayCome t.classes t.Facts b'.store b'.objects t.p Commit (Closes (Del key ∷ [])) = ((i.now, i.is, written_now key real level high r at b' i k), refl, safe b' key (safe_now key real level high r at b' i.whole k)) in
        (may, idle_next t b' Commit (Closes (Del key ∷ [])) i.whole (live, inr may) refl)
    ends (Lost x) b h = λ es others fit live.
        let b' = after_all b es in
        let i = in_all t b es h.0 others fit h.1 in
        let may : MayCome t.classes t.Facts b'.store b'.objects t.p RollbackOne Fails = ((i.now, i.is), refl) in
        (may, (tells.fails _ _ _ _, idle_next t b' RollbackOne Fails i.whole (live, inr may) refl))

    begun_in : (b : Both) → IsIdle t b → is_live b.store t.p ≡ true → (z : ℤ) → reply b.store t.p Begin ≡ Number z → In t (next b t.p Begin Opens) []
    unfolding desk_after
    begun_in b i live z e =
        let may : MayCome t.classes t.Facts b.store b.objects t.p Begin Opens = (i.is, refl) in
        record {
          now = just_begun (desk_at b.objects t.p.0).lists;
          whole = t.keeps b t.p Begin Opens i.whole (live, inr may);
          is = ap (λ (x : Desk). x.within) (desk_own b.objects t.p.0 Begin (reply b.store t.p Begin) Opens) ∙ ap (λ r. Rattle.object_runs.specs.ObjectMachine.opened r (desk_at b.objects t.p.0).lists) e;
          same = λ n x. refl;
        }

    begin_reply : (s : State) → (reply s t.p Begin ≡ NoLevel) ⊎ ((z : ℤ) × (reply s t.p Begin ≡ Number z))
    unfolding reply answer
    begin_reply s = by (nat_lt (length (levels_at s t.p.0)) 255)
      where
        by : (b : Bool) → (cond b (Number (pos (length (levels_at s t.p.0) + 1))) NoLevel ≡ NoLevel) ⊎ ((z : ℤ) × (cond b (Number (pos (length (levels_at s t.p.0) + 1))) NoLevel ≡ Number z))
        by true = inr (pos (length (levels_at s t.p.0) + 1), refl)
        by false = inl refl

    begun : (b : Both) → IsIdle t b → is_live b.store t.p ≡ true → Fits t (delete_begun t.classes tries most key class level (reply b.store t.p Begin)) (λ a b. IsIdle t b) (next b t.p Begin Opens)
    begun b i live = ⊎_elim
        (λ e. subst (λ r. Fits t (delete_begun t.classes tries most key class level r) (λ a b. IsIdle t b) (next b t.p Begin Opens)) (sym e)
        (tells.fails _ _ _ _, idle_next t b Begin Opens i.whole (live, inr (i.is, refl)) (ap (λ r. Rattle.object_runs.specs.ObjectMachine.opened r (desk_at b.objects t.p.0).lists) e)))
        (λ h. subst (λ r. Fits t (delete_begun t.classes tries most key class level r) (λ a b. IsIdle t b) (next b t.p Begin Opens)) (sym h.1)
        (meets_bind t (deleting t.classes tries most key class level) (delete_ends t.classes tries most key class) (Deleted key real) (λ a b. IsIdle t b) (next b t.p Begin Opens) ends
        (meets_deleting (next b t.p Begin Opens) (begun_in b i live h.0 h.1))))
        (begin_reply b.store)

    -- a delete leaves the process within no save or delete
    pub meets_delete : (b : Both) → IsIdle t b → Fits t (delete t.classes tries most key class level) (λ a b. IsIdle t b) b
    unfolding delete
    meets_delete b i = λ es others fit live.
        let i' = idle_all t b es others fit i in
        ((i'.is, refl), begun (after_all b es) i' live)
