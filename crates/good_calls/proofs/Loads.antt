-- Loads and raises, at levels 2 to 4: whatever the others do, each operation may come, and a load shows the view.
use Rattle.std.proofs.Common.{◌≡◌, ◌≢◌, ℕ, zero, suc, ◌+◌, ◌-◌, ◌≤◌, Bool, true, false, cond, ◌&&◌, ◌||◌, ◌==◌, nat_lt, List, [], ◌∷◌, Option, Some, None, inl, inr, refl, sym, ap, subst, ◌∙◌, arith}
use Rattle.std.proofs.lemmas.Bool.Decides.{nat_tests}
use Rattle.std.specs.FinMap.{get}
use Rattle.obj_kinds.specs.declared.name.ClassName.{ClassName}
use Rattle.obj_kinds.specs.declared.node.Node.{Node}
use Rattle.obj_kinds.specs.declared.value.Value.{Value}
use Rattle.obj_kinds.specs.declared.op.Pid.{Pid}
use Rattle.obj_kinds.specs.declared.op.Op.{Op}
use Rattle.obj_kinds.specs.declared.op.Op.TheVariants.{Get, Order, Lock, Unlock}
use Rattle.obj_kinds.specs.declared.op.Mode.{Mode}
use Rattle.obj_kinds.specs.declared.op.Mode.TheVariants.{Shared, Exclusive}
use Rattle.obj_kinds.specs.declared.op.Owner.TheVariants.{Object}
use Rattle.obj_kinds.specs.declared.op.Keep.TheVariants.{Counted}
use Rattle.obj_kinds.specs.declared.op.Reply.TheVariants.{Held}
use Rattle.obj_kinds.specs.declared.cause.Cause.{Cause}
use Rattle.obj_kinds.specs.declared.cause.Cause.TheVariants.{Busy, Damaged, Gone, NotFound, OtherClass}
use Rattle.schema_kinds.specs.declared.key.Key.{Key}
use Rattle.schema_kinds.specs.declared.record.Record.{Record}
use Rattle.record_layout.specs.Rows.{data_node}
use Rattle.record_reading.specs.Rows.{items_behind}
use Rattle.storage_map.specs.Markers.{row_class}
use Rattle.storage_map.specs.Worlds.{owner, IsKeyOf}
use Rattle.store_core.specs.Machine.{is_live, levels_at, reply, after, turn}
use Rattle.store_calls.specs.Calls.{Plain, About, Opening, Loaded, Failed, Tried, Got, Lost, bind, on_lock, try_from, try}
use Rattle.object_calls.specs.Asking.{does, when, lock_counted, unlock, timed_from}
use Rattle.object_calls.specs.Extents.{is_at_or_below, refuses_other, refuses_none, has_several}
use Rattle.object_calls.specs.Reading.{value_found, read_as, on_refusal, on_marker, on_row, read}
use Rattle.object_calls.specs.Loads.{LoadCall, load_mode, about, missing, load_gives, keeps_lock, load_ends, load_read, load_locked, load_by, load, raise_lock, raise_ends, raise}
use Rattle.object_runs.specs.ObjectMachine.{Own, Desk, desk_at, desk_after, desks_after, view, apply_all}
use Rattle.object_runs.specs.Causes.{IsAt, Shows, HasTrueCause}
use Rattle.object_runs.specs.Runs.{Both}
use Rattle.object_runs.specs.Invariant.{shown, Stands}
use Rattle.object_runs.proofs.StartLaws.{image_of_key}
use Rattle.read_laws.specs.Undisturbed.{undisturbed}
use Rattle.read_laws.specs.Shown.{ShowsAt}
use Rattle.run_rules.specs.Steps.{WritesNone, MayCome, IsFit, next, Event, step_by, after_all, AreFit}
use Rattle.run_rules.specs.Good.{AreOthers}
use Rattle.run_rules.proofs.Changes.{all_alike}
use Rattle.run_rules.proofs.Stacks.{rest_top}
use Rattle.run_rules.proofs.Guards.{HasHold, only_holder, hold_stays, holds_counted}
use Rattle.run_rules.proofs.Whole.{not_true, desk_own, owned_mark, turn_fit}
use Rattle.run_rules.proofs.Step.{free_from, holder}
use Rattle.call_rules.specs.Settings.{Setting}
use Rattle.call_rules.specs.Schemas.{IsStorableSchema}
use Rattle.call_rules.proofs.Rules.{Fits, meets_bind, meets_post}
use Rattle.call_rules.proofs.Looks.{LooksBelow, OnlyLooks, only_row}
use Rattle.call_rules.proofs.Readings.{row_itself, IsReader, fits_timed}
use Rattle.good_calls.proofs.Cuts.{read_class, row_tells, row_has_class}
use Rattle.good_calls.proofs.Tries.{lock_reply, AreRefused, IsLast, busy_true}
use Rattle.good_calls.proofs.Idle.{IsIdle, same_desk, idle_all, plain_may, plain_next, own_next, later}

module _ (t : Setting) where
  -- ---- while some hold on the row keeps the others off

  abbrev pub Guards : Key → Both → Type 0
  Guards key b = HasHold b.store.holds t.p (data_node key)

  world_left : (b : Both) (e : Event) (key : Key) → t.Inv b → IsFit t.classes t.Facts b e.pid e.op e.tag → Guards key b → e.pid.0 ≢ t.p.0 → get (step_by b e).objects.world key ≡ get b.objects.world key
  unfolding desks_after reply
  world_left b e key w fit h ne =
      let s = t.has b w in
      let tr = turn_fit t.classes t.Facts b e.pid e.op e.tag s fit in
      tr.left key
      (not_true _ (λ d. ne (only_holder b.store.holds t.p e.pid (data_node key) s.rows.free h (s.pending e.pid key d))))
      (not_true _ (λ d. ne (only_holder b.store.holds t.p e.pid (data_node key) s.rows.free h (owned_mark t.classes t.Facts b e.pid e.op e.tag fit key d))))

  view_left : (b : Both) (e : Event) (key : Key) → t.Inv b → IsFit t.classes t.Facts b e.pid e.op e.tag → Guards key b → e.pid.0 ≢ t.p.0 → get (view (step_by b e).objects t.p.0) key ≡ get (view b.objects t.p.0) key
  view_left b e key w fit h ne =
      ap (λ (d : Desk). get (apply_all d.lists (step_by b e).objects.world) key) (same_desk t b e ne)
      ∙ all_alike (desk_at b.objects t.p.0).lists b.objects.world (step_by b e).objects.world key (world_left b e key w fit h ne)

  -- what an idle process reads of a key whose row it holds is what its view has
  pub reads_view : (b : Both) (n : Node) (key : Key) → owner t.classes n ≡ Some key → IsIdle t b → Guards key b → get b.store.globals n ≡ shown t.classes key n (get (view b.objects t.p.0) key)
  reads_view b n key is i h =
      let s = t.has b i.whole in
      let free = free_from t.classes b.store b.objects s t.p.0 n key (λ q ne. not_true _ (λ e. ne (only_holder b.store.holds t.p (record { 0 = q }) (data_node key) s.rows.free h (holder t.classes b.store b.objects s (record { 0 = q }) n key is e)))) in
      rest_top t.classes n key (levels_at b.store t.p.0) (desk_at b.objects t.p.0).lists (get b.store.globals n) b.objects.world
      (subst (λ m. Stands t.classes n key m (levels_at b.store t.p.0) (desk_at b.objects t.p.0).lists (get b.store.globals n) b.objects.world) i.is (s.stands t.p n key is free))

  -- the row was asked for so many entries back, and the view had o there
  pub record IsLoading (key : Key) (o : Option Record) (j : ℕ) (b : Both) : Type 0 where
    pub idle : IsIdle t b
    pub guards : Guards key b
    pub sees : get (view b.objects t.p.0) key ≡ o
    pub first : IsAt (desk_at b.objects t.p.0).own j (λ e. (e.op ≡ Get (data_node key)) × (get e.view key ≡ o))

  pub loading_other : (b : Both) (e : Event) (key : Key) (o : Option Record) (j : ℕ) → e.pid.0 ≢ t.p.0 → IsFit t.classes t.Facts b e.pid e.op e.tag → IsLoading key o j b → IsLoading key o j (step_by b e)
  loading_other b e key o j ne fit l = record {
    idle = idle_all t b (e ∷ []) (ne, tt) (fit, tt) l.idle;
    guards = hold_stays b.store t.p e.pid e.op (data_node key) ne l.guards;
    sees = view_left b e key l.idle.whole fit l.guards ne ∙ l.sees;
    first = subst (λ (d : Desk). IsAt d.own j (λ e. (e.op ≡ Get (data_node key)) × (get e.view key ≡ o))) (sym (same_desk t b e ne)) l.first;
  }

  -- looking changes neither holds nor view
  looks_free : (key : Key) (op : Op) → LooksBelow key op → WritesNone t.classes op × (op ≢ Rattle.obj_kinds.specs.declared.op.Op.TheVariants.End)
  looks_free key (Get n) looks = (tt, λ e. cc e)
  looks_free key (Order n s) looks = (tt, λ e. cc e)
  looks_free key op looks = absurd looks

  looks_view : (key : Key) (b : Both) (op : Op) → LooksBelow key op → view (next b t.p op Plain).objects t.p.0 ≡ view b.objects t.p.0
  unfolding desks_after desk_after
  looks_view key b (Get n) looks = ap (λ (d : Desk). apply_all d.lists b.objects.world) (desk_own b.objects t.p.0 (Get n) (reply b.store t.p (Get n)) Plain)
  looks_view key b (Order n s) looks = ap (λ (d : Desk). apply_all d.lists b.objects.world) (desk_own b.objects t.p.0 (Order n s) (reply b.store t.p (Order n s)) Plain)
  looks_view key b op looks = absurd looks

  looks_holds : (key : Key) (b : Both) (op : Op) → LooksBelow key op → (next b t.p op Plain).store.holds ≡ b.store.holds
  unfolding after turn
  looks_holds key b (Get n) looks = refl
  looks_holds key b (Order n s) looks = refl
  looks_holds key b op looks = absurd looks

  loading_next : (b : Both) (op : Op) (key : Key) (o : Option Record) (j : ℕ) → LooksBelow key op → is_live b.store t.p ≡ true → IsLoading key o j b → IsLoading key o (suc j) (next b t.p op Plain)
  loading_next b op key o j looks live l = record {
    idle = plain_next t b op live (looks_free key op looks).0 (looks_free key op looks).1 l.idle;
    guards = subst (λ hs. HasHold hs t.p (data_node key)) (sym (looks_holds key b op looks)) l.guards;
    sees = ap (λ v. get v key) (looks_view key b op looks) ∙ l.sees;
    first = later t b op j _ l.first;
  }

  loading_first : (b : Both) (key : Key) → is_live b.store t.p ≡ true → IsIdle t b → Guards key b → IsLoading key (get (view b.objects t.p.0) key) 0 (next b t.p (Get (data_node key)) Plain)
  loading_first b key live i h = record {
    idle = plain_next t b (Get (data_node key)) live tt (λ e. cc e) i;
    guards = subst (λ hs. HasHold hs t.p (data_node key)) (sym (looks_holds key b (Get (data_node key)) ([], row_itself key))) h;
    sees = ap (λ v. get v key) (looks_view key b (Get (data_node key)) ([], row_itself key));
    first = subst (λ os. IsAt os 0 (λ e. (e.op ≡ Get (data_node key)) × (get e.view key ≡ get (view b.objects t.p.0) key))) (sym (own_next t b (Get (data_node key)))) (_, refl, (refl, refl));
  }

  -- so many operations were asked to read, the first of the row
  abbrev pub Asked : Key → Option Record → ℕ → Both → Type 0
  Asked key o zero b = ⊥
  Asked key o (suc j) b = IsLoading key o j b

  reader : (key : Key) (o : Option Record) → IsReader t key Plain (Asked key o) o
  reader key o = record { others = others; may = may; own = own; shows = shows }
    where
      others : (j : ℕ) (b : Both) (e : Event) → e.pid.0 ≢ t.p.0 → IsFit t.classes t.Facts b e.pid e.op e.tag → Asked key o j b → Asked key o j (step_by b e)
      others zero b e ne fit h = absurd h
      others (suc j) b e ne fit h = loading_other b e key o j ne fit h

      may : (j : ℕ) (b : Both) (op : Op) → LooksBelow key op → Asked key o j b → MayCome t.classes t.Facts b.store b.objects t.p op Plain
      may zero b op looks h = absurd h
      may (suc j) b op looks h = plain_may t b op (looks_free key op looks).0 (looks_free key op looks).1 h.idle

      own : (j : ℕ) (b : Both) (op : Op) → LooksBelow key op → is_live b.store t.p ≡ true → Asked key o j b → Asked key o (suc j) (next b t.p op Plain)
      own zero b op looks live h = absurd h
      own (suc j) b op looks live h = loading_next b op key o j looks live h

      shows : (j : ℕ) (b : Both) (n : Node) → owner t.classes n ≡ Some key → Asked key o j b → get b.store.globals n ≡ shown t.classes key n o
      shows zero b n is h = absurd h
      shows (suc j) b n is h = reads_view b n key is h.idle h.guards ∙ ap (shown t.classes key n) h.sees

  -- ---- what a load may tell

  -- a load that shows the view may be told, and a failure whose cause is true, where a lock is tried at all
  pub record MayTellTrue (tries : ℕ) : Type 0 where
    pub loads : (os : List Own) (back : ℕ) (key : Key) (r : Record) → IsAt os back (Shows key r) → t.truth os (Loaded back key r)
    pub fails : (os : List Own) (a : About) (back : ℕ) (x : Cause) → (1 ≤ tries → HasTrueCause t.classes tries os a back x) → t.truth os (Failed a back x)

  -- a failure may be told whatever its cause is, and a load that shows the view
  pub record MayTell : Type 0 where
    pub loads : (os : List Own) (back : ℕ) (key : Key) (r : Record) → IsAt os back (Shows key r) → t.truth os (Loaded back key r)
    pub fails : (os : List Own) (a : About) (back : ℕ) (x : Cause) → t.truth os (Failed a back x)

  pub may_tell_true : (tries : ℕ) → MayTell → MayTellTrue tries
  may_tell_true tries m = record { loads = m.loads; fails = λ os a back x true_cause. m.fails os a back x }

  guards_all : (b : Both) (es : List Event) (key : Key) → AreOthers t.p es → Guards key b → Guards key (after_all b es)
  guards_all b [] key others h = h
  guards_all b (e ∷ es) key others h = guards_all (step_by b e) es key others.1 (hold_stays b.store t.p e.pid e.op (data_node key) others.0 h)

  -- what the others ask leaves what this process asked
  pub own_all : (b : Both) (es : List Event) → AreOthers t.p es → (desk_at (after_all b es).objects t.p.0).own ≡ (desk_at b.objects t.p.0).own
  own_all b [] others = refl
  own_all b (e ∷ es) others = own_all (step_by b e) es others.1 ∙ ap (λ (d : Desk). d.own) (same_desk t b e others.0)

  module _ (schema : IsStorableSchema t.classes) (tries most : ℕ) (tells : MayTellTrue tries) where
    -- the cause is true, where so many operations came after the one that decided
    abbrev pub HasCause : About → ℕ → Cause → Both → Type 0
    HasCause a back x b = 1 ≤ tries → HasTrueCause t.classes tries (desk_at b.objects t.p.0).own a back x

    pub cause_all : (a : About) (back : ℕ) (x : Cause) (b : Both) (es : List Event) → AreOthers t.p es → HasCause a back x b → HasCause a back x (after_all b es)
    cause_all a back x b es others h = subst (λ os. 1 ≤ tries → HasTrueCause t.classes tries os a back x) (sym (own_all b es others)) h

    -- one operation later
    pub cause_later : (a : About) (x : Cause) (b : Both) (op : Op) → HasCause a 0 x b → HasCause a 1 x (next b t.p op Plain)
    cause_later a x b op h = subst (λ os. 1 ≤ tries → HasTrueCause t.classes tries os a 1 x) (sym (own_next t b op)) (λ some. h some)

    -- ---- locks

    abbrev pub Locked : About → Node → Tried (Unit {0}) → Both → Type 0
    Locked a n (Got u) b = IsIdle t b × HasHold b.store.holds t.p n
    Locked a n (Lost x) b = IsIdle t b × HasCause a 0 x b

    -- it was refused so many times, the last time for this cause
    record IsTrying (n : Node) (mode : Mode) (k : ℕ) (last : Cause) (b : Both) : Type 0 where
      pub idle : IsIdle t b
      pub refused : AreRefused (lock_counted mode n) k (desk_at b.objects t.p.0).own
      pub why : IsLast k last (desk_at b.objects t.p.0).own

    trying_all : (n : Node) (mode : Mode) (k : ℕ) (last : Cause) (b : Both) (es : List Event) → AreOthers t.p es → AreFit t.classes t.Facts b es → IsTrying n mode k last b → IsTrying n mode k last (after_all b es)
    trying_all n mode k last b es others fit h = record {
      idle = idle_all t b es others fit h.idle;
      refused = subst (λ os. AreRefused (lock_counted mode n) k os) (sym (own_all b es others)) h.refused;
      why = subst (λ os. IsLast k last os) (sym (own_all b es others)) h.why;
    }

    trying_next : (n : Node) (mode : Mode) (k : ℕ) (last : Cause) (b : Both) (q : Pid) (at : Node) (d : Mode) → is_live b.store t.p ≡ true → reply b.store t.p (lock_counted mode n) ≡ Held q at d
        → IsTrying n mode k last b → IsTrying n mode (suc k) (Busy q at) (next b t.p (lock_counted mode n) Plain)
    trying_next n mode k last b q at d live e h = record {
      idle = plain_next t b (lock_counted mode n) live tt (λ e. cc e) h.idle;
      refused = subst (λ os. AreRefused (lock_counted mode n) (suc k) os) (sym (own_next t b (lock_counted mode n))) ((refl, (q, at, d, e)), h.refused);
      why = subst (λ os. IsLast (suc k) (Busy q at) os) (sym (own_next t b (lock_counted mode n))) (q, at, d, refl, e);
    }

    lock_from : (a : About) (m k : ℕ) (last : Cause) (n : Node) (mode : Mode) (b : Both) → k + m ≡ tries → IsTrying n mode k last b → Fits t (try_from last Plain m (lock_counted mode n)) (Locked a n) b
    lock_from a zero k last n mode b sum h =
        let all : k ≡ tries = omega (arith, sum) in
        (h.idle, λ some. busy_true t.classes tries a n mode Object Counted last (desk_at b.objects t.p.0).own some (subst (λ j. AreRefused (lock_counted mode n) j (desk_at b.objects t.p.0).own) all h.refused) (subst (λ j. IsLast j last (desk_at b.objects t.p.0).own) all h.why))
    lock_from a (suc m) k last n mode b sum h = λ es others fit live.
        let op = lock_counted mode n in
        let b' = after_all b es in
        let h' = trying_all n mode k last b es others fit h in (
          plain_may t b' op tt (λ e. cc e) h'.idle,
          elim (lock_reply b'.store t.p n mode Object Counted) [
            | inl e ↦ subst (λ r. Fits t (on_lock r (λ x. try_from x Plain m op)) (Locked a n) (next b' t.p op Plain)) (sym e) (plain_next t b' op live tt (λ e. cc e) h'.idle, holds_counted b'.store t.p n mode e)
            | inr r ↦ subst (λ r. Fits t (on_lock r (λ x. try_from x Plain m op)) (Locked a n) (next b' t.p op Plain)) (sym r.3)
                (lock_from a m (suc k) (Busy r.0 r.1) n mode (next b' t.p op Plain) (let one : suc k + m ≡ tries = omega (arith, sum) in one) (trying_next n mode k last b' r.0 r.1 r.2 live r.3 h'))
          ],
        )

    pub meets_try : (a : About) (n : Node) (mode : Mode) (b : Both) → IsIdle t b → Fits t (try Plain tries (lock_counted mode n)) (Locked a n) b
    meets_try a n mode b i = lock_from a tries 0 NotFound n mode b (let e : 0 + tries ≡ tries = omega arith in e) (record { idle = i; refused = tt; why = tt })

    -- ---- the read of a load

    -- Behind so many further operations: it found what the view had at its first one, or failed.
    abbrev Stays : LoadCall → ℕ → Tried (Option Record) × ℕ → Both → Type 0
    Stays l more (Got (Some r), reads) b = IsIdle t b × IsAt (desk_at b.objects t.p.0).own ((reads - 1) + more) (Shows l.key r)
    Stays l more (Got None, reads) b = IsIdle t b × HasCause (about t.classes tries most l) more (missing t.classes tries most l) b
    Stays l more (Lost x, reads) b = IsIdle t b × HasCause (about t.classes tries most l) more x b

    asked_idle : (key : Key) (o : Option Record) (j : ℕ) (b : Both) → Asked key o j b → IsIdle t b
    asked_idle key o zero b h = absurd h
    asked_idle key o (suc j) b h = h.idle

    -- the row was read, and the view has nothing there
    missing_true : (l : LoadCall) (e : Own) (os : List Own) → e.op ≡ Get (data_node l.key) → get e.view l.key ≡ None → HasTrueCause t.classes tries (e ∷ os) (about t.classes tries most l) 0 (missing t.classes tries most l)
    missing_true l e os row none = by l.touch
      where
        by : (c : Bool) → HasTrueCause t.classes tries (e ∷ os) (about t.classes tries most l) 0 (cond c (Gone l.key.id) NotFound)
        by true = (e, refl, (l.key, refl, refl, row, none))
        by false = (e, refl, (l.key, refl, row, none))

    other_true : (l : LoadCall) (e : Own) (os : List Own) (r : Record) (x : Cause) → e.op ≡ Get (data_node l.key) → get e.view l.key ≡ Some r → refuses_other t.classes l.class r.class ≡ Some x
        → HasTrueCause t.classes tries (e ∷ os) (about t.classes tries most l) 0 x
    other_true l e os r x row there = by (is_at_or_below t.classes r.class l.class) refl
      where
        by : (c : Bool) → is_at_or_below t.classes r.class l.class ≡ c → cond c None (Some (OtherClass r.class)) ≡ Some x → HasTrueCause t.classes tries (e ∷ os) (about t.classes tries most l) 0 x
        by true f g = absurd (cc g)
        by false f g = subst (λ y. HasTrueCause t.classes tries (e ∷ os) (about t.classes tries most l) 0 y) (let same : OtherClass r.class ≡ x = cc g in same) (e, refl, (l.key, l.class, r, (refl, refl), (row, there), refl, f))

    module _ (l : LoadCall) (real : IsKeyOf t.classes l.key) (b : Both) (i : IsIdle t b) (h : Guards l.key b) (live : is_live b.store t.p ≡ true) where
      abbrev now : Both
      now = next b t.p (Get (data_node l.key)) Plain

      abbrev seen : Option Record
      seen = get (view b.objects t.p.0) l.key

      abbrev row : Option Value
      row = value_found (reply b.store t.p (Get (data_node l.key)))

      abbrev refuses : ClassName → Option Cause
      refuses = refuses_other t.classes l.class

      base : (n : Node) → owner t.classes n ≡ Some l.key → get b.store.globals n ≡ shown t.classes l.key n seen
      base n is = reads_view b n l.key is i h

      shows_view : ShowsAt t.classes b.store.globals (view b.objects t.p.0) l.key
      shows_view n is = base n is ∙ sym (image_of_key t.classes (view b.objects t.p.0) n l.key is)

      first : IsLoading l.key seen 0 now
      first = loading_first b l.key live i h

      -- where no class is refused it is what the view has
      told : (v : Option Value) → row ≡ v → (y : Tried (Option Record)) → undisturbed (reply b.store t.p) (on_row t.classes l.key Plain most refuses_none v) ≡ Some y → y ≡ Got seen
      told v e y f = row_tells t.classes l.key Plain most b.store t.p (view b.objects t.p.0) y schema real (t.sound b t.p i.whole) shows_view
          (ap (λ u. undisturbed (reply b.store t.p) (on_row t.classes l.key Plain most refuses_none u)) e ∙ f)

      own_now : (desk_at now.objects t.p.0).own ≡ record { op = Get (data_node l.key); reply = reply b.store t.p (Get (data_node l.key)); view = view b.objects t.p.0 } ∷ (desk_at b.objects t.p.0).own
      own_now = own_next t b (Get (data_node l.key))

      -- a record of the class stands there, which is refused
      refused_class : (v : Value) (class : ClassName) (x : Cause) → row ≡ Some v → row_class t.classes l.key.extent v ≡ Some class → refuses class ≡ Some x → Stays l 0 (Lost x, 1) now
      refused_class v class x e f g =
          let there = row_has_class t.classes l.key Plain b.store t.p (view b.objects t.p.0) v class schema real (t.sound b t.p i.whole) shows_view e f in
          (first.idle, λ some. subst (λ os. HasTrueCause t.classes tries os (about t.classes tries most l) 0 x) (sym own_now) (other_true l _ (desk_at b.objects t.p.0).own there.0 x refl there.1 (ap refuses there.2 ∙ g)))

      without_refusal : (v : Value) (class : ClassName) (y : Tried (Option Record)) → row ≡ Some v → row_class t.classes l.key.extent v ≡ Some class
          → undisturbed (reply b.store t.p) (read_as t.classes l.key Plain most class (items_behind v)) ≡ Some y → y ≡ Got seen
      without_refusal v class y e f h = told (Some v) e y (subst (λ m. undisturbed (reply b.store t.p) (on_marker t.classes l.key Plain most refuses_none (items_behind v) m) ≡ Some y) (sym f) h)

      was_read : (v : Value) (class : ClassName) → row ≡ Some v → row_class t.classes l.key.extent v ≡ Some class → (x : Tried (Option Record) × ℕ) (b' : Both)
          → undisturbed (reply b.store t.p) (read_as t.classes l.key Plain most class (items_behind v)) ≡ Some x.0 → Asked l.key seen x.1 b' → Stays l 0 x b'
      was_read v class e f (Lost x, j) b' h m = let no = without_refusal v class (Lost x) e f h in absurd (cc no)
      was_read v class e f (Got None, j) b' h m = let no = read_class t.classes l.key Plain most (reply b.store t.p) class (items_behind v) None h in absurd (cc no.1)
      was_read v class e f (Got (Some r), zero) b' h m = absurd m
      was_read v class e f (Got (Some r), suc j) b' h m =
          let is = without_refusal v class (Got (Some r)) e f h in
          let same : seen ≡ Some r = cc is in
          let at : j ≡ (suc j - 1) + 0 = omega arith in
          (m.idle, subst (λ k. IsAt (desk_at b'.objects t.p.0).own k (Shows l.key r)) at (subst (λ o. IsAt (desk_at b'.objects t.p.0).own j (λ e. (e.op ≡ Get (data_node l.key)) × (get e.view l.key ≡ o))) same m.first))

      only_as : (v : Value) (class : ClassName) → row_class t.classes l.key.extent v ≡ Some class → refuses class ≡ None → OnlyLooks l.key Plain (read_as t.classes l.key Plain most class (items_behind v))
      only_as v class f g =
          subst (λ x. OnlyLooks l.key Plain (on_refusal t.classes l.key Plain most class (items_behind v) x)) g
          (subst (λ m. OnlyLooks l.key Plain (on_marker t.classes l.key Plain most refuses (items_behind v) m)) f (only_row l.key Plain t.classes most refuses (Some v)))

      read_on : (v : Value) (class : ClassName) → row ≡ Some v → row_class t.classes l.key.extent v ≡ Some class → refuses class ≡ None
          → Fits t (timed_from 1 (read_as t.classes l.key Plain most class (items_behind v))) (Stays l 0) now
      read_on v class e f g =
          meets_post t (timed_from 1 (read_as t.classes l.key Plain most class (items_behind v)))
          (λ x b'. (undisturbed (reply b.store t.p) (read_as t.classes l.key Plain most class (items_behind v)) ≡ Some x.0) × Asked l.key seen x.1 b') (Stays l 0) now
          (λ x b' m. was_read v class e f x b' m.0 m.1)
          (fits_timed t l.key real Plain (Asked l.key seen) seen (reader l.key seen) b.store base (read_as t.classes l.key Plain most class (items_behind v)) (only_as v class f g) 1 now first)

      on_value : (v : Option Value) → row ≡ v → Fits t (timed_from 1 (on_row t.classes l.key Plain most refuses v)) (Stays l 0) now
      on_value None e =
          let is = told None e (Got None) refl in
          let none : seen ≡ None = cc is in
          (first.idle, λ some. subst (λ os. HasTrueCause t.classes tries os (about t.classes tries most l) 0 (missing t.classes tries most l)) (sym own_now) (missing_true l _ (desk_at b.objects t.p.0).own refl none))
      on_value (Some v) e = on_class (row_class t.classes l.key.extent v) refl
        where
          on_known : (class : ClassName) (x : Option Cause) → row_class t.classes l.key.extent v ≡ Some class → refuses class ≡ x → Fits t (timed_from 1 (on_refusal t.classes l.key Plain most class (items_behind v) x)) (Stays l 0) now
          on_known class (Some x) f g = refused_class v class x e f g
          on_known class None f g = read_on v class e f g

          on_class : (m : Option ClassName) → row_class t.classes l.key.extent v ≡ m → Fits t (timed_from 1 (on_marker t.classes l.key Plain most refuses (items_behind v) m)) (Stays l 0) now
          on_class None f =
              let no = told (Some v) e (Lost (Damaged (data_node l.key))) (ap (λ m. undisturbed (reply b.store t.p) (on_marker t.classes l.key Plain most refuses_none (items_behind v) m)) f) in
              absurd (cc no)
          on_class (Some class) f = on_known class (refuses class) f refl

    meets_read : (l : LoadCall) → IsKeyOf t.classes l.key → (b : Both) → IsIdle t b → Guards l.key b → Fits t (load_read t.classes tries most l) (Stays l 0) b
    unfolding read
    meets_read l real b i h = λ es others fit live.
        let b' = after_all b es in
        let i' = idle_all t b es others fit i in
        (plain_may t b' (Get (data_node l.key)) tt (λ e. cc e) i', on_value l real b' i' (guards_all b es l.key others h) live (value_found (reply b'.store t.p (Get (data_node l.key)))) refl)

    -- ---- the load

    gives : (l : LoadCall) (more : ℕ) (x : Tried (Option Record) × ℕ) (b : Both) → Stays l more x b → Fits t (load_gives t.classes tries most l more x) (λ a b. IsIdle t b) b
    gives l more (Got None, reads) b h = (tells.fails (desk_at b.objects t.p.0).own (about t.classes tries most l) more (missing t.classes tries most l) h.1, h.0)
    gives l more (Got (Some r), reads) b h = (tells.loads (desk_at b.objects t.p.0).own ((reads - 1) + more) l.key r h.1, h.0)
    gives l more (Lost x, reads) b h = (tells.fails (desk_at b.objects t.p.0).own (about t.classes tries most l) more x h.1, h.0)

    stays_all : (l : LoadCall) (more : ℕ) (x : Tried (Option Record) × ℕ) (b : Both) (es : List Event) → AreOthers t.p es → AreFit t.classes t.Facts b es → Stays l more x b → Stays l more x (after_all b es)
    stays_all l more (Got (Some r), reads) b es others fit h = (idle_all t b es others fit h.0, subst (λ os. IsAt os ((reads - 1) + more) (Shows l.key r)) (sym (own_all b es others)) h.1)
    stays_all l more (Got None, reads) b es others fit h = (idle_all t b es others fit h.0, cause_all (about t.classes tries most l) more (missing t.classes tries most l) b es others h.1)
    stays_all l more (Lost x, reads) b es others fit h = (idle_all t b es others fit h.0, cause_all (about t.classes tries most l) more x b es others h.1)

    one_more : (l : LoadCall) (x : Tried (Option Record) × ℕ) (b : Both) (op : Op) → is_live b.store t.p ≡ true → WritesNone t.classes op → op ≢ Rattle.obj_kinds.specs.declared.op.Op.TheVariants.End → Stays l 0 x b → Stays l 1 x (next b t.p op Plain)
    one_more l (Got (Some r), reads) b op live free ne h = (
      plain_next t b op live free ne h.0,
      subst (λ k. IsAt (desk_at (next b t.p op Plain).objects t.p.0).own k (Shows l.key r)) (let e : suc ((reads - 1) + 0) ≡ (reads - 1) + 1 = omega arith in e) (later t b op ((reads - 1) + 0) (Shows l.key r) h.1),
    )
    one_more l (Got None, reads) b op live free ne h = (plain_next t b op live free ne h.0, cause_later (about t.classes tries most l) (missing t.classes tries most l) b op h.1)
    one_more l (Lost x, reads) b op live free ne h = (plain_next t b op live free ne h.0, cause_later (about t.classes tries most l) x b op h.1)

    stays_idle : (l : LoadCall) (more : ℕ) (x : Tried (Option Record) × ℕ) (b : Both) → Stays l more x b → IsIdle t b
    stays_idle l more (Got (Some r), reads) b h = h.0
    stays_idle l more (Got None, reads) b h = h.0
    stays_idle l more (Lost x, reads) b h = h.0

    ends : (l : LoadCall) (mode : Mode) (x : Tried (Option Record) × ℕ) (c : Bool) (b : Both) → Stays l 0 x b → Fits t (load_ends t.classes tries most l mode x c) (λ a b. IsIdle t b) b
    ends l mode x true b h = gives l 0 x b h
    ends l mode x false b h = λ es others fit live.
        let b' = after_all b es in
        let h' = stays_all l 0 x b es others fit h in
        let i' = stays_idle l 0 x b' h' in
        (plain_may t b' (unlock mode (data_node l.key)) tt (λ e. cc e) i', gives l 1 x (next b' t.p (unlock mode (data_node l.key)) Plain) (one_more l x b' (unlock mode (data_node l.key)) live tt (λ e. cc e) h'))

    locked : (l : LoadCall) (mode : Mode) → IsKeyOf t.classes l.key → (x : Tried (Unit {0})) (b : Both) → Locked (about t.classes tries most l) (data_node l.key) x b → Fits t (load_locked t.classes tries most l mode x) (λ a b. IsIdle t b) b
    locked l mode real (Lost x) b h = (tells.fails (desk_at b.objects t.p.0).own (about t.classes tries most l) 0 x h.1, h.0)
    locked l mode real (Got u) b h =
        meets_bind t (load_read t.classes tries most l) (λ x. load_ends t.classes tries most l mode x (keeps_lock t.classes tries most l x.0)) (Stays l 0) (λ a b. IsIdle t b) b
        (λ x b' m. ends l mode x (keeps_lock t.classes tries most l x.0) b' m) (meets_read l real b h.0 h.1)

    high : (u : ℕ) → nat_lt u 2 ≡ false → nat_lt 1 u ≡ true
    high u e = grind (arith, nat_tests)

    mode_of : (l : LoadCall) → nat_lt l.level 2 ≡ false → load_mode t.classes tries most l ≡ Some (cond (l.level == 4) Exclusive Shared)
    mode_of l e = ap (λ b. cond (b || (l.level == 1 && has_several t.classes l.class)) (Some (cond (l.level == 4) Exclusive Shared)) None) (high l.level e)

    -- a load of level 2 or more leaves the process within no save or delete
    pub meets_load : (l : LoadCall) (b : Both) → IsKeyOf t.classes l.key → nat_lt l.level 2 ≡ false → IsIdle t b → Fits t (load t.classes tries most l) (λ a b. IsIdle t b) b
    unfolding load
    meets_load l b real level i = subst (λ m. Fits t (load_by t.classes tries most l m) (λ a b. IsIdle t b) b) (sym (mode_of l level))
        (let mode = cond (l.level == 4) Exclusive Shared in
        meets_bind t (try Plain tries (lock_counted mode (data_node l.key))) (load_locked t.classes tries most l mode) (Locked (about t.classes tries most l) (data_node l.key)) (λ a b. IsIdle t b) b
        (λ x b' h. locked l mode real x b' h) (meets_try (about t.classes tries most l) (data_node l.key) mode b i))

    -- ---- a live object is raised

    abbrev RaiseEnds : Key → ClassName → Tried (Unit {0}) → Both → Type 0
    RaiseEnds key class (Got u) b = IsIdle t b
    RaiseEnds key class (Lost x) b = IsIdle t b × HasCause (Opening key class) 0 x b

    raised : (key : Key) (class : ClassName) (u v : ℕ) (x : Tried (Unit {0})) (b : Both) → RaiseEnds key class x b → Fits t (raise_ends tries key class u v x) (λ a b. IsIdle t b) b
    raised key class u v (Lost x) b h = (tells.fails (desk_at b.objects t.p.0).own (Opening key class) 0 x h.1, h.0)
    raised key class u v (Got w) b i = by (v == 4 && u == 3)
      where
        by : (c : Bool) → Fits t (when c (does Plain (unlock Shared (data_node key)))) (λ a b. IsIdle t b) b
        by true = λ es others fit live.
            let b' = after_all b es in
            let i' = idle_all t b es others fit i in
            (plain_may t b' (unlock Shared (data_node key)) tt (λ e. cc e) i', plain_next t b' (unlock Shared (data_node key)) live tt (λ e. cc e) i')
        by false = i

    locked_raised : (key : Key) (class : ClassName) (x : Tried (Unit {0})) (b : Both) → Locked (Opening key class) (data_node key) x b → RaiseEnds key class x b
    locked_raised key class (Got u) b h = h.0
    locked_raised key class (Lost x) b h = h

    raise_locked : (key : Key) (class : ClassName) (v : ℕ) (b : Both) → IsIdle t b → Fits t (raise_lock tries key class v) (RaiseEnds key class) b
    raise_locked key class v b i = by (v == 4) (v == 3)
      where
        one : (mode : Mode) → Fits t (try Plain tries (lock_counted mode (data_node key))) (RaiseEnds key class) b
        one mode = meets_post t (try Plain tries (lock_counted mode (data_node key))) (Locked (Opening key class) (data_node key)) (RaiseEnds key class) b (locked_raised key class) (meets_try (Opening key class) (data_node key) mode b i)

        by : (x y : Bool) → Fits t (cond x (try Plain tries (lock_counted Exclusive (data_node key))) (when y (try Plain tries (lock_counted Shared (data_node key))))) (RaiseEnds key class) b
        by true y = one Exclusive
        by false true = one Shared
        by false false = i

    pub meets_raise : (key : Key) (class : ClassName) (u v : ℕ) (b : Both) → IsIdle t b → Fits t (raise tries key class u v) (λ a b. IsIdle t b) b
    unfolding raise
    meets_raise key class u v b i = by (nat_lt u v)
      where
        by : (c : Bool) → Fits t (when c (bind (raise_lock tries key class v) (raise_ends tries key class u v))) (λ a b. IsIdle t b) b
        by true = meets_bind t (raise_lock tries key class v) (raise_ends tries key class u v) (RaiseEnds key class) (λ a b. IsIdle t b) b (λ x b' h. raised key class u v x b' h) (raise_locked key class v b i)
        by false = i
