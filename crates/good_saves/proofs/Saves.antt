-- A save as a whole, at levels 1 to 4: each operation may come, and at the Commit the change is safe.
use Rattle.std.proofs.Common.{◌≡◌, ◌⊎◌, inl, inr, ⊎_elim, ℕ, ◌+◌, ℤ, pos, Bool, true, false, cond, nat_lt, List, [], ◌∷◌, ◌++◌, length, Option, Some, None, refl, sym, ap, subst, ◌∙◌, append-nil}
use Rattle.std.specs.FinMap.{get}
use Rattle.obj_kinds.specs.declared.name.ClassName.{ClassName}
use Rattle.obj_kinds.specs.declared.op.Op.{Op}
use Rattle.obj_kinds.specs.declared.op.Op.TheVariants.{Begin, Commit, RollbackOne}
use Rattle.obj_kinds.specs.declared.op.Reply.TheVariants.{Number, TooDeep as NoLevel}
use Rattle.schema_kinds.specs.declared.key.Key.{Key}
use Rattle.schema_kinds.specs.declared.record.Record.{Record}
use Rattle.schema_kinds.specs.declared.record.Part.TheVariants.{Put}
use Rattle.schema_kinds.specs.Worlds.{Change}
use Rattle.record_layout.specs.Rows.{data_node}
use Rattle.storage_map.specs.Keys.{sides_of}
use Rattle.storage_map.specs.SoundWorlds.{IsSoundAt}
use Rattle.storage_map.specs.Worlds.{IsKeyOf}
use Rattle.store_core.specs.Machine.{State, is_live, levels_at, answer, reply}
use Rattle.store_calls.specs.Calls.{Call, Give, Opens, Closes, Fails, Tried, Got, Lost, then, then_on, each, all}
use Rattle.object_calls.specs.Asking.{Does as Done}
use Rattle.object_calls.specs.Keys.{MovedKey, MovedSide, moved_keys, moved_sides}
use Rattle.object_calls.specs.Saves.{Drawn, ToSave, Item, Work, change_of, draw, items_of, lock_row, look, keys_moved, lock_keys, test_targets, kill_entries, write, save_items, save_ends, save_drawn, save_begun, save}
use Rattle.object_runs.specs.ObjectMachine.{Desk, Within, desk_at, desk_after, view}
use Rattle.object_runs.specs.Causes.{Each, Has, sides_in_view}
use Rattle.object_runs.specs.Runs.{Both}
use Rattle.run_rules.specs.Steps.{IsWritten, MayCome, IsFit, next, after_all, just_begun}
use Rattle.run_rules.proofs.Whole.{desk_own}
use Rattle.sound_runs.specs.Closing.{AreDistinct, IsTakenNode, IsSafeChange}
use Rattle.sound_runs.specs.Backed.{Knows}
use Rattle.sound_runs.proofs.Laws.{knowledge_stays, views_are_known, draws_are_known}
use Rattle.sound_runs.proofs.Saved.{put_once}
use Rattle.call_rules.specs.Settings.{Setting}
use Rattle.call_rules.specs.Schemas.{IsStorableSchema}
use Rattle.call_rules.proofs.Rules.{Fits, In, IsOut, IsFact, Post, Does, Pairs, all_writes, in_all, fact_all, meets_bind, HoldsNode, holds_fact, true_fact, both_facts, each_fact, does_give, does_then, does_post, does_weaken, does_with, does_all}
use Rattle.good_calls.proofs.Idle.{IsIdle, idle_all, idle_next}
use Rattle.good_calls.proofs.Loads.{MayTell}
use Rattle.saving_rules.specs.Saving.{FitsItem, CanBeSaved}
use Rattle.saving_rules.proofs.Lists.{each_to, each_has, has_each, each_map}
use Rattle.saving_rules.proofs.Works.{items_in, puts, IsWork, first_of, later_of}
use Rattle.saving_rules.proofs.Facts.{IsSteadySetting, three_facts, taken_fact}
use Rattle.good_saves.proofs.Writes.{keys_same, sides_same, IsReady, AllReady, does_kill_entries, TakenFrom, does_writes}
use Rattle.good_saves.proofs.Draws.{Drew, does_draw, ids_for, free_for, IsBorn, are_born, are_high, are_distinct}
use Rattle.good_saves.proofs.Looks.{does_rows, IsLocked, IsSeen, KnownBy, does_looks, IsKnown, known_fact, items_same, all_known, are_works, born_fact}
use Rattle.good_saves.proofs.Commits.{is_written, is_safe}
use Rattle.good_saves.proofs.Targets.{AllLocked, all_locked_fact, does_lock_keys, AllKnown, all_known_fact, AllMet, all_met_fact, TargetsFit, does_test_targets}

and_each : {A : Type 0} (P Q : A → Type 0) (xs : List A) → Each P xs → Each Q xs → Each (λ x. P x × Q x) xs
and_each P Q [] p q = tt
and_each P Q (x ∷ xs) p q = ((p.0, q.0), and_each P Q xs p.1 q.1)

mapped_has : (ws : List Work) (w : Work) → Has w ws → Has w.item (items_in ws)
mapped_has [] w h = absurd h
mapped_has (x ∷ ws) w (inl e) = inl (ap (λ (y : Work). y.item) e)
mapped_has (x ∷ ws) w (inr h) = inr (mapped_has ws w h)

module _ (t : Setting) (schema : IsStorableSchema t.classes) (steady : IsSteadySetting t) (tells : MayTell t) (safe : (b : Both) (change : Change) → IsSafeChange t.classes b.store b.objects t.p change → t.Facts b.store b.objects t.p change)
    (tries most : ℕ) (is_live' : Key → Bool) (known : List (Key × ClassName)) (real : Each (λ (k : Key × ClassName). IsKeyOf t.classes k.0) known) where
  -- of each of a list, by what is known of it
  facts_has : {A : Type 0} (f : A → Done) (P Q : A → Both → Type 0) → ((x : A) → IsFact t (P x)) → ((x : A) → IsFact t (Q x)) → (es : List Op) → (xs : List A) → ((x : A) → Has x xs → Does t es (P x) (f x) (λ u. Q x) [])
      → Does t es (λ b. Each (λ x. P x b) xs) (all f xs) (λ u b. Each (λ x. Q x b) xs) []
  facts_has f P Q p_fact q_fact es [] one = does_give t es (λ b. Unit {0}) (tt {0}) (λ u b. Unit {0}) (λ b h. tt)
  facts_has f P Q p_fact q_fact es (x ∷ xs) one =
      let Ps : Both → Type 0 = λ b. Each (λ y. P y b) xs in
      let Qs : Both → Type 0 = λ b. Each (λ y. Q y b) xs in
      does_then t es (λ b. P x b × Ps b) (f x) (λ u. all f xs) (λ u b. Q x b × Ps b) (λ u b. Q x b × Qs b) []
      (does_with t es (P x) Ps (f x) (λ u. Q x) [] (each_fact t P p_fact xs) (one x (inl refl)))
      (λ u. does_post t es (λ b. Q x b × Ps b) (all f xs) (λ u b. Qs b × Q x b) (λ u b. Q x b × Qs b) [] (λ u b h. (h.1, h.0))
      (does_weaken t es (λ b. Ps b × Q x b) (λ b. Q x b × Ps b) (all f xs) (λ u b. Qs b × Q x b) [] (λ b h. (h.1, h.0))
      (does_with t es Ps (Q x) (all f xs) (λ u. Qs) [] (q_fact x) (facts_has f P Q p_fact q_fact es xs (λ y has. one y (inr has))))))

  taken_from_fact : (front back : List Work) → IsFact t (TakenFrom t schema steady tries most front back)
  taken_from_fact front [] = true_fact t (Unit {0})
  taken_from_fact front (w ∷ back) =
      both_facts t (λ b. Each (λ (m : MovedKey). IsTakenNode t.classes b.store b.objects t.p (puts front) w.item.key (puts back) m.new) (keys_moved t.classes tries most w)) (TakenFrom t schema steady tries most (front ++ w ∷ []) back)
      (each_fact t (λ (m : MovedKey) b. IsTakenNode t.classes b.store b.objects t.p (puts front) w.item.key (puts back) m.new) (λ m. taken_fact t steady (puts front) w.item.key (puts back) m.new) (keys_moved t.classes tries most w))
      (taken_from_fact (front ++ w ∷ []) back)

  abbrev All : (Work → Both → Type 0) → List Work → Both → Type 0
  All P ws b = Each (λ w. P w b) ws

  abbrev Known : Work → Both → Type 0
  Known w b = IsKnown t schema steady is_live' tries most w b

  abbrev Locked : List Item → Work → Both → Type 0
  Locked items w b = AllLocked t schema steady tries most items w b

  abbrev Met : List Item → Work → Both → Type 0
  Met items w b = AllMet t schema steady tries most items known real w b

  abbrev Ready : Work → Both → Type 0
  Ready w b = IsReady t schema steady tries most w b

  abbrev Knowing : Both → Type 0
  Knowing b = Each (λ (k : Key × ClassName). Knows t.classes b.store b.objects t.p.0 k.0 k.1) known

  knowing_fact : IsFact t Knowing
  knowing_fact = each_fact t (λ (k : Key × ClassName) b. Knows t.classes b.store b.objects t.p.0 k.0 k.1) (λ k. Rattle.saving_rules.proofs.Facts.knows_fact t steady k.0 k.1) known

  -- what is known when all is written
  pub record Finished (items : List Item) (ws : List Work) (b : Both) : Type 0 where
    pub same : items_in ws ≡ items
    pub are : Each (IsWork t.classes) ws
    pub apart : AreDistinct (puts ws)
    pub inside : In t b (all_writes (later_of t.classes) ws ++ all_writes (first_of t.classes) ws)
    pub seen : All Known ws b
    pub met : All (Met items) ws b
    pub taken : TakenFrom t schema steady tries most [] ws b
    pub knowing : Knowing b

  abbrev Saved : List Item → Tried (List Work) → Both → Type 0
  Saved items (Got ws) b = Finished items ws b
  Saved items (Lost x) b = IsOut t b

  -- ---- from the row locks to the last write

  module _ (items : List Item) (fits : Each (FitsItem t.classes known items) items) (high : Each (λ (i : Item). nat_lt 0 i.level ≡ true) items) (distinct : AreDistinct (change_of items)) where
    sound : Each (λ (i : Item). IsSoundAt t.classes i.key i.now) items
    sound = each_to (FitsItem t.classes known items) (λ (i : Item). IsSoundAt t.classes i.key i.now) items (λ i f. f.sound) fits

    module _ (ws : List Work) (same : items_in ws ≡ items) (are : Each (IsWork t.classes) ws) where
      apart : AreDistinct (puts ws)
      apart = subst (λ is. AreDistinct (change_of is)) (sym same) distinct

      high_at : (w : Work) → Has w ws → nat_lt 0 w.item.level ≡ true
      high_at w has = each_has (λ (i : Item). nat_lt 0 i.level ≡ true) items w.item high (subst (Has w.item) same (mapped_has ws w has))

      fits_at : (w : Work) → Has w ws → TargetsFit t schema steady tries most items known real w
      fits_at w has = (each_has (FitsItem t.classes known items) items w.item fits (subst (Has w.item) same (mapped_has ws w has))).targets

      -- seen and locked, it can be written
      ready : (w : Work) (b : Both) → Known w b → Locked items w b → Ready w b
      ready w b k l = (
        k.0,
        subst (Each (λ (m : MovedKey). Rattle.good_deletes.proofs.Locks.HoldsIf t m.old b × Rattle.good_deletes.proofs.Locks.HoldsIf t m.new b)) (keys_same t tries most w) l.0,
        each_to _ (λ (m : MovedSide). Rattle.good_deletes.proofs.Locks.HoldsIf t (Rattle.object_calls.specs.Keys.side_node w.item.key m.name m.old) b × Rattle.good_deletes.proofs.Locks.HoldsIf t (Rattle.object_calls.specs.Keys.side_node w.item.key m.name m.new) b) (moved_sides (sides_in_view t.classes w.old) (sides_of t.classes w.item.now))
            (λ m h. (h.0, h.1)) (subst (Each (λ m. Rattle.good_saves.proofs.Targets.SideLocked t schema steady tries most items w.item.key m b)) (sides_same t tries most w) l.1),
      )

      abbrev Behind : Both → Type 0
      Behind b = All Known ws b × All (Met items) ws b × Knowing b

      behind_fact : IsFact t Behind
      behind_fact = three_facts t (All Known ws) (All (Met items) ws) Knowing (each_fact t Known (known_fact t schema steady is_live' tries most) ws)
          (each_fact t (Met items) (all_met_fact t schema steady tries most items known real) ws) knowing_fact

      writes : (b : Both) → In t b (all_writes (first_of t.classes) ws) → AllReady t schema steady tries most ws b → Behind b → Fits t (then (all (write t.classes tries most) ws) (λ u. Give (Got ws))) (Saved items) b
      writes b i ready' behind =
          meets_bind t (all (write t.classes tries most) ws) (then_on (λ u. Give (Got ws))) (Post t (λ u b. TakenFrom t schema steady tries most [] ws b) (all_writes (later_of t.classes) ws ++ all_writes (first_of t.classes) ws) Behind) (Saved items) b by
          (does_writes t schema steady tries most [] ws are apart Behind behind_fact b i ready' behind)
        where
          by : (a : Tried (Unit {0})) (b' : Both) → Post t (λ u b. TakenFrom t schema steady tries most [] ws b) (all_writes (later_of t.classes) ws ++ all_writes (first_of t.classes) ws) Behind a b' → Fits t (then_on (λ u. Give (Got ws)) a) (Saved items) b'
          by (Got u) b' m = record { same = same; are = are; apart = apart; inside = m.0; seen = m.2.0; met = m.2.1; taken = m.1; knowing = m.2.2 }
          by (Lost x) b' m = m

      abbrev Killing : Work → Both → Type 0
      Killing w b = IsWork t.classes w × Ready w b

      kills : (b : Both) → In t b [] → All Ready ws b → Behind b → Fits t (then (all (kill_entries t.classes tries most) ws) (λ u. then (all (write t.classes tries most) ws) (λ u. Give (Got ws)))) (Saved items) b
      kills b i ready' behind =
          meets_bind t (all (kill_entries t.classes tries most) ws) (then_on (λ u. then (all (write t.classes tries most) ws) (λ u. Give (Got ws)))) (Post t (λ u b. All Ready ws b) (all_writes (first_of t.classes) ws ++ []) Behind) (Saved items) b by
          (does_all t (kill_entries t.classes tries most) Killing Ready (first_of t.classes) (λ w. both_facts t (λ b. IsWork t.classes w) (Ready w) (true_fact t (IsWork t.classes w)) (Rattle.good_saves.proofs.Writes.ready_fact t schema steady tries most w)) (Rattle.good_saves.proofs.Writes.ready_fact t schema steady tries most)
          (λ w es R f b i pre r. does_kill_entries t schema steady tries most w pre.0 es R f b i pre.1 r) ws [] Behind behind_fact b i (and_each (IsWork t.classes) (λ w. Ready w b) ws are ready') behind)
        where
          by : (a : Tried (Unit {0})) (b' : Both) → Post t (λ u b. All Ready ws b) (all_writes (first_of t.classes) ws ++ []) Behind a b' → Fits t (then_on (λ u. then (all (write t.classes tries most) ws) (λ u. Give (Got ws))) a) (Saved items) b'
          by (Got u) b' m = writes b' (subst (In t b') (append-nil (all_writes (first_of t.classes) ws)) m.0) m.1 m.2
          by (Lost x) b' m = m

      abbrev Holding : Both → Type 0
      Holding b = All Known ws b × All (Locked items) ws b × Knowing b

      holding_fact : IsFact t Holding
      holding_fact = three_facts t (All Known ws) (All (Locked items) ws) Knowing (each_fact t Known (known_fact t schema steady is_live' tries most) ws)
          (each_fact t (Locked items) (all_locked_fact t schema steady tries most items) ws) knowing_fact

      tests : (b : Both) → In t b [] → Holding b → Fits t (then (all (test_targets t.classes tries most items) ws) (λ u. then (all (kill_entries t.classes tries most) ws) (λ u. then (all (write t.classes tries most) ws) (λ u. Give (Got ws))))) (Saved items) b
      tests b i h =
          meets_bind t (all (test_targets t.classes tries most items) ws) (then_on (λ u. then (all (kill_entries t.classes tries most) ws) (λ u. then (all (write t.classes tries most) ws) (λ u. Give (Got ws))))) (Post t (λ u b. All (Met items) ws b) [] Holding) (Saved items) b by
          (facts_has (test_targets t.classes tries most items) (λ w b. Locked items w b × Knowing b) (Met items) (λ w. both_facts t (Locked items w) Knowing (all_locked_fact t schema steady tries most items w) knowing_fact) (all_met_fact t schema steady tries most items known real) [] ws
          (λ w has. does_test_targets t schema steady tries most items known real w (fits_at w has)) Holding holding_fact b i (each_to (λ w. Locked items w b) (λ w. Locked items w b × Knowing b) ws (λ w l. (l, h.2)) h.1) h)
        where
          by : (a : Tried (Unit {0})) (b' : Both) → Post t (λ u b. All (Met items) ws b) [] Holding a b' → Fits t (then_on (λ u. then (all (kill_entries t.classes tries most) ws) (λ u. then (all (write t.classes tries most) ws) (λ u. Give (Got ws)))) a) (Saved items) b'
          by (Got u) b' m = kills b' m.0 (each_to (λ w. Known w b' × Locked items w b') (λ w. Ready w b') ws (λ w r. ready w b' r.0 r.1) (and_each (λ w. Known w b') (λ w. Locked items w b') ws m.2.0 m.2.1)) (m.2.0, m.1, m.2.2)
          by (Lost x) b' m = m

      abbrev Looking : Both → Type 0
      Looking b = All Known ws b × Knowing b

      locks : (b : Both) → In t b [] → Looking b
          → Fits t (then (all (lock_keys t.classes tries most items) ws) (λ u. then (all (test_targets t.classes tries most items) ws) (λ u. then (all (kill_entries t.classes tries most) ws) (λ u. then (all (write t.classes tries most) ws) (λ u. Give (Got ws)))))) (Saved items) b
      locks b i h =
          meets_bind t (all (lock_keys t.classes tries most items) ws) (then_on (λ u. then (all (test_targets t.classes tries most items) ws) (λ u. then (all (kill_entries t.classes tries most) ws) (λ u. then (all (write t.classes tries most) ws) (λ u. Give (Got ws))))))
          (Post t (λ u b. All (Locked items) ws b) [] Looking) (Saved items) b by
          (facts_has (lock_keys t.classes tries most items) (λ w b. Unit {0}) (Locked items) (λ w. true_fact t (Unit {0})) (all_locked_fact t schema steady tries most items) [] ws
          (λ w has. does_lock_keys t schema steady tries most items [] w (high_at w has)) Looking (both_facts t (All Known ws) Knowing (each_fact t Known (known_fact t schema steady is_live' tries most) ws) knowing_fact) b i (nothing ws) h)
        where
          nothing : (xs : List Work) → Each (λ w. Unit {0}) xs
          nothing [] = tt
          nothing (x ∷ xs) = (tt, nothing xs)

          by : (a : Tried (Unit {0})) (b' : Both) → Post t (λ u b. All (Locked items) ws b) [] Looking a b'
              → Fits t (then_on (λ u. then (all (test_targets t.classes tries most items) ws) (λ u. then (all (kill_entries t.classes tries most) ws) (λ u. then (all (write t.classes tries most) ws) (λ u. Give (Got ws))))) a) (Saved items) b'
          by (Got u) b' m = tests b' m.0 (m.2.0, m.1, m.2.1)
          by (Lost x) b' m = m

    abbrev rest_of : List Work → Call (Tried (List Work))
    rest_of ws = then (all (lock_keys t.classes tries most items) ws) (λ u. then (all (test_targets t.classes tries most items) ws) (λ u. then (all (kill_entries t.classes tries most) ws) (λ u. then (all (write t.classes tries most) ws) (λ u. Give (Got ws)))))

    abbrev Born : Item → Both → Type 0
    Born i b = IsBorn t steady is_live' i b

    looks : (b : Both) → In t b [] → Each (λ i. IsLocked t schema steady is_live' tries most i b) items → Knowing b → Fits t (then (each (look t.classes tries most) items) (λ ws. rest_of ws)) (Saved items) b
    looks b i h k =
        meets_bind t (each (look t.classes tries most) items) (then_on (λ ws. rest_of ws)) (Post t (λ ws b. Pairs t (IsSeen t schema steady is_live' tries most) b items ws) [] Knowing) (Saved items) b by
        (does_looks t schema steady is_live' tries most items sound Knowing knowing_fact b i h k)
      where
        by : (a : Tried (List Work)) (b' : Both) → Post t (λ ws b. Pairs t (IsSeen t schema steady is_live' tries most) b items ws) [] Knowing a b' → Fits t (then_on (λ ws. rest_of ws) a) (Saved items) b'
        by (Got ws) b' m =
            let same = items_same t schema steady is_live' tries most items ws b' m.1 in
            let seen = all_known t schema steady is_live' tries most items ws b' m.1 in
            let are = are_works t schema steady is_live' tries most ws b' m.0.whole (subst (Each (λ (i : Item). IsSoundAt t.classes i.key i.now)) (sym same) sound) seen in
            locks ws same are b' m.0 (seen, m.2)
        by (Lost x) b' m = m

    abbrev Beginning : Both → Type 0
    Beginning b = Each (λ i. Born i b) items × Knowing b

    pub meets_items : (b : Both) → In t b [] → Beginning b → Fits t (save_items t.classes tries most items) (Saved items) b
    unfolding save_items
    meets_items b i h =
        meets_bind t (all (lock_row t.classes tries most) items) (then_on (λ u. then (each (look t.classes tries most) items) (λ ws. rest_of ws))) (Post t (λ u b. Each (λ i. HoldsNode t (data_node i.key) b) items) [] Beginning) (Saved items) b by
        (facts_has (lock_row t.classes tries most) (λ i b. Unit {0}) (λ i. HoldsNode t (data_node i.key)) (λ i. true_fact t (Unit {0})) (λ i. holds_fact t (data_node i.key)) [] items
        (λ i has. does_rows t schema steady is_live' tries most i (each_has (λ (i : Item). nat_lt 0 i.level ≡ true) items i high has) []) Beginning
        (both_facts t (λ b. Each (λ i. Born i b) items) Knowing (each_fact t Born (born_fact t schema steady is_live' tries most) items) knowing_fact) b i (nothing items) h)
      where
        nothing : (xs : List Item) → Each (λ w. Unit {0}) xs
        nothing [] = tt
        nothing (x ∷ xs) = (tt, nothing xs)

        by : (a : Tried (Unit {0})) (b' : Both) → Post t (λ u b. Each (λ i. HoldsNode t (data_node i.key) b) items) [] Beginning a b' → Fits t (then_on (λ u. then (each (look t.classes tries most) items) (λ ws. rest_of ws)) a) (Saved items) b'
        by (Got u) b' m = looks b' m.0 (and_each (λ i. HoldsNode t (data_node i.key) b') (λ i. Born i b') items m.1 m.2.0) m.2.1
        by (Lost x) b' m = m

  -- ---- the end of a save

  abbrev Lasting : List Work → List Item → Both → Type 0
  Lasting ws items b = All Known ws b × All (Met items) ws b × TakenFrom t schema steady tries most [] ws b

  lasting_fact : (ws : List Work) (items : List Item) → IsFact t (Lasting ws items)
  lasting_fact ws items = three_facts t (All Known ws) (All (Met items) ws) (TakenFrom t schema steady tries most [] ws) (each_fact t Known (known_fact t schema steady is_live' tries most) ws)
      (each_fact t (Met items) (all_met_fact t schema steady tries most items known real) ws) (taken_from_fact [] ws)

  -- ---- its beginning

  module _ (os : List ToSave) (can : CanBeSaved t.classes is_live' known os) where
    -- what is known of the objects then, where the save doesn't fail
    abbrev pub KnowsSaved : Tried Drawn → Both → Type 0
    KnowsSaved (Got drawn) b = Each (λ (i : Item). Knows t.classes b.store b.objects t.p.0 i.key i.now.class) (items_of drawn os)
    KnowsSaved (Lost x) b = Unit {0}

    abbrev pub Leaves : Tried Drawn → Both → Type 0
    Leaves a b = IsIdle t b × KnowsSaved a b

    put_of : (ws : List Work) (w : Work) → Has w ws → Has (Put w.item.key w.item.now) (puts ws)
    put_of [] w h = absurd h
    put_of (x ∷ ws) w (inl e) = inl (ap (λ (y : Work). Put y.item.key y.item.now) e)
    put_of (x ∷ ws) w (inr h) = inr (put_of ws w h)

    one_put : (ws : List Work) → AreDistinct (puts ws) → (w : Work) → Has w ws → (r : Record) → Has (Put w.item.key r) (puts ws) → r.class ≡ w.item.now.class
    one_put ws apart w has r put = by (sym (put_once (puts ws) w.item.key r apart put) ∙ put_once (puts ws) w.item.key w.item.now apart (put_of ws w has))
      where
        by : Some r ≡ Some w.item.now → r.class ≡ w.item.now.class
        by e = let same : r ≡ w.item.now = cc e in ap (λ (x : Record). x.class) same

    -- of an object of the view its class is known, and of a drawn key any
    known_before : (b : Both) (w : Work) (o : Option Record) → t.Inv b → get (view b.objects t.p.0) w.item.key ≡ o → KnownBy t schema steady is_live' tries most w.item o b → Knows t.classes b.store b.objects t.p.0 w.item.key w.item.now.class
    known_before b w None i e k = draws_are_known t.classes b.store b.objects t.p.0 w.item.key w.item.now.class (steady.steady b i).invariant (steady.steady b i).backed k
    known_before b w (Some r) i e k = subst (Knows t.classes b.store b.objects t.p.0 w.item.key) k (views_are_known t.classes b.store b.objects t.p.0 w.item.key r (steady.steady b i).invariant (steady.steady b i).backed e)

    known_saved : (b : Both) (change : Change) (ws : List Work) → t.Inv b → IsFit t.classes t.Facts b t.p Commit (Closes change) → puts ws ≡ change → AreDistinct (puts ws) → All Known ws b
        → Each (λ (w : Work). Knows t.classes (next b t.p Commit (Closes change)).store (next b t.p Commit (Closes change)).objects t.p.0 w.item.key w.item.now.class) ws
    known_saved b change ws i fit same apart k = has_each (λ (w : Work). Knows t.classes (next b t.p Commit (Closes change)).store (next b t.p Commit (Closes change)).objects t.p.0 w.item.key w.item.now.class) ws
        (λ w has.
        (let z = each_has (λ w. Known w b) ws w k has in
        knowledge_stays t.classes b.store b.objects t.p Commit (Closes change) t.p.0 w.item.key w.item.now.class (steady.steady b i).invariant (steady.steady b i).backed (steady.orderly b t.p Commit (Closes change) i fit)
        (known_before b w w.old i z.0.1 z.1) (λ is c r e put. one_put ws apart w has r (subst (Has (Put w.item.key r)) (sym (same ∙ one_change c e)) put))))
      where
        one_change : (c : Change) → Closes change ≡ Closes c → change ≡ c
        one_change c e = cc e

    ends : (drawn : Drawn) (a : Tried (List Work)) (b : Both) → Saved (items_of drawn os) a b → Fits t (save_ends t.classes tries most drawn (items_of drawn os) a) Leaves b
    ends drawn (Got ws) b h = λ es others fit live.
        let items = items_of drawn os in
        let b' = after_all b es in
        let i = in_all t b es _ others fit h.inside in
        let k = fact_all t (Lasting ws items) (lasting_fact ws items) b es others fit h.inside.whole (h.seen, h.met, h.taken) in
        let change : puts ws ≡ change_of items = ap change_of h.same in
        let wrote : IsWritten t.classes b'.store.holds t.p (view b'.objects t.p.0) i.now.asked (change_of items) =
        subst (IsWritten t.classes b'.store.holds t.p (view b'.objects t.p.0) i.now.asked) change (is_written t schema steady is_live' tries most ws h.are h.apart b' k.0 i) in
        let may : MayCome t.classes t.Facts b'.store b'.objects t.p Commit (Closes (change_of items)) =
        ((i.now, i.is, wrote), refl, safe b' (change_of items) (is_safe t schema steady is_live' tries most items known real b' ws change h.apart h.are k.0 k.1 k.2)) in (
          may,
          (
            idle_next t b' Commit (Closes (change_of items)) i.whole (live, inr may) refl,
            subst (Each (λ (i : Item). Knows t.classes (next b' t.p Commit (Closes (change_of items))).store (next b' t.p Commit (Closes (change_of items))).objects t.p.0 i.key i.now.class)) h.same
                (each_map (λ (i : Item). Knows t.classes (next b' t.p Commit (Closes (change_of items))).store (next b' t.p Commit (Closes (change_of items))).objects t.p.0 i.key i.now.class) (λ (w : Work). w.item) ws
                (known_saved b' (change_of items) ws i.whole (live, inr may) change h.apart k.0)),
          ),
        )
    ends drawn (Lost x) b h = λ es others fit live.
        let b' = after_all b es in
        let i = in_all t b es h.0 others fit h.1 in
        let may : MayCome t.classes t.Facts b'.store b'.objects t.p RollbackOne Fails = ((i.now, i.is), refl) in
        (may, (tells.fails _ _ _ _, (idle_next t b' RollbackOne Fails i.whole (live, inr may) refl, tt)))

    drawn_by : (a : Tried Drawn) (b : Both) → Post t (λ ds b. Drew t steady is_live' known [] os ds b) [] Knowing a b → Fits t (save_drawn t.classes tries most os a) Leaves b
    drawn_by (Got drawn) b m =
        let items = items_of drawn os in
        let ids = ids_for t steady is_live' known [] os drawn b m.1 in
        meets_bind t (save_items t.classes tries most (items_of drawn os)) (save_ends t.classes tries most drawn (items_of drawn os)) (Saved (items_of drawn os)) Leaves b (ends drawn)
        (meets_items (items_of drawn os) (can.fits drawn ids (free_for t steady is_live' known [] os drawn b m.1)) (are_high t steady is_live' drawn os drawn can.levels) (are_distinct t steady is_live' known drawn [] os drawn b can.live can.apart m.1) b m.0
        (are_born t steady is_live' known drawn [] os drawn b m.1, m.2))
    drawn_by (Lost x) b m = λ es others fit live.
        let b' = after_all b es in
        let i = in_all t b es m.0 others fit m.1 in
        let may : MayCome t.classes t.Facts b'.store b'.objects t.p RollbackOne Fails = ((i.now, i.is), refl) in
        (may, (tells.fails _ _ _ _, (idle_next t b' RollbackOne Fails i.whole (live, inr may) refl, tt)))

    begun_in : (b : Both) → IsIdle t b → is_live b.store t.p ≡ true → (z : ℤ) → reply b.store t.p Begin ≡ Number z → In t (next b t.p Begin Opens) []
    unfolding desk_after
    begun_in b i live z e =
        let may : MayCome t.classes t.Facts b.store b.objects t.p Begin Opens = (i.is, refl) in
        record {
          now = just_begun (desk_at b.objects t.p.0).lists;
          whole = t.keeps b t.p Begin Opens i.whole (live, inr may);
          is = ap (λ (x : Desk). x.within) (desk_own b.objects t.p.0 Begin (reply b.store t.p Begin) Opens) ∙ ap (λ r. Rattle.object_runs.specs.ObjectMachine.opened r (desk_at b.objects t.p.0).lists) e;
          same = λ n x. refl;
        }

    begin_reply : (s : State) → (reply s t.p Begin ≡ NoLevel) ⊎ ((z : ℤ) × (reply s t.p Begin ≡ Number z))
    unfolding reply answer
    begin_reply s = by (nat_lt (length (levels_at s t.p.0)) 255)
      where
        by : (b : Bool) → (cond b (Number (pos (length (levels_at s t.p.0) + 1))) NoLevel ≡ NoLevel) ⊎ ((z : ℤ) × (cond b (Number (pos (length (levels_at s t.p.0) + 1))) NoLevel ≡ Number z))
        by true = inr (pos (length (levels_at s t.p.0) + 1), refl)
        by false = inl refl

    -- a Begin leaves what is known
    known_then : (b : Both) → IsIdle t b → is_live b.store t.p ≡ true → Knowing b → Knowing (next b t.p Begin Opens)
    known_then b i live h =
        let may : MayCome t.classes t.Facts b.store b.objects t.p Begin Opens = (i.is, refl) in
        each_to (λ (k : Key × ClassName). Knows t.classes b.store b.objects t.p.0 k.0 k.1) (λ (k : Key × ClassName). Knows t.classes (next b t.p Begin Opens).store (next b t.p Begin Opens).objects t.p.0 k.0 k.1) known
        (λ k g. knowledge_stays t.classes b.store b.objects t.p Begin Opens t.p.0 k.0 k.1 (steady.steady b i.whole).invariant (steady.steady b i.whole).backed (steady.orderly b t.p Begin Opens i.whole (live, inr may)) g (λ is change r e. absurd (cc e))) h

    begun : (b : Both) → IsIdle t b → is_live b.store t.p ≡ true → Knowing b → Fits t (save_begun t.classes tries most is_live' os (reply b.store t.p Begin)) Leaves (next b t.p Begin Opens)
    begun b i live h = ⊎_elim
        (λ e. subst (λ r. Fits t (save_begun t.classes tries most is_live' os r) Leaves (next b t.p Begin Opens)) (sym e)
        (tells.fails _ _ _ _, (idle_next t b Begin Opens i.whole (live, inr (i.is, refl)) (ap (λ r. Rattle.object_runs.specs.ObjectMachine.opened r (desk_at b.objects t.p.0).lists) e), tt)))
        (λ g. subst (λ r. Fits t (save_begun t.classes tries most is_live' os r) Leaves (next b t.p Begin Opens)) (sym g.1)
        (meets_bind t (draw is_live' [] os) (save_drawn t.classes tries most os) (Post t (λ ds b. Drew t steady is_live' known [] os ds b) [] Knowing) Leaves (next b t.p Begin Opens) drawn_by
        (does_draw t steady is_live' known os can.extents [] Knowing knowing_fact (next b t.p Begin Opens) (begun_in b i live g.0 g.1) (known_then b i live h) (known_then b i live h))))
        (begin_reply b.store)

    -- a save leaves the process within no save or delete
    pub meets_save : (b : Both) → IsIdle t b → Knowing b → Fits t (save t.classes tries most is_live' os) Leaves b
    unfolding save
    meets_save b i h = λ es others fit live.
        let i' = idle_all t b es others fit i in
        let h' = fact_all t Knowing knowing_fact b es others fit i.whole h in
        ((i'.is, refl), begun (after_all b es) i' live h')
