-- Facts of a save that hold to its end, whatever the other processes do; and rules for shared locks, and for what each of a list finds out.
use Rattle.std.proofs.Common.{◌≡◌, ◌≢◌, inl, inr, ℕ, zero, suc, true, List, [], ◌∷◌, Option, Some, None, refl, sym, ap, subst, ◌∙◌}
use Rattle.std.specs.FinMap.{get}
use Rattle.obj_kinds.specs.declared.name.ClassName.{ClassName}
use Rattle.obj_kinds.specs.declared.node.Node.{Node}
use Rattle.obj_kinds.specs.declared.op.Pid.{Pid}
use Rattle.obj_kinds.specs.declared.op.Op.{Op}
use Rattle.obj_kinds.specs.declared.op.Op.TheVariants.{Lock, Begin, Commit, RollbackOne, RollbackAll, End}
use Rattle.obj_kinds.specs.declared.op.Mode.TheVariants.{Shared, Exclusive}
use Rattle.obj_kinds.specs.declared.op.Owner.TheVariants.{Object as ForObjects}
use Rattle.obj_kinds.specs.declared.op.Keep.TheVariants.{ToEnd}
use Rattle.obj_kinds.specs.declared.op.Reply.{Reply}
use Rattle.obj_kinds.specs.declared.op.Reply.TheVariants.{Granted, Held}
use Rattle.obj_kinds.specs.declared.cause.Cause.{Cause}
use Rattle.obj_kinds.specs.declared.cause.Cause.TheVariants.{Busy, NotFound}
use Rattle.schema_kinds.specs.declared.key.Key.{Key}
use Rattle.schema_kinds.specs.Worlds.{Change}
use Rattle.record_layout.specs.Rows.{data_node}
use Rattle.storage_map.specs.Keys.{target_key}
use Rattle.lock_table.specs.declared.hold.Kept.{Kept}
use Rattle.lock_table.specs.Holds.{Holds, hold}
use Rattle.store_core.specs.Machine.{State, is_live, turn, answer, after, reply}
use Rattle.store_calls.specs.Calls.{Call, Tag, Inside, Tried, on_lock, try, try_from, all}
use Rattle.object_calls.specs.Asking.{Does as Done, lock_to_end}
use Rattle.object_calls.specs.Keys.{MovedSide}
use Rattle.object_runs.specs.Causes.{Each}
use Rattle.object_runs.specs.Runs.{Both}
use Rattle.object_runs.specs.Invariant.{HoldsShared}
use Rattle.run_rules.proofs.Granted.{kept_asked}
use Rattle.run_rules.specs.Steps.{IsWithinLevel, MayCome, IsFit, next, Event, step_by, after_all}
use Rattle.sound_runs.specs.Closing.{IsDrawn, IsVacant, IsTakenNode, IsMetTarget}
use Rattle.sound_runs.specs.Backed as backed
use Rattle.sound_runs.specs.Backed.{Knows, IsOrderly}
use Rattle.sound_runs.specs.Reads.{HoldsSome}
use Rattle.sound_runs.specs.Stays.{IsOthers}
use Rattle.sound_runs.proofs.Viewed.{there, shared_there}
use Rattle.sound_runs.proofs.Found as found
use Rattle.sound_runs.proofs.Found.{holds_stay, held_views_stay, vacant_stays}
use Rattle.sound_runs.proofs.OwnFound as own
use Rattle.sound_runs.proofs.OwnFound.{own_holds_stay}
use Rattle.sound_runs.proofs.Laws.{knowledge_stays}
use Rattle.steady_runs.specs.Steady.{IsSteady}
use Rattle.call_rules.specs.Settings.{Setting}
use Rattle.call_rules.proofs.Rules.{Fits, In, IsFact, Post, Does, true_fact, each_fact, holds_fact, in_all, fact_all, in_next, does_give, does_then, does_post, does_weaken, does_with}
use Rattle.call_rules.proofs.Seen.{view_kept}

-- in which all parts of the invariant hold, and what may come is orderly
pub record IsSteadySetting (t : Setting) : Type 0 where
  pub steady : (b : Both) → t.Inv b → IsSteady t.classes b
  pub orderly : (b : Both) (q : Pid) (op : Op) (tag : Tag) → t.Inv b → IsFit t.classes t.Facts b q op tag → IsOrderly t.classes b.store b.objects q op tag

same_level : (op : Op) → IsWithinLevel op → backed.IsWithinLevel op
same_level Begin h = absurd h
same_level Commit h = absurd h
same_level RollbackOne h = absurd h
same_level RollbackAll h = absurd h
same_level End h = absurd h
same_level _ h = tt

pub shared_some : (hs : Holds) (p : Pid) (n : Node) → HoldsShared hs p n → HoldsSome hs p n
shared_some hs p n (inl x) = (Exclusive, x.0, there hs p n x)
shared_some hs p n (inr x) = (Shared, x.0, shared_there hs p n x)

pub shared_after : (s : State) (p : Pid) (n : Node) → reply s p (Lock n Shared ForObjects ToEnd) ≡ Granted → HoldsShared (after s p (Lock n Shared ForObjects ToEnd)).holds p n
unfolding reply answer after turn
shared_after s p n e = inr (ForObjects, ap (λ (c : Kept). c.to_end) (kept_asked s.holds (hold p n Shared ForObjects) ToEnd e))

module _ (t : Setting) where
  pub three_facts : (P Q R : Both → Type 0) → IsFact t P → IsFact t Q → IsFact t R → IsFact t (λ b. P b × Q b × R b)
  three_facts P Q R f g h = record {
    others = λ b e ne w fit x. (f.others b e ne w fit x.0, g.others b e ne w fit x.1, h.others b e ne w fit x.2);
    own = λ b op w live may x. (f.own b op w live may x.0, g.own b op w live may x.1, h.own b op w live may x.2);
  }

  pub four_facts : (P Q R S : Both → Type 0) → IsFact t P → IsFact t Q → IsFact t R → IsFact t S → IsFact t (λ b. P b × Q b × R b × S b)
  four_facts P Q R S f g h k = record {
    others = λ b e ne w fit x. (f.others b e ne w fit x.0, g.others b e ne w fit x.1, h.others b e ne w fit x.2, k.others b e ne w fit x.3);
    own = λ b op w live may x. (f.own b op w live may x.0, g.own b op w live may x.1, h.own b op w live may x.2, k.own b op w live may x.3);
  }

module _ (t : Setting) (steady : IsSteadySetting t) where
  others_of : (b : Both) (e : Event) → e.pid.0 ≢ t.p.0 → t.Inv b → IsFit t.classes t.Facts b e.pid e.op e.tag → IsOthers t.classes b.store b.objects t.p e.pid e.op e.tag
  others_of b e ne w fit = record { another = ne; invariant = (steady.steady b w).invariant; backed = (steady.steady b w).backed; orderly = steady.orderly b e.pid e.op e.tag w fit }

  own_orderly : (b : Both) (op : Op) → t.Inv b → is_live b.store t.p ≡ true → MayCome t.classes t.Facts b.store b.objects t.p op Inside → IsOrderly t.classes b.store b.objects t.p op Inside
  own_orderly b op w live may = steady.orderly b t.p op Inside w (live, inr may)

  pub shared_fact : (n : Node) → IsFact t (λ b. HoldsShared b.store.holds t.p n)
  shared_fact n = record {
    others = λ b e ne w fit h. (holds_stay t.classes b.store b.objects t.p e.pid e.op e.tag n (others_of b e ne w fit)).1 h;
    own = λ b op w live may h. (own_holds_stay t.classes b.store b.objects t.p op Inside n (steady.steady b w).invariant (own_orderly b op w live may) refl (same_level op may.1)).1 h;
  }

  pub drawn_fact : (key : Key) → IsFact t (λ b. IsDrawn b.objects t.p.0 key)
  drawn_fact key = record {
    others = λ b e ne w fit h. found.drawn_kept t.classes b.store b.objects t.p e.pid e.op e.tag (others_of b e ne w fit) key h;
    own = λ b op w live may h. own.drawn_kept t.classes b.store b.objects t.p op Inside (steady.steady b w).invariant (own_orderly b op w live may) refl (same_level op may.1) key h;
  }

  pub knows_fact : (key : Key) (class : ClassName) → IsFact t (λ b. Knows t.classes b.store b.objects t.p.0 key class)
  knows_fact key class = record {
    others = λ b e ne w fit h. knowledge_stays t.classes b.store b.objects e.pid e.op e.tag t.p.0 key class (steady.steady b w).invariant (steady.steady b w).backed (steady.orderly b e.pid e.op e.tag w fit) h
        (λ is change r. absurd (ne (sym is)));
    own = λ b op w live may h. knowledge_stays t.classes b.store b.objects t.p op Inside t.p.0 key class (steady.steady b w).invariant (steady.steady b w).backed (own_orderly b op w live may) h
        (λ is change r e. absurd (cc e));
  }

  pub taken_fact : (front : Change) (key : Key) (back : Change) (o : Option Node) → IsFact t (λ b. IsTakenNode t.classes b.store b.objects t.p front key back o)
  taken_fact front key back None = true_fact t (Unit {0})
  taken_fact front key back (Some n) = record {
    others = λ b e ne w fit h. ((holds_fact t n).others b e ne w fit h.0, vacant_stays t.classes b.store b.objects t.p e.pid e.op e.tag front key back n (others_of b e ne w fit) h.0 h.1);
    own = λ b op w live may h. ((holds_fact t n).own b op w live may h.0, subst (λ v. IsVacant t.classes v front key back n) (sym (view_kept t b op may.1)) h.1);
  }

  pub met_fact : (change : Change) (m : MovedSide) (o : Option (List ℕ)) → IsFact t (λ b. IsMetTarget t.classes b.store b.objects t.p change m o)
  met_fact change m None = true_fact t (Unit {0})
  met_fact change m (Some id) = record {
    others = λ b e ne w fit h. later_by b e ne w fit h;
    own = λ b op w live may h. own_by b op w live may h;
  }
    where
      later_by : (b : Both) (e : Event) → e.pid.0 ≢ t.p.0 → t.Inv b → IsFit t.classes t.Facts b e.pid e.op e.tag → IsMetTarget t.classes b.store b.objects t.p change m (Some id) → IsMetTarget t.classes (step_by b e).store (step_by b e).objects t.p change m (Some id)
      later_by b e ne w fit (inl h) = inl h
      later_by b e ne w fit (inr h) =
          let key = target_key t.classes m.class id in
          inr (h.0, held_views_stay t.classes b.store b.objects t.p e.pid e.op e.tag key (others_of b e ne w fit) (shared_some b.store.holds t.p (data_node key) h.3) ∙ h.1, h.2, (shared_fact (data_node key)).others b e ne w fit h.3)

      own_by : (b : Both) (op : Op) → t.Inv b → is_live b.store t.p ≡ true → MayCome t.classes t.Facts b.store b.objects t.p op Inside → IsMetTarget t.classes b.store b.objects t.p change m (Some id) → IsMetTarget t.classes (next b t.p op Inside).store (next b t.p op Inside).objects t.p change m (Some id)
      own_by b op w live may (inl h) = inl h
      own_by b op w live may (inr h) =
          let key = target_key t.classes m.class id in
          inr (h.0, ap (λ v. get v key) (view_kept t b op may.1) ∙ h.1, h.2, (shared_fact (data_node key)).own b op w live may h.3)

  -- ---- shared locks to the end

  abbrev pub SharedAt : Node → Both → Type 0
  SharedAt n b = HoldsShared b.store.holds t.p n

  on_shared : (n : Node) (r : Reply) (again : Cause → Call (Tried (Unit {0}))) (es : List Op) (R : Both → Type 0) (b : Both) → In t b es → R b → (r ≡ Granted → SharedAt n b) → ((x : Cause) → Fits t (again x) (Post t (λ u. SharedAt n) es R) b)
      → Fits t (on_lock r again) (Post t (λ u. SharedAt n) es R) b
  on_shared n Granted again es R b i q got more = (i, got refl, q)
  on_shared n (Held h m d) again es R b i q got more = more (Busy h m)
  on_shared n _ again es R b i q got more = more NotFound

  shared_from : (tries : ℕ) (last : Cause) (n : Node) (es : List Op) → Does t es (λ b. Unit {0}) (try_from last Inside tries (lock_to_end Shared n)) (λ u. SharedAt n) []
  shared_from zero last n es R f b i pre r = (es, i)
  shared_from (suc j) last n es R f b i pre r = λ evs others fit live.
      let op = lock_to_end Shared n in
      let b' = after_all b evs in
      let i' = in_all t b evs es others fit i in
      let r' = fact_all t R f b evs others fit i.whole r in
      let may : MayCome t.classes t.Facts b'.store b'.objects t.p op Inside = ((i'.now, i'.is), tt, tt) in
      let i2 = in_next t b' es [] op live tt tt (λ m x. refl) i' in
      let r2 = f.own b' op i'.whole live may r' in
      (may, on_shared n (reply b'.store t.p op) (λ x. try_from x Inside j op) es R (next b' t.p op Inside) i2 r2 (λ e. shared_after b'.store t.p n e) (λ x. shared_from j x n es R f (next b' t.p op Inside) i2 tt r2))

  pub does_share : (tries : ℕ) (n : Node) (es : List Op) → Does t es (λ b. Unit {0}) (try Inside tries (lock_to_end Shared n)) (λ u. SharedAt n) []
  does_share tries n es = shared_from tries NotFound n es

  -- ---- what is found out of each of a list by facts of it, where nothing is written

  pub facts_from : {A : Type 0} (f : A → Done) (P Q : A → Both → Type 0) → ((x : A) → IsFact t (P x)) → ((x : A) → IsFact t (Q x)) → (es : List Op) → ((x : A) → Does t es (P x) (f x) (λ u. Q x) []) → (xs : List A)
      → Does t es (λ b. Each (λ x. P x b) xs) (all f xs) (λ u b. Each (λ x. Q x b) xs) []
  facts_from f P Q p_fact q_fact es one [] = does_give t es (λ b. Unit {0}) (tt {0}) (λ u b. Unit {0}) (λ b h. tt)
  facts_from f P Q p_fact q_fact es one (x ∷ xs) =
      let Ps : Both → Type 0 = λ b. Each (λ y. P y b) xs in
      let Qs : Both → Type 0 = λ b. Each (λ y. Q y b) xs in
      does_then t es (λ b. P x b × Ps b) (f x) (λ u. all f xs) (λ u b. Q x b × Ps b) (λ u b. Q x b × Qs b) []
      (does_with t es (P x) Ps (f x) (λ u. Q x) [] (each_fact t P p_fact xs) (one x))
      (λ u. does_post t es (λ b. Q x b × Ps b) (all f xs) (λ u b. Qs b × Q x b) (λ u b. Q x b × Qs b) [] (λ u b h. (h.1, h.0))
      (does_weaken t es (λ b. Ps b × Q x b) (λ b. Q x b × Ps b) (all f xs) (λ u b. Qs b × Q x b) [] (λ b h. (h.1, h.0))
      (does_with t es Ps (Q x) (all f xs) (λ u. Qs) [] (q_fact x) (facts_from f P Q p_fact q_fact es one xs))))
