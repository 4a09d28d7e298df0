-- What a process reads is its view, under its own writes.
use Rattle.std.proofs.Common.{◌≡◌, ◌≢◌, ◌⊎◌, inl, inr, ⊎_elim, ℕ, zero, suc, ◌+◌, ◌≤◌, pos, Bool, true, false, not, ◌==◌, ◌&&◌, ◌||◌, List, [], ◌∷◌, length, Option, Some, None, is_some, unwrap_or, refl, sym, ap, ◌∙◌, subst, arith}
use Rattle.std.proofs.lemmas.Bool.Decides.{nat_tests}
use Rattle.std.specs.FinMap.{get, contains_key}
use Rattle.obj_kinds.specs.declared.node.Node.{Node}
use Rattle.obj_kinds.specs.declared.value.Value.{Value}
use Rattle.obj_kinds.specs.declared.op.Pid.{Pid}
use Rattle.obj_kinds.specs.declared.op.Owner.{Owner}
use Rattle.obj_kinds.specs.declared.op.Mode.TheVariants.{Shared, Exclusive}
use Rattle.obj_kinds.specs.declared.op.Reply.TheVariants.{Number}
use Rattle.global_tree.proofs.StepLaws.{covers_itself}
use Rattle.schema_kinds.specs.declared.class.Class.{Class}
use Rattle.schema_kinds.specs.declared.key.Key.{Key}
use Rattle.schema_kinds.specs.Worlds.{World, Change}
use Rattle.record_layout.specs.Rows.{data_node}
use Rattle.storage_map.specs.Worlds.{owner}
use Rattle.lock_table.specs.declared.hold.Kept.{Kept}
use Rattle.lock_table.specs.Holds.{Holds, hold, kept, unheld, is_exclusive}
use Rattle.lock_table.specs.Conflict.{conflicts}
use Rattle.lock_table.specs.Calls.{IsFree}
use Rattle.tran_log.specs.Levels.{Level, Levels}
use Rattle.store_core.specs.Cleared.{outermost}
use Rattle.store_core.specs.Machine.{State, levels_at, number_or, answer, reply}
use Rattle.store_core.specs.Guard.{HoldsToEnd, HoldsGuard, names}
use Rattle.store_core.proofs.GuardHolds.{one_holder}
use Rattle.object_calls.specs.Extents.{counter_node}
use Rattle.object_runs.specs.ObjectMachine.{Desks, Within, desk_at, view}
use Rattle.object_runs.specs.Headline.{Counts, first_number}
use Rattle.object_runs.specs.Invariant.{row_guarding, HoldsRow, some_changes, shown, shown_in, Rest, Stands, IsAlone, Present, Pending, IsInvariant}
use Rattle.sound_runs.specs.Reads.{HoldsSome, under_writes, IsAsViewed, RowsAreAsViewed, GuardedAreAsViewed, DrawsAreFresh, DrawnAreBare}
use Rattle.sound_runs.proofs.Changes.{not_true, all_unchanged}
use Rattle.sound_runs.proofs.Counters.{Steps, Up, Full, counter_steps}

-- ---- any hold keeps others from holding a node exclusively

pub there : (hs : Holds) (p : Pid) (n : Node) (h : HoldsToEnd hs p n) → contains_key hs (hold p n Exclusive h.0) ≡ true
there hs p n h = by (get hs (hold p n Exclusive h.0)) h.1
  where
    by : (o : Option Kept) → (unwrap_or o unheld).to_end ≡ true → is_some o ≡ true
    by None e = absurd (cc e)
    by (Some c) e = refl

pub shared_there : (hs : Holds) (p : Pid) (n : Node) (h : (o : Owner) × ((kept hs (hold p n Shared o)).to_end ≡ true)) → contains_key hs (hold p n Shared h.0) ≡ true
shared_there hs p n h = by (get hs (hold p n Shared h.0)) h.1
  where
    by : (o : Option Kept) → (unwrap_or o unheld).to_end ≡ true → is_some o ≡ true
    by None e = absurd (cc e)
    by (Some c) e = refl

pub some_apart : (hs : Holds) (p q : Pid) (n : Node) → IsFree hs → HoldsSome hs p n → HoldsToEnd hs q n → q.0 ≡ p.0
unfolding conflicts
some_apart hs p q n free h k = tested (both (p.0 == q.0) (is_exclusive h.0) _ (covers_itself n) (free (hold p n h.0 h.1) (hold q n Exclusive k.0) h.2 (there hs q n k)))
  where
    both : (t m c : Bool) → c ≡ true → (not t && (m || true)) && (c || c) ≡ false → t ≡ true
    both true m c e f = refl
    both false true true e f = absurd (cc f)
    both false false true e f = absurd (cc f)
    both false m false e f = absurd (cc e)

    tested : (p.0 == q.0) ≡ true → q.0 ≡ p.0
    tested e = grind (arith, nat_tests)

-- ---- levels that don't have a node

split_named : (a b : Bool) → (a || b) ≡ false → (a ≡ false) × (b ≡ false)
split_named a b e = grind arith

outer_some : (x y : Option (Option Value)) → is_some (Rattle.std.specs.Option.option_or x y) ≡ (is_some x || is_some y)
outer_some None None = refl
outer_some None (Some v) = refl
outer_some (Some v) y = refl

unnamed_parts : (l : Level) (ls : Levels) (n : Node) → names (l ∷ ls) n ≡ false → (names ls n ≡ false) × (get l n ≡ None)
unnamed_parts l ls n e =
    let parts = split_named (names ls n) (is_some (get l n)) (sym (outer_some (outermost ls n) (get l n)) ∙ e) in
    (parts.0, none (get l n) parts.1)
  where
    none : (x : Option (Option Value)) → is_some x ≡ false → x ≡ None
    none None e = refl
    none (Some v) e = absurd (cc e)

module _ (classes : List Class) (n : Node) (key : Key) where
  rest_top : (ls : Levels) (cs : List Change) (v : Option Value) (w : World) → Rest classes n key ls cs v w → v ≡ shown_in classes n key cs w
  rest_top [] [] v w r = r
  rest_top (l ∷ ls) (c ∷ cs) v w r = r.0
  rest_top [] (c ∷ cs) v w r = absurd r
  rest_top (l ∷ ls) [] v w r = absurd r

  -- where no level has the node it is that of the world
  rest_bottom : (ls : Levels) (cs : List Change) (v : Option Value) (w : World) → Rest classes n key ls cs v w → names ls n ≡ false → v ≡ shown classes key n (get w key)
  rest_bottom [] [] v w r e = r
  rest_bottom (l ∷ ls) (c ∷ cs) v w r e =
      let parts = unnamed_parts l ls n e in
      rest_bottom ls cs v w (subst (λ x. Rest classes n key ls cs (unwrap_or x v) w) parts.1 r.1) parts.0
  rest_bottom [] (c ∷ cs) v w r e = absurd r
  rest_bottom (l ∷ ls) [] v w r e = absurd r

  stands_top : (b : Option Within) (ls : Levels) (cs : List Change) (v : Option Value) (w : World) → Stands classes n key b ls cs v w → v ≡ under_writes b n (shown_in classes n key cs w)
  stands_top None ls cs v w h = rest_top ls cs v w h
  stands_top (Some x) (l ∷ ls) (c ∷ cs) v w h = h.0
  stands_top (Some x) [] cs v w h = absurd h
  stands_top (Some x) (l ∷ ls) [] v w h = absurd h

  stands_bottom : (b : Option Within) (ls : Levels) (cs : List Change) (v : Option Value) (w : World) → Stands classes n key b ls cs v w → names ls n ≡ false → v ≡ shown classes key n (get w key)
  stands_bottom None ls cs v w h e = rest_bottom ls cs v w h e
  stands_bottom (Some x) (l ∷ ls) (c ∷ cs) v w h e =
      let parts = unnamed_parts l ls n e in
      rest_bottom ls cs v w (subst (λ y. Rest classes n key ls cs (unwrap_or y v) w) parts.1 h.1) parts.0
  stands_bottom (Some x) [] cs v w h e = absurd h
  stands_bottom (Some x) (l ∷ ls) [] v w h e = absurd h

module _ (classes : List Class) (s : State) (o : Desks) (inv : IsInvariant classes s o) (n : Node) (key : Key) (own : owner classes n ≡ Some key) where
  -- who has the node in a level holds its row
  names_row : (q : Pid) → names (levels_at s q.0) n ≡ true → HoldsRow s.holds q key
  names_row q e = subst (λ x. HoldsGuard s.holds q (row_guarding classes n x)) own (inv.rows.held q n e)

  pub alone_viewed : (p : Pid) → IsAlone s o p.0 n key → IsAsViewed classes s o p n key
  alone_viewed p alone = stands_top classes n key (desk_at o p.0).within (levels_at s p.0) (desk_at o p.0).lists (get s.globals n) o.world (inv.stands p n key own alone)

  pub row_viewed : (p : Pid) → HoldsSome s.holds p (data_node key) → IsAsViewed classes s o p n key
  row_viewed p h = alone_viewed p alone
    where
      alone : IsAlone s o p.0 n key
      alone q ne = (
        not_true (names (levels_at s q) n) (λ e. ne (some_apart s.holds p (record { 0 = q }) (data_node key) inv.rows.free h (names_row (record { 0 = q }) e))),
        not_true (some_changes (desk_at o q).lists key) (λ e. ne (some_apart s.holds p (record { 0 = q }) (data_node key) inv.rows.free h (inv.pending (record { 0 = q }) key e))),
      )

  -- ---- a process that has the key in a list is live, and numbered

  has_list : (cs : List Change) → some_changes cs key ≡ true → length cs ≡ 0 → ⊥
  has_list [] e f = cc e
  has_list (c ∷ cs) e f = omega arith

  live_by : (x : Option Levels) → (length (unwrap_or x []) ≡ 0 → ⊥) → is_some x ≡ true
  live_by None h = absurd (h refl)
  live_by (Some ls) h = refl

  numbered : (q : ℕ) → some_changes (desk_at o q).lists key ≡ true → q ≤ s.pids
  numbered q e =
      (inv.rows.numbered (record { 0 = q }) (live_by (get s.levels q) (λ f. has_list (desk_at o q).lists e (sym (inv.aligned (record { 0 = q })).0 ∙ f)))).1

  -- ---- is there such a process?

  test : ℕ → ℕ → Bool
  test p q = not (q == p) && some_changes (desk_at o q).lists key

  abbrev FoundBelow : ℕ → ℕ → Type 0
  FoundBelow p m = ((q : ℕ) × (q ≢ p) × (some_changes (desk_at o q).lists key ≡ true)) ⊎ ((q : ℕ) → q ≤ m → q ≢ p → some_changes (desk_at o q).lists key ≡ false)

  one_of : (p q : ℕ) → ((q ≢ p) × (some_changes (desk_at o q).lists key ≡ true)) ⊎ (q ≢ p → some_changes (desk_at o q).lists key ≡ false)
  one_of p q = by (q == p) refl (some_changes (desk_at o q).lists key) refl
    where
      by : (b : Bool) → (q == p) ≡ b → (c : Bool) → some_changes (desk_at o q).lists key ≡ c → ((q ≢ p) × (some_changes (desk_at o q).lists key ≡ true)) ⊎ (q ≢ p → some_changes (desk_at o q).lists key ≡ false)
      by true e c f = inr (λ ne. absurd (ne (grind (arith, nat_tests))))
      by false e true f = inl (λ is. grind (arith, nat_tests), f)
      by false e false f = inr (λ ne. f)

  seek : (p m : ℕ) → FoundBelow p m
  seek p zero = ⊎_elim (λ h. inl (0, h.0, h.1)) (λ h. inr (λ q low ne. at q low ne h)) (one_of p 0)
    where
      at : (q : ℕ) → q ≤ 0 → q ≢ p → (0 ≢ p → some_changes (desk_at o 0).lists key ≡ false) → some_changes (desk_at o q).lists key ≡ false
      at q low ne h = let is : q ≡ 0 = omega arith in subst (λ x. some_changes (desk_at o x).lists key ≡ false) (sym is) (h (subst (λ x. x ≢ p) is ne))
  seek p (suc m) = ⊎_elim (λ h. inl h) (λ none. ⊎_elim (λ h. inl (suc m, h.0, h.1)) (λ h. inr (λ q low ne. at q low ne h none)) (one_of p (suc m))) (seek p m)
    where
      at : (q : ℕ) → q ≤ suc m → q ≢ p → (suc m ≢ p → some_changes (desk_at o (suc m)).lists key ≡ false) → ((x : ℕ) → x ≤ m → x ≢ p → some_changes (desk_at o x).lists key ≡ false) → some_changes (desk_at o q).lists key ≡ false
      at q low ne h none = by (q == suc m) refl
        where
          by : (b : Bool) → (q == suc m) ≡ b → some_changes (desk_at o q).lists key ≡ false
          by true e = let is : q ≡ suc m = grind (arith, nat_tests) in subst (λ x. some_changes (desk_at o x).lists key ≡ false) (sym is) (h (subst (λ x. x ≢ p) is ne))
          by false e = none q (below e low) ne
            where
              below : (q == suc m) ≡ false → q ≤ suc m → q ≤ m
              below e l = let other : q ≢ suc m = λ is. grind (arith, nat_tests) in omega (arith, other)

  module _ (p : Pid) (unnamed : (q : ℕ) → q ≢ p.0 → names (levels_at s q) n ≡ false) where
    -- another process has the key in a list
    by_other : (q : ℕ) → q ≢ p.0 → some_changes (desk_at o q).lists key ≡ true → IsAsViewed classes s o p n key
    by_other q ne e = now ∙ sym (ap (shown classes key n) same) ∙ sym (mine (desk_at o p.0).within refl (shown classes key n (get (view o p.0) key)))
      where
        row : HoldsRow s.holds (record { 0 = q }) key
        row = inv.pending (record { 0 = q }) key e

        away : HoldsRow s.holds p key → ⊥
        away h = ne (one_holder s.holds (record { 0 = q }) p (data_node key) inv.rows.free (inv.pending (record { 0 = q }) key e) h)

        alone : IsAlone s o q n key
        alone x nx = (
          not_true (names (levels_at s x) n) (λ f. nx (one_holder s.holds (record { 0 = x }) (record { 0 = q }) (data_node key) inv.rows.free (names_row (record { 0 = x }) f) (inv.pending (record { 0 = q }) key e))),
          not_true (some_changes (desk_at o x).lists key) (λ f. nx (one_holder s.holds (record { 0 = x }) (record { 0 = q }) (data_node key) inv.rows.free (inv.pending (record { 0 = x }) key f) (inv.pending (record { 0 = q }) key e))),
        )

        now : get s.globals n ≡ shown classes key n (get o.world key)
        now = stands_bottom classes n key (desk_at o q).within (levels_at s q) (desk_at o q).lists (get s.globals n) o.world (inv.stands (record { 0 = q }) n key own alone) (unnamed q ne)

        same : get (view o p.0) key ≡ get o.world key
        same = all_unchanged (desk_at o p.0).lists o.world key (not_true (some_changes (desk_at o p.0).lists key) (λ f. away (inv.pending p key f)))

        mine : (b : Option Within) → (desk_at o p.0).within ≡ b → (x : Option Value) → under_writes b n x ≡ x
        mine None is x = refl
        mine (Some w) is x = inv.foreign p n key w own is away x

    pub guarded_viewed : IsAsViewed classes s o p n key
    guarded_viewed = ⊎_elim (λ h. by_other h.0 h.1 h.2) (λ none. alone_viewed p (λ q ne. (unnamed q ne, nobody q ne none (some_changes (desk_at o q).lists key) refl))) (seek p.0 s.pids)
      where
        nobody : (q : ℕ) → q ≢ p.0 → ((x : ℕ) → x ≤ s.pids → x ≢ p.0 → some_changes (desk_at o x).lists key ≡ false) → (b : Bool) → some_changes (desk_at o q).lists key ≡ b → some_changes (desk_at o q).lists key ≡ false
        nobody q ne none true e = none q (numbered q e) ne
        nobody q ne none false e = e

pub rows_are_as_viewed : RowsAreAsViewed
rows_are_as_viewed classes s o p n key inv own h = row_viewed classes s o inv n key own p h

pub guarded_are_as_viewed : GuardedAreAsViewed
guarded_are_as_viewed classes s o p n key inv own unnamed = guarded_viewed classes s o inv n key own p unnamed

-- ---- draws

pub draws_are_fresh : DrawsAreFresh
unfolding reply answer
draws_are_fresh classes s o p key class i inv backed knows told is = by (counter_steps (get s.globals (counter_node key.extent)) at.0.number at.0.counts)
  where
    at : (n : Rattle.object_runs.specs.Headline.IsCounted s.globals o.world key.extent) × (first_number key.id ≤ n.number)
    at = knows.known.counted o.world (Present refl)

    number : Number (pos i) ≡ Number (pos (at.0.number + 1)) → i ≡ at.0.number + 1
    number e = cc e

    high : i ≡ at.0.number + 1 → i ≤ at.0.number → ⊥
    high e l = omega arith

    by : Steps (get s.globals (counter_node key.extent)) at.0.number → ⊥
    by (Up e small) = high (number (sym told ∙ ap number_or e)) (subst (λ x. first_number x ≤ at.0.number) is at.1)
    by (Full e) = cc (sym told ∙ ap number_or e)

pub drawn_are_bare : DrawnAreBare
drawn_are_bare classes s o p n key inv backed drawn own row bare =
    row_viewed classes s o inv n key own p (Exclusive, row.0, there s.holds p (data_node key) row)
    ∙ ap (λ x. under_writes (desk_at o p.0).within n (shown classes key n x)) ((backed.drawn p.0 key drawn).nowhere (view o p.0) (Pending p.0 (desk_at o p.0).lists ([], refl) refl))
    ∙ bare
