-- The invariant after each fitting operation, and the headline from it.
use Rattle.std.proofs.Common.{◌≡◌, ◌≢◌, ℕ, zero, suc, ◌<◌, ◌≤◌, Bool, true, false, cond, ◌||◌, ◌⊎◌, inl, inr, ⊎_elim, List, [], ◌∷◌, length, Option, Some, None, unwrap_or, is_some, refl, sym, ap, ◌∙◌, subst, arith, nat_cmp}
use Rattle.std.proofs.lemmas.Bool.Decides.{nat_tests}
use Rattle.std.specs.FinMap.{FinMap, get, contains_key, get-empty}
use Rattle.obj_kinds.specs.declared.node.Node.{Node}
use Rattle.obj_kinds.specs.declared.value.Value.{Value}
use Rattle.obj_kinds.specs.declared.op.Pid.{Pid}
use Rattle.obj_kinds.specs.declared.op.Op.{Op}
use Rattle.obj_kinds.specs.declared.op.Op.TheVariants.{Commit}
use Rattle.obj_kinds.specs.declared.op.Reply.{Reply}
use Rattle.schema_kinds.specs.declared.key.Key.{Key}
use Rattle.global_tree.specs.Contents.{Globals}
use Rattle.tran_log.specs.Levels.{Levels}
use Rattle.store_core.specs.Machine.{State, seen, is_open, is_live, levels_at, turn, after, reply, answer, opening}
use Rattle.store_core.specs.Cleared.{outermost, cleared}
use Rattle.store_core.specs.Guard.{Closed, Unguarded, Respects, guards, is_guarded, HoldsGuard, names, IsGuarded, commits}
use Rattle.store_core.proofs.FrameLaws.{others_stay, no_levels, cleared_same, cleared_opening}
use Rattle.store_core.proofs.GuardHolds.{one_holder}
use Rattle.store_core.proofs.GuardTurns.{IsTurned, Left, Wrote, Undid, Committed, turned}
use Rattle.store_core.proofs.GuardLaws.{opening_guarded, guarded_after, closed_unnamed, closed_unchanged, cleared_one}
use Rattle.schema_kinds.specs.declared.class.Class.{Class}
use Rattle.schema_kinds.specs.Worlds.{World, Change}
use Rattle.record_layout.specs.Rows.{data_node}
use Rattle.storage_map.specs.Worlds.{owner, image}
use Rattle.store_calls.specs.Calls.{Tag}
use Rattle.object_runs.specs.ObjectMachine.{Desks, Desk, Within, clear_desk, first_desks, desk_at, view, desk_after, desks_after, lists_after, world_after, within_after}
use Rattle.object_runs.specs.Runs.{Both}
use Rattle.object_runs.specs.Headline.{is_object_node, Opening}
use Rattle.object_runs.specs.Invariant.{row_guarding, row_guard, key_guard, HoldsRow, changes, some_changes, written, shown, IsAlone, IsAligned, Stands, IsInvariant}
use Rattle.object_runs.proofs.StartLaws.{image_of_key, image_of_none, start_invariant}
use Rattle.run_rules.specs.Steps.{IsFit, next}
use Rattle.run_rules.specs.Structure.{IsStructured}
use Rattle.run_rules.proofs.Changes.{or_false}
use Rattle.run_rules.proofs.Stacks.{to_plain, rest_top, stands_bottom}
use Rattle.run_rules.proofs.Held.{own_levels, seen_after, row_stays}
use Rattle.run_rules.proofs.Turns.{Turns}
use Rattle.run_rules.proofs.Whole.{not_true, clash, held_of, whole_after, desk_own, desk_other, fit_respects, fit_respects_keys, told_by, owned_mark, turn_fit}

either_has : (a b : Bool) → (a || b) ≡ true → (a ≡ true) ⊎ (b ≡ true)
either_has a b e = grind arith

both_false : (a b : Bool) → a ≡ false → b ≡ false → (a || b) ≡ false
both_false a b e f = grind arith

module _ (classes : List Class) where
  guarded_key : (n : Node) (k : Key) → owner classes n ≡ Some k → is_guarded (row_guard classes) n ≡ true
  guarded_key n k is = ap (λ b. guards (row_guarding classes n b)) is

  pub value_stays : (s : State) (p : Pid) (op : Op) (n : Node) (k : Key) → owner classes n ≡ Some k → Respects (row_guard classes) s p op → names (levels_at s p.0) n ≡ false → names (levels_at (after s p op) p.0) n ≡ false → get (after s p op).globals n ≡ get s.globals n
  unfolding after
  value_stays s p op n k is may a b = by (turned (row_guard classes) s p n (guarded_key n k is) op may) (ap (λ ls. names ls n) (sym (own_levels s p op)) ∙ b)
    where
      by : {Own : Type 0} {c : Bool} {o : Option (Option Value)} {v : Option Value} → IsTurned Own c (outermost (levels_at s p.0) n) (get s.globals n) o v → is_some o ≡ false → v ≡ get s.globals n
      by (Left other same value) e = value
      by (Wrote other own there same) e = clash there e
      by (Undid other there same) e = clash there a
      by (Committed is there gone value) e = value

  stray_closed : (n : Node) → is_object_node classes n ≡ true → owner classes n ≡ None → row_guard classes n ≡ Closed
  stray_closed n is own = ap (row_guarding classes n) own ∙ ap (λ b. cond b Closed Unguarded) is

module _ (classes : List Class) (Facts : State → Desks → Pid → Change → Type 0) where
  -- ---- one step

  turned_to : (b : Both) (p : Pid) (op : Op) (tag : Tag) → IsStructured classes b.store b.objects → IsFit classes Facts b p op tag
      → let o' = desks_after b.objects p.0 op (reply b.store p op) tag in
      Turns classes p (seen b.store p) (desk_at b.objects p.0).within (desk_at b.objects p.0).lists b.objects.world (told_by classes Facts op tag) (seen (after b.store p op) p) (desk_at o' p.0).within (desk_at o' p.0).lists o'.world
  unfolding reply desk_after desks_after
  turned_to b p op tag whole fit =
      let r = reply b.store p op in
      let o = b.objects in
      let x = seen b.store p in
      let dk = desk_at o p.0 in
      let w' = world_after op r tag dk.lists o.world in
      let d : desk_at (desks_after o p.0 op r tag) p.0 ≡ desk_after op r tag o.world dk = desk_own o p.0 op r tag in
      subst (λ (y : Desk). Turns classes p x dk.within dk.lists o.world (told_by classes Facts op tag) (seen (after b.store p op) p) y.within y.lists w') (sym d)
      (subst (λ y. Turns classes p x dk.within dk.lists o.world (told_by classes Facts op tag) y (within_after op r tag dk.lists dk.within) (lists_after op r tag dk.lists) w') (seen_after b.store p op)
      (turn_fit classes Facts b p op tag whole fit))

  pub whole_step : (b : Both) (p : Pid) (op : Op) (tag : Tag) → IsStructured classes b.store b.objects → IsFit classes Facts b p op tag → IsStructured classes (next b p op tag).store (next b p op tag).objects
  unfolding reply
  whole_step b p op tag whole fit =
      let s = b.store in
      let o = b.objects in
      let r = reply s p op in
      let o' = desks_after o p.0 op r tag in
      let may = fit_respects classes Facts b p op tag whole fit in
      whole_after classes s o p op (told_by classes Facts op tag) (after s p op) o' refl whole (turned_to b p op tag whole fit)
      (λ q ne. desk_other o p.0 op r tag q ne)
      (λ q ne. others_stay s p op q ne)
      (λ q k h own. row_stays s p op q k h own)
      (guarded_after (row_guard classes) s p op may whole.rows fit.0)
      (guarded_after (key_guard classes) s p op (fit_respects_keys classes Facts b p op tag whole fit) whole.keys fit.0)
      (λ n is own. closed_unchanged (row_guard classes) s p op n (stray_closed classes n is own) may whole.rows ∙ whole.strays n is own)
      (λ n k is a e. value_stays classes s p op n k is may a e)
      (owned_mark classes Facts b p op tag fit)

module _ (classes : List Class) where
  -- ---- what the invariant says of the whole

  -- whether the process has the node in a level, or the key in a list
  unfoldable pub has : State → Desks → Node → Key → ℕ → Bool
  has s o n k q = names (levels_at s q) n || some_changes (desk_at o q).lists k

  pub seek : (f : ℕ → Bool) (j : ℕ) → ((q : ℕ) × (q ≤ j) × (f q ≡ true)) ⊎ ((q : ℕ) → q ≤ j → f q ≡ false)
  seek f zero = at (f zero) refl
    where
      at : (b : Bool) → f zero ≡ b → ((q : ℕ) × (q ≤ zero) × (f q ≡ true)) ⊎ ((q : ℕ) → q ≤ zero → f q ≡ false)
      at true e = inl (zero, omega arith, e)
      at false e = inr (λ q le. ap f (omega arith) ∙ e)
  seek f (suc j) = on (seek f j) (f (suc j)) refl
    where
      on : ((q : ℕ) × (q ≤ j) × (f q ≡ true)) ⊎ ((q : ℕ) → q ≤ j → f q ≡ false) → (b : Bool) → f (suc j) ≡ b → ((q : ℕ) × (q ≤ suc j) × (f q ≡ true)) ⊎ ((q : ℕ) → q ≤ suc j → f q ≡ false)
      on (inl h) b e = inl (h.0, omega arith, h.2)
      on (inr h) true e = inl (suc j, omega arith, e)
      on (inr h) false e = inr (λ q le. ⊎_elim (λ l. h q l) (λ i. ap f i ∙ e) (split q le))
        where
          split : (q : ℕ) → q ≤ suc j → (q ≤ j) ⊎ (q ≡ suc j)
          split q le = grind arith

  module _ (s : State) (o : Desks) (whole : IsStructured classes s o) where
    pub holder : (p : Pid) (n : Node) (k : Key) → owner classes n ≡ Some k → has s o n k p.0 ≡ true → HoldsRow s.holds p k
    unfolding has
    holder p n k is e = ⊎_elim (λ d. held_of classes s p n k whole.rows is d) (λ d. whole.pending p k d) (either_has _ _ e)

    pub alone_with : (p : Pid) (n : Node) (k : Key) → owner classes n ≡ Some k → HoldsRow s.holds p k → (q : ℕ) → q ≢ p.0 → has s o n k q ≡ false
    alone_with p n k is h q ne = not_true _ (λ e. ne (one_holder s.holds (record { 0 = q }) p (data_node k) whole.rows.free (holder (record { 0 = q }) n k is e) h))

    pub free_from : (p : ℕ) (n : Node) (k : Key) → ((q : ℕ) → q ≢ p → has s o n k q ≡ false) → IsAlone s o p n k
    unfolding has
    free_from p n k h q ne = or_false _ _ (h q ne)

    no_list : (cs : List Change) (k : Key) → 0 ≡ length cs → some_changes cs k ≡ false
    no_list [] k e = refl
    no_list (c ∷ cs) k e = absurd (omega arith)

    default_of : (x : Option Levels) → is_some x ≡ false → unwrap_or x [] ≡ []
    default_of None e = refl
    default_of (Some ls) e = absurd cc

    pub dead : (p : Pid) (n : Node) (k : Key) → is_live s p ≡ false → has s o n k p.0 ≡ false
    unfolding has
    dead p n k e =
        let is : levels_at s p.0 ≡ [] = default_of (get s.levels p.0) e in
        both_false (names (levels_at s p.0) n) (some_changes (desk_at o p.0).lists k) (ap (λ x. names x n) is) (no_list (desk_at o p.0).lists k (sym (ap length is) ∙ (whole.aligned p).0))

    live_with : (p : Pid) (n : Node) (k : Key) → has s o n k p.0 ≡ true → (b : Bool) → is_live s p ≡ b → is_live s p ≡ true
    live_with p n k e true f = f
    live_with p n k e false f = clash e (dead p n k f)

    found : (p : Pid) (n : Node) (k : Key) → owner classes n ≡ Some k → has s o n k p.0 ≡ true → cleared s n ≡ shown classes k n (get o.world k)
    found p n k is e =
        let free = free_from p.0 n k (alone_with p n k is (holder p n k is e)) in
        let r = whole.rows.numbered p (live_with p n k e (is_live s p) refl) in
        cleared_one s p.0 n r.0 r.1 (λ q ne. (free q ne).0)
        ∙ stands_bottom classes n k (desk_at o p.0).within (levels_at s p.0) (desk_at o p.0).lists (get s.globals n) o.world (whole.stands p n k is free)

    no_name : (x : Option (Option Value)) → is_some x ≡ false → x ≡ None
    no_name None e = refl
    no_name (Some v) e = absurd cc

    nobody : (n : Node) (k : Key) → owner classes n ≡ Some k → ((q : ℕ) → has s o n k q ≡ false) → cleared s n ≡ shown classes k n (get o.world k)
    unfolding has
    nobody n k is h =
        let at = λ (q : ℕ). or_false (names (levels_at s q) n) (some_changes (desk_at o q).lists k) (h q) in
        let z : Pid = record { 0 = 0 } in
        cleared_same s n (λ q. no_name _ (at q).0)
        ∙ to_plain classes n k (desk_at o 0).within (levels_at s 0) (desk_at o 0).lists (get s.globals n) o.world (at 0).0 (whole.stands z n k is (λ q ne. at q))

    pub not_there : (n : Node) (k : Key) → ((q : ℕ) → q ≤ s.pids → has s o n k q ≡ false) → (q : ℕ) (b : Bool) → is_live s (record { 0 = q }) ≡ b → has s o n k q ≡ false
    not_there n k h q true e = h q (whole.rows.numbered (record { 0 = q }) e).1
    not_there n k h q false e = dead (record { 0 = q }) n k e

    cleared_key : (n : Node) (k : Key) → owner classes n ≡ Some k → cleared s n ≡ shown classes k n (get o.world k)
    cleared_key n k is = ⊎_elim (λ h. found (record { 0 = h.0 }) n k is h.2) (λ h. nobody n k is (λ q. not_there n k h q _ refl)) (seek (has s o n k) s.pids)

    cleared_stray : (n : Node) → is_object_node classes n ≡ true → owner classes n ≡ None → cleared s n ≡ None
    cleared_stray n is own = cleared_same s n (λ q. no_name _ (closed_unnamed (row_guard classes) s (record { 0 = q }) n (stray_closed classes n is own) whole.rows)) ∙ whole.strays n is own

    by_owner : (n : Node) (x : Option Key) → owner classes n ≡ x → is_object_node classes n ≡ true → cleared s n ≡ image classes o.world n
    by_owner n (Some k) is e = cleared_key n k is ∙ sym (image_of_key classes o.world n k is)
    by_owner n None is e = cleared_stray n e is ∙ sym (image_of_none classes o.world n is)

    pub cleared_image : (n : Node) → is_object_node classes n ≡ true → cleared s n ≡ image classes o.world n
    cleared_image n e = by_owner n (owner classes n) refl e

    own_key : (p : Pid) (n : Node) (k : Key) → owner classes n ≡ Some k → (desk_at o p.0).within ≡ None → names (levels_at s p.0) n ≡ true → get s.globals n ≡ shown classes k n (get (view o p.0) k)
    own_key p n k is idle e =
        let free = free_from p.0 n k (alone_with p n k is (held_of classes s p n k whole.rows is e)) in
        rest_top classes n k (levels_at s p.0) (desk_at o p.0).lists (get s.globals n) o.world (subst (λ b. Stands classes n k b (levels_at s p.0) (desk_at o p.0).lists (get s.globals n) o.world) idle (whole.stands p n k is free))

    own_by : (p : Pid) (n : Node) (x : Option Key) → owner classes n ≡ x → is_object_node classes n ≡ true → (desk_at o p.0).within ≡ None → names (levels_at s p.0) n ≡ true → get s.globals n ≡ image classes (view o p.0) n
    own_by p n (Some k) is e idle f = own_key p n k is idle f ∙ sym (image_of_key classes (view o p.0) n k is)
    own_by p n None is e idle f = clash f (closed_unnamed (row_guard classes) s p n (stray_closed classes n e is) whole.rows)

    pub levels_show : (p : ℕ) (n : Node) → (desk_at o p).within ≡ None → is_object_node classes n ≡ true → names (levels_at s p) n ≡ true → get s.globals n ≡ image classes (view o p) n
    levels_show p n idle e f = own_by (record { 0 = p }) n (owner classes n) refl e idle f

-- ---- the invariant has these parts, and they hold at the start

pub structured : (classes : List Class) (s : State) (o : Desks) → IsInvariant classes s o → ((p : Pid) (w : Within) → (desk_at o p.0).within ≡ Some w → (desk_at o p.0).lists ≡ [] ∷ w.before) → IsStructured classes s o
structured classes s o i before =
    record { rows = i.rows; keys = i.keys; aligned = i.aligned; pending = i.pending; foreign = i.foreign; stands = i.stands; strays = i.strays; before = before }

pub start_structured : (classes : List Class) (pids : ℕ) (g : Globals) (w : World) → Opening classes g w → IsStructured classes (opening pids g) (first_desks w)
start_structured classes pids g w opens = structured classes (opening pids g) (first_desks w) (start_invariant classes pids g w opens)
    (λ p j e. absurd (cc (sym (ap (λ (d : Desk). d.within) (no_desk w p.0)) ∙ e)))
  where
    no_desk : (w : World) (p : ℕ) → desk_at (first_desks w) p ≡ clear_desk
    no_desk w p = ap (λ o. unwrap_or o clear_desk) (get-empty {X = Desk} nat_cmp p)
