-- Each fitting operation keeps the invariant.
use Rattle.std.proofs.Common.{◌≡◌, ◌≢◌, ℕ, suc, ◌≤◌, Bool, true, false, ◌||◌, ◌&&◌, not, cond, ◌⊎◌, inl, inr, ⊎_elim, List, [], ◌∷◌, length, Option, Some, None, unwrap_or, is_some, refl, sym, ap, ◌∙◌, subst, arith, nat_cmp}
use Rattle.std.proofs.lemmas.Bool.Decides.{nat_tests}
use Rattle.std.specs.FinMap.{FinMap, get, insert, contains_key, get-empty, gets}
use Rattle.obj_kinds.specs.declared.node.Node.{Node}
use Rattle.obj_kinds.specs.declared.value.Value.{Value}
use Rattle.obj_kinds.specs.declared.op.Pid.{Pid}
use Rattle.obj_kinds.specs.declared.op.Op.{Op}
use Rattle.obj_kinds.specs.declared.op.Op.TheVariants.{Get, Defined, Order, Set, Kill, Incr, Lock, Unlock, UnlockAll, Begin, Commit, RollbackOne, RollbackAll, End}
use Rattle.obj_kinds.specs.declared.op.Reply.{Reply}
use Rattle.obj_kinds.specs.Order.{covers}
use Rattle.schema_kinds.specs.declared.key.Key.{Key}
use Rattle.global_tree.specs.Contents.{Globals}
use Rattle.tran_log.specs.Levels.{Levels}
use Rattle.store_core.specs.Machine.{State, seen, is_open, is_live, levels_at, turn, after, reply, answer, opening}
use Rattle.store_core.specs.Cleared.{cleared}
use Rattle.store_core.specs.Guard.{Guarding, Unguarded, GuardedBy, Closed, is_guarded, guards, HoldsGuard, names, MayWrite, Respects, IsGuarded}
use Rattle.store_core.proofs.FrameLaws.{others_stay, no_levels}
use Rattle.store_core.proofs.GuardHolds.{one_holder}
use Rattle.store_core.proofs.GuardLaws.{opening_guarded, guarded_after, closed_unchanged}
use Rattle.schema_kinds.specs.declared.class.Class.{Class}
use Rattle.obj_kinds.specs.declared.name.ClassName.{ClassName}
use Rattle.schema_kinds.specs.Classes.{class_names, is_own_global}
use Rattle.schema_kinds.specs.Worlds.{World, Change, apply}
use Rattle.record_layout.specs.Rows.{data_node}
use Rattle.storage_map.specs.Worlds.{extent_with, owner}
use Rattle.store_calls.specs.Calls.{Tag, Plain, Opens, Inside, Closes, Fails}
use Rattle.object_runs.specs.ObjectMachine.{Desks, Desk, Within, clear_desk, desk_at, apply_all, view, desk_after, desks_after, lists_after, world_after, within_after}
use Rattle.object_runs.specs.Runs.{Both}
use Rattle.object_runs.specs.Headline.{is_object_node, is_counter}
use Rattle.object_runs.specs.Invariant.{row_guarding, row_guard, guarding_in, key_guard, HoldsRow, changes, some_changes, written, shown, IsAlone, IsAligned, Stands}
use Rattle.run_rules.specs.Steps.{WritesNone, IsWithinLevel, IsCounterOf, OwnsWritten, IsWritten, MayCome, IsFit}
use Rattle.run_rules.specs.Structure.{IsStructured}
use Rattle.run_rules.proofs.Changes.{or_false}
use Rattle.run_rules.proofs.Stacks.{from_plain, to_plain, stands_moved}
use Rattle.run_rules.proofs.Held.{same_or, one_pid, own_levels, seen_after, row_stays}
use Rattle.storage_map.proofs.OwnerLaws.{extent_found}
use Rattle.object_runs.specs.Headline.{is_extent_of}
use Rattle.object_calls.specs.Extents.{counter_node}
use Rattle.run_rules.proofs.Turns.{Turns, told_change, owned_global, counter_unowned, covers_global, plain, opens, inside, closes, fails, stops}

pub not_true : (b : Bool) → (b ≡ true → ⊥) → b ≡ false
not_true b h = grind arith

pub clash : {P : Type 0} {b : Bool} → b ≡ true → b ≡ false → P
clash e f = absurd cc

some_list : (ls : Levels) (cs : List Change) (k : Key) → length ls ≡ length cs → some_changes cs k ≡ true → is_open ls ≡ true
some_list [] [] k len e = absurd cc
some_list [] (c ∷ cs) k len e = absurd (omega (arith, len))
some_list (l ∷ ls) cs k len e = refl

-- within a save there is a level
pub saving_open : (ls : Levels) (cs : List Change) (b : Option Within) (ops : Within) → b ≡ Some ops → IsAligned b ls cs → is_open ls ≡ true
saving_open [] cs b ops e al =
    let ds = al.1 (ap is_some e) in
    let none : 0 ≡ length ([] ∷ ds.0) = al.0 ∙ ap length ds.1 in
    absurd (omega arith)
saving_open (l ∷ ls) cs b ops e al = refl

pub held_of : (classes : List Class) (s : State) (p : Pid) (n : Node) (k : Key) → IsGuarded (row_guard classes) s → owner classes n ≡ Some k → names (levels_at s p.0) n ≡ true → HoldsRow s.holds p k
held_of classes s p n k g is e = subst (λ b. HoldsGuard s.holds p (row_guarding classes n b)) is (g.held p n e)

module _ (classes : List Class) (s : State) (o : Desks) (p : Pid) (op : Op) (c : Change) (s' : State) (o' : Desks)
    (same : s' ≡ after s p op)
    (whole : IsStructured classes s o)
    (tr : Turns classes p (seen s p) (desk_at o p.0).within (desk_at o p.0).lists o.world c (seen s' p) (desk_at o' p.0).within (desk_at o' p.0).lists o'.world)
    (others : (q : ℕ) → q ≢ p.0 → desk_at o' q ≡ desk_at o q)
    (levels_stay : (q : ℕ) → q ≢ p.0 → levels_at s' q ≡ levels_at s q)
    (row_left : (q : Pid) (k : Key) → HoldsRow s.holds q k → (q.0 ≡ p.0 → is_open (levels_at s' p.0) ≡ true) → HoldsRow s'.holds q k)
    (guarded' : IsGuarded (row_guard classes) s')
    (keys' : IsGuarded (key_guard classes) s')
    (strays' : (n : Node) → is_object_node classes n ≡ true → owner classes n ≡ None → get s'.globals n ≡ None)
    (value_stays : (n : Node) (k : Key) → owner classes n ≡ Some k → names (levels_at s p.0) n ≡ false → names (levels_at s' p.0) n ≡ false → get s'.globals n ≡ get s.globals n)
    (mine : (k : Key) → changes c k ≡ true → HoldsRow s.holds p k) where
  aligned_at : (q : Pid) → (q.0 ≡ p.0) ⊎ (q.0 ≢ p.0) → IsAligned (desk_at o' q.0).within (levels_at s' q.0) (desk_at o' q.0).lists
  aligned_at q (inl is) = subst (λ x. IsAligned (desk_at o' x).within (levels_at s' x) (desk_at o' x).lists) (sym is) tr.aligned
  aligned_at q (inr ne) = subst (λ x. IsAligned x.within (levels_at s' q.0) x.lists) (sym (others q.0 ne)) (subst (λ x. IsAligned (desk_at o q.0).within x (desk_at o q.0).lists) (sym (levels_stay q.0 ne)) (whole.aligned q))

  pending_mine : (k : Key) → some_changes (desk_at o' p.0).lists k ≡ true → HoldsRow s'.holds p k
  pending_mine k e = row_left p k (⊎_elim (λ d. whole.pending p k d) (λ d. mine k d) (tr.pending k e)) (λ _. some_list (levels_at s' p.0) (desk_at o' p.0).lists k tr.aligned.0 e)

  pending_at : (q : Pid) (k : Key) → some_changes (desk_at o' q.0).lists k ≡ true → (q.0 ≡ p.0) ⊎ (q.0 ≢ p.0) → HoldsRow s'.holds q k
  pending_at q k e (inl is) = subst (λ x. HoldsRow s'.holds x k) (sym (one_pid q p is)) (pending_mine k (ap (λ x. some_changes (desk_at o' x).lists k) (sym is) ∙ e))
  pending_at q k e (inr ne) = row_left q k (whole.pending q k (ap (λ x. some_changes x.lists k) (sym (others q.0 ne)) ∙ e)) (λ is. absurd (ne is))

  foreign_mine : (n : Node) (k : Key) (ops : Within) → owner classes n ≡ Some k → (desk_at o' p.0).within ≡ Some ops → (HoldsRow s'.holds p k → ⊥) → (x : Option Value) → written ops.asked n x ≡ x
  foreign_mine n k ops is e away =
      let away' : HoldsRow s.holds p k → ⊥ = λ h. away (row_left p k h (λ _. saving_open (levels_at s' p.0) (desk_at o' p.0).lists (desk_at o' p.0).within ops e tr.aligned)) in
      tr.foreign n k ops is e away' (λ ops' f. whole.foreign p n k ops' is f away')

  foreign_at : (q : Pid) (n : Node) (k : Key) (ops : Within) → owner classes n ≡ Some k → (desk_at o' q.0).within ≡ Some ops → (HoldsRow s'.holds q k → ⊥) → (q.0 ≡ p.0) ⊎ (q.0 ≢ p.0) → (x : Option Value) → written ops.asked n x ≡ x
  foreign_at q n k ops is e away (inl i) = foreign_mine n k ops is (ap (λ x. (desk_at o' x).within) (sym i) ∙ e) (λ h. away (subst (λ x. HoldsRow s'.holds x k) (sym (one_pid q p i)) h))
  foreign_at q n k ops is e away (inr ne) = whole.foreign q n k ops is (ap (λ d. d.within) (sym (others q.0 ne)) ∙ e) (λ h. away (row_left q k h (λ i. absurd (ne i))))

  -- who holds the row is alone
  alone : (q r : Pid) (k : Key) → HoldsRow s.holds q k → HoldsRow s.holds r k → q.0 ≡ r.0
  alone q r k h i = one_holder s.holds q r (data_node k) whole.rows.free h i

  free_of : (n : Node) (k : Key) → owner classes n ≡ Some k → HoldsRow s.holds p k → IsAlone s o p.0 n k
  free_of n k is h q ne = (
    not_true _ (λ e. ne (alone (record { 0 = q }) p k (held_of classes s (record { 0 = q }) n k whole.rows is e) h)),
    not_true _ (λ e. ne (alone (record { 0 = q }) p k (whole.pending (record { 0 = q }) k e) h)),
  )

  stands_mine : (n : Node) (k : Key) → owner classes n ≡ Some k → IsAlone s' o' p.0 n k → Stands classes n k (desk_at o' p.0).within (levels_at s' p.0) (desk_at o' p.0).lists (get s'.globals n) o'.world
  stands_mine n k is free = tr.own n k is (whole.stands p n k is (λ q ne. (
    ap (λ x. names x n) (sym (levels_stay q ne)) ∙ (free q ne).0,
    ap (λ x. some_changes x.lists k) (sym (others q ne)) ∙ (free q ne).1,
  )))

  -- q sees what p left, where p held the row
  stands_given : (q : Pid) (n : Node) (k : Key) → q.0 ≢ p.0 → owner classes n ≡ Some k → IsAlone s' o' q.0 n k → HoldsRow s.holds p k → Stands classes n k (desk_at o' q.0).within (levels_at s' q.0) (desk_at o' q.0).lists (get s'.globals n) o'.world
  stands_given q n k ne is free h =
      let was = free_of n k is h in
      let at_p = tr.own n k is (whole.stands p n k is was) in
      let gone = free p.0 (λ i. ne (sym i)) in
      let v = to_plain classes n k (desk_at o' p.0).within (levels_at s' p.0) (desk_at o' p.0).lists (get s'.globals n) o'.world gone.0 at_p in
      from_plain classes n k (desk_at o' q.0).within (levels_at s' q.0) (desk_at o' q.0).lists (get s'.globals n) o'.world (aligned_at q (inr ne))
      (ap (λ x. names x n) (levels_stay q.0 ne) ∙ (was q.0 ne).0) (ap (λ x. some_changes x.lists k) (others q.0 ne) ∙ (was q.0 ne).1) v
      (λ ops f. whole.foreign q n k ops is (ap (λ d. d.within) (sym (others q.0 ne)) ∙ f) (λ i. ne (alone q p k i h)))

  free_before : (q : Pid) (n : Node) (k : Key) → IsAlone s' o' q.0 n k → names (levels_at s p.0) n ≡ false → some_changes (desk_at o p.0).lists k ≡ false → (r : ℕ) → r ≢ q.0 → (r ≡ p.0) ⊎ (r ≢ p.0) → (names (levels_at s r) n ≡ false) × (some_changes (desk_at o r).lists k ≡ false)
  free_before q n k free a b r rq (inl is) = (ap (λ x. names (levels_at s x) n) is ∙ a, ap (λ x. some_changes (desk_at o x).lists k) is ∙ b)
  free_before q n k free a b r rq (inr ne) = (ap (λ x. names x n) (sym (levels_stay r ne)) ∙ (free r rq).0, ap (λ x. some_changes x.lists k) (sym (others r ne)) ∙ (free r rq).1)

  stands_left : (q : Pid) (n : Node) (k : Key) → q.0 ≢ p.0 → owner classes n ≡ Some k → IsAlone s' o' q.0 n k → names (levels_at s p.0) n ≡ false → some_changes (desk_at o p.0).lists k ≡ false → changes c k ≡ false → Stands classes n k (desk_at o' q.0).within (levels_at s' q.0) (desk_at o' q.0).lists (get s'.globals n) o'.world
  stands_left q n k ne is free a b d =
      let gone = free p.0 (λ i. ne (sym i)) in
      let was : IsAlone s o q.0 n k = λ r rq. free_before q n k free a b r rq (same_or r p.0) in
      let r = stands_moved classes n k _ _ _ _ o.world o'.world (tr.left k b d) (whole.stands q n k is was) in
      let r1 = subst (λ v. Stands classes n k (desk_at o q.0).within (levels_at s q.0) (desk_at o q.0).lists v o'.world) (sym (value_stays n k is a gone.0)) r in
      let r2 = subst (λ x. Stands classes n k (desk_at o q.0).within x (desk_at o q.0).lists (get s'.globals n) o'.world) (sym (levels_stay q.0 ne)) r1 in
      subst (λ x. Stands classes n k x.within (levels_at s' q.0) x.lists (get s'.globals n) o'.world) (sym (others q.0 ne)) r2

  stands_other : (q : Pid) (n : Node) (k : Key) → q.0 ≢ p.0 → owner classes n ≡ Some k → IsAlone s' o' q.0 n k → (a b d : Bool) → names (levels_at s p.0) n ≡ a → some_changes (desk_at o p.0).lists k ≡ b → changes c k ≡ d → Stands classes n k (desk_at o' q.0).within (levels_at s' q.0) (desk_at o' q.0).lists (get s'.globals n) o'.world
  stands_other q n k ne is free true b d e f g = stands_given q n k ne is free (held_of classes s p n k whole.rows is e)
  stands_other q n k ne is free false true d e f g = stands_given q n k ne is free (whole.pending p k f)
  stands_other q n k ne is free false false true e f g = stands_given q n k ne is free (mine k g)
  stands_other q n k ne is free false false false e f g = stands_left q n k ne is free e f g

  stands_at : (q : Pid) (n : Node) (k : Key) → owner classes n ≡ Some k → IsAlone s' o' q.0 n k → (q.0 ≡ p.0) ⊎ (q.0 ≢ p.0) → Stands classes n k (desk_at o' q.0).within (levels_at s' q.0) (desk_at o' q.0).lists (get s'.globals n) o'.world
  stands_at q n k is free (inl i) = subst (λ x. Stands classes n k (desk_at o' x).within (levels_at s' x) (desk_at o' x).lists (get s'.globals n) o'.world) (sym i) (stands_mine n k is (subst (λ x. IsAlone s' o' x n k) i free))
  stands_at q n k is free (inr ne) = stands_other q n k ne is free _ _ _ refl refl refl

  before_at : (q : Pid) (j : Within) → (desk_at o' q.0).within ≡ Some j → (q.0 ≡ p.0) ⊎ (q.0 ≢ p.0) → (desk_at o' q.0).lists ≡ [] ∷ j.before
  before_at q j e (inl is) = ap (λ x. (desk_at o' x).lists) is ∙ tr.before j (ap (λ x. (desk_at o' x).within) (sym is) ∙ e) (λ i f. whole.before p i f)
  before_at q j e (inr ne) = ap (λ d. d.lists) (others q.0 ne) ∙ whole.before q j (ap (λ d. d.within) (sym (others q.0 ne)) ∙ e)

  pub whole_after : IsStructured classes s' o'
  whole_after = record {
    rows = guarded';
    keys = keys';
    aligned = λ q. aligned_at q (same_or q.0 p.0);
    pending = λ q k e. pending_at q k e (same_or q.0 p.0);
    foreign = λ q n k ops is e away. foreign_at q n k ops is e away (same_or q.0 p.0);
    stands = λ q n k is free. stands_at q n k is free (same_or q.0 p.0);
    strays = strays';
    before = λ q j e. before_at q j e (same_or q.0 p.0);
  }

-- ---- desks

desk_in : (m : FinMap nat_cmp Desk) (p : ℕ) (d e : Desk) → unwrap_or (get (insert m p d) p) e ≡ d
desk_in m p d e = grind (arith, gets, nat_tests)

desk_out : (m : FinMap nat_cmp Desk) (p q : ℕ) (d e : Desk) → q ≢ p → unwrap_or (get (insert m p d) q) e ≡ unwrap_or (get m q) e
desk_out m p q d e ne = grind (arith, gets, nat_tests)

pub desk_own : (o : Desks) (p : ℕ) (op : Op) (r : Reply) (tag : Tag) → desk_at (desks_after o p op r tag) p ≡ desk_after op r tag o.world (desk_at o p)
unfolding desks_after
desk_own o p op r tag = desk_in o.desks p (desk_after op r tag o.world (desk_at o p)) clear_desk

pub desk_other : (o : Desks) (p : ℕ) (op : Op) (r : Reply) (tag : Tag) (q : ℕ) → q ≢ p → desk_at (desks_after o p op r tag) q ≡ desk_at o q
unfolding desks_after
desk_other o p op r tag q ne = desk_out o.desks p q (desk_after op r tag o.world (desk_at o p)) clear_desk ne

-- ---- a fitting operation respects the guards

module _ (classes : List Class) where
  by_owner : (n : Node) (o : Option Key) → guards (row_guarding classes n o) ≡ true → is_own_global classes n.global ≡ false → owner classes n ≡ o → ⊥
  unfolding is_object_node
  by_owner n (Some k) g e is = let h = owned_global classes n k is in cc
  by_owner n None g e is = by (is_own_global classes n.global) (not (is_counter classes n)) e g
    where
      by : (a b : Bool) → a ≡ false → guards (cond (a && b) Closed Unguarded) ≡ true → ⊥
      by true b f h = cc
      by false b f h = cc

  -- a node of no global of the schema is guarded by nothing
  free_node : (n : Node) → is_own_global classes n.global ≡ false → is_guarded (row_guard classes) n ≡ true → ⊥
  free_node n e g = by_owner n (owner classes n) g e refl

  keyed : (n : Node) (x : Option ClassName) (o : Option Key) → guards (guarding_in classes n x o) ≡ true → (k : Key) × (o ≡ Some k)
  keyed n (Some c) (Some k) g = (k, refl)
  keyed n (Some c) None g = absurd (cc g)
  keyed n None (Some k) g = absurd (cc g)
  keyed n None None g = absurd (cc g)

  -- what the guard of keys guards belongs to a key
  guarded_owner : (n : Node) → is_guarded (key_guard classes) n ≡ true → (k : Key) × (owner classes n ≡ Some k)
  guarded_owner n g = keyed n (extent_with (class_names classes) 73 n.global classes) (owner classes n) g

  free_key : (n : Node) → is_own_global classes n.global ≡ false → is_guarded (key_guard classes) n ≡ true → ⊥
  free_key n e g = let k = guarded_owner n g in let h = owned_global classes n k.0 k.1 in cc

  kill_free : (n m : Node) → is_own_global classes n.global ≡ false → covers n m ≡ true → is_own_global classes m.global ≡ false
  kill_free n m e c = ap (is_own_global classes) (covers_global n m c) ∙ e

  respects_none : (s : State) (p : Pid) (op : Op) → WritesNone classes op → Respects (row_guard classes) s p op
  respects_none s p (Set n v) w = λ g. absurd (free_node n w g)
  respects_none s p (Kill n) w = λ m cov there g. absurd (free_node m (kill_free n m w cov) g)
  respects_none s p (Incr n k) w = λ g. absurd (free_node n w g)
  respects_none s p _ w = tt

  keys_none : (s : State) (p : Pid) (op : Op) → WritesNone classes op → Respects (key_guard classes) s p op
  keys_none s p (Set n v) w = λ g. absurd (free_key n w g)
  keys_none s p (Kill n) w = λ m cov there g. absurd (free_key m (kill_free n m w cov) g)
  keys_none s p (Incr n k) w = λ g. absurd (free_key n w g)
  keys_none s p _ w = tt

  -- a covered node that has a value belongs to a key, or is guarded by nothing
  covered_guard : (s : State) (p : Pid) (m : Node) (o : Option Key) → owner classes m ≡ o → (is_object_node classes m ≡ true → owner classes m ≡ None → get s.globals m ≡ None)
      → ((k : Key) → owner classes m ≡ Some k → HoldsRow s.holds p k) → contains_key s.globals m ≡ true → guards (row_guarding classes m o) ≡ true → HoldsGuard s.holds p (row_guarding classes m o)
  covered_guard s p m (Some k) is stray held there g = held k is
  covered_guard s p m None is stray held there g = by (is_object_node classes m) refl g
    where
      by : (b : Bool) → is_object_node classes m ≡ b → guards (cond b Closed Unguarded) ≡ true → HoldsGuard s.holds p (cond b Closed Unguarded)
      by true e h = clash there (ap is_some (stray e is))
      by false e h = tt

  and_not : (a b : Bool) → b ≡ true → (a && not (true && b)) ≡ false
  and_not true true e = refl
  and_not true false e = cc
  and_not false b e = refl

  counter_is : (extent : ClassName) → is_extent_of classes extent ≡ true → is_object_node classes (counter_node extent) ≡ false
  unfolding is_object_node
  counter_is extent e = and_not _ _ (ap is_some (extent_found (class_names classes) extent classes e))

  -- a counter is guarded by nothing
  counter_object : (n : Node) → IsCounterOf classes n → is_object_node classes n ≡ false
  counter_object n h = ap (is_object_node classes) h.2 ∙ counter_is h.0 h.1

  counter_free : (n : Node) → IsCounterOf classes n → is_guarded (row_guard classes) n ≡ true → ⊥
  counter_free n h g = by (owner classes n) (counter_unowned classes n h) g
    where
      by : (o : Option Key) → o ≡ None → guards (row_guarding classes n o) ≡ true → ⊥
      by (Some k) e f = cc e
      by None e f = let no = counter_object n h in cc (sym (ap (λ b. guards (cond b Closed Unguarded)) no) ∙ f)

  counter_keyless : (n : Node) → IsCounterOf classes n → is_guarded (key_guard classes) n ≡ true → ⊥
  counter_keyless n h g = let k = guarded_owner n g in cc (sym (counter_unowned classes n h) ∙ k.1)

  respects_owned : (s : State) (o : Desks) (p : Pid) (op : Op) → IsStructured classes s o → is_open (levels_at s p.0) ≡ true → OwnsWritten classes s.holds p op → Respects (row_guard classes) s p op
  respects_owned s o p (Set n v) whole op own = λ g. (op, own.1)
  respects_owned s o p (Kill n) whole op own = λ m cov there g. (op, covered_guard s p m (owner classes m) refl (whole.strays m) (λ k is. (own.1 m k is cov).0) there g)
  respects_owned s o p (Incr n k) whole op own = λ g. absurd (counter_free n own.0 g)
  respects_owned s o p _ whole op own = tt

  keys_owned : (s : State) (p : Pid) (op : Op) → is_open (levels_at s p.0) ≡ true → OwnsWritten classes s.holds p op → Respects (key_guard classes) s p op
  keys_owned s p (Set n v) op own = λ g. (op, own.2)
  keys_owned s p (Kill n) op own = λ m cov there g. (op, let k = guarded_owner m g in (own.1 m k.0 k.1 cov).1)
  keys_owned s p (Incr n k) op own = λ g. absurd (counter_keyless n own.0 g)
  keys_owned s p _ op own = tt

module _ (classes : List Class) (Facts : State → Desks → Pid → Change → Type 0) where
  may_respects : (s : State) (o : Desks) (p : Pid) (op : Op) (tag : Tag) → IsStructured classes s o → MayCome classes Facts s o p op tag → Respects (row_guard classes) s p op
  may_respects s o p op Plain whole may = respects_none classes s p op may.1
  may_respects s o p op Opens whole may = subst (Respects (row_guard classes) s p) (sym may.1) tt
  may_respects s o p op Inside whole may = respects_owned classes s o p op whole (saving_open (levels_at s p.0) (desk_at o p.0).lists _ may.0.0 may.0.1 (whole.aligned p)) may.2
  may_respects s o p op (Closes c) whole may = subst (Respects (row_guard classes) s p) (sym may.1) tt
  may_respects s o p op Fails whole may = subst (Respects (row_guard classes) s p) (sym may.1) tt

  pub fit_respects : (b : Both) (p : Pid) (op : Op) (tag : Tag) → IsStructured classes b.store b.objects → IsFit classes Facts b p op tag → Respects (row_guard classes) b.store p op
  fit_respects b p op tag whole fit = ⊎_elim (λ is. subst (Respects (row_guard classes) b.store p) (sym is) tt) (λ may. may_respects b.store b.objects p op tag whole may) fit.1

  may_respects_keys : (s : State) (o : Desks) (p : Pid) (op : Op) (tag : Tag) → IsStructured classes s o → MayCome classes Facts s o p op tag → Respects (key_guard classes) s p op
  may_respects_keys s o p op Plain whole may = keys_none classes s p op may.1
  may_respects_keys s o p op Opens whole may = subst (Respects (key_guard classes) s p) (sym may.1) tt
  may_respects_keys s o p op Inside whole may = keys_owned classes s p op (saving_open (levels_at s p.0) (desk_at o p.0).lists _ may.0.0 may.0.1 (whole.aligned p)) may.2
  may_respects_keys s o p op (Closes c) whole may = subst (Respects (key_guard classes) s p) (sym may.1) tt
  may_respects_keys s o p op Fails whole may = subst (Respects (key_guard classes) s p) (sym may.1) tt

  pub fit_respects_keys : (b : Both) (p : Pid) (op : Op) (tag : Tag) → IsStructured classes b.store b.objects → IsFit classes Facts b p op tag → Respects (key_guard classes) b.store p op
  fit_respects_keys b p op tag whole fit = ⊎_elim (λ is. subst (Respects (key_guard classes) b.store p) (sym is) tt) (λ may. may_respects_keys b.store b.objects p op tag whole may) fit.1

  -- the change that the operation carries out
  abbrev pub told_by : Op → Tag → Change
  told_by Commit tag = told_change tag
  told_by _ tag = []

  pub owned_mark : (b : Both) (p : Pid) (op : Op) (tag : Tag) → IsFit classes Facts b p op tag → (k : Key) → changes (told_by op tag) k ≡ true → HoldsRow b.store.holds p k
  owned_mark b p Commit (Closes c) fit k e = ⊎_elim (λ is. absurd (no_end is)) (λ may. may.0.2.held k e) fit.1
    where
      no_end : Commit ≡ End → ⊥
      no_end is = cc
  owned_mark b p Commit Plain fit k e = absurd cc
  owned_mark b p Commit Opens fit k e = absurd cc
  owned_mark b p Commit Inside fit k e = absurd cc
  owned_mark b p Commit Fails fit k e = absurd cc
  owned_mark b p op tag fit k e = absurd cc

  -- ---- the turn of a fitting operation

  abbrev pub TurnOf : Both → Pid → Option Within → List Change → Op → Tag → Type 0
  TurnOf b p m cs op tag =
      let x = seen b.store p in
      Turns classes p x m cs b.objects.world (told_by op tag) (turn x p op) (within_after op (answer x p op) tag cs m) (lists_after op (answer x p op) tag cs) (world_after op (answer x p op) tag cs b.objects.world)

  told_plain : (op : Op) → told_by op Plain ≡ []
  told_plain Commit = refl
  told_plain _ = refl

  told_inside : (op : Op) → told_by op Inside ≡ []
  told_inside Commit = refl
  told_inside _ = refl

  turn_may : (b : Both) (p : Pid) (op : Op) (tag : Tag) → IsStructured classes b.store b.objects → MayCome classes Facts b.store b.objects p op tag → TurnOf b p (desk_at b.objects p.0).within (desk_at b.objects p.0).lists op tag
  turn_may b p op Plain whole may =
      let x = seen b.store p in
      let cs = (desk_at b.objects p.0).lists in
      subst (λ m. TurnOf b p m cs op Plain) (sym may.0)
      (subst (λ c. Turns classes p x None cs b.objects.world c (turn x p op) (within_after op (answer x p op) Plain cs None) (lists_after op (answer x p op) Plain cs) (world_after op (answer x p op) Plain cs b.objects.world)) (sym (told_plain op))
      (plain classes p x op cs b.objects.world may.1 may.2 (whole.aligned p).0))
  turn_may b p op Opens whole may =
      let cs = (desk_at b.objects p.0).lists in
      subst (λ y. TurnOf b p (desk_at b.objects p.0).within cs y Opens) (sym may.1)
      (subst (λ m. TurnOf b p m cs Begin Opens) (sym may.0) (opens classes p (seen b.store p) cs b.objects.world (whole.aligned p).0))
  turn_may b p op Inside whole may =
      let x = seen b.store p in
      let cs = (desk_at b.objects p.0).lists in
      let ops = may.0.0 in
      let al = subst (λ m. IsAligned m (levels_at b.store p.0) cs) may.0.1 (whole.aligned p) in
      subst (λ m. TurnOf b p m cs op Inside) (sym may.0.1)
      (subst (λ c. Turns classes p x (Some ops) cs b.objects.world c (turn x p op) (within_after op (answer x p op) Inside cs (Some ops)) (lists_after op (answer x p op) Inside cs) (world_after op (answer x p op) Inside cs b.objects.world)) (sym (told_inside op))
      (inside classes p x op ops cs b.objects.world may.1 may.2 al))
  turn_may b p op (Closes c) whole may =
      let x = seen b.store p in
      let cs = (desk_at b.objects p.0).lists in
      let ops = may.0.0 in
      let al = subst (λ m. IsAligned m (levels_at b.store p.0) cs) may.0.1 (whole.aligned p) in
      subst (λ y. TurnOf b p (desk_at b.objects p.0).within cs y (Closes c)) (sym may.1)
      (subst (λ m. TurnOf b p m cs Commit (Closes c)) (sym may.0.1) (closes classes p x ops cs b.objects.world c al may.0.2.whole))
  turn_may b p op Fails whole may =
      let x = seen b.store p in
      let cs = (desk_at b.objects p.0).lists in
      let al = subst (λ m. IsAligned m (levels_at b.store p.0) cs) may.0.1 (whole.aligned p) in
      subst (λ y. TurnOf b p (desk_at b.objects p.0).within cs y Fails) (sym may.1)
      (subst (λ m. TurnOf b p m cs RollbackOne Fails) (sym may.0.1) (fails classes p x may.0.0 cs b.objects.world al))

  pub turn_fit : (b : Both) (p : Pid) (op : Op) (tag : Tag) → IsStructured classes b.store b.objects → IsFit classes Facts b p op tag → TurnOf b p (desk_at b.objects p.0).within (desk_at b.objects p.0).lists op tag
  turn_fit b p op tag whole fit = ⊎_elim
      (λ is. subst (λ y. TurnOf b p (desk_at b.objects p.0).within (desk_at b.objects p.0).lists y tag) (sym is) (stops classes p (seen b.store p) (desk_at b.objects p.0).within (desk_at b.objects p.0).lists b.objects.world tag))
      (λ may. turn_may b p op tag whole may) fit.1
