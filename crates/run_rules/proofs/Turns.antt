-- What each operation does to the levels and the lists of its own process.
use Rattle.std.proofs.Common.{◌≡◌, ◌≢◌, ℕ, suc, ◌+◌, ℤ, pos, Bool, true, false, cond, not, ◌||◌, ◌&&◌, ◌⊎◌, inl, inr, List, [], ◌∷◌, ◌++◌, length, Option, Some, None, unwrap_or, option_map, is_some, nat_lt, refl, sym, ap, ◌∙◌, subst, arith}
use Rattle.std.specs.Ordering.{eq_by_cmp}
use Rattle.std.specs.FinMap.{find, get, insert, retain_keys, entries, empty, contains_key, get-insert}
use Rattle.obj_kinds.specs.declared.node.Node.{Node}
use Rattle.obj_kinds.specs.declared.value.Value.{Value}
use Rattle.obj_kinds.specs.declared.op.Pid.{Pid}
use Rattle.obj_kinds.specs.declared.op.Op.{Op}
use Rattle.obj_kinds.specs.declared.op.Op.TheVariants.{Get, Defined, Order, Set, Kill, Incr, Lock, Unlock, UnlockAll, Begin, Commit, RollbackOne, RollbackAll, End}
use Rattle.obj_kinds.specs.declared.op.Reply.{Reply}
use Rattle.obj_kinds.specs.Order.{node_cmp, covers}
use Rattle.obj_kinds.proofs.OrderLemmas.{node_total, node_exact}
use Rattle.schema_kinds.specs.declared.key.Key.{Key}
use Rattle.global_tree.specs.Contents.{Globals}
use Rattle.global_tree.proofs.MapLaws.{one_key}
use Rattle.lock_table.specs.Holds.{Holds}
use Rattle.tran_log.specs.Levels.{Olds, Levels, begun, note_top, committed, rolled_back, top_undone, all_undone}
use Rattle.store_core.specs.Machine.{State, Sight, sight, killed, stored, turn, answer, left_reply}
use Rattle.store_core.specs.Numbers.{incremented, as_value}
use Rattle.store_core.specs.Guard.{HoldsGuard}
use Rattle.store_core.proofs.Restored.{find_killed, get_killed}
use Rattle.object_runs.specs.Headline.{is_object_node}
use Rattle.object_runs.proofs.StartLaws.{owned_is_object, bare_unowned}
use Rattle.schema_kinds.specs.Classes.{class_names, is_own_global}
use Rattle.obj_kinds.proofs.TextLaws.{text_tie-is}
use Rattle.obj_kinds.specs.declared.op.Reply.TheVariants.{Number, TooDeep}
use Rattle.object_runs.specs.Invariant.{HoldsRow, row_guarding, IsAligned, Rest, Stands, changes, row_guard, shown, some_changes, written, wrote}
use Rattle.object_runs.specs.ObjectMachine.{apply_all, joined, lists_after, within_after, without_top, world_after, Within, opened}
use Rattle.run_rules.proofs.Changes.{changes-append, or_false, unchanged}
use Rattle.run_rules.proofs.Stacks.{rest_begun, rest_committed, rest_left, rest_rolled, stands_begun, stands_closed, stands_kept, stands_rolled, stands_undone, stands_write}
use Rattle.run_rules.specs.Steps.{IsWithinLevel, IsCounterOf, OwnsWritten, WritesNone, and_asked, just_begun}
use Rattle.schema_kinds.specs.Worlds.{Change, World, apply}
use Rattle.schema_kinds.specs.declared.class.Class.{Class}
use Rattle.storage_map.specs.Worlds.{owner, extent_with}
use Rattle.store_calls.specs.Calls.{Closes, Fails, Inside, Opens, Plain, Tag}
use Rattle.object_runs.specs.ObjectMachine.{committed as carried_out}

none : {P : Type 0} → false ≡ true → P
none e = absurd cc

-- the change that a mark tells
abbrev pub told_change : Tag → Change
told_change (Closes c) = c
told_change _ = []

-- what one operation of p does beside the holds, where p saw this, and had these lists
pub record Turns (classes : List Class) (p : Pid) (x : Sight) (b : Option Within) (cs : List Change) (w : World) (c : Change) (x' : Sight) (b' : Option Within) (cs' : List Change) (w' : World) : Type 0 where
  pub aligned : IsAligned b' x'.levels cs'
  pub pending : (k : Key) → some_changes cs' k ≡ true → (some_changes cs k ≡ true) ⊎ (changes c k ≡ true)
  pub left : (k : Key) → some_changes cs k ≡ false → changes c k ≡ false → get w' k ≡ get w k
  pub foreign : (n : Node) (k : Key) (j' : Within) → owner classes n ≡ Some k → b' ≡ Some j' → (HoldsRow x.holds p k → ⊥) → ((j : Within) → b ≡ Some j → (v : Option Value) → written j.asked n v ≡ v) → (v : Option Value) → written j'.asked n v ≡ v
  pub own : (n : Node) (k : Key) → owner classes n ≡ Some k → Stands classes n k b x.levels cs (get x.globals n) w → Stands classes n k b' x'.levels cs' (get x'.globals n) w'
  pub before : (j' : Within) → b' ≡ Some j' → ((j : Within) → b ≡ Some j → cs ≡ [] ∷ j.before) → cs' ≡ [] ∷ j'.before

either_has : (a b : Bool) → (a || b) ≡ true → (b ≡ true) ⊎ (a ≡ true)
either_has a b e = grind arith

both_false : (a b : Bool) → a ≡ false → b ≡ false → (a || b) ≡ false
both_false a b e f = grind arith

some_joined : (cs : List Change) (k : Key) → some_changes (joined cs) k ≡ true → some_changes cs k ≡ true
some_joined [] k e = e
some_joined (c ∷ []) k e = absurd cc
some_joined (c ∷ d ∷ ds) k e = by _ _ _ _ (changes-append d c k) e
  where
    by : (a x y z : Bool) → a ≡ (x || y) → (a || z) ≡ true → (y || (x || z)) ≡ true
    by a x y z f e = grind arith

some_top : (cs : List Change) (k : Key) → some_changes (without_top cs) k ≡ true → some_changes cs k ≡ true
some_top [] k e = e
some_top (c ∷ cs) k e = by (changes c k) (some_changes cs k) e
  where
    by : (a b : Bool) → b ≡ true → (a || b) ≡ true
    by a b e = grind arith

applied_left : (cs : List Change) (w : World) (k : Key) → some_changes cs k ≡ false → get (carried_out cs w) k ≡ get w k
applied_left [] w k e = refl
applied_left (c ∷ []) w k e = unchanged c w k (or_false _ _ e).0
applied_left (c ∷ d ∷ ds) w k e = refl

len_note : (ls : Levels) (es : Olds) → length (note_top ls es) ≡ length ls
len_note [] es = refl
len_note (l ∷ ls) es = refl

len_committed : (ls : Levels) (cs : List Change) → length ls ≡ length cs → length (committed ls) ≡ length (joined cs)
len_committed [] [] e = refl
len_committed (l ∷ []) (c ∷ []) e = refl
len_committed (l ∷ j ∷ ls) (c ∷ d ∷ ds) e = omega arith
len_committed [] (c ∷ cs) e = omega arith
len_committed (l ∷ ls) [] e = omega arith
len_committed (l ∷ []) (c ∷ d ∷ ds) e = omega arith
len_committed (l ∷ j ∷ ls) (c ∷ []) e = omega arith

len_rolled : (ls : Levels) (cs : List Change) → length ls ≡ length cs → length (rolled_back ls) ≡ length (without_top cs)
len_rolled [] [] e = refl
len_rolled (l ∷ ls) (c ∷ cs) e = omega arith
len_rolled [] (c ∷ cs) e = omega arith
len_rolled (l ∷ ls) [] e = omega arith

-- ---- nodes of keys

own_part : (a b : Bool) → (a && b) ≡ true → a ≡ true
own_part true b e = refl
own_part false b e = e

pub owned_global : (classes : List Class) (n : Node) (k : Key) → owner classes n ≡ Some k → is_own_global classes n.global ≡ true
unfolding is_object_node
owned_global classes n k e = own_part (is_own_global classes n.global) _ (owned_is_object classes n k e)

-- a node without subscripts belongs to no key
pub bare_owner : (classes : List Class) (global : List ℕ) → owner classes (record { global = global; subs = [] }) ≡ None
unfolding owner
bare_owner classes global = bare_unowned classes (extent_with (class_names classes) 68 global classes) (extent_with (class_names classes) 73 global classes)

pub counter_unowned : (classes : List Class) (n : Node) → IsCounterOf classes n → owner classes n ≡ None
counter_unowned classes n h = ap (owner classes) h.2 ∙ bare_owner classes _

pub covers_global : (m n : Node) → covers m n ≡ true → n.global ≡ m.global
unfolding covers
covers_global m n h = sym (one_key (λ x y t. text_tie-is x y t) m.global n.global (own_part _ _ h))

module _ (classes : List Class) (p : Pid) (x : Sight) where
  len_within : (op : Op) → IsWithinLevel op → length (turn x p op).levels ≡ length x.levels
  unfolding turn
  len_within (Set m v) i = len_note x.levels _
  len_within (Kill m) i = len_note x.levels _
  len_within Begin i = absurd i
  len_within Commit i = absurd i
  len_within RollbackOne i = absurd i
  len_within RollbackAll i = absurd i
  len_within End i = absurd i
  len_within _ i = refl

  module _ (n : Node) (k : Key) (is : owner classes n ≡ Some k) where
    -- another node than one that belongs to no key
    apart : (m : Node) → (owner classes m ≡ Some k → ⊥) → (b : Bool) → eq_by_cmp node_cmp n m ≡ b → eq_by_cmp node_cmp n m ≡ false
    apart m e true f = absurd (e (ap (owner classes) (sym (one_key node_exact n m f)) ∙ is))
    apart m e false f = f

    foreign_node : (m : Node) → is_own_global classes m.global ≡ false → owner classes m ≡ Some k → ⊥
    foreign_node m e own = let h = owned_global classes m k own in cc

    uncovered : (m : Node) → is_own_global classes m.global ≡ false → (b : Bool) → covers m n ≡ b → covers m n ≡ false
    uncovered m w true f = let h = owned_global classes n k is in none (sym w ∙ ap (is_own_global classes) (sym (covers_global m n f)) ∙ h)
    uncovered m w false f = f

    set_left : (m : Node) (v : Value) → (owner classes m ≡ Some k → ⊥) → (find node_cmp n ((m, get x.globals m) ∷ []) ≡ None) × (get (insert x.globals m v) n ≡ get x.globals n)
    set_left m v e =
        let f = apart m e (eq_by_cmp node_cmp n m) refl in
        (ap (λ b. cond b (Some (get x.globals m)) None) f, get-insert node_total x.globals m v n ∙ ap (λ b. cond b (Some v) (get x.globals n)) f)

    kill_left : (m : Node) → covers m n ≡ false → (find node_cmp n (killed x.globals m) ≡ None) × (get (retain_keys x.globals (λ y. not (covers m y))) n ≡ get x.globals n)
    kill_left m f = (find_killed x.globals m n ∙ ap (λ b. option_map Some (cond b (get x.globals n) None)) f, get_killed x.globals m n ∙ ap (λ b. cond (not b) (get x.globals n) None) f)

    incr_left : (m : Node) (o : Option ℤ) → (owner classes m ≡ Some k → ⊥) → get (stored x.globals m o) n ≡ get x.globals n
    incr_left m None e = refl
    incr_left m (Some z) e = (set_left m (as_value z) e).1

    -- an operation that writes no object's node and ends no level
    plain_own : (op : Op) (cs : List Change) (w : World) → IsWithinLevel op → WritesNone classes op → Rest classes n k x.levels cs (get x.globals n) w → Rest classes n k (turn x p op).levels cs (get (turn x p op).globals n) w
    unfolding turn
    plain_own (Set m v) cs w i free r = let h = set_left m v (foreign_node m free) in rest_left classes n k x.levels cs _ (get x.globals n) _ w h.0 h.1 r
    plain_own (Kill m) cs w i free r = let h = kill_left m (uncovered m free (covers m n) refl) in rest_left classes n k x.levels cs _ (get x.globals n) _ w h.0 h.1 r
    plain_own (Incr m j) cs w i free r = subst (λ v. Rest classes n k x.levels cs v w) (sym (incr_left m (incremented (get x.globals m) j) (foreign_node m free))) r
    plain_own Begin cs w i free r = absurd i
    plain_own Commit cs w i free r = absurd i
    plain_own RollbackOne cs w i free r = absurd i
    plain_own RollbackAll cs w i free r = absurd i
    plain_own End cs w i free r = absurd i
    plain_own _ cs w i free r = r

    -- an operation within a save
    set_noted : (m : Node) → (b : Bool) → eq_by_cmp node_cmp n m ≡ b → (v : Value)
        → ((find node_cmp n ((m, get x.globals m) ∷ []) ≡ None) × (get (insert x.globals m v) n ≡ get x.globals n)) ⊎ (find node_cmp n ((m, get x.globals m) ∷ []) ≡ Some (get x.globals n))
    set_noted m true f v = inr (ap (λ b. cond b (Some (get x.globals m)) None) f ∙ ap (λ y. Some (get x.globals y)) (sym (one_key node_exact n m f)))
    set_noted m false f v = inl (ap (λ b. cond b (Some (get x.globals m)) None) f, get-insert node_total x.globals m v n ∙ ap (λ b. cond b (Some v) (get x.globals n)) f)

    kill_noted : (m : Node) → (b : Bool) → covers m n ≡ b → (o : Option Value) → get x.globals n ≡ o
        → ((find node_cmp n (killed x.globals m) ≡ None) × (get (retain_keys x.globals (λ y. not (covers m y))) n ≡ get x.globals n)) ⊎ (find node_cmp n (killed x.globals m) ≡ Some (get x.globals n))
    kill_noted m true f (Some v) e = inr (find_killed x.globals m n ∙ ap (λ b. option_map Some (cond b (get x.globals n) None)) f ∙ ap (option_map Some) e ∙ ap Some (sym e))
    kill_noted m true f None e = inl (
      find_killed x.globals m n ∙ ap (λ b. option_map Some (cond b (get x.globals n) None)) f ∙ ap (option_map Some) e,
      get_killed x.globals m n ∙ ap (λ b. cond (not b) (get x.globals n) None) f ∙ sym e,
    )
    kill_noted m false f o e = inl (kill_left m f)

    not_cond : (b : Bool) (o : Option Value) → cond (not b) o None ≡ cond b None o
    not_cond true o = refl
    not_cond false o = refl

    inside_own : (op : Op) (ops : Within) (cs : List Change) (w : World) → IsWithinLevel op → OwnsWritten classes x.holds p op → Stands classes n k (Some ops) x.levels cs (get x.globals n) w
        → Stands classes n k (Some (and_asked op ops)) (turn x p op).levels cs (get (turn x p op).globals n) w
    unfolding turn
    inside_own (Set m v) ops cs w i may r = stands_write classes n k (Set m v) ops x.levels cs _ (get x.globals n) _ w (get-insert node_total x.globals m v n) (set_noted m (eq_by_cmp node_cmp n m) refl v) r
    inside_own (Kill m) ops cs w i may r = stands_write classes n k (Kill m) ops x.levels cs _ (get x.globals n) _ w (get_killed x.globals m n ∙ not_cond (covers m n) (get x.globals n)) (kill_noted m (covers m n) refl (get x.globals n) refl) r
    inside_own (Incr m j) ops cs w i may r =
        stands_kept classes n k (Incr m j) ops x.levels cs _ w (λ v. refl) (subst (λ v. Stands classes n k (Some ops) x.levels cs v w) (sym (incr_left m (incremented (get x.globals m) j) (λ own. absurd (cc (sym (counter_unowned classes m may.0) ∙ own))))) r)
    inside_own Begin ops cs w i may r = absurd i
    inside_own Commit ops cs w i may r = absurd i
    inside_own RollbackOne ops cs w i may r = absurd i
    inside_own RollbackAll ops cs w i may r = absurd i
    inside_own End ops cs w i may r = absurd i
    inside_own (Get m) ops cs w i may r = stands_kept classes n k (Get m) ops x.levels cs _ w (λ v. refl) r
    inside_own (Defined m) ops cs w i may r = stands_kept classes n k (Defined m) ops x.levels cs _ w (λ v. refl) r
    inside_own (Order m j) ops cs w i may r = stands_kept classes n k (Order m j) ops x.levels cs _ w (λ v. refl) r
    inside_own (Lock m d o j) ops cs w i may r = stands_kept classes n k (Lock m d o j) ops x.levels cs _ w (λ v. refl) r
    inside_own (Unlock m d o) ops cs w i may r = stands_kept classes n k (Unlock m d o) ops x.levels cs _ w (λ v. refl) r
    inside_own (UnlockAll o) ops cs w i may r = stands_kept classes n k (UnlockAll o) ops x.levels cs _ w (λ v. refl) r

    -- a process that doesn't hold the row of an object doesn't write it
    held_row : (m : Node) → HoldsGuard x.holds p (row_guard classes m) → n ≡ m → HoldsRow x.holds p k
    held_row m h e = subst (λ b. HoldsGuard x.holds p (row_guarding classes m b)) (ap (owner classes) (sym e) ∙ is) h

    not_wrote : (op : Op) → OwnsWritten classes x.holds p op → (HoldsRow x.holds p k → ⊥) → (v : Option Value) → wrote op n v ≡ v
    not_wrote (Set m v) own away y = by (eq_by_cmp node_cmp n m) refl
      where
        by : (b : Bool) → eq_by_cmp node_cmp n m ≡ b → cond (eq_by_cmp node_cmp n m) (Some v) y ≡ y
        by true e = absurd (away (held_row m own.1 (one_key node_exact n m e)))
        by false e = ap (λ b. cond b (Some v) y) e
    not_wrote (Kill m) own away y = by (covers m n) refl
      where
        by : (b : Bool) → covers m n ≡ b → cond (covers m n) None y ≡ y
        by true e = absurd (away (own.1 n k is e).0)
        by false e = ap (λ b. cond b None y) e
    not_wrote _ own away y = refl

  -- ---- within no save

  -- no save or delete is in progress then
  no_foreign : (n : Node) (j' : Within) {P : Type 0} → None ≡ Some j' → P
  no_foreign n j' e = absurd (cc e)

  plain_within : (op : Op) (cs : List Change) (w : World) → IsWithinLevel op → WritesNone classes op → length x.levels ≡ length cs → Turns classes p x None cs w [] (turn x p op) None cs w
  plain_within op cs w i free len = record {
    aligned = (len_within op i ∙ len, λ e. none e);
    pending = λ k e. inl e;
    left = λ k a b. refl;
    foreign = λ n k j' is e away old v. absurd (cc e);
    own = λ n k is r. plain_own n k is op cs w i free r;
    before = λ j' e old. absurd (cc e);
  }

  abbrev begun_as : Bool → Levels
  begun_as b = cond b (empty ∷ x.levels) x.levels

  begin_at : (b : Bool) (cs : List Change) (w : World) → length x.levels ≡ length cs
      → Turns classes p x None cs w [] (sight x.globals x.holds (begun_as b)) None (lists_after Begin (cond b (Number (pos (length x.levels + 1))) TooDeep) Plain cs) w
  begin_at true cs w len = record {
    aligned = (ap suc len, λ e. none e);
    pending = λ k e. inl e;
    left = λ k a b. refl;
    foreign = λ n k j' is e away old v. absurd (cc e);
    own = λ n k is r. rest_begun classes n k x.levels cs (get x.globals n) w r;
    before = λ j' e old. absurd (cc e);
  }
  begin_at false cs w len = record {
    aligned = (len, λ e. none e);
    pending = λ k e. inl e;
    left = λ k a b. refl;
    foreign = λ n k j' is e away old v. absurd (cc e);
    own = λ n k is r. r;
    before = λ j' e old. absurd (cc e);
  }

  nothing_written : (n : Node) (cs : List Change) (j' : Within) (v : Option Value) → Some (just_begun cs) ≡ Some j' → written j'.asked n v ≡ v
  nothing_written n cs j' v e = let same : just_begun cs ≡ j' = cc in subst (λ (o : Within). written o.asked n v ≡ v) same refl

  just_before : (cs : List Change) (j' : Within) → Some (just_begun cs) ≡ Some j' → [] ∷ cs ≡ [] ∷ j'.before
  just_before cs j' e = let same : just_begun cs ≡ j' = cc in ap (λ (o : Within). [] ∷ o.before) same

  opens_at : (b : Bool) (cs : List Change) (w : World) → length x.levels ≡ length cs
      → let r = cond b (Number (pos (length x.levels + 1))) TooDeep in
      Turns classes p x None cs w [] (sight x.globals x.holds (begun_as b)) (opened r cs) (lists_after Begin r Opens cs) w
  opens_at true cs w len = record {
    aligned = (ap suc len, λ e. (cs, refl));
    pending = λ k e. inl e;
    left = λ k a b. refl;
    foreign = λ n k j' is e away old v. nothing_written n cs j' v e;
    own = λ n k is r. stands_begun classes n k x.levels cs (get x.globals n) w r;
    before = λ j' e old. just_before cs j' e;
  }
  opens_at false cs w len = record {
    aligned = (len, λ e. none e);
    pending = λ k e. inl e;
    left = λ k a b. refl;
    foreign = λ n k j' is e away old v. absurd (cc e);
    own = λ n k is r. r;
    before = λ j' e old. absurd (cc e);
  }

  pub plain_begin : (cs : List Change) (w : World) → length x.levels ≡ length cs → Turns classes p x None cs w [] (turn x p Begin) None (lists_after Begin (answer x p Begin) Plain cs) w
  unfolding turn answer
  plain_begin cs w len = begin_at (nat_lt (length x.levels) 255) cs w len

  pub opens : (cs : List Change) (w : World) → length x.levels ≡ length cs
      → Turns classes p x None cs w [] (turn x p Begin) (within_after Begin (answer x p Begin) Opens cs None) (lists_after Begin (answer x p Begin) Opens cs) (world_after Begin (answer x p Begin) Opens cs w)
  unfolding turn answer
  opens cs w len = opens_at (nat_lt (length x.levels) 255) cs w len

  -- the lists and the world by what is left
  commit_lists : (ls : Levels) (cs : List Change) → length ls ≡ length cs → joined cs ≡ lists_after Commit (left_reply ls) Plain cs
  commit_lists [] [] e = refl
  commit_lists [] (c ∷ cs) e = absurd (omega (arith, e))
  commit_lists (l ∷ ls) cs e = refl

  commit_world : (ls : Levels) (cs : List Change) (w : World) → length ls ≡ length cs → carried_out cs w ≡ world_after Commit (left_reply ls) Plain cs w
  commit_world [] [] w e = refl
  commit_world [] (c ∷ cs) w e = absurd (omega (arith, e))
  commit_world (l ∷ ls) cs w e = refl

  rolled_lists : (ls : Levels) (cs : List Change) (tag : Tag) → length ls ≡ length cs → without_top cs ≡ lists_after RollbackOne (left_reply ls) tag cs
  rolled_lists [] [] tag e = refl
  rolled_lists [] (c ∷ cs) tag e = absurd (omega (arith, e))
  rolled_lists (l ∷ ls) cs tag e = refl

  closed_lists : (ls : Levels) (ds : List Change) (c : Change) → length ls ≡ length ([] ∷ ds) → joined (c ∷ ds) ≡ lists_after Commit (left_reply ls) (Closes c) ([] ∷ ds)
  closed_lists [] ds c e = absurd (omega (arith, e))
  closed_lists (l ∷ ls) ds c e = refl

  closed_world : (ls : Levels) (ds : List Change) (c : Change) (w : World) → length ls ≡ length ([] ∷ ds) → carried_out (c ∷ ds) w ≡ world_after Commit (left_reply ls) (Closes c) ([] ∷ ds) w
  closed_world [] ds c w e = absurd (omega (arith, e))
  closed_world (l ∷ ls) ds c w e = refl

  committed_at : (cs : List Change) (w : World) → length x.levels ≡ length cs → Turns classes p x None cs w [] (turn x p Commit) None (joined cs) (carried_out cs w)
  unfolding turn
  committed_at cs w len = record {
    aligned = (len_committed x.levels cs len, λ e. none e);
    pending = λ k e. inl (some_joined cs k e);
    left = λ k a b. applied_left cs w k a;
    foreign = λ n k j' is e away old v. absurd (cc e);
    own = λ n k is r. rest_committed classes n k x.levels cs (get x.globals n) w r;
    before = λ j' e old. absurd (cc e);
  }

  plain_commit : (cs : List Change) (w : World) → length x.levels ≡ length cs → Turns classes p x None cs w [] (turn x p Commit) None (lists_after Commit (answer x p Commit) Plain cs) (world_after Commit (answer x p Commit) Plain cs w)
  unfolding answer
  plain_commit cs w len =
      subst (λ y. Turns classes p x None cs w [] (turn x p Commit) None y (world_after Commit (left_reply x.levels) Plain cs w)) (commit_lists x.levels cs len)
      (subst (λ y. Turns classes p x None cs w [] (turn x p Commit) None (joined cs) y) (commit_world x.levels cs w len) (committed_at cs w len))

  rolled_at : (cs : List Change) (w : World) → length x.levels ≡ length cs → Turns classes p x None cs w [] (turn x p RollbackOne) None (without_top cs) w
  unfolding turn
  rolled_at cs w len = record {
    aligned = (len_rolled x.levels cs len, λ e. none e);
    pending = λ k e. inl (some_top cs k e);
    left = λ k a b. refl;
    foreign = λ n k j' is e away old v. absurd (cc e);
    own = λ n k is r. rest_rolled classes n k x.levels cs x.globals w r;
    before = λ j' e old. absurd (cc e);
  }

  plain_one : (cs : List Change) (w : World) → length x.levels ≡ length cs → Turns classes p x None cs w [] (turn x p RollbackOne) None (lists_after RollbackOne (answer x p RollbackOne) Plain cs) w
  unfolding answer
  plain_one cs w len = subst (λ y. Turns classes p x None cs w [] (turn x p RollbackOne) None y w) (rolled_lists x.levels cs Plain len) (rolled_at cs w len)

  plain_all : (cs : List Change) (w : World) → length x.levels ≡ length cs → Turns classes p x None cs w [] (turn x p RollbackAll) None [] w
  unfolding turn
  plain_all cs w len = record {
    aligned = (refl, λ e. none e);
    pending = λ k e. none e;
    left = λ k a b. refl;
    foreign = λ n k j' is e away old v. absurd (cc e);
    own = λ n k is r. stands_undone classes n k None x.levels cs x.globals w r;
    before = λ j' e old. absurd (cc e);
  }

  pub plain : (op : Op) (cs : List Change) (w : World) → WritesNone classes op → op ≢ End → length x.levels ≡ length cs
      → Turns classes p x None cs w [] (turn x p op) (within_after op (answer x p op) Plain cs None) (lists_after op (answer x p op) Plain cs) (world_after op (answer x p op) Plain cs w)
  plain Begin cs w free ne len = plain_begin cs w len
  plain Commit cs w free ne len = plain_commit cs w len
  plain RollbackOne cs w free ne len = plain_one cs w len
  plain RollbackAll cs w free ne len = plain_all cs w len
  plain End cs w free ne len = absurd (ne refl)
  plain op cs w free ne len = plain_within op cs w tt free len

  -- ---- within a save or delete

  inside_within : (op : Op) (j : Within) (cs : List Change) (w : World) → IsWithinLevel op → OwnsWritten classes x.holds p op → IsAligned (Some j) x.levels cs → Turns classes p x (Some j) cs w [] (turn x p op) (Some (and_asked op j)) cs w
  inside_within op j cs w i owns al = record {
    aligned = (len_within op i ∙ al.0, al.1);
    pending = λ k e. inl e;
    left = λ k a b. refl;
    foreign = λ n k j' is e away old v. one_more n j' v e (ap (wrote op n) (old j refl v) ∙ not_wrote n k is op owns away v);
    own = λ n k is r. inside_own n k is op j cs w i owns r;
    before = λ j' e old. old j refl ∙ still j' e;
  }
    where
      one_more : (n : Node) (j' : Within) (v : Option Value) → Some (and_asked op j) ≡ Some j' → written (op ∷ j.asked) n v ≡ v → written j'.asked n v ≡ v
      one_more n j' v e f = let same : and_asked op j ≡ j' = cc in subst (λ (o : Within). written o.asked n v ≡ v) same f

      still : (j' : Within) → Some (and_asked op j) ≡ Some j' → [] ∷ j.before ≡ [] ∷ j'.before
      still j' e = let same : and_asked op j ≡ j' = cc in ap (λ (o : Within). [] ∷ o.before) same

  pub inside : (op : Op) (j : Within) (cs : List Change) (w : World) → IsWithinLevel op → OwnsWritten classes x.holds p op → IsAligned (Some j) x.levels cs
      → Turns classes p x (Some j) cs w [] (turn x p op) (within_after op (answer x p op) Inside cs (Some j)) (lists_after op (answer x p op) Inside cs) (world_after op (answer x p op) Inside cs w)
  inside Begin j cs w i owns al = absurd i
  inside Commit j cs w i owns al = absurd i
  inside RollbackOne j cs w i owns al = absurd i
  inside RollbackAll j cs w i owns al = absurd i
  inside End j cs w i owns al = absurd i
  inside op j cs w i owns al = inside_within op j cs w i owns al

  closes_at : (j : Within) (ds : List Change) (w : World) (c : Change) → length x.levels ≡ length ([] ∷ ds)
      → ((n : Node) (k : Key) → owner classes n ≡ Some k → written j.asked n (shown classes k n (get (apply [] (apply_all ds w)) k)) ≡ shown classes k n (get (apply c (apply_all ds w)) k))
      → Turns classes p x (Some j) ([] ∷ ds) w c (turn x p Commit) None (joined (c ∷ ds)) (carried_out (c ∷ ds) w)
  unfolding turn
  closes_at j ds w c len h = record {
    aligned = (len_committed x.levels (c ∷ ds) len, λ e. none e);
    pending = λ k e. either_has (changes c k) (some_changes ds k) (some_joined (c ∷ ds) k e);
    left = λ k a b. applied_left (c ∷ ds) w k (both_false (changes c k) (some_changes ds k) b a);
    foreign = λ n k j' is e away old v. absurd (cc e);
    own = λ n k is r. rest_committed classes n k x.levels (c ∷ ds) (get x.globals n) w (stands_closed classes n k j x.levels ds (get x.globals n) w c r (h n k is));
    before = λ j' e old. absurd (cc e);
  }

  closes_from : (j : Within) (ds : List Change) (w : World) (c : Change) → length x.levels ≡ length ([] ∷ ds)
      → ((n : Node) (k : Key) → owner classes n ≡ Some k → written j.asked n (shown classes k n (get (apply_all ([] ∷ ds) w) k)) ≡ shown classes k n (get (apply c (apply_all ([] ∷ ds) w)) k))
      → Turns classes p x (Some j) ([] ∷ ds) w c (turn x p Commit) None (lists_after Commit (answer x p Commit) (Closes c) ([] ∷ ds)) (world_after Commit (answer x p Commit) (Closes c) ([] ∷ ds) w)
  unfolding answer apply
  closes_from j ds w c len h =
      subst (λ y. Turns classes p x (Some j) ([] ∷ ds) w c (turn x p Commit) None y (world_after Commit (left_reply x.levels) (Closes c) ([] ∷ ds) w)) (closed_lists x.levels ds c len)
      (subst (λ y. Turns classes p x (Some j) ([] ∷ ds) w c (turn x p Commit) None (joined (c ∷ ds)) y) (closed_world x.levels ds c w len) (closes_at j ds w c len h))

  pub closes : (j : Within) (cs : List Change) (w : World) (c : Change) → IsAligned (Some j) x.levels cs
      → ((n : Node) (k : Key) → owner classes n ≡ Some k → written j.asked n (shown classes k n (get (apply_all cs w) k)) ≡ shown classes k n (get (apply c (apply_all cs w)) k))
      → Turns classes p x (Some j) cs w c (turn x p Commit) (within_after Commit (answer x p Commit) (Closes c) cs (Some j)) (lists_after Commit (answer x p Commit) (Closes c) cs) (world_after Commit (answer x p Commit) (Closes c) cs w)
  closes j cs w c al h =
      let ds = al.1 refl in
      subst (λ y. Turns classes p x (Some j) y w c (turn x p Commit) None (lists_after Commit (answer x p Commit) (Closes c) y) (world_after Commit (answer x p Commit) (Closes c) y w)) (sym ds.1)
      (closes_from j ds.0 w c (al.0 ∙ ap length ds.1) (λ n k is. subst (λ y. written j.asked n (shown classes k n (get (apply_all y w) k)) ≡ shown classes k n (get (apply c (apply_all y w)) k)) ds.1 (h n k is)))

  fails_at : (j : Within) (cs : List Change) (w : World) → IsAligned (Some j) x.levels cs → Turns classes p x (Some j) cs w [] (turn x p RollbackOne) None (without_top cs) w
  unfolding turn
  fails_at j cs w al = record {
    aligned = (len_rolled x.levels cs al.0, λ e. none e);
    pending = λ k e. inl (some_top cs k e);
    left = λ k a b. refl;
    foreign = λ n k j' is e away old v. absurd (cc e);
    own = λ n k is r. stands_rolled classes n k j x.levels cs x.globals w r;
    before = λ j' e old. absurd (cc e);
  }

  pub fails : (j : Within) (cs : List Change) (w : World) → IsAligned (Some j) x.levels cs
      → Turns classes p x (Some j) cs w [] (turn x p RollbackOne) (within_after RollbackOne (answer x p RollbackOne) Fails cs (Some j)) (lists_after RollbackOne (answer x p RollbackOne) Fails cs) (world_after RollbackOne (answer x p RollbackOne) Fails cs w)
  unfolding answer
  fails j cs w al = subst (λ y. Turns classes p x (Some j) cs w [] (turn x p RollbackOne) None y w) (rolled_lists x.levels cs Fails al.0) (fails_at j cs w al)

  -- ---- the end, wherever the process is

  pub stops : (b : Option Within) (cs : List Change) (w : World) (tag : Tag) → Turns classes p x b cs w [] (turn x p End) (within_after End (answer x p End) tag cs b) (lists_after End (answer x p End) tag cs) (world_after End (answer x p End) tag cs w)
  unfolding turn
  stops b cs w tag = record {
    aligned = (refl, λ e. none e);
    pending = λ k e. none e;
    left = λ k a d. refl;
    foreign = λ n k j' is e away old v. absurd (cc e);
    own = λ n k is r. stands_undone classes n k b x.levels cs x.globals w r;
    before = λ j' e old. absurd (cc e);
  }
