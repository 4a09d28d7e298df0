-- What a turn that respects a guard does to a guarded node.
use Rattle.std.proofs.Common.{◌≡◌, ℤ, Bool, true, false, cond, not, nat_lt, ◌⊎◌, inl, inr, [], ◌∷◌, length, Option, Some, None, option_map, is_some, unwrap_or, refl, sym, ap, subst, ◌∙◌}
use Rattle.std.specs.Option.{option_or}
use Rattle.std.specs.Ordering.{eq_by_cmp}
use Rattle.std.specs.FinMap.{find, get, insert, retain_keys, entries, empty, contains_key, get-insert, get-entries, get-empty}
use Rattle.obj_kinds.specs.declared.node.Node.{Node}
use Rattle.obj_kinds.specs.declared.value.Value.{Value}
use Rattle.obj_kinds.specs.declared.op.Pid.{Pid}
use Rattle.obj_kinds.specs.declared.op.Op.{Op}
use Rattle.obj_kinds.specs.declared.op.Op.TheVariants.{Set, Kill, Incr, Begin, Commit, RollbackOne, RollbackAll, End}
use Rattle.obj_kinds.specs.Order.{node_cmp, covers}
use Rattle.obj_kinds.proofs.OrderLemmas.{node_total, node_exact}
use Rattle.global_tree.specs.Contents.{Globals}
use Rattle.global_tree.proofs.MapLaws.{one_key}
use Rattle.tran_log.specs.Levels.{Olds, Level, Levels, begun, note_top, noted, committed, rolled_back, top_undone, undone, all_undone}
use Rattle.tran_log.proofs.LevelLaws.{get-noted, get-undone}
use Rattle.store_core.specs.Machine.{State, seen, is_open, killed, stored, levels_at, turn, after}
use Rattle.store_core.specs.Numbers.{incremented, as_value}
use Rattle.store_core.specs.Cleared.{outermost}
use Rattle.store_core.specs.Guard.{Guard, is_guarded, HoldsGuard, MayWrite, Respects, last_has, commits}
use Rattle.store_core.proofs.Restored.{find_killed, get_killed}

abbrev pub Old : Type 0
Old = Option (Option Value)

-- what the levels of a process keep of a node, o, and what the node has, v, and both after a turn of the process, o'
-- and v'; Own says that the process holds the node's guard, and c whether the turn is an outermost commit with the
-- node in its level
pub data IsTurned (Own : Type 0) (c : Bool) (o : Old) (v : Option Value) (o' : Old) (v' : Option Value) : Type 0 where
  Left : c ≡ false → o' ≡ o → v' ≡ v → IsTurned Own c o v o' v'
  Wrote : c ≡ false → Own → is_some o' ≡ true → unwrap_or o' v' ≡ unwrap_or o v → IsTurned Own c o v o' v'
  Undid : c ≡ false → is_some o ≡ true → unwrap_or o' v' ≡ unwrap_or o v → IsTurned Own c o v o' v'
  Committed : c ≡ true → is_some o ≡ true → o' ≡ None → v' ≡ v → IsTurned Own c o v o' v'

-- ---- options

or_none : (o : Old) → option_or o None ≡ o
or_none None = refl
or_none (Some x) = refl

or_some : (o p : Old) (v : Option Value) → is_some (option_or o (option_or p (Some v))) ≡ true
or_some None None v = refl
or_some None (Some y) v = refl
or_some (Some x) p v = refl

first_kept : (o p : Old) (v w : Option Value)
    → unwrap_or (option_or o (option_or p (Some v))) w ≡ unwrap_or (option_or o p) v
first_kept None None v w = refl
first_kept None (Some y) v w = refl
first_kept (Some x) p v w = refl

or_assoc : (o p q : Old) → option_or o (option_or p q) ≡ option_or (option_or o p) q
or_assoc None p q = refl
or_assoc (Some x) p q = refl

or_value : (o p : Old) (v : Option Value)
    → unwrap_or o (unwrap_or p v) ≡ unwrap_or (option_or o p) v
or_value None p v = refl
or_value (Some x) p v = refl

-- ---- levels

-- what undoing all levels gives
pub get-all_undone : (ls : Levels) (g : Globals) (n : Node)
    → get (all_undone g ls) n ≡ unwrap_or (outermost ls n) (get g n)
get-all_undone [] g n = refl
get-all_undone (l ∷ ls) g n =
    get-all_undone ls (undone g l) n
    ∙ ap (unwrap_or (outermost ls n)) (get-undone l g n)
    ∙ or_value (outermost ls n) (get l n) (get g n)

-- what the levels keep once the top one has noted more
kept_noted : (l : Level) (ls : Levels) (es : Olds) (n : Node) (o : Old) → find node_cmp n es ≡ o
    → outermost (noted l es ∷ ls) n ≡ option_or (outermost ls n) (option_or (get l n) o)
kept_noted l ls es n o e = ap (option_or (outermost ls n)) (get-noted es l n ∙ ap (option_or (get l n)) e)

module _ (Own : Type 0) where
  -- a write that leaves the node, or keeps in the top level what it had
  write_turned : (ls : Levels) (es : Olds) (n : Node) (v v' : Option Value)
      → ((find node_cmp n es ≡ None) × (v' ≡ v)) ⊎ ((find node_cmp n es ≡ Some v) × (is_open ls ≡ true) × Own)
      → IsTurned Own false (outermost ls n) v (outermost (note_top ls es) n) v'
  write_turned [] es n v v' (inl h) = Left refl refl h.1
  write_turned [] es n v v' (inr h) = cc h.1
  write_turned (l ∷ ls) es n v v' (inl h) =
      Left refl (kept_noted l ls es n None h.0 ∙ ap (option_or (outermost ls n)) (or_none (get l n))) h.1
  write_turned (l ∷ ls) es n v v' (inr h) =
      let e = kept_noted l ls es n (Some v) h.0 in
      let o = outermost ls n in
      Wrote refl h.2 (ap is_some e ∙ or_some o (get l n) v) (ap (λ x. unwrap_or x v') e ∙ first_kept o (get l n) v v')

  begun_turned : (ls : Levels) (n : Node) (v : Option Value)
      → IsTurned Own false (outermost ls n) v (outermost (begun ls) n) v
  begun_turned ls n v = by (nat_lt (length ls) 255)
    where
      by : (b : Bool) → IsTurned Own false (outermost ls n) v (outermost (cond b (empty ∷ ls) ls) n) v
      by true =
          let none = get-empty {X = Option Value} node_cmp n in
          Left refl (ap (option_or (outermost ls n)) none ∙ or_none (outermost ls n)) refl
      by false = Left refl refl refl

  last_turned : (o : Old) (v : Option Value) → IsTurned Own (is_some o) o v None v
  last_turned None v = Left refl refl refl
  last_turned (Some x) v = Committed refl refl refl refl

  commit_turned : (ls : Levels) (n : Node) (v : Option Value)
      → IsTurned Own (last_has ls n) (outermost ls n) v (outermost (committed ls) n) v
  commit_turned [] n v = Left refl refl refl
  commit_turned (l ∷ []) n v = last_turned (get l n) v
  commit_turned (l ∷ k ∷ ls) n v =
      let e = kept_noted k ls (entries l) n (get l n) (sym (get-entries l n)) in
      Left refl (e ∙ or_assoc (outermost ls n) (get k n) (get l n)) refl

  one_undone : (o p : Old) (v : Option Value)
      → IsTurned Own false (option_or o p) v o (unwrap_or p v)
  one_undone o None v = Left refl (sym (or_none o)) refl
  one_undone None (Some y) v = Undid refl refl refl
  one_undone (Some x) (Some y) v = Undid refl refl refl

  rollback_turned : (ls : Levels) (g : Globals) (n : Node)
      → IsTurned Own false (outermost ls n) (get g n) (outermost (rolled_back ls) n) (get (top_undone g ls) n)
  rollback_turned [] g n = Left refl refl refl
  rollback_turned (l ∷ ls) g n =
      subst (IsTurned Own false (outermost (l ∷ ls) n) (get g n) (outermost ls n)) (sym (get-undone l g n))
      (one_undone (outermost ls n) (get l n) (get g n))

  undo_turned : (ls : Levels) (g : Globals) (n : Node)
      → IsTurned Own false (outermost ls n) (get g n) None (get (all_undone g ls) n)
  undo_turned ls g n =
      subst (IsTurned Own false (outermost ls n) (get g n) None) (sym (get-all_undone ls g n))
      (by (outermost ls n) (get g n))
    where
      by : (o : Old) (v : Option Value) → IsTurned Own false o v None (unwrap_or o v)
      by None v = Left refl refl refl
      by (Some x) v = Undid refl refl refl

-- ---- operations

module _ (guard : Guard) (s : State) (p : Pid) (n : Node) (gd : is_guarded guard n ≡ true) where
  abbrev IsNoted : Olds → Option Value → Type 0
  IsNoted es v =
      ((find node_cmp n es ≡ None) × (v ≡ get s.globals n))
      ⊎ ((find node_cmp n es ≡ Some (get s.globals n)) × (is_open (levels_at s p.0) ≡ true) × HoldsGuard s.holds p (guard n))

  set_noted : (m : Node) (v : Value) → MayWrite guard s p m
      → IsNoted ((m, get s.globals m) ∷ []) (get (insert s.globals m v) n)
  set_noted m v may = by (eq_by_cmp node_cmp n m) refl
    where
      by : (b : Bool) → eq_by_cmp node_cmp n m ≡ b
          → IsNoted ((m, get s.globals m) ∷ []) (get (insert s.globals m v) n)
      by true e =
          let same : n ≡ m = one_key node_exact n m e in
          let h = subst (MayWrite guard s p) (sym same) may gd in
          inr (ap (λ b. cond b (Some (get s.globals m)) None) e ∙ ap (λ k. Some (get s.globals k)) (sym same), h.0, h.1)
      by false e = inl (
        ap (λ b. cond b (Some (get s.globals m)) None) e,
        get-insert node_total s.globals m v n ∙ ap (λ b. cond b (Some v) (get s.globals n)) e,
      )

  kill_noted : (m : Node) → ((k : Node) → covers m k ≡ true → contains_key s.globals k ≡ true → MayWrite guard s p k)
      → IsNoted (killed s.globals m) (get (retain_keys s.globals (λ k. not (covers m k))) n)
  kill_noted m may = by (covers m n) refl (get s.globals n) refl
    where
      find_is : (b : Bool) → covers m n ≡ b → (o : Option Value) → get s.globals n ≡ o
          → find node_cmp n (killed s.globals m) ≡ option_map Some (cond b o None)
      find_is b c o e =
          find_killed s.globals m n
          ∙ ap (λ x. option_map Some (cond x (get s.globals n) None)) c
          ∙ ap (λ x. option_map Some (cond b x None)) e

      get_is : (b : Bool) → covers m n ≡ b
          → get (retain_keys s.globals (λ k. not (covers m k))) n ≡ cond (not b) (get s.globals n) None
      get_is b c = get_killed s.globals m n ∙ ap (λ x. cond (not x) (get s.globals n) None) c

      by : (b : Bool) → covers m n ≡ b → (o : Option Value) → get s.globals n ≡ o
          → IsNoted (killed s.globals m) (get (retain_keys s.globals (λ k. not (covers m k))) n)
      by true c (Some v) e =
          let h = may n c (ap is_some e) gd in
          inr (find_is true c (Some v) e ∙ ap Some (sym e), h.0, h.1)
      by true c None e = inl (find_is true c None e, get_is true c ∙ sym e)
      by false c o e = inl (find_is false c o e, get_is false c)

  number_kept : (m : Node) (o : Option ℤ) → (n ≡ m → get (stored s.globals m o) m ≡ get s.globals m)
      → get (stored s.globals m o) n ≡ get s.globals n
  number_kept m None may = refl
  number_kept m (Some z) may = by (eq_by_cmp node_cmp n m) refl
    where
      by : (b : Bool) → eq_by_cmp node_cmp n m ≡ b → get (insert s.globals m (as_value z)) n ≡ get s.globals n
      by true e =
          let same : n ≡ m = one_key node_exact n m e in
          ap (get (insert s.globals m (as_value z))) same ∙ may same ∙ ap (get s.globals) (sym same)
      by false e = get-insert node_total s.globals m (as_value z) n ∙ ap (λ b. cond b (Some (as_value z)) (get s.globals n)) e

  pub turned : (op : Op) → Respects guard s p op
      → IsTurned (HoldsGuard s.holds p (guard n)) (commits (levels_at s p.0) op n) (outermost (levels_at s p.0) n) (get s.globals n)
      (outermost (turn (seen s p) p op).levels n) (get (turn (seen s p) p op).globals n)
  unfolding turn after
  turned (Set m v) may = write_turned _ (levels_at s p.0) _ n _ _ (set_noted m v may)
  turned (Kill m) may = write_turned _ (levels_at s p.0) _ n _ _ (kill_noted m may)
  turned (Incr m k) may =
      let guarded : n ≡ m → is_guarded guard m ≡ true = λ same. ap (is_guarded guard) (sym same) ∙ gd in
      Left refl refl (number_kept m (incremented (get s.globals m) k) (λ same. may (guarded same)))
  turned Begin may = begun_turned _ (levels_at s p.0) n (get s.globals n)
  turned Commit may = commit_turned _ (levels_at s p.0) n (get s.globals n)
  turned RollbackOne may = rollback_turned _ (levels_at s p.0) s.globals n
  turned RollbackAll may = undo_turned _ (levels_at s p.0) s.globals n
  turned End may = undo_turned _ (levels_at s p.0) s.globals n
  turned _ may = Left refl refl refl
