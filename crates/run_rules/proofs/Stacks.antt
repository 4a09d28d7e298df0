-- How the levels and the lists of one process agree at a node of one object.
use Rattle.std.proofs.Common.{◌≡◌, Bool, true, false, cond, ◌||◌, ◌⊎◌, inl, inr, List, [], ◌∷◌, ◌++◌, length, Option, Some, None, unwrap_or, is_some, refl, sym, ap, ◌∙◌, subst, arith}
use Rattle.std.specs.Option.{option_or}
use Rattle.std.specs.FinMap.{find, get, entries, empty, get-empty, get-entries}
use Rattle.obj_kinds.specs.declared.node.Node.{Node}
use Rattle.obj_kinds.specs.declared.value.Value.{Value}
use Rattle.obj_kinds.specs.declared.op.Op.{Op}
use Rattle.obj_kinds.specs.Order.{node_cmp}
use Rattle.schema_kinds.specs.declared.key.Key.{Key}
use Rattle.schema_kinds.specs.declared.record.Record.{Record}
use Rattle.global_tree.specs.Contents.{Globals}
use Rattle.tran_log.specs.Levels.{Olds, Level, Levels, note_top, noted, committed, rolled_back, top_undone, undone, all_undone}
use Rattle.tran_log.proofs.LevelLaws.{get-noted, get-undone}
use Rattle.store_core.specs.Cleared.{outermost}
use Rattle.store_core.specs.Guard.{names}
use Rattle.store_core.proofs.GuardTurns.{get-all_undone}
use Rattle.object_runs.specs.Invariant.{IsAligned, Rest, Stands, shown, shown_in, some_changes, written, wrote}
use Rattle.object_runs.specs.ObjectMachine.{Within, apply_all, joined, without_top}
use Rattle.run_rules.proofs.Changes.{all_alike, all_unchanged, apply-append, or_false}
use Rattle.run_rules.specs.Steps.{and_asked, just_begun}
use Rattle.schema_kinds.specs.Worlds.{Change, World, apply}
use Rattle.schema_kinds.specs.declared.class.Class.{Class}
use Rattle.object_runs.specs.ObjectMachine.{committed as carried_out}

or_value : (o p : Option (Option Value)) (v : Option Value) → unwrap_or o (unwrap_or p v) ≡ unwrap_or (option_or o p) v
or_value None p v = refl
or_value (Some x) p v = refl

none_or : (o p : Option (Option Value)) → is_some (option_or o p) ≡ false → (is_some o ≡ false) × (is_some p ≡ false)
none_or None p e = (refl, e)
none_or (Some x) p e = cc

pub not_named : (l : Level) (ls : Levels) (n : Node) → names (l ∷ ls) n ≡ false → (names ls n ≡ false) × (is_some (get l n) ≡ false)
not_named l ls n e = none_or (outermost ls n) (get l n) e

pub unkept : (o : Option (Option Value)) (v : Option Value) → is_some o ≡ false → unwrap_or o v ≡ v
unkept None v e = refl
unkept (Some x) v e = cc

or_none : (o : Option (Option Value)) → option_or o None ≡ o
or_none None = refl
or_none (Some x) = refl

write_keeps : (o f : Option (Option Value)) (v g : Option Value) → ((f ≡ None) × (v ≡ g)) ⊎ (f ≡ Some g) → unwrap_or o g ≡ unwrap_or (option_or o f) v
write_keeps (Some x) f v g h = refl
write_keeps None None v g (inl h) = sym h.1
write_keeps None (Some y) v g (inl h) = cc (h.0)
write_keeps None None v g (inr h) = cc h
write_keeps None (Some y) v g (inr h) = sym (ap (λ o. unwrap_or o v) h)

-- of a node n of the object k
module _ (classes : List Class) (n : Node) (k : Key) where
  pub rest_top : (ls : Levels) (cs : List Change) (v : Option Value) (w : World) → Rest classes n k ls cs v w → v ≡ shown_in classes n k cs w
  rest_top [] [] v w r = r
  rest_top (l ∷ ls) (c ∷ cs) v w r = r.0
  rest_top [] (c ∷ cs) v w r = absurd r
  rest_top (l ∷ ls) [] v w r = absurd r

  pub rest_bottom : (ls : Levels) (cs : List Change) (v : Option Value) (w : World) → Rest classes n k ls cs v w → unwrap_or (outermost ls n) v ≡ shown classes k n (get w k)
  rest_bottom [] [] v w r = r
  rest_bottom (l ∷ ls) (c ∷ cs) v w r = sym (or_value (outermost ls n) (get l n) v) ∙ rest_bottom ls cs (unwrap_or (get l n) v) w r.1
  rest_bottom [] (c ∷ cs) v w r = absurd r
  rest_bottom (l ∷ ls) [] v w r = absurd r

  pub stands_bottom : (b : Option Within) (ls : Levels) (cs : List Change) (v : Option Value) (w : World) → Stands classes n k b ls cs v w → unwrap_or (outermost ls n) v ≡ shown classes k n (get w k)
  stands_bottom None ls cs v w r = rest_bottom ls cs v w r
  stands_bottom (Some j) [] cs v w r = absurd r
  stands_bottom (Some j) (l ∷ ls) [] v w r = absurd r
  stands_bottom (Some j) (l ∷ ls) (c ∷ cs) v w r = sym (or_value (outermost ls n) (get l n) v) ∙ rest_bottom ls cs (unwrap_or (get l n) v) w r.1

  -- a process that has neither the node nor its key sees the world's
  pub rest_plain : (ls : Levels) (cs : List Change) (v : Option Value) (w : World) → length ls ≡ length cs → names ls n ≡ false → some_changes cs k ≡ false → v ≡ shown classes k n (get w k) → Rest classes n k ls cs v w
  rest_plain [] [] v w len a b e = e
  rest_plain (l ∷ ls) (c ∷ cs) v w len a b e =
      let h = not_named l ls n a in (
        e ∙ sym (ap (shown classes k n) (all_unchanged (c ∷ cs) w k b)),
        rest_plain ls cs (unwrap_or (get l n) v) w (omega arith) h.0 (or_false _ _ b).1 (unkept (get l n) v h.1 ∙ e),
      )
  rest_plain [] (c ∷ cs) v w len a b e = omega arith
  rest_plain (l ∷ ls) [] v w len a b e = omega arith

  pub from_plain : (b : Option Within) (ls : Levels) (cs : List Change) (v : Option Value) (w : World) → IsAligned b ls cs → names ls n ≡ false → some_changes cs k ≡ false → v ≡ shown classes k n (get w k)
      → ((j : Within) → b ≡ Some j → (x : Option Value) → written j.asked n x ≡ x) → Stands classes n k b ls cs v w
  from_plain None ls cs v w al a d is old = rest_plain ls cs v w al.0 a d is
  from_plain (Some j) [] [] v w al a d is old = absurd (cc ((al.1 refl).1))
  from_plain (Some j) [] (c ∷ cs) v w al a d is old = absurd (omega (arith, al.0))
  from_plain (Some j) (l ∷ ls) [] v w al a d is old = absurd (omega (arith, al.0))
  from_plain (Some j) (l ∷ ls) (c ∷ cs) v w al a d is old =
      let r = rest_plain (l ∷ ls) (c ∷ cs) v w al.0 a d is in
      (r.0 ∙ sym (old j refl _), r.1)

  pub to_plain : (b : Option Within) (ls : Levels) (cs : List Change) (v : Option Value) (w : World) → names ls n ≡ false → Stands classes n k b ls cs v w → v ≡ shown classes k n (get w k)
  to_plain b ls cs v w a r = sym (unkept (outermost ls n) v a) ∙ stands_bottom b ls cs v w r

  -- ---- other worlds with the same record

  pub rest_moved : (ls : Levels) (cs : List Change) (v : Option Value) (w w' : World) → get w' k ≡ get w k → Rest classes n k ls cs v w → Rest classes n k ls cs v w'
  rest_moved [] [] v w w' e r = r ∙ sym (ap (shown classes k n) e)
  rest_moved (l ∷ ls) (c ∷ cs) v w w' e r = (r.0 ∙ sym (ap (shown classes k n) (all_alike (c ∷ cs) w w' k e)), rest_moved ls cs (unwrap_or (get l n) v) w w' e r.1)
  rest_moved [] (c ∷ cs) v w w' e r = absurd r
  rest_moved (l ∷ ls) [] v w w' e r = absurd r

  pub stands_moved : (b : Option Within) (ls : Levels) (cs : List Change) (v : Option Value) (w w' : World) → get w' k ≡ get w k → Stands classes n k b ls cs v w → Stands classes n k b ls cs v w'
  stands_moved None ls cs v w w' e r = rest_moved ls cs v w w' e r
  stands_moved (Some j) [] cs v w w' e r = absurd r
  stands_moved (Some j) (l ∷ ls) [] v w w' e r = absurd r
  stands_moved (Some j) (l ∷ ls) (c ∷ cs) v w w' e r =
      (r.0 ∙ ap (λ x. written j.asked n (shown classes k n x)) (sym (all_alike (c ∷ cs) w w' k e)), rest_moved ls cs (unwrap_or (get l n) v) w w' e r.1)

  -- ---- what the process itself does

  -- a write that leaves the node, or keeps in the top level what it had
  abbrev pub IsNoted : Olds → Option Value → Option Value → Type 0
  IsNoted es v v' = ((find node_cmp n es ≡ None) × (v' ≡ v)) ⊎ (find node_cmp n es ≡ Some v)

  rest_write : (l : Level) (ls : Levels) (cs : List Change) (es : Olds) (v v' : Option Value) (w : World) → IsNoted es v v' → Rest classes n k ls cs (unwrap_or (get l n) v) w → Rest classes n k ls cs (unwrap_or (get (noted l es) n) v') w
  rest_write l ls cs es v v' w h r =
      subst (λ x. Rest classes n k ls cs x w) (write_keeps (get l n) (find node_cmp n es) v' v h ∙ sym (ap (λ o. unwrap_or o v') (get-noted es l n))) r

  -- a write of other nodes
  pub rest_left : (ls : Levels) (cs : List Change) (es : Olds) (v v' : Option Value) (w : World) → find node_cmp n es ≡ None → v' ≡ v → Rest classes n k ls cs v w → Rest classes n k (note_top ls es) cs v' w
  rest_left [] cs es v v' w h e r = subst (λ x. Rest classes n k [] cs x w) (sym e) r
  rest_left (l ∷ ls) [] es v v' w h e r = absurd r
  rest_left (l ∷ ls) (c ∷ cs) es v v' w h e r = (e ∙ r.0, rest_write l ls cs es v v' w (inl (h, e)) r.1)

  pub stands_write : (op : Op) (j : Within) (ls : Levels) (cs : List Change) (es : Olds) (v v' : Option Value) (w : World) → v' ≡ wrote op n v → IsNoted es v v'
      → Stands classes n k (Some j) ls cs v w → Stands classes n k (Some (and_asked op j)) (note_top ls es) cs v' w
  stands_write op j [] cs es v v' w e h r = absurd r
  stands_write op j (l ∷ ls) [] es v v' w e h r = absurd r
  stands_write op j (l ∷ ls) (c ∷ cs) es v v' w e h r = (e ∙ ap (wrote op n) r.0, rest_write l ls cs es v v' w h r.1)

  pub stands_kept : (op : Op) (j : Within) (ls : Levels) (cs : List Change) (v : Option Value) (w : World) → ((x : Option Value) → wrote op n x ≡ x) → Stands classes n k (Some j) ls cs v w → Stands classes n k (Some (and_asked op j)) ls cs v w
  stands_kept op j [] cs v w h r = absurd r
  stands_kept op j (l ∷ ls) [] v w h r = absurd r
  stands_kept op j (l ∷ ls) (c ∷ cs) v w h r = (r.0 ∙ sym (h _), r.1)

  pub rest_begun : (ls : Levels) (cs : List Change) (v : Option Value) (w : World) → Rest classes n k ls cs v w → Rest classes n k (empty ∷ ls) ([] ∷ cs) v w
  unfolding apply
  rest_begun ls cs v w r =
      let none = get-empty {X = Option Value} node_cmp n in
      (rest_top ls cs v w r, subst (λ (o : Option (Option Value)). Rest classes n k ls cs (unwrap_or o v) w) (sym none) r)

  pub stands_begun : (ls : Levels) (cs : List Change) (v : Option Value) (w : World) → Rest classes n k ls cs v w → Stands classes n k (Some (just_begun cs)) (empty ∷ ls) ([] ∷ cs) v w
  stands_begun ls cs v w r = let h = rest_begun ls cs v w r in (h.0, h.1)

  pub rest_committed : (ls : Levels) (cs : List Change) (v : Option Value) (w : World) → Rest classes n k ls cs v w → Rest classes n k (committed ls) (joined cs) v (carried_out cs w)
  rest_committed [] [] v w r = r
  rest_committed (l ∷ []) (c ∷ []) v w r = r.0
  rest_committed (l ∷ j ∷ ls) (c ∷ d ∷ ds) v w r =
      let is = get-noted (entries l) j n ∙ ap (option_or (get j n)) (sym (get-entries l n)) in (
        r.0 ∙ ap (λ x. shown classes k n (get x k)) (sym (apply-append d c (apply_all ds w))),
        subst (λ x. Rest classes n k ls ds x w) (or_value (get j n) (get l n) v ∙ sym (ap (λ o. unwrap_or o v) is)) r.1.1,
      )
  rest_committed [] (c ∷ cs) v w r = absurd r
  rest_committed (l ∷ ls) [] v w r = absurd r
  rest_committed (l ∷ []) (c ∷ d ∷ ds) v w r = absurd r.1
  rest_committed (l ∷ j ∷ ls) (c ∷ []) v w r = absurd r.1

  pub rest_rolled : (ls : Levels) (cs : List Change) (g : Globals) (w : World) → Rest classes n k ls cs (get g n) w → Rest classes n k (rolled_back ls) (without_top cs) (get (top_undone g ls) n) w
  rest_rolled [] [] g w r = r
  rest_rolled (l ∷ ls) (c ∷ cs) g w r = subst (λ x. Rest classes n k ls cs x w) (sym (get-undone l g n)) r.1
  rest_rolled [] (c ∷ cs) g w r = absurd r
  rest_rolled (l ∷ ls) [] g w r = absurd r

  -- a save that fails leaves what was before its Begin
  pub stands_rolled : (j : Within) (ls : Levels) (cs : List Change) (g : Globals) (w : World) → Stands classes n k (Some j) ls cs (get g n) w → Rest classes n k (rolled_back ls) (without_top cs) (get (top_undone g ls) n) w
  stands_rolled j [] cs g w r = absurd r
  stands_rolled j (l ∷ ls) [] g w r = absurd r
  stands_rolled j (l ∷ ls) (c ∷ cs) g w r = subst (λ x. Rest classes n k ls cs x w) (sym (get-undone l g n)) r.1

  pub stands_undone : (b : Option Within) (ls : Levels) (cs : List Change) (g : Globals) (w : World) → Stands classes n k b ls cs (get g n) w → Rest classes n k [] [] (get (all_undone g ls) n) w
  stands_undone b ls cs g w r = get-all_undone ls g n ∙ stands_bottom b ls cs (get g n) w r

  -- what a save wrote is its change
  pub stands_closed : (j : Within) (ls : Levels) (ds : List Change) (v : Option Value) (w : World) (c : Change) → Stands classes n k (Some j) ls ([] ∷ ds) v w
      → written j.asked n (shown_in classes n k ([] ∷ ds) w) ≡ shown classes k n (get (apply c (apply_all ds w)) k) → Rest classes n k ls (c ∷ ds) v w
  stands_closed j [] ds v w c r h = absurd r
  stands_closed j (l ∷ ls) ds v w c r h = (r.0 ∙ h, r.1)
