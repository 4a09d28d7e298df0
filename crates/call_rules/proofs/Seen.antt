-- What a process sees of an object whose row it holds.
use Rattle.std.proofs.Common.{◌≡◌, ◌≢◌, ℕ, Bool, true, false, cond, ◌⊎◌, inl, inr, List, [], ◌∷◌, ◌++◌, Option, Some, None, is_some, unwrap_or, refl, sym, ap, ◌∙◌, subst}
use Rattle.std.specs.FinMap.{find, get}
use Rattle.obj_kinds.specs.declared.node.Node.{Node}
use Rattle.obj_kinds.specs.declared.value.Value.{Value}
use Rattle.obj_kinds.specs.declared.op.Pid.{Pid}
use Rattle.obj_kinds.specs.declared.op.Op.{Op}
use Rattle.obj_kinds.specs.declared.op.Op.TheVariants.{Begin, Commit, RollbackOne, RollbackAll, End}
use Rattle.obj_kinds.specs.declared.op.Reply.{Reply}
use Rattle.schema_kinds.specs.declared.key.Key.{Key}
use Rattle.schema_kinds.specs.declared.record.Record.{Record}
use Rattle.tran_log.specs.Levels.{Levels}
use Rattle.store_core.specs.Machine.{State, seen, turn, levels_at, is_live, reply}
use Rattle.store_core.proofs.GuardHolds.{one_holder}
use Rattle.call_rules.proofs.Rules.{In, IsFact, holds_fact}
use Rattle.call_rules.specs.Settings.{Setting}
use Rattle.object_runs.specs.Invariant.{HoldsRow, Stands, shown, written}
use Rattle.object_runs.specs.ObjectMachine.{Desk, Within, apply_all, desk_after, desk_at, desks_after, lists_after, view, world_after}
use Rattle.object_runs.specs.Runs.{Both}
use Rattle.record_layout.specs.Rows.{data_node}
use Rattle.run_rules.proofs.Changes.{all_alike}
use Rattle.run_rules.proofs.Step.{alone_with, free_from}
use Rattle.run_rules.proofs.Whole.{desk_other, desk_own, not_true, owned_mark, turn_fit}
use Rattle.run_rules.specs.Steps.{Event, IsFit, IsWithinLevel, next, step_by}
use Rattle.schema_kinds.specs.Worlds.{Change, World}
use Rattle.storage_map.specs.Worlds.{owner}
use Rattle.store_calls.specs.Calls.{Inside, Tag}

module _ (t : Setting) where
  -- an operation of another process leaves the world's record of a key whose row this process holds
  pub world_left : (b : Both) (q : Pid) (op : Op) (tag : Tag) (k : Key) → t.Inv b → IsFit t.classes t.Facts b q op tag → HoldsRow b.store.holds t.p k → q.0 ≢ t.p.0 → get (next b q op tag).objects.world k ≡ get b.objects.world k
  unfolding desks_after reply
  world_left b q op tag k w fit h ne =
      let tr = turn_fit t.classes t.Facts b q op tag (t.has b w) fit in
      tr.left k
      (not_true _ (λ e. ne (one_holder b.store.holds q t.p (data_node k) (t.has b w).rows.free ((t.has b w).pending q k e) h)))
      (not_true _ (λ e. ne (one_holder b.store.holds q t.p (data_node k) (t.has b w).rows.free (owned_mark t.classes t.Facts b q op tag fit k e) h)))

  -- and so the view's
  pub view_left : (b : Both) (e : Event) (k : Key) → t.Inv b → IsFit t.classes t.Facts b e.pid e.op e.tag → HoldsRow b.store.holds t.p k → e.pid.0 ≢ t.p.0 → get (view (step_by b e).objects t.p.0) k ≡ get (view b.objects t.p.0) k
  view_left b e k w fit h ne =
      ap (λ (d : Desk). get (apply_all d.lists (step_by b e).objects.world) k) (desk_other b.objects e.pid.0 e.op (reply b.store e.pid e.op) e.tag t.p.0 (λ is. ne (sym is)))
      ∙ all_alike (desk_at b.objects t.p.0).lists b.objects.world (step_by b e).objects.world k (world_left b e.pid e.op e.tag k w fit h ne)

  same_lists : (op : Op) (r : Reply) (cs : List Change) → IsWithinLevel op → lists_after op r Inside cs ≡ cs
  same_lists Begin r cs i = absurd i
  same_lists Commit r cs i = absurd i
  same_lists RollbackOne r cs i = absurd i
  same_lists RollbackAll r cs i = absurd i
  same_lists End r cs i = absurd i
  same_lists _ r cs i = refl

  same_world : (op : Op) (r : Reply) (cs : List Change) (w : World) → IsWithinLevel op → world_after op r Inside cs w ≡ w
  same_world Commit r cs w i = absurd i
  same_world _ r cs w i = refl

  -- an operation within a save leaves the process's view
  pub view_kept : (b : Both) (op : Op) → IsWithinLevel op → view (next b t.p op Inside).objects t.p.0 ≡ view b.objects t.p.0
  unfolding desks_after desk_after
  view_kept b op i =
      ap (λ (d : Desk). apply_all d.lists (world_after op (reply b.store t.p op) Inside (desk_at b.objects t.p.0).lists b.objects.world)) (desk_own b.objects t.p.0 op (reply b.store t.p op) Inside)
      ∙ ap (λ cs. apply_all cs (world_after op (reply b.store t.p op) Inside (desk_at b.objects t.p.0).lists b.objects.world)) (same_lists op (reply b.store t.p op) (desk_at b.objects t.p.0).lists i)
      ∙ ap (apply_all (desk_at b.objects t.p.0).lists) (same_world op (reply b.store t.p op) (desk_at b.objects t.p.0).lists b.objects.world i)

  pub saving_top : (n : Node) (k : Key) (ops : Within) (ls : Levels) (cs : List Change) (v : Option Value) (w : World) → Stands t.classes n k (Some ops) ls cs v w → v ≡ written ops.asked n (shown t.classes k n (get (apply_all cs w) k))
  saving_top n k ops [] cs v w r = absurd r
  saving_top n k ops (l ∷ ls) [] v w r = absurd r
  saving_top n k ops (l ∷ ls) (c ∷ cs) v w r = r.0

  module _ where
    -- within a save the process reads its own writes over its view
    pub reads : (b : Both) (es : List Op) (n : Node) (k : Key) → owner t.classes n ≡ Some k → In t b es → HoldsRow b.store.holds t.p k → get b.store.globals n ≡ written es n (shown t.classes k n (get (view b.objects t.p.0) k))
    reads b es n k is i h =
        let free = free_from t.classes b.store b.objects (t.has b i.whole) t.p.0 n k (alone_with t.classes b.store b.objects (t.has b i.whole) t.p n k is h) in
        let r = subst (λ m. Stands t.classes n k m (levels_at b.store t.p.0) (desk_at b.objects t.p.0).lists (get b.store.globals n) b.objects.world) i.is ((t.has b i.whole).stands t.p n k is free) in
        saving_top n k i.now (levels_at b.store t.p.0) (desk_at b.objects t.p.0).lists (get b.store.globals n) b.objects.world r
        ∙ i.same n (shown t.classes k n (get (view b.objects t.p.0) k))

    -- the row is held, and the view has this record
    abbrev pub Sees : Key → Option Record → Both → Type 0
    Sees k o b = HoldsRow b.store.holds t.p k × (get (view b.objects t.p.0) k ≡ o)

    pub sees_fact : (k : Key) (o : Option Record) → IsFact t (Sees k o)
    sees_fact k o = record {
      others = λ b e ne w fit h. ((holds_fact t (data_node k)).others b e ne w fit h.0, view_left b e k w fit h.0 ne ∙ h.1);
      own = λ b op w live may h. ((holds_fact t (data_node k)).own b op w live may h.0, ap (λ v. get v k) (view_kept b op may.1) ∙ h.1);
    }
