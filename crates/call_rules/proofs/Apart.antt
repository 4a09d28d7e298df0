-- What stands at entries below a node that a saving or deleting process holds to the end.
use Rattle.std.proofs.Common.{◌≡◌, ◌≢◌, ℕ, ◌≤◌, Bool, true, false, not, ◌&&◌, ◌||◌, ◌==◌, cond, ◌⊎◌, inl, inr, ⊎_elim, List, [], ◌∷◌, ◌++◌, Option, Some, None, is_some, refl, sym, ap, ◌∙◌, subst, arith}
use Rattle.std.proofs.lemmas.Bool.Decides.{nat_tests}
use Rattle.std.specs.FinMap.{get}
use Rattle.obj_kinds.specs.declared.node.Node.{Node}
use Rattle.obj_kinds.specs.declared.value.Value.{Value}
use Rattle.obj_kinds.specs.declared.op.Pid.{Pid}
use Rattle.obj_kinds.specs.declared.op.Op.{Op}
use Rattle.obj_kinds.specs.Order.{covers}
use Rattle.schema_kinds.specs.declared.key.Key.{Key}
use Rattle.schema_kinds.specs.declared.record.Record.{Record}
use Rattle.record_layout.specs.Rows.{data_node}
use Rattle.storage_map.specs.Worlds.{owner}
use Rattle.store_core.specs.Machine.{State, is_live, levels_at, reply}
use Rattle.store_core.specs.Guard.{GuardedBy, HoldsGuard, HoldsToEnd, names}
use Rattle.store_core.proofs.GuardHolds.{one_holder}
use Rattle.store_core.proofs.FrameLaws.{others_stay}
use Rattle.store_calls.specs.Calls.{Tag, Inside}
use Rattle.object_runs.specs.ObjectMachine.{Desk, desk_at, view, apply_all, desks_after}
use Rattle.object_runs.specs.Runs.{Both}
use Rattle.object_runs.specs.Invariant.{HoldsRow, key_guard, some_changes, changes, written, shown, Stands, IsAlone}
use Rattle.run_rules.specs.Steps.{IsFit, next, Event, step_by}
use Rattle.run_rules.proofs.Changes.{all_unchanged, all_alike, or_false}
use Rattle.run_rules.proofs.Stacks.{to_plain}
use Rattle.run_rules.proofs.Guards.{only_below}
use Rattle.run_rules.proofs.Whole.{not_true, desk_other, told_by, owned_mark, turn_fit, fit_respects}
use Rattle.run_rules.proofs.Step.{seek, dead, free_from, alone_with, value_stays}
use Rattle.call_rules.specs.Settings.{Setting}
use Rattle.call_rules.proofs.Rules.{In, IsFact, holds_fact}
use Rattle.call_rules.proofs.Seen.{saving_top, view_kept, world_left}

split : (q p : ℕ) (h : Bool) → (not (q == p) && h) ≡ true → (q ≢ p) × (h ≡ true)
split q p h e = grind (arith, nat_tests)

no_split : (q p : ℕ) (h : Bool) → (not (q == p) && h) ≡ false → q ≢ p → h ≡ false
no_split q p h e ne = grind (arith, nat_tests)

-- an entry of the key whose guard stands at or below the node x
pub record IsBelow (t : Setting) (x n : Node) (j : Key) : Type 0 where
  pub owned : owner t.classes n ≡ Some j
  pub guard : Node
  pub guarded : key_guard t.classes n ≡ GuardedBy guard
  pub covered : covers x guard ≡ true

module _ (t : Setting) (x n : Node) (j : Key) (below : IsBelow t x n j) where
  -- no other process has it in a level
  pub others_unnamed : (b : Both) → t.Inv b → HoldsToEnd b.store.holds t.p x → (q : ℕ) → q ≢ t.p.0 → names (levels_at b.store q) n ≡ false
  others_unnamed b w h q ne = not_true _ (λ e.
      let s = t.has b w in
      ne (only_below b.store.holds t.p (record { 0 = q }) x below.guard s.rows.free h (subst (HoldsGuard b.store.holds (record { 0 = q })) below.guarded (s.keys.held (record { 0 = q }) n e)) below.covered))

  dead_lists : (b : Both) (q : ℕ) → t.Inv b → is_live b.store (record { 0 = q }) ≡ false → some_changes (desk_at b.objects q).lists j ≡ false
  unfolding Rattle.run_rules.proofs.Step.has
  dead_lists b q w e = right (names (levels_at b.store q) n) (some_changes (desk_at b.objects q).lists j) (dead t.classes b.store b.objects (t.has b w) (record { 0 = q }) n j e)
    where
      right : (a c : Bool) → (a || c) ≡ false → c ≡ false
      right a c e = grind arith

  nobody : (b : Both) → t.Inv b → ((q : ℕ) → q ≤ b.store.pids → (not (q == t.p.0) && some_changes (desk_at b.objects q).lists j) ≡ false) → (q : ℕ) → q ≢ t.p.0 → (c : Bool) → is_live b.store (record { 0 = q }) ≡ c → some_changes (desk_at b.objects q).lists j ≡ false
  nobody b w g q ne true e = no_split q t.p.0 _ (g q ((t.has b w).rows.numbered (record { 0 = q }) e).1) ne
  nobody b w g q ne false e = dead_lists b q w e

  by_itself : (b : Both) (es : List Op) → In t b es → HoldsToEnd b.store.holds t.p x → ((q : ℕ) → q ≢ t.p.0 → some_changes (desk_at b.objects q).lists j ≡ false)
      → get b.store.globals n ≡ written es n (shown t.classes j n (get (view b.objects t.p.0) j))
  by_itself b es i h g =
      let r = (t.has b i.whole).stands t.p n j below.owned (λ q ne. (others_unnamed b i.whole h q ne, g q ne)) in
      let r' = subst (λ m. Stands t.classes n j m (levels_at b.store t.p.0) (desk_at b.objects t.p.0).lists (get b.store.globals n) b.objects.world) i.is r in
      saving_top t n j i.now (levels_at b.store t.p.0) (desk_at b.objects t.p.0).lists (get b.store.globals n) b.objects.world r' ∙ i.same n (shown t.classes j n (get (view b.objects t.p.0) j))

  -- what a process that holds the row but doesn't have the node sees is the world's
  plain_of : (b : Both) (q : Pid) → t.Inv b → HoldsRow b.store.holds q j → names (levels_at b.store q.0) n ≡ false → get b.store.globals n ≡ shown t.classes j n (get b.objects.world j)
  plain_of b q w row e =
      let s = t.has b w in
      let free = free_from t.classes b.store b.objects s q.0 n j (alone_with t.classes b.store b.objects s q n j below.owned row) in
      to_plain t.classes n j (desk_at b.objects q.0).within (levels_at b.store q.0) (desk_at b.objects q.0).lists (get b.store.globals n) b.objects.world e (s.stands q n j below.owned free)

  by_other : (b : Both) (es : List Op) → In t b es → HoldsToEnd b.store.holds t.p x → (q : ℕ) → q ≢ t.p.0 → some_changes (desk_at b.objects q).lists j ≡ true
      → get b.store.globals n ≡ written es n (shown t.classes j n (get (view b.objects t.p.0) j))
  by_other b es i h q ne e =
      let s = t.has b i.whole in
      let qp : Pid = record { 0 = q } in
      let row = s.pending qp j e in
      let now = plain_of b qp i.whole row (others_unnamed b i.whole h q ne) in
      let away : HoldsRow b.store.holds t.p j → ⊥ = λ k. ne (one_holder b.store.holds qp t.p (data_node j) s.rows.free row k) in
      let mine : some_changes (desk_at b.objects t.p.0).lists j ≡ false = not_true _ (λ d. away (s.pending t.p j d)) in
      let same : get (view b.objects t.p.0) j ≡ get b.objects.world j = all_unchanged (desk_at b.objects t.p.0).lists b.objects.world j mine in
      now ∙ sym (ap (shown t.classes j n) same)
      ∙ sym (s.foreign t.p n j i.now below.owned i.is away (shown t.classes j n (get (view b.objects t.p.0) j)))
      ∙ i.same n (shown t.classes j n (get (view b.objects t.p.0) j))

  -- the process reads its own writes over its view there
  pub reads_apart : (b : Both) (es : List Op) → In t b es → HoldsToEnd b.store.holds t.p x → get b.store.globals n ≡ written es n (shown t.classes j n (get (view b.objects t.p.0) j))
  reads_apart b es i h = ⊎_elim
      (λ g. let r = split g.0 t.p.0 (some_changes (desk_at b.objects g.0).lists j) g.2 in by_other b es i h g.0 r.0 r.1)
      (λ g. by_itself b es i h (λ q ne. nobody b i.whole g q ne (is_live b.store (record { 0 = q })) refl))
      (seek t.classes (λ q. not (q == t.p.0) && some_changes (desk_at b.objects q).lists j) b.store.pids)

  -- ---- an entry of another process leaves what stands there in the view

  module _ (b : Both) (e : Event) (w : t.Inv b) (fit : IsFit t.classes t.Facts b e.pid e.op e.tag) (h : HoldsToEnd b.store.holds t.p x) (ne : e.pid.0 ≢ t.p.0) where
    after_inv : t.Inv (step_by b e)
    after_inv = t.keeps b e.pid e.op e.tag w fit

    after_held : HoldsToEnd (step_by b e).store.holds t.p x
    after_held = (holds_fact t x).others b e ne w fit h

    held_by : HoldsRow b.store.holds e.pid j → shown t.classes j n (get (step_by b e).objects.world j) ≡ shown t.classes j n (get b.objects.world j)
    held_by row =
        let s = t.has b w in
        let s' = t.has (step_by b e) after_inv in
        let gone = others_unnamed b w h e.pid.0 ne in
        let gone' = others_unnamed (step_by b e) after_inv after_held e.pid.0 ne in
        let was = free_from t.classes b.store b.objects s e.pid.0 n j (alone_with t.classes b.store b.objects s e.pid n j below.owned row) in
        let is : IsAlone (step_by b e).store (step_by b e).objects e.pid.0 n j = λ r rq. (
          ap (λ ls. names ls n) (others_stay b.store e.pid e.op r rq) ∙ (was r rq).0,
          ap (λ (d : Desk). some_changes d.lists j) (desk_other b.objects e.pid.0 e.op (reply b.store e.pid e.op) e.tag r rq) ∙ (was r rq).1,
        ) in
        let now = to_plain t.classes n j (desk_at (step_by b e).objects e.pid.0).within (levels_at (step_by b e).store e.pid.0) (desk_at (step_by b e).objects e.pid.0).lists (get (step_by b e).store.globals n) (step_by b e).objects.world gone' (s'.stands e.pid n j below.owned is) in
        let stays = value_stays t.classes b.store e.pid e.op n j below.owned (fit_respects t.classes t.Facts b e.pid e.op e.tag s fit) gone gone' in
        sym now ∙ stays ∙ plain_of b e.pid w row gone

    world_apart : shown t.classes j n (get (step_by b e).objects.world j) ≡ shown t.classes j n (get b.objects.world j)
    unfolding desks_after reply
    world_apart = by (some_changes (desk_at b.objects e.pid.0).lists j) refl (changes (told_by t.classes t.Facts e.op e.tag) j) refl
      where
        by : (c : Bool) → some_changes (desk_at b.objects e.pid.0).lists j ≡ c → (d : Bool) → changes (told_by t.classes t.Facts e.op e.tag) j ≡ d → shown t.classes j n (get (step_by b e).objects.world j) ≡ shown t.classes j n (get b.objects.world j)
        by true f d g = held_by ((t.has b w).pending e.pid j f)
        by false f true g = held_by (owned_mark t.classes t.Facts b e.pid e.op e.tag fit j g)
        by false f false g = ap (shown t.classes j n) ((turn_fit t.classes t.Facts b e.pid e.op e.tag (t.has b w) fit).left j f g)

    pub view_apart : shown t.classes j n (get (view (step_by b e).objects t.p.0) j) ≡ shown t.classes j n (get (view b.objects t.p.0) j)
    view_apart =
        ap (λ (d : Desk). shown t.classes j n (get (apply_all d.lists (step_by b e).objects.world) j)) (desk_other b.objects e.pid.0 e.op (reply b.store e.pid e.op) e.tag t.p.0 (λ is. ne (sym is)))
        ∙ by (some_changes (desk_at b.objects t.p.0).lists j) refl
      where
        by : (c : Bool) → some_changes (desk_at b.objects t.p.0).lists j ≡ c → shown t.classes j n (get (apply_all (desk_at b.objects t.p.0).lists (step_by b e).objects.world) j) ≡ shown t.classes j n (get (apply_all (desk_at b.objects t.p.0).lists b.objects.world) j)
        by true g = ap (shown t.classes j n) (all_alike (desk_at b.objects t.p.0).lists b.objects.world (step_by b e).objects.world j (world_left t b e.pid e.op e.tag j w fit ((t.has b w).pending t.p j g) ne))
        by false g =
            ap (shown t.classes j n) (all_unchanged (desk_at b.objects t.p.0).lists (step_by b e).objects.world j g)
            ∙ world_apart
            ∙ sym (ap (shown t.classes j n) (all_unchanged (desk_at b.objects t.p.0).lists b.objects.world j g))

-- the node x is held, and with these writes nothing stands in the view at the entries that are told
pub record IsBare (t : Setting) (Tells : Node → Key → Type 0) (es : List Op) (x : Node) (b : Both) : Type 0 where
  pub held : HoldsToEnd b.store.holds t.p x
  pub none : (n : Node) (j : Key) → IsBelow t x n j → Tells n j → written es n (shown t.classes j n (get (view b.objects t.p.0) j)) ≡ None

pub bare_fact : (t : Setting) (Tells : Node → Key → Type 0) (es : List Op) (x : Node) → IsFact t (IsBare t Tells es x)
bare_fact t Tells es x = record {
  others = λ b e ne w fit h. record { held = (holds_fact t x).others b e ne w fit h.held; none = λ n j below is. ap (written es n) (view_apart t x n j below b e w fit h.held ne) ∙ h.none n j below is };
  own = λ b op w live may h. record { held = (holds_fact t x).own b op w live may h.held; none = λ n j below is. ap (λ v. written es n (shown t.classes j n (get v j))) (view_kept t b op may.1) ∙ h.none n j below is };
}
