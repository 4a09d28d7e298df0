-- The rows of all objects are locked, and then what stands under each key is looked at.
use Rattle.std.proofs.Common.{◌≡◌, inr, ℕ, Bool, true, false, cond, nat_lt, List, [], ◌∷◌, Option, Some, None, refl, sym, subst}
use Rattle.std.specs.FinMap.{get}
use Rattle.obj_kinds.specs.declared.op.Op.{Op}
use Rattle.obj_kinds.specs.declared.op.Op.TheVariants.{Get}
use Rattle.obj_kinds.specs.declared.op.Mode.TheVariants.{Exclusive}
use Rattle.obj_kinds.specs.declared.op.Reply.{Reply}
use Rattle.obj_kinds.specs.declared.op.Reply.TheVariants.{Found}
use Rattle.obj_kinds.specs.declared.cause.Cause.TheVariants.{Damaged}
use Rattle.obj_kinds.specs.Texts.{same_text}
use Rattle.obj_kinds.proofs.TextLaws.{same_text-is}
use Rattle.schema_kinds.specs.declared.key.Key.{Key}
use Rattle.schema_kinds.specs.declared.record.Record.{Record}
use Rattle.record_layout.specs.Rows.{data_node}
use Rattle.storage_map.specs.SoundWorlds.{IsSoundAt}
use Rattle.store_core.specs.Machine.{reply}
use Rattle.store_calls.specs.Calls.{Give, Inside, Got, Lost, then, each}
use Rattle.object_calls.specs.Asking.{when}
use Rattle.object_calls.specs.Deletes.{lock_end}
use Rattle.object_calls.specs.Extents.{refuses_none}
use Rattle.object_calls.specs.Reading.{read}
use Rattle.object_calls.specs.Saves.{Item, Work, on_new, on_old, lock_row, look_by, look}
use Rattle.object_runs.specs.ObjectMachine.{view}
use Rattle.object_runs.specs.Causes.{Each}
use Rattle.object_runs.specs.Runs.{Both}
use Rattle.object_runs.specs.Invariant.{HoldsRow}
use Rattle.run_rules.specs.Steps.{next}
use Rattle.sound_runs.specs.Closing.{IsDrawn}
use Rattle.call_rules.specs.Settings.{Setting}
use Rattle.call_rules.specs.Schemas.{IsStorableSchema}
use Rattle.call_rules.proofs.Rules.{In, IsFact, Does, Pairs, HoldsNode, holds_fact, true_fact, both_facts, does_give, does_lose, does_ask, does_then, does_post, does_weaken, does_with, does_each, does_lock}
use Rattle.call_rules.proofs.Seen.{Sees, sees_fact}
use Rattle.call_rules.proofs.Readings.{does_read}
use Rattle.saving_rules.proofs.Owns.{WasSound}
use Rattle.saving_rules.proofs.Works.{IsWork, items_in}
use Rattle.saving_rules.proofs.Facts.{IsSteadySetting, three_facts, drawn_fact}
use Rattle.good_saves.proofs.Draws.{IsBorn}

module _ (t : Setting) (schema : IsStorableSchema t.classes) (steady : IsSteadySetting t) (is_live' : Key → Bool) (tries most : ℕ) where
  -- ---- rows

  pub does_rows : (i : Item) → nat_lt 0 i.level ≡ true → (es : List Op) → Does t es (λ b. Unit {0}) (lock_row t.classes tries most i) (λ u. HoldsNode t (data_node i.key)) []
  does_rows i high es = subst (λ c. Does t es (λ b. Unit {0}) (when c (lock_end t.classes tries most Exclusive (data_node i.key))) (λ u. HoldsNode t (data_node i.key)) []) (sym high) (does_lock t tries (data_node i.key) es)

  -- ---- what stood there

  -- of the item's class, where there is something, and else the key was drawn
  abbrev pub KnownBy : Item → Option Record → Both → Type 0
  KnownBy i None b = IsDrawn b.objects t.p.0 i.key
  KnownBy i (Some r) b = r.class ≡ i.now.class

  pub known_by_fact : (i : Item) (o : Option Record) → IsFact t (KnownBy i o)
  known_by_fact i None = drawn_fact t steady i.key
  known_by_fact i (Some r) = true_fact t (r.class ≡ i.now.class)

  -- the work of an item, by what is seen under its key
  abbrev pub IsSeen : Item → Work → Both → Type 0
  IsSeen i w b = (w.item ≡ i) × Sees t i.key w.old b × KnownBy i w.old b

  pub seen_fact : (i : Item) (w : Work) → IsFact t (IsSeen i w)
  seen_fact i w = three_facts t (λ b. w.item ≡ i) (Sees t i.key w.old) (KnownBy i w.old) (true_fact t (w.item ≡ i)) (sees_fact t i.key w.old) (known_by_fact i w.old)

  abbrev pub IsLocked : Item → Both → Type 0
  IsLocked i b = HoldsRow b.store.holds t.p i.key × IsBorn t steady is_live' i b

  pub born_fact : (i : Item) → IsFact t (IsBorn t steady is_live' i)
  born_fact i = record {
    others = λ b e ne w fit h is. (drawn_fact t steady i.key).others b e ne w fit (h is);
    own = λ b op w live may h is. (drawn_fact t steady i.key).own b op w live may (h is);
  }

  pub locked_fact : (i : Item) → IsFact t (IsLocked i)
  locked_fact i = both_facts t (λ b. HoldsRow b.store.holds t.p i.key) (IsBorn t steady is_live' i) (holds_fact t (data_node i.key)) (born_fact i)

  got_new : (i : Item) (r : Reply) (w : Work) → on_new i r ≡ Got w → record { item = i; old = None } ≡ w
  got_new i (Found v) w e = absurd (cc e)
  got_new i _ w e = cc e

  -- a drawn key is in no view
  unseen : (b : Both) (key : Key) → t.Inv b → IsDrawn b.objects t.p.0 key → get (view b.objects t.p.0) key ≡ None
  unseen b key w d = ((steady.steady b w).backed.drawn t.p.0 key d).nowhere (view b.objects t.p.0) (Rattle.object_runs.specs.Invariant.Pending t.p.0 (Rattle.object_runs.specs.ObjectMachine.desk_at b.objects t.p.0).lists ([], refl) refl)

  look_new : (i : Item) → i.is_new ≡ true → Does t [] (IsLocked i) (look_by t.classes tries most i true) (λ w b. IsSeen i w b) []
  look_new i new = does_ask t [] (IsLocked i) (Get (data_node i.key)) (on_new i) (λ w b. IsSeen i w b) [] (locked_fact i) tt (λ n x. refl) (λ b h. tt)
      (λ b w j h live e.
      (let f = (locked_fact i).own b (Get (data_node i.key)) j.whole live ((j.now, j.is), tt, tt) h in
      let whole = t.keeps b t.p (Get (data_node i.key)) Inside j.whole (live, inr ((j.now, j.is), tt, tt)) in
      let b' = next b t.p (Get (data_node i.key)) Inside in
      subst (λ x. IsSeen i x b') (got_new i (reply b.store t.p (Get (data_node i.key))) w e) (refl, (f.0, unseen b' i.key whole (f.1 new)), f.1 new)))

  got_old : (i : Item) (o : Option Record) (es : List Op) → Does t es (λ b. Sees t i.key o b) (Give (on_old i o)) (λ w b. IsSeen i w b) []
  got_old i None es = does_lose t es (λ b. Sees t i.key None b) (Rattle.obj_kinds.specs.declared.cause.Cause.TheVariants.Gone i.key.id) (λ w b. IsSeen i w b) []
  got_old i (Some r) es = by (same_text r.class.0 i.now.class.0) refl
    where
      by : (c : Bool) → same_text r.class.0 i.now.class.0 ≡ c → Does t es (λ b. Sees t i.key (Some r) b) (Give (cond c (Got (record { item = i; old = Some r })) (Lost (Damaged (data_node i.key))))) (λ w b. IsSeen i w b) []
      by true e = does_give t es (λ b. Sees t i.key (Some r) b) (record { item = i; old = Some r }) (λ w b. IsSeen i w b)
          (λ b h. (refl, h, (λ k. record { 0 = same_text-is r.class.0 i.now.class.0 e k })))
      by false e = does_lose t es (λ b. Sees t i.key (Some r) b) (Damaged (data_node i.key)) (λ w b. IsSeen i w b) []

  look_old : (i : Item) → IsSoundAt t.classes i.key i.now → Does t [] (IsLocked i) (look_by t.classes tries most i false) (λ w b. IsSeen i w b) []
  look_old i at = does_then t [] (IsLocked i) (read t.classes i.key Inside most refuses_none) (λ r. Give (on_old i r)) (λ o b. Sees t i.key o b) (λ w b. IsSeen i w b) []
      (does_weaken t [] (λ b. HoldsRow b.store.holds t.p i.key) (IsLocked i) (read t.classes i.key Inside most refuses_none) (λ o b. Sees t i.key o b) [] (λ b h. h.0) (does_read t schema i.key at.key_of most refuses_none))
      (λ o. got_old i o [])

  pub does_look : (i : Item) → IsSoundAt t.classes i.key i.now → Does t [] (IsLocked i) (look t.classes tries most i) (λ w b. IsSeen i w b) []
  unfolding look
  does_look i at = by i.is_new refl
    where
      by : (c : Bool) → i.is_new ≡ c → Does t [] (IsLocked i) (look_by t.classes tries most i c) (λ w b. IsSeen i w b) []
      by true e = look_new i e
      by false e = look_old i at

  pub does_looks : (items : List Item) → Each (λ (i : Item). IsSoundAt t.classes i.key i.now) items → Does t [] (λ b. Each (λ i. IsLocked i b) items) (each (look t.classes tries most) items) (λ ws b. Pairs t IsSeen b items ws) []
  does_looks [] at = does_give t [] (λ b. Unit {0}) [] (λ ws b. Pairs t IsSeen b [] ws) (λ b h. h)
  does_looks (i ∷ is) at =
      let Ps : Both → Type 0 = λ b. Each (λ i. IsLocked i b) is in
      let ps : IsFact t Ps = Rattle.call_rules.proofs.Rules.each_fact t IsLocked locked_fact is in
      does_then t [] (λ b. IsLocked i b × Ps b) (look t.classes tries most i) (λ y. then (each (look t.classes tries most) is) (λ ys. Give (Got (y ∷ ys)))) (λ y b. IsSeen i y b × Ps b) (λ ys b. Pairs t IsSeen b (i ∷ is) ys) []
      (does_with t [] (IsLocked i) Ps (look t.classes tries most i) (λ y b. IsSeen i y b) [] ps (does_look i at.0))
      (λ y. does_then t [] (λ b. IsSeen i y b × Ps b) (each (look t.classes tries most) is) (λ ys. Give (Got (y ∷ ys))) (λ ys b. Pairs t IsSeen b is ys × IsSeen i y b) (λ ys b. Pairs t IsSeen b (i ∷ is) ys) []
      (does_weaken t [] (λ b. Ps b × IsSeen i y b) (λ b. IsSeen i y b × Ps b) (each (look t.classes tries most) is) (λ ys b. Pairs t IsSeen b is ys × IsSeen i y b) [] (λ b h. (h.1, h.0))
      (does_with t [] Ps (IsSeen i y) (each (look t.classes tries most) is) (λ ys b. Pairs t IsSeen b is ys) [] (seen_fact i y) (does_looks is at.1)))
      (λ ys. does_give t [] (λ b. Pairs t IsSeen b is ys × IsSeen i y b) (y ∷ ys) (λ zs b. Pairs t IsSeen b (i ∷ is) zs) (λ b h. (h.1, h.0))))

  -- ---- what follows

  -- each work by itself
  abbrev pub IsKnown : Work → Both → Type 0
  IsKnown w b = Sees t w.item.key w.old b × KnownBy w.item w.old b

  pub known_fact : (w : Work) → IsFact t (IsKnown w)
  known_fact w = both_facts t (Sees t w.item.key w.old) (KnownBy w.item w.old) (sees_fact t w.item.key w.old) (known_by_fact w.item w.old)

  pub items_same : (items : List Item) (ws : List Work) (b : Both) → Pairs t IsSeen b items ws → items_in ws ≡ items
  items_same [] [] b h = refl
  items_same [] (w ∷ ws) b h = absurd h
  items_same (i ∷ is) [] b h = absurd h
  items_same (i ∷ is) (w ∷ ws) b h = λ k. h.0.0 k ∷ items_same is ws b h.1 k

  pub all_known : (items : List Item) (ws : List Work) (b : Both) → Pairs t IsSeen b items ws → Each (λ w. IsKnown w b) ws
  all_known [] [] b h = tt
  all_known [] (w ∷ ws) b h = absurd h
  all_known (i ∷ is) [] b h = absurd h
  all_known (i ∷ is) (w ∷ ws) b h = (subst (λ x. Sees t x.key w.old b × KnownBy x w.old b) (sym h.0.0) (h.0.1, h.0.2), all_known is ws b h.1)

  was_sound : (i : Item) (o : Option Record) (b : Both) → t.Inv b → Sees t i.key o b → KnownBy i o b → WasSound t.classes i.key i.now o
  was_sound i None b w s k = tt
  was_sound i (Some r) b w s k = (k, (t.sound b t.p w).records i.key r s.1)

  pub are_works : (ws : List Work) (b : Both) → t.Inv b → Each (λ (i : Item). IsSoundAt t.classes i.key i.now) (items_in ws) → Each (λ w. IsKnown w b) ws → Each (IsWork t.classes) ws
  are_works [] b w at h = tt
  are_works (x ∷ xs) b w at h = (record { at = at.0; was = was_sound x.item x.old b w h.0.0 h.0.1 }, are_works xs b w at.1 h.1)
