-- Keys, entries and targets are locked, and then the targets that the save doesn't put are tested.
use Rattle.std.proofs.Common.{◌≡◌, inl, inr, ℕ, ◌+◌, Bool, true, false, cond, ◌||◌, nat_lt, List, [], ◌∷◌, Option, Some, None, is_some, refl, sym, ap, subst, ◌∙◌}
use Rattle.std.specs.List.{list_any}
use Rattle.std.specs.FinMap.{get, contains_key}
use Rattle.obj_kinds.specs.declared.name.ClassName.{ClassName}
use Rattle.obj_kinds.specs.declared.node.Node.{Node}
use Rattle.obj_kinds.specs.declared.value.Value.{Value}
use Rattle.obj_kinds.specs.declared.op.Op.{Op}
use Rattle.obj_kinds.specs.declared.op.Op.TheVariants.{Defined}
use Rattle.obj_kinds.specs.declared.op.Reply.TheVariants.{State as Told}
use Rattle.schema_kinds.specs.declared.key.Key.{Key}
use Rattle.schema_kinds.specs.declared.record.Record.{Record}
use Rattle.schema_kinds.specs.declared.record.Part.TheVariants.{Put}
use Rattle.schema_kinds.specs.Classes.{IsBelow}
use Rattle.global_tree.specs.Contents.{Globals}
use Rattle.global_tree.specs.Below.{next_below, state_at}
use Rattle.record_layout.specs.Rows.{data_node}
use Rattle.storage_map.specs.Keys.{Side, sides_of, target_key}
use Rattle.storage_map.specs.Worlds.{IsKeyOf}
use Rattle.store_core.specs.Machine.{State, answer, reply}
use Rattle.store_calls.specs.Calls.{Tried, Got, then, all}
use Rattle.object_calls.specs.Asking.{Does as Done, when}
use Rattle.object_calls.specs.Deletes.{lock_if}
use Rattle.object_calls.specs.Keys.{MovedKey, MovedSide, moved_sides, same_target, side_node}
use Rattle.object_calls.specs.Saves.{Item, Work, change_of, is_key, on_target, keys_moved, sides_moved, is_put, if_other, other_target, lock_key, lock_target, lock_side, lock_keys, test_target, test_targets}
use Rattle.object_runs.specs.ObjectMachine.{desk_at, view}
use Rattle.object_runs.specs.Causes.{Each, Has}
use Rattle.object_runs.specs.Runs.{Both}
use Rattle.sound_runs.specs.Closing.{IsMetTarget}
use Rattle.sound_runs.specs.Backed.{Knows}
use Rattle.sound_runs.specs.Reads.{under_writes}
use Rattle.sound_runs.proofs.RowTells.{rows_tell_objects}
use Rattle.call_rules.specs.Settings.{Setting}
use Rattle.call_rules.specs.Schemas.{IsStorableSchema}
use Rattle.call_rules.proofs.Rules.{In, IsFact, Does, true_fact, both_facts, each_fact, does_give, does_ask, does_then, does_post, does_weaken, does_with}
use Rattle.call_rules.proofs.Seen.{view_kept}
use Rattle.good_deletes.proofs.Locks.{HoldsIf, if_fact, does_lock_if, facts_of}
use Rattle.saving_rules.specs.Saving.{FitsTarget}
use Rattle.saving_rules.proofs.Lists.{each_to, each_has}
use Rattle.saving_rules.proofs.Works.{same_key}
use Rattle.saving_rules.proofs.Facts.{IsSteadySetting, three_facts, SharedAt, shared_some, shared_fact, knows_fact, met_fact, does_share}

-- a moved side is one of the new record
pub moved_has : (olds news : List Side) (m : MovedSide) → Has m (moved_sides olds news) → (u : Side) × Has u news × (u.class ≡ m.class) × (u.target ≡ m.new)
moved_has olds [] m h = absurd h
moved_has [] (s ∷ ss) m h = by (same_target None s.target) h (moved_has [] ss m)
  where
    Found : Type 0
    Found = (u : Side) × Has u (s ∷ ss) × (u.class ≡ m.class) × (u.target ≡ m.new)

    by : (b : Bool) → Has m (cond b (moved_sides [] ss) (record { name = s.name; class = s.class; old = None; new = s.target } ∷ moved_sides [] ss)) → (Has m (moved_sides [] ss) → (u : Side) × Has u ss × (u.class ≡ m.class) × (u.target ≡ m.new)) → Found
    by true h more = let r = more h in (r.0, inr r.1, r.2, r.3)
    by false (inl e) more = (s, inl refl, ap (λ (x : MovedSide). x.class) (sym e), ap (λ (x : MovedSide). x.new) (sym e))
    by false (inr h) more = let r = more h in (r.0, inr r.1, r.2, r.3)
moved_has (o ∷ os) (s ∷ ss) m h = by (same_target o.target s.target) h (moved_has os ss m)
  where
    Found : Type 0
    Found = (u : Side) × Has u (s ∷ ss) × (u.class ≡ m.class) × (u.target ≡ m.new)

    by : (b : Bool) → Has m (cond b (moved_sides os ss) (record { name = s.name; class = s.class; old = o.target; new = s.target } ∷ moved_sides os ss)) → (Has m (moved_sides os ss) → (u : Side) × Has u ss × (u.class ≡ m.class) × (u.target ≡ m.new)) → Found
    by true h more = let r = more h in (r.0, inr r.1, r.2, r.3)
    by false (inl e) more = (s, inl refl, ap (λ (x : MovedSide). x.class) (sym e), ap (λ (x : MovedSide). x.new) (sym e))
    by false (inr h) more = let r = more h in (r.0, inr r.1, r.2, r.3)

some_record : (o : Option Record) → is_some o ≡ true → (r : Record) × (o ≡ Some r)
some_record None e = absurd (cc e)
some_record (Some r) e = (r, refl)

-- one of the items has the key
any_item : (key : Key) (items : List Item) → list_any (λ (i : Item). is_key key i.key) items ≡ true → (i : Item) × Has i items × (i.key ≡ key)
any_item key [] e = absurd (cc e)
any_item key (i ∷ is) e = by (is_key key i.key) refl e (any_item key is)
  where
    by : (b : Bool) → is_key key i.key ≡ b → (b || list_any (λ (i : Item). is_key key i.key) is) ≡ true → (list_any (λ (i : Item). is_key key i.key) is ≡ true → (j : Item) × Has j is × (j.key ≡ key)) → (j : Item) × Has j (i ∷ is) × (j.key ≡ key)
    by true f g more = (i, inl refl, sym (same_key key i.key f))
    by false f g more = let r = more g in (r.0, inr r.1, r.2)

item_puts : (items : List Item) (i : Item) → Has i items → Has (Put i.key i.now) (change_of items)
item_puts [] i h = absurd h
item_puts (j ∷ is) i (inl e) = inl (ap (λ (x : Item). Put x.key x.now) e)
item_puts (j ∷ is) i (inr h) = inr (item_puts is i h)

unit_got : (y : Unit {0}) (x : Tried (Unit {0})) → x ≡ Got y → x ≡ Got tt
unit_got tt x e = e

module _ (t : Setting) (schema : IsStorableSchema t.classes) (steady : IsSteadySetting t) (tries most : ℕ) where
  -- one after the other, each with its fact
  in_turn : (es : List Op) (c d : Done) (P Q : Both → Type 0) → IsFact t P → Does t es (λ b. Unit {0}) c (λ u. P) [] → Does t es (λ b. Unit {0}) d (λ u. Q) [] → Does t es (λ b. Unit {0}) (then c (λ u. d)) (λ u b. P b × Q b) []
  in_turn es c d P Q fact first second =
      does_then t es (λ b. Unit {0}) c (λ u. d) (λ u. P) (λ u b. P b × Q b) [] first
      (λ u. does_post t es P d (λ u b. Q b × P b) (λ u b. P b × Q b) [] (λ u b h. (h.1, h.0))
      (does_weaken t es (λ b. Unit {0} × P b) P d (λ u b. Q b × P b) [] (λ b h. (tt, h)) (does_with t es (λ b. Unit {0}) P d (λ u. Q) [] fact second)))

  -- ---- locks

  abbrev pub KeyLocked : MovedKey → Both → Type 0
  KeyLocked k b = HoldsIf t k.old b × HoldsIf t k.new b

  key_fact : (k : MovedKey) → IsFact t (KeyLocked k)
  key_fact k = both_facts t (HoldsIf t k.old) (HoldsIf t k.new) (if_fact t k.old) (if_fact t k.new)

  does_lock_key : (es : List Op) (k : MovedKey) → Does t es (λ b. Unit {0}) (lock_key t.classes tries most k) (λ u. KeyLocked k) []
  does_lock_key es k = in_turn es (lock_if t.classes tries most k.old) (lock_if t.classes tries most k.new) (HoldsIf t k.old) (HoldsIf t k.new) (if_fact t k.old) (does_lock_if t t.classes tries most es k.old) (does_lock_if t t.classes tries most es k.new)

  abbrev pub TargetHeld : Option Key → Both → Type 0
  TargetHeld None b = Unit {0}
  TargetHeld (Some key) b = SharedAt t steady (data_node key) b

  held_target_fact : (o : Option Key) → IsFact t (TargetHeld o)
  held_target_fact None = true_fact t (Unit {0})
  held_target_fact (Some key) = shared_fact t steady (data_node key)

  does_lock_target : (es : List Op) (o : Option Key) → Does t es (λ b. Unit {0}) (lock_target t.classes tries most o) (λ u. TargetHeld o) []
  does_lock_target es None = does_give t es (λ b. Unit {0}) (tt {0}) (λ u b. Unit {0}) (λ b h. tt)
  does_lock_target es (Some key) = does_share t steady tries (data_node key) es

  module _ (items : List Item) where
    abbrev pub EntryLocked : Key → MovedSide → Both → Type 0
    EntryLocked key s b = HoldsIf t (side_node key s.name s.old) b × HoldsIf t (side_node key s.name s.new) b

    abbrev pub TargetLocked : MovedSide → Both → Type 0
    TargetLocked s b = TargetHeld (other_target t.classes tries most items s.class s.new) b

    abbrev pub SideLocked : Key → MovedSide → Both → Type 0
    SideLocked key s b = HoldsIf t (side_node key s.name s.old) b × HoldsIf t (side_node key s.name s.new) b × TargetLocked s b

    side_fact : (key : Key) (s : MovedSide) → IsFact t (SideLocked key s)
    side_fact key s = three_facts t (HoldsIf t (side_node key s.name s.old)) (HoldsIf t (side_node key s.name s.new)) (TargetLocked s) (if_fact t (side_node key s.name s.old)) (if_fact t (side_node key s.name s.new)) (held_target_fact (other_target t.classes tries most items s.class s.new))

    does_lock_side : (es : List Op) (key : Key) (s : MovedSide) → Does t es (λ b. Unit {0}) (lock_side t.classes tries most items key s) (λ u. SideLocked key s) []
    does_lock_side es key s =
        does_post t es (λ b. Unit {0}) (lock_side t.classes tries most items key s) (λ u b. HoldsIf t (side_node key s.name s.old) b × (HoldsIf t (side_node key s.name s.new) b × TargetLocked s b)) (λ u. SideLocked key s) [] (λ u b h. (h.0, h.1.0, h.1.1))
        (in_turn es (lock_if t.classes tries most (side_node key s.name s.old)) (then (lock_if t.classes tries most (side_node key s.name s.new)) (λ u. lock_target t.classes tries most (other_target t.classes tries most items s.class s.new))) (HoldsIf t (side_node key s.name s.old)) (λ b. HoldsIf t (side_node key s.name s.new) b × TargetLocked s b)
        (if_fact t (side_node key s.name s.old)) (does_lock_if t t.classes tries most es (side_node key s.name s.old))
        (in_turn es (lock_if t.classes tries most (side_node key s.name s.new)) (lock_target t.classes tries most (other_target t.classes tries most items s.class s.new)) (HoldsIf t (side_node key s.name s.new)) (TargetLocked s)
        (if_fact t (side_node key s.name s.new)) (does_lock_if t t.classes tries most es (side_node key s.name s.new)) (does_lock_target es (other_target t.classes tries most items s.class s.new))))

    abbrev pub AllLocked : Work → Both → Type 0
    AllLocked w b = Each (λ k. KeyLocked k b) (keys_moved t.classes tries most w) × Each (λ s. SideLocked w.item.key s b) (sides_moved t.classes tries most w)

    pub all_locked_fact : (w : Work) → IsFact t (AllLocked w)
    all_locked_fact w = both_facts t (λ b. Each (λ k. KeyLocked k b) (keys_moved t.classes tries most w)) (λ b. Each (λ s. SideLocked w.item.key s b) (sides_moved t.classes tries most w))
        (each_fact t KeyLocked key_fact (keys_moved t.classes tries most w)) (each_fact t (SideLocked w.item.key) (side_fact w.item.key) (sides_moved t.classes tries most w))

    pub does_lock_keys : (es : List Op) (w : Work) → nat_lt 0 w.item.level ≡ true → Does t es (λ b. Unit {0}) (lock_keys t.classes tries most items w) (λ u. AllLocked w) []
    unfolding lock_keys
    does_lock_keys es w high =
        let c : Done = then (all (lock_key t.classes tries most) (keys_moved t.classes tries most w)) (λ u. all (lock_side t.classes tries most items w.item.key) (sides_moved t.classes tries most w)) in
        subst (λ x. Does t es (λ b. Unit {0}) (when x c) (λ u. AllLocked w) []) (sym high)
        (in_turn es (all (lock_key t.classes tries most) (keys_moved t.classes tries most w)) (all (lock_side t.classes tries most items w.item.key) (sides_moved t.classes tries most w))
        (λ b. Each (λ k. KeyLocked k b) (keys_moved t.classes tries most w)) (λ b. Each (λ s. SideLocked w.item.key s b) (sides_moved t.classes tries most w)) (each_fact t KeyLocked key_fact (keys_moved t.classes tries most w))
        (facts_of t (lock_key t.classes tries most) KeyLocked key_fact es (does_lock_key es) (keys_moved t.classes tries most w))
        (facts_of t (lock_side t.classes tries most items w.item.key) (SideLocked w.item.key) (side_fact w.item.key) es (does_lock_side es w.item.key) (sides_moved t.classes tries most w)))

    -- ---- targets

    module _ (known : List (Key × ClassName)) (real : Each (λ (k : Key × ClassName). IsKeyOf t.classes k.0) known) where
      abbrev pub AllKnown : Both → Type 0
      AllKnown b = Each (λ (k : Key × ClassName). Knows t.classes b.store b.objects t.p.0 k.0 k.1) known

      pub all_known_fact : IsFact t AllKnown
      all_known_fact = each_fact t (λ (k : Key × ClassName) b. Knows t.classes b.store b.objects t.p.0 k.0 k.1) (λ k. knows_fact t steady k.0 k.1) known

      defined_reply : (s : State) (n : Node) → reply s t.p (Defined n) ≡ Told (state_at s.globals n)
      unfolding reply answer
      defined_reply s n = refl

      -- a row with a value
      stands : (g : Globals) (n : Node) (class : ClassName) (id : List ℕ) → on_target class id (Told (state_at g n)) ≡ Got (tt {0}) → contains_key g n ≡ true
      unfolding state_at
      stands g n class id e = by (contains_key g n) (is_some (next_below g n None)) e
        where
          by : (a c : Bool) → on_target class id (Told (cond a 1 0 + cond c 10 0)) ≡ Got (tt {0}) → a ≡ true
          by true c e = refl
          by false true e = absurd (cc e)
          by false false e = absurd (cc e)

      unwritten : (b : Both) (i : In t b []) (n : Node) (x : Option Value) → under_writes (desk_at b.objects t.p.0).within n x ≡ x
      unwritten b i n x = ap (λ w. under_writes w n x) i.is ∙ i.same n x

      does_test : (m : MovedSide) (x : Option (List ℕ)) → ((id : List ℕ) → x ≡ Some id → FitsTarget t.classes known items m.class (target_key t.classes m.class id))
          → Does t [] (λ b. TargetHeld (other_target t.classes tries most items m.class x) b × AllKnown b) (test_target t.classes tries most m.class (other_target t.classes tries most items m.class x)) (λ u b. IsMetTarget t.classes b.store b.objects t.p (change_of items) m x) []
      does_test m None fits = does_give t [] (λ b. Unit {0} × AllKnown b) (tt {0}) (λ u b. Unit {0}) (λ b h. tt)
      does_test m (Some id) fits = by (is_put t.classes tries most items (target_key t.classes m.class id)) refl
        where
          fit : FitsTarget t.classes known items m.class (target_key t.classes m.class id)
          fit = fits id refl

          found : (b : Both) (j : In t b []) → SharedAt t steady (data_node (target_key t.classes m.class id)) b → (c : ClassName) → Knows t.classes b.store b.objects t.p.0 (target_key t.classes m.class id) c → IsKeyOf t.classes (target_key t.classes m.class id) → IsBelow t.classes c m.class
              → reply b.store t.p (Defined (data_node (target_key t.classes m.class id))) ≡ Told (state_at b.store.globals (data_node (target_key t.classes m.class id)))
              → on_target m.class id (Told (state_at b.store.globals (data_node (target_key t.classes m.class id)))) ≡ Got (tt {0})
              → (q : Record) × (get (view b.objects t.p.0) (target_key t.classes m.class id) ≡ Some q) × IsBelow t.classes q.class m.class
          found b j held c knows real' below told e =
              let there = stands b.store.globals (data_node (target_key t.classes m.class id)) m.class id e in
              let some : is_some (get (view b.objects t.p.0) (target_key t.classes m.class id)) ≡ true =
              sym (rows_tell_objects t.classes b.store b.objects t.p (target_key t.classes m.class id) (steady.steady b j.whole).invariant real' (shared_some b.store.holds t.p (data_node (target_key t.classes m.class id)) held) (unwritten b j (data_node (target_key t.classes m.class id))))
              ∙ there in
              let g = some_record (get (view b.objects t.p.0) (target_key t.classes m.class id)) some in (
                g.0,
                g.1,
                subst (λ x. IsBelow t.classes x m.class)
                    (sym (knows.known.class_is (view b.objects t.p.0) g.0 (Rattle.object_runs.specs.Invariant.Pending t.p.0 (desk_at b.objects t.p.0).lists ([], refl) refl) g.1)) below,
              )

          by : (c : Bool) → is_put t.classes tries most items (target_key t.classes m.class id) ≡ c
              → Does t [] (λ b. TargetHeld (cond c None (Some (target_key t.classes m.class id))) b × AllKnown b) (test_target t.classes tries most m.class (cond c None (Some (target_key t.classes m.class id)))) (λ u b. IsMetTarget t.classes b.store b.objects t.p (change_of items) m (Some id)) []
          by true e =
              let p = any_item (target_key t.classes m.class id) items e in
              does_give t [] (λ b. Unit {0} × AllKnown b) (tt {0}) (λ u b. IsMetTarget t.classes b.store b.objects t.p (change_of items) m (Some id))
              (λ b h. inl (p.0.now, subst (λ k. Has (Put k p.0.now) (change_of items)) p.2 (item_puts items p.0 p.1), fit.put p.0 p.1 p.2))
          by false e =
              let o = fit.other e in
              let n = data_node (target_key t.classes m.class id) in
              does_ask t [] (λ b. SharedAt t steady n b × AllKnown b) (Defined n) (on_target m.class id) (λ u b. IsMetTarget t.classes b.store b.objects t.p (change_of items) m (Some id)) []
              (both_facts t (SharedAt t steady n) AllKnown (shared_fact t steady n) all_known_fact) tt (λ k x. refl) (λ b h. tt)
              (λ b y j h live e'.
              (let told = defined_reply b.store n in
              let knows = each_has (λ (k : Key × ClassName). Knows t.classes b.store b.objects t.p.0 k.0 k.1) known (target_key t.classes m.class id, o.0) h.1 o.1 in
              let r = each_has (λ (k : Key × ClassName). IsKeyOf t.classes k.0) known (target_key t.classes m.class id, o.0) real o.1 in
              let q = found b j h.0 o.0 knows r o.2 told (ap (on_target m.class id) (sym told) ∙ unit_got y (on_target m.class id (reply b.store t.p (Defined n))) e') in
              inr (q.0, ap (λ v. get v (target_key t.classes m.class id)) (view_kept t b (Defined n) tt) ∙ q.1, q.2, (shared_fact t steady n).own b (Defined n) j.whole live ((j.now, j.is), tt, tt) h.0)))

      -- the new targets of all moved sides are put by the save, or are there with their rows held
      abbrev pub AllMet : Work → Both → Type 0
      AllMet w b = Each (λ (m : MovedSide). IsMetTarget t.classes b.store b.objects t.p (change_of items) m m.new) (sides_moved t.classes tries most w)

      pub all_met_fact : (w : Work) → IsFact t (AllMet w)
      all_met_fact w = each_fact t (λ (m : MovedSide) b. IsMetTarget t.classes b.store b.objects t.p (change_of items) m m.new) (λ m. met_fact t steady (change_of items) m m.new) (sides_moved t.classes tries most w)

      abbrev pub TargetsFit : Work → Type 0
      TargetsFit w = (s : Side) (id : List ℕ) → Has s (sides_of t.classes w.item.now) → s.target ≡ Some id → FitsTarget t.classes known items s.class (target_key t.classes s.class id)

      abbrev ToTest : MovedSide → Both → Type 0
      ToTest m b = TargetLocked m b × AllKnown b

      does_each_test : (ms : List MovedSide) → ((m : MovedSide) → Has m ms → (id : List ℕ) → m.new ≡ Some id → FitsTarget t.classes known items m.class (target_key t.classes m.class id))
          → Does t [] (λ b. Each (λ m. ToTest m b) ms) (all (λ (s : MovedSide). test_target t.classes tries most s.class (other_target t.classes tries most items s.class s.new)) ms) (λ u b. Each (λ (m : MovedSide). IsMetTarget t.classes b.store b.objects t.p (change_of items) m m.new) ms) []
      does_each_test [] fits = does_give t [] (λ b. Unit {0}) (tt {0}) (λ u b. Unit {0}) (λ b h. tt)
      does_each_test (m ∷ ms) fits =
          let Ps : Both → Type 0 = λ b. Each (λ m. ToTest m b) ms in
          let Q : Both → Type 0 = λ b. IsMetTarget t.classes b.store b.objects t.p (change_of items) m m.new in
          let Qs : Both → Type 0 = λ b. Each (λ (m : MovedSide). IsMetTarget t.classes b.store b.objects t.p (change_of items) m m.new) ms in
          let fact : (m : MovedSide) → IsFact t (ToTest m) = λ m. both_facts t (TargetLocked m) AllKnown (held_target_fact (other_target t.classes tries most items m.class m.new)) all_known_fact in
          does_then t [] (λ b. ToTest m b × Ps b) (test_target t.classes tries most m.class (other_target t.classes tries most items m.class m.new)) (λ u. all (λ (s : MovedSide). test_target t.classes tries most s.class (other_target t.classes tries most items s.class s.new)) ms) (λ u b. Q b × Ps b) (λ u b. Q b × Qs b) []
          (does_with t [] (ToTest m) Ps (test_target t.classes tries most m.class (other_target t.classes tries most items m.class m.new)) (λ u. Q) [] (each_fact t ToTest fact ms) (does_test m m.new (fits m (inl refl))))
          (λ u. does_post t [] (λ b. Q b × Ps b) _ (λ u b. Qs b × Q b) (λ u b. Q b × Qs b) [] (λ u b h. (h.1, h.0))
          (does_weaken t [] (λ b. Ps b × Q b) (λ b. Q b × Ps b) _ (λ u b. Qs b × Q b) [] (λ b h. (h.1, h.0))
          (does_with t [] Ps Q (all (λ (s : MovedSide). test_target t.classes tries most s.class (other_target t.classes tries most items s.class s.new)) ms) (λ u. Qs) [] (met_fact t steady (change_of items) m m.new) (does_each_test ms (λ x has. fits x (inr has))))))

      pub does_test_targets : (w : Work) → TargetsFit w → Does t [] (λ b. AllLocked w b × AllKnown b) (test_targets t.classes tries most items w) (λ u. AllMet w) []
      unfolding test_targets
      does_test_targets w fits =
          does_weaken t [] (λ b. Each (λ m. ToTest m b) (sides_moved t.classes tries most w)) (λ b. AllLocked w b × AllKnown b) _ (λ u. AllMet w) []
          (λ b h. each_to (λ s. SideLocked w.item.key s b) (λ m. ToTest m b) (sides_moved t.classes tries most w) (λ m k. (k.2, h.1)) h.0.1)
          (does_each_test (sides_moved t.classes tries most w)
          (λ m has id is.
          (let u = moved_has (Rattle.object_calls.specs.Saves.sides_if t.classes tries most w.old) (sides_of t.classes w.item.now) m has in
          subst (λ c. FitsTarget t.classes known items c (target_key t.classes c id)) u.2 (fits u.0 id u.1 (u.3 ∙ is)))))
