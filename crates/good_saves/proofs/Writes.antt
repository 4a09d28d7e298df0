-- The kills of old entries of all objects, and then of each object the tests of its new keys and its writes.
use Rattle.std.proofs.Common.{◌≡◌, ◌≢◌, ℕ, Bool, true, false, List, [], ◌∷◌, ◌++◌, Option, Some, None, is_some, refl, sym, ap, subst, ◌∙◌, append_assoc}
use Rattle.std.specs.FinMap.{get}
use Rattle.obj_kinds.specs.declared.name.ClassName.{ClassName}
use Rattle.obj_kinds.specs.declared.node.Node.{Node}
use Rattle.obj_kinds.specs.declared.sub.Sub.{Sub}
use Rattle.obj_kinds.specs.declared.value.Value.{Value}
use Rattle.obj_kinds.specs.declared.op.Op.{Op}
use Rattle.obj_kinds.specs.declared.op.Op.TheVariants.{Order, Set, Kill}
use Rattle.obj_kinds.specs.Order.{covers}
use Rattle.schema_kinds.specs.declared.record.Record.{Record}
use Rattle.global_tree.specs.Below.{child, next_below}
use Rattle.global_tree.proofs.NextLaws.{is_last}
use Rattle.global_tree.proofs.StepLaws.{covers_itself}
use Rattle.store_core.specs.Machine.{State, next_or, answer, reply}
use Rattle.store_calls.specs.Calls.{Inside, Got, then, all}
use Rattle.object_calls.specs.Asking.{Does as Done, done, kill}
use Rattle.object_calls.specs.Extents.{id_below}
use Rattle.object_calls.specs.Edits.{edits_of}
use Rattle.object_calls.specs.Keys.{MovedKey, MovedSide, moved_keys, uniques_of, sides_of, side_node, moved_sides}
use Rattle.object_calls.specs.Saves.{Work, taken_by, on_key_below, uniques_if, sides_if, keys_moved, sides_moved, test_below, set, kill_entries, write}
use Rattle.object_runs.specs.ObjectMachine.{view}
use Rattle.object_runs.specs.Causes.{Each, uniques_in, sides_in_view}
use Rattle.object_runs.specs.Runs.{Both}
use Rattle.run_rules.specs.Steps.{OwnsWritten, next}
use Rattle.sound_runs.specs.Closing.{AreDistinct, IsTakenNode, IsVacant}
use Rattle.call_rules.specs.Settings.{Setting}
use Rattle.call_rules.specs.Schemas.{IsStorableSchema}
use Rattle.call_rules.proofs.Rules.{IsFact, Does, all_writes, holds_fact, both_facts, each_fact, does_give, does_ask, does_then, does_both, does_post, does_weaken, does_with}
use Rattle.call_rules.proofs.Seen.{Sees, sees_fact, view_kept}
use Rattle.call_rules.proofs.Apart.{reads_apart}
use Rattle.call_rules.proofs.Writes.{kills_of, sets_of, set_ops}
use Rattle.good_deletes.proofs.Locks.{HoldsIf, if_fact}
use Rattle.saving_rules.proofs.Lists.{each_to}
use Rattle.saving_rules.proofs.Owns.{KeysHeld, SidesHeld, IsHeld, owns_entry_kills, owns_row_kills, owns_row_sets, owns_entry_sets}
use Rattle.saving_rules.proofs.Works.{puts, IsWork, first_of, later_of}
use Rattle.saving_rules.proofs.Vacant.{vacant}
use Rattle.saving_rules.proofs.Facts.{IsSteadySetting, three_facts, taken_fact, facts_from}

-- the keys and sides that move, by what stood there
pub keys_same : (t : Setting) (tries most : ℕ) (w : Work) → keys_moved t.classes tries most w ≡ moved_keys (uniques_in t.classes w.item.key w.old) (uniques_of t.classes w.item.key w.item.now)
keys_same t tries most w = by w.old
  where
    by : (o : Option Record) → moved_keys (uniques_if t.classes tries most w.item.key o) (uniques_of t.classes w.item.key w.item.now) ≡ moved_keys (uniques_in t.classes w.item.key o) (uniques_of t.classes w.item.key w.item.now)
    by None = refl
    by (Some r) = refl

pub sides_same : (t : Setting) (tries most : ℕ) (w : Work) → sides_moved t.classes tries most w ≡ moved_sides (sides_in_view t.classes w.old) (sides_of t.classes w.item.now)
sides_same t tries most w = by w.old
  where
    by : (o : Option Record) → moved_sides (sides_if t.classes tries most o) (sides_of t.classes w.item.now) ≡ moved_sides (sides_in_view t.classes o) (sides_of t.classes w.item.now)
    by None = refl
    by (Some r) = refl

module _ (t : Setting) (schema : IsStorableSchema t.classes) (steady : IsSteadySetting t) (tries most : ℕ) where
  -- what is seen under the key, and what is held
  abbrev pub IsReady : Work → Both → Type 0
  IsReady w b = Sees t w.item.key w.old b × KeysHeld t schema w.item.key w.old w.item.now b × SidesHeld t schema w.item.key w.old w.item.now b

  pub ready_fact : (w : Work) → IsFact t (IsReady w)
  ready_fact w =
      three_facts t (Sees t w.item.key w.old) (λ b. KeysHeld t schema w.item.key w.old w.item.now b) (λ b. SidesHeld t schema w.item.key w.old w.item.now b) (sees_fact t w.item.key w.old)
      (each_fact t (λ (m : MovedKey) b. HoldsIf t m.old b × HoldsIf t m.new b) (λ m. both_facts t (HoldsIf t m.old) (HoldsIf t m.new) (if_fact t m.old) (if_fact t m.new)) (moved_keys (uniques_in t.classes w.item.key w.old) (uniques_of t.classes w.item.key w.item.now)))
      (each_fact t (λ (m : MovedSide) b. HoldsIf t (side_node w.item.key m.name m.old) b × HoldsIf t (side_node w.item.key m.name m.new) b)
      (λ m. both_facts t (HoldsIf t (side_node w.item.key m.name m.old)) (HoldsIf t (side_node w.item.key m.name m.new)) (if_fact t (side_node w.item.key m.name m.old)) (if_fact t (side_node w.item.key m.name m.new)))
      (moved_sides (sides_in_view t.classes w.old) (sides_of t.classes w.item.now)))

  is_held : (w : Work) (is : IsWork t.classes w) (b : Both) → IsReady w b → IsHeld t schema w.item.key w.item.now is.at w.old b
  is_held w is b h = record { row = h.0.0; keys = h.1; sides = h.2 }

  -- ---- one write, and several

  does_write : (P : Both → Type 0) → IsFact t P → (op : Op) → Rattle.run_rules.specs.Steps.IsWithinLevel op → (es : List Op) → ((b : Both) → P b → OwnsWritten t.classes b.store.holds t.p op)
      → Does t es P (Rattle.object_calls.specs.Asking.does Inside op) (λ u. P) (op ∷ [])
  does_write P fact op level es owns = does_ask t es P op (λ r. Got (tt {0})) (λ u. P) (op ∷ []) fact level (λ n x. refl) owns
      (λ b y i h live e. fact.own b op i.whole live ((i.now, i.is), level, owns b h) h)

  pub does_kills : (P : Both → Type 0) → IsFact t P → (ms : List Node) → Each (λ m. (b : Both) → P b → OwnsWritten t.classes b.store.holds t.p (Kill m)) ms → (es : List Op) → Does t es P (all kill ms) (λ u. P) (kills_of ms)
  does_kills P fact [] hs es = does_give t es P (tt {0}) (λ u. P) (λ b h. h)
  does_kills P fact (m ∷ ms) hs es = does_both t es P (kill m) (λ u. all kill ms) P (λ u. P) (Kill m ∷ []) (kills_of ms) (does_write P fact (Kill m) tt es hs.0) (does_kills P fact ms hs.1 (Kill m ∷ es))

  pub does_sets : (P : Both → Type 0) → IsFact t P → (xs : List (Node × Value)) → Each (λ (e : Node × Value). (b : Both) → P b → OwnsWritten t.classes b.store.holds t.p (Set e.0 e.1)) xs → (es : List Op)
      → Does t es P (all (set t.classes tries most) xs) (λ u. P) (sets_of xs)
  does_sets P fact [] hs es = does_give t es P (tt {0}) (λ u. P) (λ b h. h)
  does_sets P fact (x ∷ xs) hs es =
      does_both t es P (set t.classes tries most x) (λ u. all (set t.classes tries most) xs) P (λ u. P) (set_ops x) (sets_of xs) (does_write P fact (Set x.0 x.1) tt es hs.0) (does_sets P fact xs hs.1 (set_ops x ++ es))

  -- ---- old entries

  pub does_kill_entries : (w : Work) → IsWork t.classes w → (es : List Op) → Does t es (IsReady w) (kill_entries t.classes tries most w) (λ u. IsReady w) (first_of t.classes w)
  unfolding kill_entries
  does_kill_entries w is es = does_kills (IsReady w) (ready_fact w) (edits_of t.classes w.item.key w.old (Some w.item.now)).entry_kills
      (each_to _ _ (edits_of t.classes w.item.key w.old (Some w.item.now)).entry_kills (λ m owns b h. owns b (is_held w is b h)) (owns_entry_kills t schema w.item.key w.item.now is.at w.old is.was)) es

  -- ---- the tests of new keys

  abbrev pub AllReady : List Work → Both → Type 0
  AllReady ws b = Each (λ w. IsReady w b) ws

  pub all_ready_fact : (ws : List Work) → IsFact t (AllReady ws)
  all_ready_fact ws = each_fact t IsReady ready_fact ws

  next_none : (extent : ClassName) (n : Node) (index : List ℕ) (o : Option Sub) → on_key_below t.classes extent n index (next_or o) ≡ Got (tt {0}) → o ≡ None
  next_none extent n index None e = refl
  next_none extent n index (Some s) e = by (id_below t.classes extent s) e
    where
      by : (o : Option (List ℕ)) → taken_by n index o ≡ Got (tt {0}) → Some s ≡ None
      by None e = absurd (cc e)
      by (Some id) e = absurd (cc e)

  order_reply : (s : State) (n : Node) → reply s t.p (Order n None) ≡ next_or (next_below s.globals n None)
  unfolding reply answer
  order_reply s n = refl

  nothing_there : (b : Both) (x n : Node) (s : Sub) → next_below b.store.globals x None ≡ None → n ≡ child x s → get b.store.globals n ≡ None
  nothing_there b x n s last is = by (get b.store.globals n) refl
    where
      by : (o : Option Value) → get b.store.globals n ≡ o → o ≡ None
      by None e = refl
      by (Some v) e = absurd (is_last b.store.globals x None last s refl (n, ap (λ m. covers m n) (sym is) ∙ covers_itself n, ap is_some e))

  seen_of : (ws : List Work) (b : Both) → AllReady ws b → Each (λ (u : Work). get (view b.objects t.p.0) u.item.key ≡ u.old) ws
  seen_of ws b h = each_to (λ w. IsReady w b) (λ (u : Work). get (view b.objects t.p.0) u.item.key ≡ u.old) ws (λ w r. r.0.1) h

  module _ (front : List Work) (w : Work) (back : List Work) (are : Each (IsWork t.classes) (front ++ w ∷ back)) (apart : AreDistinct (puts (front ++ w ∷ back))) where
    abbrev pub so_far : List Op
    so_far = all_writes (later_of t.classes) front ++ all_writes (first_of t.classes) (front ++ w ∷ back)

    abbrev pub IsTaken : MovedKey → Both → Type 0
    IsTaken m b = IsTakenNode t.classes b.store b.objects t.p (puts front) w.item.key (puts back) m.new

    abbrev Testing : Option Node → Both → Type 0
    Testing o b = HoldsIf t o b × AllReady (front ++ w ∷ back) b

    testing_fact : (o : Option Node) → IsFact t (Testing o)
    testing_fact o = both_facts t (HoldsIf t o) (AllReady (front ++ w ∷ back)) (if_fact t o) (all_ready_fact (front ++ w ∷ back))

    does_test : (index : List ℕ) (o : Option Node) → Does t so_far (Testing o) (test_below t.classes tries most w.item.key.extent index o) (λ u b. IsTakenNode t.classes b.store b.objects t.p (puts front) w.item.key (puts back) o) []
    does_test index None = does_give t so_far (Testing None) (tt {0}) (λ u b. Unit {0}) (λ b h. tt)
    does_test index (Some n) = does_ask t so_far (Testing (Some n)) (Order n None) (on_key_below t.classes w.item.key.extent n index) (λ u b. IsTakenNode t.classes b.store b.objects t.p (puts front) w.item.key (puts back) (Some n)) []
        (testing_fact (Some n)) tt (λ m x. refl) (λ b h. tt)
        (λ b y i h live e.
        (let last = next_none w.item.key.extent n index (next_below b.store.globals n None) (ap (on_key_below t.classes w.item.key.extent n index) (sym (order_reply b.store n)) ∙ e) in
        let empty : IsVacant t.classes (view b.objects t.p.0) (puts front) w.item.key (puts back) n =
        vacant t schema (view b.objects t.p.0) (t.sound b t.p i.whole) front w back are apart (seen_of (front ++ w ∷ back) b h.1) n
        (λ m j below is. sym (reads_apart t n m j below b so_far i h.0) ∙ nothing_there b n m is.0 last is.1) in
        ((holds_fact t n).own b (Order n None) i.whole live ((i.now, i.is), tt, tt) h.0, subst (λ v. IsVacant t.classes v (puts front) w.item.key (puts back) n) (sym (view_kept t b (Order n None) tt)) empty)))

    -- all of one object
    does_tests : Does t so_far (AllReady (front ++ w ∷ back)) (all (λ (k : MovedKey). test_below t.classes tries most w.item.key.extent k.index k.new) (keys_moved t.classes tries most w)) (λ u b. Each (λ m. IsTaken m b) (keys_moved t.classes tries most w)) []
    does_tests = does_weaken t so_far (λ b. Each (λ (m : MovedKey). Testing m.new b) (keys_moved t.classes tries most w)) (AllReady (front ++ w ∷ back)) _ (λ u b. Each (λ m. IsTaken m b) (keys_moved t.classes tries most w)) []
        (λ b h. subst (Each (λ (m : MovedKey). Testing m.new b)) (sym (keys_same t tries most w))
        (each_to (λ (m : MovedKey). HoldsIf t m.old b × HoldsIf t m.new b) (λ (m : MovedKey). Testing m.new b) (moved_keys (uniques_in t.classes w.item.key w.old) (uniques_of t.classes w.item.key w.item.now)) (λ m k. (k.1, h)) (here front b h).1))
        (facts_from t steady (λ (k : MovedKey). test_below t.classes tries most w.item.key.extent k.index k.new) (λ (m : MovedKey) b. Testing m.new b) IsTaken (λ m. testing_fact m.new) (λ m. taken_fact t steady (puts front) w.item.key (puts back) m.new) so_far
        (λ k. does_test k.index k.new) (keys_moved t.classes tries most w))
      where
        here : (xs : List Work) (b : Both) → Each (λ w. IsReady w b) (xs ++ w ∷ back) → IsReady w b
        here [] b h = h.0
        here (x ∷ xs) b h = here xs b h.1

    abbrev pub AllTaken : Both → Type 0
    AllTaken b = Each (λ m. IsTaken m b) (keys_moved t.classes tries most w)

    pub all_taken_fact : IsFact t AllTaken
    all_taken_fact = each_fact t IsTaken (λ m. taken_fact t steady (puts front) w.item.key (puts back) m.new) (keys_moved t.classes tries most w)

    -- the tests, and then what is written
    pub does_write_one : Does t so_far (AllReady (front ++ w ∷ back)) (write t.classes tries most w) (λ u b. AllTaken b) (later_of t.classes w)
    unfolding write
    does_write_one =
        let is = here_is front are in
        let e = edits_of t.classes w.item.key w.old (Some w.item.now) in
        let P : Both → Type 0 = λ b. AllTaken b × AllReady (front ++ w ∷ back) b in
        let fact : IsFact t P = both_facts t AllTaken (AllReady (front ++ w ∷ back)) all_taken_fact (all_ready_fact (front ++ w ∷ back)) in
        let held : (b : Both) → P b → IsHeld t schema w.item.key w.item.now is.at w.old b = λ b h. is_held w is b (here front b h.1) in
        does_then t so_far (AllReady (front ++ w ∷ back)) (all (λ (k : MovedKey). test_below t.classes tries most w.item.key.extent k.index k.new) (keys_moved t.classes tries most w)) _ (λ u. P) (λ u b. AllTaken b) (later_of t.classes w)
        (does_weaken t so_far (λ b. AllReady (front ++ w ∷ back) b × AllReady (front ++ w ∷ back) b) (AllReady (front ++ w ∷ back)) _ (λ u. P) [] (λ b h. (h, h))
        (does_with t so_far (AllReady (front ++ w ∷ back)) (AllReady (front ++ w ∷ back)) (all (λ (k : MovedKey). test_below t.classes tries most w.item.key.extent k.index k.new) (keys_moved t.classes tries most w)) (λ u b. AllTaken b) [] (all_ready_fact (front ++ w ∷ back)) does_tests))
        (λ u. does_post t so_far P _ (λ u. P) (λ u b. AllTaken b) (later_of t.classes w) (λ u b h. h.0)
        (subst (Does t so_far P (then (all kill e.row_kills) (λ u. then (all (set t.classes tries most) e.row_sets) (λ u. all (set t.classes tries most) e.entry_sets))) (λ u. P)) (append_assoc (sets_of e.entry_sets) (sets_of e.row_sets) (kills_of e.row_kills))
        (does_both t so_far P (all kill e.row_kills) (λ u. then (all (set t.classes tries most) e.row_sets) (λ u. all (set t.classes tries most) e.entry_sets)) P (λ u. P) (kills_of e.row_kills) (sets_of e.entry_sets ++ sets_of e.row_sets)
        (does_kills P fact e.row_kills (each_to _ _ e.row_kills (λ m owns b h. owns b (held b h)) (owns_row_kills t schema w.item.key w.item.now is.at w.old is.was)) so_far)
        (does_both t (kills_of e.row_kills ++ so_far) P (all (set t.classes tries most) e.row_sets) (λ u. all (set t.classes tries most) e.entry_sets) P (λ u. P) (sets_of e.row_sets) (sets_of e.entry_sets)
        (does_sets P fact e.row_sets (each_to _ _ e.row_sets (λ m owns b h. owns b (held b h)) (owns_row_sets t schema w.item.key w.item.now is.at w.old is.was)) (kills_of e.row_kills ++ so_far))
        (does_sets P fact e.entry_sets (each_to _ _ e.entry_sets (λ m owns b h. owns b (held b h)) (owns_entry_sets t schema w.item.key w.item.now is.at w.old is.was)) (sets_of e.row_sets ++ (kills_of e.row_kills ++ so_far)))))))
      where
        here : (xs : List Work) (b : Both) → Each (λ w. IsReady w b) (xs ++ w ∷ back) → IsReady w b
        here [] b h = h.0
        here (x ∷ xs) b h = here xs b h.1

        here_is : (xs : List Work) → Each (IsWork t.classes) (xs ++ w ∷ back) → IsWork t.classes w
        here_is [] h = h.0
        here_is (x ∷ xs) h = here_is xs h.1

  -- ---- all objects, one after the other

  -- of each object behind those of `front`
  abbrev pub TakenFrom : List Work → List Work → Both → Type 0
  TakenFrom front [] b = Unit {0}
  TakenFrom front (w ∷ back) b = Each (λ (m : MovedKey). IsTakenNode t.classes b.store b.objects t.p (puts front) w.item.key (puts back) m.new) (keys_moved t.classes tries most w) × TakenFrom (front ++ w ∷ []) back b

  move_on : (front : List Work) (w : Work) (back : List Work) → (front ++ w ∷ []) ++ back ≡ front ++ w ∷ back
  move_on [] w back = refl
  move_on (x ∷ front) w back = ap (λ xs. x ∷ xs) (move_on front w back)

  writes_on : (front : List Work) (w : Work) → all_writes (later_of t.classes) (front ++ w ∷ []) ≡ later_of t.classes w ++ all_writes (later_of t.classes) front
  writes_on [] w = sym (Rattle.std.proofs.Common.append-nil (later_of t.classes w))
  writes_on (x ∷ front) w = ap (λ xs. xs ++ later_of t.classes x) (writes_on front w) ∙ append_assoc (later_of t.classes w) (all_writes (later_of t.classes) front) (later_of t.classes x)

  pub does_writes : (front back : List Work) → Each (IsWork t.classes) (front ++ back) → AreDistinct (puts (front ++ back))
      → Does t (all_writes (later_of t.classes) front ++ all_writes (first_of t.classes) (front ++ back)) (AllReady (front ++ back)) (all (write t.classes tries most) back) (λ u b. TakenFrom front back b) (all_writes (later_of t.classes) back)
  does_writes front [] are apart = does_give t (all_writes (later_of t.classes) front ++ all_writes (first_of t.classes) (front ++ [])) (AllReady (front ++ [])) (tt {0}) (λ u b. Unit {0}) (λ b h. tt)
  does_writes front (w ∷ back) are apart =
      let whole = front ++ w ∷ back in
      let es = all_writes (later_of t.classes) front ++ all_writes (first_of t.classes) whole in
      let same = move_on front w back in
      let Q : Both → Type 0 = λ b. AllTaken front w back are apart b × AllReady whole b in
      let rest : Does t (all_writes (later_of t.classes) (front ++ w ∷ []) ++ all_writes (first_of t.classes) whole) (AllReady whole) (all (write t.classes tries most) back) (λ u b. TakenFrom (front ++ w ∷ []) back b) (all_writes (later_of t.classes) back) =
      subst (λ xs. Does t (all_writes (later_of t.classes) (front ++ w ∷ []) ++ all_writes (first_of t.classes) xs) (AllReady xs) (all (write t.classes tries most) back) (λ u b. TakenFrom (front ++ w ∷ []) back b) (all_writes (later_of t.classes) back)) same
      (does_writes (front ++ w ∷ []) back (subst (Each (IsWork t.classes)) (sym same) are) (subst (λ xs. AreDistinct (puts xs)) (sym same) apart)) in
      let moved : all_writes (later_of t.classes) (front ++ w ∷ []) ++ all_writes (first_of t.classes) whole ≡ later_of t.classes w ++ es =
      ap (λ xs. xs ++ all_writes (first_of t.classes) whole) (writes_on front w) ∙ append_assoc (later_of t.classes w) (all_writes (later_of t.classes) front) (all_writes (first_of t.classes) whole) in
      let second : Does t (later_of t.classes w ++ es) (AllReady whole) (all (write t.classes tries most) back) (λ u b. TakenFrom (front ++ w ∷ []) back b) (all_writes (later_of t.classes) back) =
      subst (λ xs. Does t xs (AllReady whole) (all (write t.classes tries most) back) (λ u b. TakenFrom (front ++ w ∷ []) back b) (all_writes (later_of t.classes) back)) moved rest in
      does_post t es (AllReady whole) (then (write t.classes tries most w) (λ u. all (write t.classes tries most) back)) (λ u b. TakenFrom (front ++ w ∷ []) back b × AllTaken front w back are apart b) (λ u b. TakenFrom front (w ∷ back) b) (all_writes (later_of t.classes) back ++ later_of t.classes w) (λ u b h. (h.1, h.0))
      (does_both t es (AllReady whole) (write t.classes tries most w) (λ u. all (write t.classes tries most) back) Q (λ u b. TakenFrom (front ++ w ∷ []) back b × AllTaken front w back are apart b) (later_of t.classes w) (all_writes (later_of t.classes) back)
      (does_weaken t es (λ b. AllReady whole b × AllReady whole b) (AllReady whole) (write t.classes tries most w) (λ u. Q) (later_of t.classes w) (λ b h. (h, h))
      (does_with t es (AllReady whole) (AllReady whole) (write t.classes tries most w) (λ u b. AllTaken front w back are apart b) (later_of t.classes w) (all_ready_fact whole) (does_write_one front w back are apart)))
      (does_weaken t (later_of t.classes w ++ es) (λ b. AllReady whole b × AllTaken front w back are apart b) Q (all (write t.classes tries most) back) (λ u b. TakenFrom (front ++ w ∷ []) back b × AllTaken front w back are apart b) (all_writes (later_of t.classes) back) (λ b h. (h.1, h.0))
      (does_with (t) (later_of t.classes w ++ es) (AllReady whole) (AllTaken front w back are apart) (all (write t.classes tries most) back) (λ u b. TakenFrom (front ++ w ∷ []) back b) (all_writes (later_of t.classes) back) (all_taken_fact front w back are apart) second)))
