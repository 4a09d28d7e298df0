-- Counters stay high enough, drawn keys stay unborn, classes stay in agreement, and what a process knows stays so.
use Rattle.std.proofs.Common.{◌≡◌, ◌≢◌, ⊎_elim, ℕ, ◌+◌, ◌≤◌, pos, true, false, List, [], ◌∷◌, Option, Some, None, refl, sym, ap, ◌∙◌, subst, arith}
use Rattle.std.specs.FinMap.{get}
use Rattle.obj_kinds.specs.declared.name.ClassName.{ClassName}
use Rattle.obj_kinds.specs.declared.op.Pid.{Pid}
use Rattle.obj_kinds.specs.declared.op.Op.{Op}
use Rattle.obj_kinds.specs.declared.op.Op.TheVariants.{Incr}
use Rattle.obj_kinds.specs.declared.op.Reply.TheVariants.{Number}
use Rattle.schema_kinds.specs.declared.class.Class.{Class}
use Rattle.schema_kinds.specs.declared.key.Key.{Key}
use Rattle.schema_kinds.specs.declared.record.Record.{Record}
use Rattle.schema_kinds.specs.declared.record.Part.TheVariants.{Put}
use Rattle.schema_kinds.specs.Worlds.{World, Change}
use Rattle.store_core.specs.Machine.{State, after, reply}
use Rattle.store_calls.specs.Calls.{Tag, Inside, Closes}
use Rattle.object_calls.specs.Extents.{counter_node}
use Rattle.object_runs.specs.ObjectMachine.{Own, Desk, Desks, desk_at, desk_after, desks_after}
use Rattle.object_runs.specs.Causes.{Has}
use Rattle.object_runs.specs.Headline.{Counts, is_extent_of, IsCounted, first_number}
use Rattle.object_runs.specs.Invariant.{IsPossible, Present, IsInvariant}
use Rattle.sound_runs.specs.Closing.{put_in, entries_within, Draws, IsDrawn}
use Rattle.sound_runs.specs.Backed.{IsAtLeast, IsUnborn, IsBacked, Knows, DrawsOfExtents, IsOrderly}
use Rattle.sound_runs.proofs.Saved.{put_once}
use Rattle.sound_runs.proofs.Next.{desk_own, desk_other, same_or}
use Rattle.sound_runs.proofs.Counters.{counts_one, rises, next_number, still_unnamed}
use Rattle.sound_runs.proofs.Born.{Kin, Seen, Drawn, kin, DrawnThen, Before, Now, own_then}

module _ (classes : List Class) (s : State) (o : Desks) (p : Pid) (inv : IsInvariant classes s o) (backed : IsBacked classes s o) (op : Op) (tag : Tag) (orderly : IsOrderly classes s o p op tag) where
  abbrev later : State
  later = after s p op

  abbrev next : Desks
  next = desks_after o p.0 op (reply s p op) tag

  abbrev by_desk : (k : Key) (d : Desk) → Type 0
  by_desk k d = (e : Own) × Has e (entries_within d.within d.own) × Draws k e

  drawn_own : (k : Key) → IsDrawn next p.0 k → DrawnThen classes s o p inv backed op tag orderly p.0 k
  unfolding desk_after
  drawn_own k h = own_then classes s o p inv backed op tag orderly k op (reply s p op) tag refl (desk_at o p.0).lists (subst (by_desk k) (desk_own o p.0 op (reply s p op) tag) h)

  drawn_other : (q : ℕ) (k : Key) → q ≢ p.0 → IsDrawn next q k → IsDrawn o q k
  drawn_other q k ne h = subst (by_desk k) (desk_other o p.0 op (reply s p op) tag q ne) h

  drawn_then : (q : ℕ) (k : Key) → IsDrawn next q k → DrawnThen classes s o p inv backed op tag orderly q k
  drawn_then q k h = ⊎_elim
      (λ is. subst (λ x. DrawnThen classes s o p inv backed op tag orderly x k) (sym is) (drawn_own k (subst (λ x. IsDrawn next x k) is h)))
      (λ ne. Before (drawn_other q k ne h) (λ is. absurd (ne is))) (same_or q p.0)

  -- ---- counters

  rising : (extent : ClassName) → is_extent_of classes extent ≡ true → (n : ℕ) → Counts (get s.globals (counter_node extent)) n → (m : ℕ) × Counts (get later.globals (counter_node extent)) m × (n ≤ m)
  rising extent real n h = rises classes s p op orderly.live inv.rows extent real (λ q. backed.unnamed q extent real) orderly.spares n h

  stepped : (extent : ClassName) → is_extent_of classes extent ≡ true → (n i : ℕ) → op ≡ Incr (counter_node extent) (pos 1) → reply s p op ≡ Number (pos i) → Counts (get s.globals (counter_node extent)) n
      → (i ≡ n + 1) × Counts (get later.globals (counter_node extent)) i
  stepped extent real n i is told h = next_number classes s p op orderly.live inv.rows extent real (λ q. backed.unnamed q extent real) orderly.spares n i is told h

  pub unnamed_then : (q : Pid) (extent : ClassName) → is_extent_of classes extent ≡ true → Rattle.store_core.specs.Guard.names (Rattle.store_core.specs.Machine.levels_at later q.0) (counter_node extent) ≡ false
  unnamed_then q extent real = still_unnamed classes s p op orderly.live inv.rows extent real (λ x. backed.unnamed x extent real) orderly.spares q

  least : (extent : ClassName) (m : ℕ) → is_extent_of classes extent ≡ true → IsAtLeast s.globals extent m → IsAtLeast later.globals extent m
  least extent m real h =
      let up = rising extent real h.number h.counts in
      record { number = up.0; counts = up.1; enough = at_most h.enough up.2 }
    where
      at_most : {a b c : ℕ} → a ≤ b → b ≤ c → a ≤ c
      at_most x y = omega arith

  -- the id of a record that may be is at most the counter's number
  id_low : (w : World) (k : Key) (r : Record) (n : ℕ) → is_extent_of classes k.extent ≡ true → IsPossible o w → get w k ≡ Some r → Counts (get s.globals (counter_node k.extent)) n → first_number k.id ≤ n
  id_low w k r n real h e c =
      let at = inv.counted w k.extent real h in
      subst (λ x. first_number k.id ≤ x) (counts_one (get s.globals (counter_node k.extent)) at.number n at.counts c) (at.enough k r e refl)

  drawn_low : (q : ℕ) (k : Key) (n : ℕ) → IsDrawn o q k → Counts (get s.globals (counter_node k.extent)) n → first_number k.id ≤ n
  drawn_low q k n d c =
      let at = (backed.drawn q k d).counted in
      subst (λ x. first_number k.id ≤ x) (counts_one (get s.globals (counter_node k.extent)) at.number n at.counts c) at.enough

  pub counted_then : (w : World) (extent : ClassName) → is_extent_of classes extent ≡ true → IsPossible next w → IsCounted later.globals w extent
  counted_then w extent real possible = record { number = up.0; counts = up.1; enough = enough }
    where
      at : IsCounted s.globals o.world extent
      at = inv.counted o.world extent real (Present refl)

      up : (m : ℕ) × Counts (get later.globals (counter_node extent)) m × ((inv.counted o.world extent real (Present refl)).number ≤ m)
      up = rising extent real (inv.counted o.world extent real (Present refl)).number (inv.counted o.world extent real (Present refl)).counts

      low : (k : Key) (r : Record) (n : ℕ) → k.extent ≡ extent → Kin classes s o p inv backed op tag orderly k r → Counts (get s.globals (counter_node extent)) n → first_number k.id ≤ n
      low k r n is (Seen v q h g same) c = id_low v k q n (subst (λ x. is_extent_of classes x ≡ true) (sym is) real) h g (subst (λ x. Counts (get s.globals (counter_node x)) n) (sym is) c)
      low k r n is (Drawn change d t x has distinct) c = drawn_low p.0 k n d (subst (λ x. Counts (get s.globals (counter_node x)) n) (sym is) c)

      at_most : {a b c : ℕ} → a ≤ b → b ≤ c → a ≤ c
      at_most x y = omega arith

      enough : (k : Key) (r : Record) → get w k ≡ Some r → k.extent ≡ extent → first_number k.id ≤ up.0
      enough k r e is =
          at_most (low k r (inv.counted o.world extent real (Present refl)).number is (kin classes s o p inv backed op tag orderly k r w possible e) (inv.counted o.world extent real (Present refl)).counts) up.2

  -- ---- drawn keys

  -- a key that was just drawn has an id above all
  above : (k : Key) (i n : ℕ) → is_extent_of classes k.extent ≡ true → op ≡ Incr (counter_node k.extent) (pos 1) → reply s p op ≡ Number (pos i) → k.id ≡ i ∷ [] → Counts (get s.globals (counter_node k.extent)) n
      → first_number k.id ≤ n → ⊥
  above k i n real is told id c low = high (stepped k.extent real n i is told c).0 (subst (λ x. first_number x ≤ n) id low)
    where
      high : i ≡ n + 1 → i ≤ n → ⊥
      high e l = omega arith

  not_closing : {A : Type 0} (change : Change) → tag ≡ Closes change → tag ≡ Inside → A
  not_closing change e f = absurd (cc (sym e ∙ f))

  old_unborn : (q : ℕ) (k : Key) → IsDrawn o q k → (q ≡ p.0 → tag ≡ Inside) → IsUnborn classes later next q k
  old_unborn q k d inside = record {
    extent = was.extent;
    counted = least k.extent (first_number k.id) was.extent was.counted;
    nowhere = λ w h. nowhere w h (get w k) refl;
    alone = λ a h. alone a (drawn_then a k h);
  }
    where
      was : IsUnborn classes s o q k
      was = backed.drawn q k d

      not_kin : (r : Record) → Kin classes s o p inv backed op tag orderly k r → ⊥
      not_kin r (Seen v x h g same) = cc (sym ((backed.drawn q k d).nowhere v h) ∙ g)
      not_kin r (Drawn change mine t x has distinct) = not_closing change t (inside (sym ((backed.drawn q k d).alone p.0 mine)))

      nowhere : (w : World) → IsPossible next w → (x : Option Record) → get w k ≡ x → get w k ≡ None
      nowhere w h None e = e
      nowhere w h (Some r) e = absurd (not_kin r (kin classes s o p inv backed op tag orderly k r w h e))

      alone : (a : ℕ) → DrawnThen classes s o p inv backed op tag orderly a k → a ≡ q
      alone a (Before h x) = (backed.drawn q k d).alone a h
      alone a (Now e x i is told id) =
          absurd (above k i (backed.drawn q k d).counted.number (backed.drawn q k d).extent is told id (backed.drawn q k d).counted.counts (backed.drawn q k d).counted.enough)

  new_unborn : (k : Key) (i : ℕ) → is_extent_of classes k.extent ≡ true → tag ≡ Inside → op ≡ Incr (counter_node k.extent) (pos 1) → reply s p op ≡ Number (pos i) → k.id ≡ i ∷ [] → IsUnborn classes later next p.0 k
  new_unborn k i real inside is told id = record {
    extent = real;
    counted = record { number = i; counts = (stepped k.extent real (inv.counted o.world k.extent real (Present refl)).number i is told (inv.counted o.world k.extent real (Present refl)).counts).1; enough = subst (λ x. first_number x ≤ i) (sym id) itself };
    nowhere = λ w h. nowhere w h (get w k) refl;
    alone = λ a h. alone a (drawn_then a k h);
  }
    where
      itself : i ≤ i
      itself = omega arith

      not_kin : (r : Record) → Kin classes s o p inv backed op tag orderly k r → ⊥
      not_kin r (Seen v x h g same) =
          above k i (inv.counted o.world k.extent real (Present refl)).number real is told id (inv.counted o.world k.extent real (Present refl)).counts
          (id_low v k x (inv.counted o.world k.extent real (Present refl)).number real h g (inv.counted o.world k.extent real (Present refl)).counts)
      not_kin r (Drawn change mine t x has distinct) = not_closing change t inside

      nowhere : (w : World) → IsPossible next w → (x : Option Record) → get w k ≡ x → get w k ≡ None
      nowhere w h None e = e
      nowhere w h (Some r) e = absurd (not_kin r (kin classes s o p inv backed op tag orderly k r w h e))

      alone : (a : ℕ) → DrawnThen classes s o p inv backed op tag orderly a k → a ≡ p.0
      alone a (Before h x) =
          absurd (above k i (inv.counted o.world k.extent real (Present refl)).number real is told id (inv.counted o.world k.extent real (Present refl)).counts
          (drawn_low a k (inv.counted o.world k.extent real (Present refl)).number h (inv.counted o.world k.extent real (Present refl)).counts))
      alone a (Now e x j at said same) = e

  extent_drawn : (k : Key) → tag ≡ Inside → op ≡ Incr (counter_node k.extent) (pos 1) → is_extent_of classes k.extent ≡ true
  extent_drawn k inside is = subst (λ t. DrawsOfExtents classes (Incr (counter_node k.extent) (pos 1)) t) inside (subst (λ x. DrawsOfExtents classes x tag) is orderly.draws) k.extent refl

  pub unborn_then : (q : ℕ) (k : Key) → IsDrawn next q k → IsUnborn classes later next q k
  unborn_then q k h = by (drawn_then q k h)
    where
      by : DrawnThen classes s o p inv backed op tag orderly q k → IsUnborn classes later next q k
      by (Before d inside) = old_unborn q k d inside
      by (Now e inside i is told id) = subst (λ x. IsUnborn classes later next x k) (sym e) (new_unborn k i (extent_drawn k inside is) inside is told id)

  -- ---- classes

  pub agree_then : (v w : World) (k : Key) (q r : Record) → IsPossible next v → IsPossible next w → get v k ≡ Some q → get w k ≡ Some r → q.class ≡ r.class
  agree_then v w k q r h g e f = by (kin classes s o p inv backed op tag orderly k q v h e) (kin classes s o p inv backed op tag orderly k r w g f)
    where
      nowhere : {A : Type 0} (u : World) (x : Record) → IsDrawn o p.0 k → IsPossible o u → get u k ≡ Some x → A
      nowhere u x d i j = absurd (cc (sym ((backed.drawn p.0 k d).nowhere u i) ∙ j))

      one_change : (c d : Change) → Closes c ≡ Closes d → c ≡ d
      one_change c d e = cc e

      one_record : Some q ≡ Some r → q.class ≡ r.class
      one_record e = cc e

      by : Kin classes s o p inv backed op tag orderly k q → Kin classes s o p inv backed op tag orderly k r → q.class ≡ r.class
      by (Seen u x i j same) (Seen u2 x2 i2 j2 same2) = sym same ∙ inv.classes_agree u u2 k x x2 i i2 j j2 ∙ same2
      by (Seen u x i j same) (Drawn c d t y has distinct) = nowhere u x d i j
      by (Drawn c d t y has distinct) (Seen u x i j same) = nowhere u x d i j
      by (Drawn c d t y has distinct) (Drawn c2 d2 t2 y2 has2 distinct2) =
          one_record (sym (put_once c k q distinct has) ∙ ap (λ x. put_in x k) (one_change c c2 (sym t ∙ t2)) ∙ put_once c2 k r distinct2 has2)

  -- ---- what a process knows

  pub knows_then : (a : ℕ) (k : Key) (class : ClassName) → Knows classes s o a k class → (a ≡ p.0 → (change : Change) (r : Record) → tag ≡ Closes change → Has (Put k r) change → r.class ≡ class)
      → Knows classes later next a k class
  knows_then a k class h own = record {
    extent = h.extent;
    known = record {
      class_is = λ w r possible e. class_of r (kin classes s o p inv backed op tag orderly k r w possible e);
      counted = λ w possible. (counted_then w k.extent h.extent possible, number w possible);
    };
    undrawn = λ q ne d. undrawn q ne (drawn_then q k d);
  }
    where
      class_of : (r : Record) → Kin classes s o p inv backed op tag orderly k r → r.class ≡ class
      class_of r (Seen v q possible e same) = sym same ∙ h.known.class_is v q possible e
      class_of r (Drawn change d t x has distinct) = ⊎_elim (λ is. own is change r t has) (λ ne. absurd (h.undrawn p.0 (λ e. ne (sym e)) d)) (same_or a p.0)

      low : (n : ℕ) → Counts (get s.globals (counter_node k.extent)) n → first_number k.id ≤ n
      low n c =
          let at = h.known.counted o.world (Present refl) in
          subst (λ x. first_number k.id ≤ x) (counts_one (get s.globals (counter_node k.extent)) at.0.number n at.0.counts c) at.1

      at_most : {a b c : ℕ} → a ≤ b → b ≤ c → a ≤ c
      at_most x y = omega arith

      number : (w : World) (possible : IsPossible next w) → first_number k.id ≤ (counted_then w k.extent h.extent possible).number
      number w possible =
          let at = inv.counted o.world k.extent h.extent (Present refl) in
          let up = rising k.extent h.extent at.number at.counts in
          subst (λ x. first_number k.id ≤ x) (counts_one (get later.globals (counter_node k.extent)) up.0 (counted_then w k.extent h.extent possible).number up.1 (counted_then w k.extent h.extent possible).counts)
          (at_most (low at.number at.counts) up.2)

      undrawn : (q : ℕ) → q ≢ a → DrawnThen classes s o p inv backed op tag orderly q k → ⊥
      undrawn q ne (Before d x) = h.undrawn q ne d
      undrawn q ne (Now e x i is told id) =
          let at = h.known.counted o.world (Present refl) in
          above k i at.0.number h.extent is told id at.0.counts at.1
