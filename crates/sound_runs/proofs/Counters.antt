-- Counters only rise, and no level has one.
use Rattle.std.proofs.Common.{◌≡◌, inl, inr, ℕ, ◌+◌, ◌-◌, ◌*◌, ◌≤◌, ◌<◌, ◌^◌, ◌==◌, ℤ, pos, ◌+ℤ◌, Bool, true, false, cond, ◌&&◌, List, [], ◌∷◌, length, Option, Some, None, unwrap_or, refl, sym, ap, ◌∙◌, subst, arith}
use borrow.Author.Tests.{ltb-true, lt-ltb}
use Rattle.std.proofs.lemmas.Bool.Decides.{nat_tests}
use Rattle.std.proofs.lemmas.Fmt.{decimal_is_IsNumeral}
use Rattle.std.proofs.lemmas.Str.Parse.{digit_from_value}
use Rattle.std.specs.Int.{IsInRange}
use Rattle.obj_kinds.proofs.ValueLaws.{fold-Str}
use Rattle.std.specs.Char.{digit_value}
use Rattle.std.specs.Fmt.{decimal}
use Rattle.std.specs.Str.Parse.{AllDigits, digits_value_after}
use Rattle.std.specs.Ordering.{eq_by_cmp, is_eq, nat_cmp}
use Rattle.std.specs.Cmp.{tied_itself, nat_cmp_total}
use Rattle.std.specs.FinMap.{get, get-insert, nat_cmp-IsAntisymmetric}
use Rattle.obj_kinds.specs.declared.name.ClassName.{ClassName}
use Rattle.obj_kinds.specs.declared.node.Node.{Node}
use Rattle.obj_kinds.specs.declared.op.Op.{Op}
use Rattle.obj_kinds.specs.declared.op.Op.TheVariants.{Set, Kill, Incr}
use Rattle.obj_kinds.specs.declared.op.Pid.{Pid}
use Rattle.obj_kinds.specs.declared.op.Reply.TheVariants.{Number}
use Rattle.obj_kinds.specs.declared.value.Value.{Value}
use Rattle.obj_kinds.specs.LeadingNumber.{is_digit, digits_from, with_sign, signed_number, leading_number}
use Rattle.obj_kinds.specs.Order.{node_cmp, covers}
use Rattle.obj_kinds.specs.OrderLaws.{node_total, node_exact}
use Rattle.global_tree.proofs.MapLaws.{one_key, get-placed}
use Rattle.schema_kinds.specs.declared.class.Class.{Class}
use Rattle.store_core.specs.Machine.{State, levels_at, is_live, stored, turn, after, number_or, answer, reply}
use Rattle.store_core.specs.Guard.{Unguarded, Closed, Guard, guards, is_guarded, HoldsGuard, IsGuarded, Respects, names}
use Rattle.store_core.specs.Numbers.{is_whole, number_step, number_at, incremented, as_value}
use Rattle.store_core.proofs.GuardLaws.{closed_unnamed, closed_unchanged, guarded_after}
use Rattle.object_calls.specs.Extents.{counter_node}
use Rattle.object_runs.specs.Headline.{Counts, is_extent_of}
use Rattle.object_runs.specs.Invariant.{row_guard}
use Rattle.sound_runs.specs.Backed.{SparesCounters}
use Rattle.sound_runs.proofs.Changes.{not_both}

-- ---- a number that is printed is the leading one of its text

is_ten : (c : ℕ) → digit_value c < 10 → (is_digit c ≡ true) × (digit_value c ≡ c - 48)
is_ten c h = (in_tens (digit_from_value c h), value (digit_from_value c h))
  where
    in_tens : IsInRange 48 57 c → is_digit c ≡ true
    in_tens k = grind (arith, nat_tests)

    value : IsInRange 48 57 c → digit_value c ≡ c - 48
    value k = grind (arith, nat_tests)

all_digits : (m : ℕ) (ds : List ℕ) → AllDigits 10 ds → digits_from m ds ≡ digits_value_after 10 m ds
all_digits m [] h = refl
all_digits m (c ∷ cs) h =
    let one = is_ten c h.0 in
    ap (λ b. cond b (digits_from (m * 10 + (c - 48)) cs) m) one.0
    ∙ all_digits (m * 10 + (c - 48)) cs h.1
    ∙ ap (λ d. digits_value_after 10 (m * 10 + d) cs) (sym one.1)

no_sign : (c : ℕ) → is_digit c ≡ true → ((c == 45) ≡ false) × ((c == 43) ≡ false)
no_sign c h = (grind (arith, nat_tests), grind (arith, nat_tests))

leads : (ds : List ℕ) → 0 < length ds → AllDigits 10 ds → leading_number ds ≡ pos (digits_value_after 10 0 ds)
leads [] e h = absurd (omega arith)
leads (c ∷ cs) e h =
    let one = no_sign c (is_ten c h.0).0 in
    ap (λ b. cond b (signed_number true cs) (cond (c == 43) (signed_number false cs) (with_sign false (digits_from 0 (c ∷ cs))))) one.0
    ∙ ap (λ b. cond b (signed_number false cs) (with_sign false (digits_from 0 (c ∷ cs)))) one.1
    ∙ ap pos (all_digits 0 (c ∷ cs) h)

printed_number : (n : ℕ) → n < 10 ^ 18 → number_at (Some (as_value (pos n))) ≡ pos n
printed_number n h =
    let small : n < 2 ^ 64 = omega arith in
    let is = decimal_is_IsNumeral n small in
    fold-Str number_step (decimal n) ∙ leads (decimal n) is.0.0 is.0.1 ∙ ap pos is.1

pub counts_number : (v : Option Value) (n : ℕ) → Counts v n → number_at v ≡ pos n
counts_number v n (inl c) = ap number_at c.0 ∙ ap pos (sym c.1)
counts_number v n (inr c) = ap number_at c.0 ∙ printed_number n c.1

-- a counter counts one number
pub counts_one : (v : Option Value) (m n : ℕ) → Counts v m → Counts v n → m ≡ n
counts_one v m n a b = inner (sym (counts_number v m a) ∙ counts_number v n b)
  where
    inner : pos m ≡ pos n → m ≡ n
    inner e = cc e

counts_small : (v : Option Value) (n : ℕ) → Counts v n → n < 10 ^ 18
counts_small v n (inl c) = subst (λ m. m < 10 ^ 18) (sym c.1) (omega arith)
counts_small v n (inr c) = c.1

-- ---- an increment of a counter by one

-- it makes the next number, or it is refused and the counter stays
pub data Steps (v : Option Value) (n : ℕ) : Type 0 where
  Up : incremented v (pos 1) ≡ Some (pos (n + 1)) → n + 1 < 10 ^ 18 → Steps v n
  Full : incremented v (pos 1) ≡ None → Steps v n

pub counter_steps : (v : Option Value) (n : ℕ) → Counts v n → Steps v n
unfolding incremented
counter_steps v n h = by (is_whole (pos (n + 1))) refl
  where
    number : number_at v ≡ pos n
    number = counts_number v n h

    whole : is_whole (pos n) ≡ true
    whole = lt-ltb n (10 ^ 18) (counts_small v n h)

    by : (b : Bool) → is_whole (pos (n + 1)) ≡ b → Steps v n
    by true e =
        Up (ap (λ z. cond (is_whole z && is_whole (z +ℤ pos 1)) (Some (z +ℤ pos 1)) None) number ∙ ap (λ b. cond (b && is_whole (pos (n + 1))) (Some (pos (n + 1))) None) whole ∙ ap (λ b. cond b (Some (pos (n + 1))) None) e)
        (ltb-true (n + 1) (10 ^ 18) e)
    by false e =
        Full (ap (λ z. cond (is_whole z && is_whole (z +ℤ pos 1)) (Some (z +ℤ pos 1)) None) number ∙ ap (λ b. cond (b && is_whole (pos (n + 1))) (Some (pos (n + 1))) None) whole ∙ ap (λ b. cond b (Some (pos (n + 1))) None) e)

-- ---- a guard that keeps one node from all

abbrev pub closed_at : Node → Guard
closed_at c n = cond (eq_by_cmp node_cmp n c) Closed Unguarded

pub same_node : (n : Node) → eq_by_cmp node_cmp n n ≡ true
same_node n = ap is_eq (tied_itself node_total n)

closes : (c : Node) → closed_at c c ≡ Closed
closes c = ap (λ b. cond b Closed Unguarded) (same_node c)

only_one : (c n : Node) → is_guarded (closed_at c) n ≡ true → n ≡ c
only_one c n e = by (eq_by_cmp node_cmp n c) refl e
  where
    by : (b : Bool) → eq_by_cmp node_cmp n c ≡ b → guards (cond b Closed Unguarded) ≡ true → n ≡ c
    by true f h = one_key node_exact n c f
    by false f h = absurd (cc h)

-- an increment leaves the levels
pub incremented_levels : (s : State) (p : Pid) (n : Node) (k : ℤ) (q : ℕ) → levels_at (after s p (Incr n k)) q ≡ levels_at s q
unfolding after turn
incremented_levels s p n k q =
    ap (λ o. unwrap_or o []) (get-placed nat_cmp_total s.levels p.0 (Some (levels_at s p.0)) q) ∙ by (eq_by_cmp nat_cmp q p.0) refl
  where
    by : (b : Bool) → eq_by_cmp nat_cmp q p.0 ≡ b → unwrap_or (cond b (Some (levels_at s p.0)) (get s.levels q)) [] ≡ levels_at s q
    by true e = ap (levels_at s) (sym (one_key nat_cmp-IsAntisymmetric q p.0 e))
    by false e = refl

module _ (classes : List Class) (s : State) (p : Pid) (op : Op) (live : is_live s p ≡ true) (rows : IsGuarded (row_guard classes) s)
    (extent : ClassName) (real : is_extent_of classes extent ≡ true) (unnamed : (q : Pid) → names (levels_at s q.0) (counter_node extent) ≡ false) (spares : SparesCounters classes op) where
  abbrev c : Node
  c = counter_node extent

  guarded : IsGuarded (closed_at c) s
  guarded = record {
    free = rows.free;
    held = λ q n e. held q n e (eq_by_cmp node_cmp n c) refl;
    numbered = rows.numbered;
  }
    where
      held : (q : Pid) (n : Node) → names (levels_at s q.0) n ≡ true → (b : Bool) → eq_by_cmp node_cmp n c ≡ b → HoldsGuard s.holds q (cond b Closed Unguarded)
      held q n e true f = not_both (ap (names (levels_at s q.0)) (sym (one_key node_exact n c f)) ∙ e) (unnamed q)
      held q n e false f = tt

  -- the operation is no increment of it, or it is
  data Way : Type 0 where
    Spares : Respects (closed_at c) s p op → Way
    Counts_up : op ≡ Incr c (pos 1) → Way

  way : (x : Op) → op ≡ x → SparesCounters classes x → Way
  way (Set n v) is sp = Spares (subst (Respects (closed_at c) s p) (sym is) (λ e. absurd (sp extent real (only_one c n e))))
  way (Kill n) is sp = Spares (subst (Respects (closed_at c) s p) (sym is) (λ m e f g. not_both (ap (covers n) (sym (only_one c m g)) ∙ e) (sp extent real)))
  way (Incr n k) is sp = by (eq_by_cmp node_cmp n c) refl
    where
      by : (b : Bool) → eq_by_cmp node_cmp n c ≡ b → Way
      by true e =
          let at : n ≡ c = one_key node_exact n c e in
          Counts_up (is ∙ (λ i. Incr (at i) (sp extent real at i)))
      by false e = Spares (subst (Respects (closed_at c) s p) (sym is) (λ f. not_both (sym (other e) ∙ f) refl))
        where
          other : eq_by_cmp node_cmp n c ≡ false → is_guarded (closed_at c) n ≡ false
          other e = ap (λ b. guards (cond b Closed Unguarded)) e
  way _ is sp = Spares (subst (Respects (closed_at c) s p) (sym is) tt)

  counted_up : op ≡ Incr c (pos 1) → (after s p op).globals ≡ stored s.globals c (incremented (get s.globals c) (pos 1))
  unfolding after turn
  counted_up is = ap (λ x. (after s p x).globals) is

  -- the counter's number rises or stays
  pub rises : (n : ℕ) → Counts (get s.globals c) n → (m : ℕ) × Counts (get (after s p op).globals c) m × (n ≤ m)
  rises n h = by (way op refl spares)
    where
      by : Way → (m : ℕ) × Counts (get (after s p op).globals c) m × (n ≤ m)
      by (Spares r) = (n, subst (λ v. Counts v n) (sym (closed_unchanged (closed_at c) s p op c (closes c) r guarded)) h, omega arith)
      by (Counts_up is) = up (counter_steps (get s.globals c) n h)
        where
          up : Steps (get s.globals c) n → (m : ℕ) × Counts (get (after s p op).globals c) m × (n ≤ m)
          up (Up e small) =
              let g : get (after s p op).globals c ≡ Some (as_value (pos (n + 1))) =
              ap (λ x. get x c) (counted_up is ∙ ap (stored s.globals c) e) ∙ get-insert node_total s.globals c (as_value (pos (n + 1))) c ∙ ap (λ b. cond b (Some (as_value (pos (n + 1)))) (get s.globals c)) (same_node c) in
              (n + 1, inr (g, small), omega arith)
          up (Full e) = (n, subst (λ v. Counts v n) (sym (ap (λ x. get x c) (counted_up is ∙ ap (stored s.globals c) e))) h, omega arith)

  -- no level has it then
  pub still_unnamed : (q : Pid) → names (levels_at (after s p op) q.0) c ≡ false
  still_unnamed q = by (way op refl spares)
    where
      by : Way → names (levels_at (after s p op) q.0) c ≡ false
      by (Spares r) = closed_unnamed (closed_at c) (after s p op) q c (closes c) (guarded_after (closed_at c) s p op r guarded live)
      by (Counts_up is) = ap (λ x. names (levels_at (after s p x) q.0) c) is ∙ ap (λ ls. names ls c) (incremented_levels s p c (pos 1) q.0) ∙ unnamed q

  counted_reply : op ≡ Incr c (pos 1) → reply s p op ≡ number_or (incremented (get s.globals c) (pos 1))
  unfolding reply answer
  counted_reply is = ap (reply s p) is

  -- the number that an increment replied is the next one, and the counter's then
  pub next_number : (n i : ℕ) → op ≡ Incr c (pos 1) → reply s p op ≡ Number (pos i) → Counts (get s.globals c) n → (i ≡ n + 1) × Counts (get (after s p op).globals c) i
  next_number n i is told h = by (counter_steps (get s.globals c) n h)
    where
      inner : Number (pos i) ≡ Number (pos (n + 1)) → i ≡ n + 1
      inner e = cc e

      by : Steps (get s.globals c) n → (i ≡ n + 1) × Counts (get (after s p op).globals c) i
      by (Up e small) =
          let same : i ≡ n + 1 = inner (sym told ∙ counted_reply is ∙ ap number_or e) in
          let g : get (after s p op).globals c ≡ Some (as_value (pos (n + 1))) =
          ap (λ x. get x c) (counted_up is ∙ ap (stored s.globals c) e) ∙ get-insert node_total s.globals c (as_value (pos (n + 1))) c ∙ ap (λ b. cond b (Some (as_value (pos (n + 1)))) (get s.globals c)) (same_node c) in
          (same, subst (Counts (get (after s p op).globals c)) (sym same) (inr (g, small)))
      by (Full e) = absurd (cc (sym told ∙ counted_reply is ∙ ap number_or e))
