-- A search of the ancestors one by one, and then of one run, finds the first hold that stops a lock.
use Rattle.std.proofs.Common.{◌≡◌, ◌≢◌, ℕ, zero, suc, ◌+◌, ◌<◌, ◌≤◌, Bool, true, false, cond, ◌&&◌, ◌||◌, List, [], ◌∷◌, length, take, Option, Some, None, is_some, refl, sym, ap, subst, ◌∙◌, arith, ◌⊎◌, inl, inr, Bor, ◌++◌, get_or, ap₂}
use Rattle.std.specs.declared.cmp.Ordering.{Ordering}
use Rattle.std.specs.declared.cmp.Ordering.TheVariants.{Less, Equal, Greater}
use Rattle.std.specs.Ordering.{is_eq, is_gt, is_le, ordering_then, ordering_reverse}
use Rattle.std.specs.List.{find, filter, All, AllByRecursion}
use Rattle.std.specs.List.Sorted.{IsStrictlySortedBy}
use Rattle.std.specs.Map.{lookup, keys_of}
use Rattle.std.specs.Option.{MatchOption}
use Rattle.std.specs.Cmp.{tied_itself}
use Rattle.std.specs.BTreeMap.{get, keys, IsOrdered}
use Rattle.std.specs.BTreeMap.Range.{entries_between, IsEntryInRange}
use Rattle.std.specs.declared.ops.Bound.TheVariants.{Included, Unbounded}
use Rattle.std.proofs.lemmas.Map.Keys.{sorted_head, sorted_tail}
use Rattle.std.proofs.lemmas.List.Kept.{IsStrictlySortedBy-filter}
use Rattle.std.proofs.lemmas.List.Elements.{recursion_from_All}
use Rattle.std.proofs.lemmas.Cmp.{nat_list_cmp_total}
use Rattle.std.proofs.Math.Seq.{take-suc}
use Rattle.obj_kinds.specs.declared.op.Pid.{Pid}
use Rattle.obj_kinds.specs.declared.op.Mode.{Mode}
use Rattle.obj_kinds.specs.declared.sub.Sub.{Sub}
use Rattle.obj_kinds.specs.declared.node.Node.{Node}
use Rattle.obj_kinds.specs.Order.{node_cmp, covers, is_front}
use Rattle.obj_kinds.specs.OrderLaws.{sub_total, node_total, node_exact}
use Rattle.lock_table.specs.declared.hold.Hold.{Hold}
use Rattle.lock_table.specs.declared.holder.Holder.{Holder}
use Rattle.lock_table.specs.Holds.{hold_cmp}
use Rattle.lock_table.specs.Holders.{holder_cmp, holder_total, holder_of, hold_on, keeps_out}
use Rattle.lock_table.specs.Conflict.{excludes}
use Rattle.lock_table.specs.Table.{Holders, Rows, found_among, found}
use Rattle.obj_kinds.specs.Line.{ancestor}
use Rattle.lock_table.specs.Against.{stops, IsFirstHolder, IsHolderOn, IsFirstStop, NoneStops, NoneBefore}
use Rattle.lock_table.proofs.RowLaws.{holder_exact}
use Rattle.lock_table.proofs.Found.{tie, none_passes, found_there, found_passes, found_first}
use Rattle.lock_table.proofs.TurnLaws.{has, has_filter}
use Rattle.obj_kinds.proofs.LineLaws.{none_above_first, none_under_before, only_ancestor, only_itself, covers_between, whole_ancestor}

-- ---- what stops by its parts
and_first : (a b : Bool) → a && b ≡ true → a ≡ true
and_first true b e = refl
and_first false b e = cc

and_second : (a b : Bool) → a && b ≡ true → b ≡ true
and_second true b e = e
and_second false b e = cc

not_and : (a b : Bool) → a ≡ false → (a && b) ≡ false
not_and a b e = ap (λ c. c && b) e

module _ (p : Pid) (m : Mode) (n : Node) (x : Hold) where
  pub in_line_of : stops p m n x ≡ true → (covers n x.node ≡ true) ⊎ (covers x.node n ≡ true)
  in_line_of e = parts (excludes p m x) (covers n x.node) (covers x.node n) e
    where
      parts : (a b c : Bool) → a && (b || c) ≡ true → (b ≡ true) ⊎ (c ≡ true)
      parts true true c e = inl refl
      parts true false c e = inr e
      parts false b c e = cc

  -- nothing stops, since one on either side is ruled out
  clear : covers n x.node ≢ true → covers x.node n ≢ true → stops p m n x ≡ false
  clear under above = by (stops p m n x) refl
    where
      either : (covers n x.node ≡ true) ⊎ (covers x.node n ≡ true) → ⊥
      either (inl c) = under c
      either (inr c) = above c

      by : (b : Bool) → stops p m n x ≡ b → stops p m n x ≡ false
      by false e = e
      by true e = absurd (either (in_line_of e))

  above_stops : excludes p m x ≡ true → covers x.node n ≡ true → stops p m n x ≡ true
  above_stops e c = rw (e, c) (or_true (covers n x.node))
    where
      or_true : (b : Bool) → b || true ≡ true
      or_true true = refl
      or_true false = refl

  under_stops : excludes p m x ≡ true → covers n x.node ≡ true → stops p m n x ≡ true
  under_stops e c = rw (e, c) refl

  it_excludes : stops p m n x ≡ true → excludes p m x ≡ true
  it_excludes e = and_first (excludes p m x) _ e

-- ---- a hold before another
not_after : (a b : Ordering) → ordering_then a b ≡ Less → (a ≡ Less) ⊎ ((a ≡ Equal) × (b ≡ Less))
not_after Less b e = inl refl
not_after Equal b e = inr (refl, e)
not_after Greater b e = cc

pub before_is : (y : Hold) (k : Node) (x : Holder) → hold_cmp y (hold_on k x) ≡ Less → (node_cmp y.node k ≡ Less) ⊎ ((node_cmp y.node k ≡ Equal) × (holder_cmp (holder_of y) x ≡ Less))
unfolding hold_cmp holder_cmp
before_is y k x e = not_after (node_cmp y.node k) _ e

-- a hold on a node by its holder
own_hold : (y : Hold) (k : Node) → y.node ≡ k → y ≡ hold_on k (holder_of y)
own_hold y k e = λ i. record { node = e i; pid = y.pid; mode = y.mode; owner = y.owner }

-- ---- one node
pub holder_found : (rows : Rows) (p : Pid) (m : Mode) (n : Node) (es : Holders) (x : Option Holder) → get node_cmp rows n ≡ Some es → x ≡ find (keeps_out p m) (keys es) → IsOrdered holder_cmp es → IsHolderOn rows p m n x
holder_found rows p m n es x row is ordered = by x is
  where
    at : (y : Holder) → is_some (found rows (hold_on n y)) ≡ is_some (get holder_cmp es y)
    at y = ap (λ o. is_some (found_among o y)) row

    by : (x : Option Holder) → x ≡ find (keeps_out p m) (keys es) → IsHolderOn rows p m n x
    by None e = λ y there. none_passes holder_cmp holder_total holder_exact (keeps_out p m) es.entries (sym e) y (sym (at y) ∙ there)
    by (Some x) e = record {
      is_there = at x ∙ found_there holder_cmp holder_total holder_exact (keeps_out p m) es.entries x (sym e);
      keeps = found_passes holder_cmp holder_total holder_exact (keeps_out p m) es.entries x (sym e);
      none_before = λ y there k. found_first holder_cmp holder_total holder_exact (keeps_out p m) es.entries x ordered (sym e) y (sym (at y) ∙ there) k;
    }

pub no_holder : (rows : Rows) (p : Pid) (m : Mode) (n : Node) → get node_cmp rows n ≡ None → IsHolderOn rows p m n None
no_holder rows p m n none = λ y there. cc (ap (λ o. is_some (found_among o y)) none, there)

-- ---- the ancestors one by one
front_covers : (k : ℕ) (xs : List Sub) → is_front (take k xs) xs ≡ true
front_covers zero xs = refl
front_covers (suc k) [] = refl
front_covers (suc k) (x ∷ xs) = ap (λ r. is_eq r && is_front (take k xs) xs) (tied_itself sub_total x) ∙ front_covers k xs

ancestor_covers : (k : ℕ) (n : Node) → covers (ancestor k n) n ≡ true
unfolding covers
ancestor_covers k n = ap (λ r. is_eq r && is_front (take k n.subs) n.subs) (tied_itself nat_list_cmp_total n.global) ∙ front_covers k n.subs

pub none_before_first : (rows : Rows) (p : Pid) (m : Mode) (n : Node) → NoneBefore 0 rows p m n
none_before_first rows p m n y there lt = clear p m n y (none_under_before n y.node 0 (omega arith) lt) (none_above_first n y.node lt)

pub ancestor_stops : (rows : Rows) (p : Pid) (m : Mode) (n : Node) (k : ℕ) (x : Holder) → NoneBefore k rows p m n → IsFirstHolder rows p m (ancestor k n) x → IsFirstStop rows p m n (hold_on (ancestor k n) x)
ancestor_stops rows p m n k x none first = record {
  is_there = first.is_there;
  it_stops = above_stops p m n (hold_on (ancestor k n) x) first.keeps (ancestor_covers k n);
  none_before = λ y there stop before. by y there stop (before_is y (ancestor k n) x before);
}
  where
    by : (y : Hold) → is_some (found rows y) ≡ true → stops p m n y ≡ true → (node_cmp y.node (ancestor k n) ≡ Less) ⊎ ((node_cmp y.node (ancestor k n) ≡ Equal) × (holder_cmp (holder_of y) x ≡ Less)) → ⊥
    by y there stop (inl lt) = cc (none y there lt, stop)
    by y there stop (inr both) =
        let own = own_hold y (ancestor k n) (node_exact y.node (ancestor k n) both.0) in
        first.none_before (holder_of y) (sym (ap (λ z. is_some (found rows z)) own) ∙ there) (it_excludes p m n y stop) both.1

pub none_at_ancestor : (rows : Rows) (p : Pid) (m : Mode) (n : Node) (k : ℕ) → k < length n.subs → NoneBefore k rows p m n → IsHolderOn rows p m (ancestor k n) None → NoneBefore (k + 1) rows p m n
none_at_ancestor rows p m n k lt none holder y there before = by (node_cmp y.node (ancestor k n)) refl (stops p m n y) refl
  where
    at : node_cmp y.node (ancestor k n) ≢ Less → stops p m n y ≡ true → (covers n y.node ≡ true) ⊎ (covers y.node n ≡ true) → ⊥
    at from stop (inl c) = none_under_before n y.node (k + 1) (omega arith) before c
    at from stop (inr c) =
        let own = own_hold y (ancestor k n) (only_ancestor n y.node k lt from before c) in
        cc (holder (holder_of y) (sym (ap (λ z. is_some (found rows z)) own) ∙ there), it_excludes p m n y stop)

    by : (r : Ordering) → node_cmp y.node (ancestor k n) ≡ r → (b : Bool) → stops p m n y ≡ b → stops p m n y ≡ false
    by Less e b e' = none y there e
    by Equal e false e' = e'
    by Equal e true e' = absurd (at (λ l. cc (l, e)) e' (in_line_of p m n y e'))
    by Greater e false e' = e'
    by Greater e true e' = absurd (at (λ l. cc (l, e)) e' (in_line_of p m n y e'))

-- ---- the node and what is under it
-- what is left of the run: no hold that is not left stops the lock
pub record IsLeft (rows : Rows) (p : Pid) (m : Mode) (n : Node) (left : List (Node × Holders)) : Type 0 where
  pub sorted : IsStrictlySortedBy node_cmp (keys_of left)
  pub rows_of : AllByRecursion (λ (e : Node × Holders). get node_cmp rows e.0 ≡ Some e.1) left
  pub from : AllByRecursion (λ (e : Node × Holders). node_cmp n e.0 ≢ Greater) left
  pub others : (y : Hold) → is_some (found rows y) ≡ true → has (keys_of left) y.node ≡ false → stops p m n y ≡ false

keys_filter : {X : Type 0} (t : Node → Bool) (es : List (Node × X)) → keys_of (filter (λ e. t e.0) es) ≡ filter t (keys_of es)
keys_filter t [] = refl
keys_filter t (e ∷ es) = by (t e.0) (keys_filter t es)
  where
    by : (b : Bool) → keys_of (filter (λ e. t e.0) es) ≡ filter t (keys_of es) → keys_of (cond b (e ∷ filter (λ e. t e.0) es) (filter (λ e. t e.0) es)) ≡ cond b (e.0 ∷ filter t (keys_of es)) (filter t (keys_of es))
    by true rest = ap (λ l. e.0 ∷ l) rest
    by false rest = rest

has_key : {X : Type 0} (es : List (Node × X)) (n : Node) → is_some (lookup (λ k. is_eq (node_cmp n k)) es) ≡ has (keys_of es) n
has_key [] n = refl
has_key (e ∷ es) n = by (is_eq (node_cmp n e.0)) (has_key es n)
  where
    by : (b : Bool) → is_some (lookup (λ k. is_eq (node_cmp n k)) es) ≡ has (keys_of es) n → is_some (cond b (Some e.1) (lookup (λ k. is_eq (node_cmp n k)) es)) ≡ (b || has (keys_of es) n)
    by true rest = refl
    by false rest = rest

among_some : (o : Option Holders) (h : Holder) → is_some (found_among o h) ≡ true → is_some o ≡ true
among_some None h e = cc
among_some (Some x) h e = refl

abbrev is_from : Node → Node → Bool
is_from n k = is_le (node_cmp n k) && true

all_from : (rows : Rows) (n : Node) (left : List (Node × Holders)) → AllByRecursion (IsEntryInRange node_cmp (Included n) Unbounded rows) left
    → AllByRecursion (λ (e : Node × Holders). get node_cmp rows e.0 ≡ Some e.1) left × AllByRecursion (λ (e : Node × Holders). node_cmp n e.0 ≢ Greater) left
all_from rows n [] a = (tt, tt)
all_from rows n (e ∷ left) a =
    let rest = all_from rows n left a.1 in
    ((a.0.1, rest.0), ((λ g. cc (ap is_gt g, a.0.0.0)), rest.1))

pub left_first : (rows : Rows) (p : Pid) (m : Mode) (n : Node) (left : List (Node × Holders)) → NoneBefore (length n.subs) rows p m n → IsOrdered node_cmp rows
    → left ≡ entries_between node_cmp (Included n) Unbounded rows.entries → All (IsEntryInRange node_cmp (Included n) Unbounded rows) left → IsLeft rows p m n left
left_first rows p m n left none ordered is in_range = record {
  sorted = subst (IsStrictlySortedBy node_cmp) (sym keys_are) (IsStrictlySortedBy-filter node_cmp (is_from n) (keys rows) ordered);
  rows_of = facts.0;
  from = facts.1;
  others = others;
}
  where
    keys_are : keys_of left ≡ filter (is_from n) (keys rows)
    keys_are = ap keys_of is ∙ keys_filter (is_from n) rows.entries

    facts : AllByRecursion (λ (e : Node × Holders). get node_cmp rows e.0 ≡ Some e.1) left × AllByRecursion (λ (e : Node × Holders). node_cmp n e.0 ≢ Greater) left
    facts = all_from rows n left (recursion_from_All (IsEntryInRange node_cmp (Included n) Unbounded rows) left in_range)

    before : (r : Ordering) → is_le r && true ≡ false → ordering_reverse r ≡ Less
    before Less e = cc
    before Equal e = cc
    before Greater e = refl

    others : (y : Hold) → is_some (found rows y) ≡ true → has (keys_of left) y.node ≡ false → stops p m n y ≡ false
    others y there out =
        let key = sym (has_key rows.entries y.node) ∙ among_some (get node_cmp rows y.node) (holder_of y) there in
        let test = sym (ap (λ b. is_from n y.node && b) key ∙ and_true (is_from n y.node)) ∙ sym (has_filter (is_from n) y.node (keys rows)) ∙ sym (ap (λ ks. has ks y.node) keys_are) ∙ out in
        none y there (ap (node_cmp y.node) (whole_ancestor n) ∙ node_total.antisymm y.node n ∙ before (node_cmp n y.node) test)
      where
        and_true : (b : Bool) → (b && true) ≡ b
        and_true true = refl
        and_true false = refl

has_later : (k : Node) (ks : List Node) → AllByRecursion (λ y. node_cmp k y ≡ Less) ks → (n : Node) → has ks n ≡ true → node_cmp k n ≡ Less
has_later k [] b n h = cc
has_later k (d ∷ ks) b n h = by (has_later k ks b.1) (is_eq (node_cmp n d)) refl h
  where
    by : ((n : Node) → has ks n ≡ true → node_cmp k n ≡ Less) → (t : Bool) → is_eq (node_cmp n d) ≡ t → t || has ks n ≡ true → node_cmp k n ≡ Less
    by rest true s h = ap (node_cmp k) (node_exact n d (tie _ s)) ∙ b.0
    by rest false s h = rest n h

module _ (rows : Rows) (p : Pid) (m : Mode) (n : Node) (e : Node × Holders) (left : List (Node × Holders)) (ahead : IsLeft rows p m n (e ∷ left)) where
  after_head : (y : Node) → has (keys_of left) y ≡ true → node_cmp e.0 y ≡ Less
  after_head = has_later e.0 (keys_of left) (sorted_head node_cmp e.0 (keys_of left) ahead.sorted)

  at_head : (y : Hold) → is_eq (node_cmp y.node e.0) ≡ true → y ≡ hold_on e.0 (holder_of y)
  at_head y s = own_hold y e.0 (node_exact y.node e.0 (tie _ s))

  -- past the run nothing stops
  pub run_ends : covers n e.0 ≡ false → NoneStops rows p m n
  run_ends out y there = by (is_eq (node_cmp y.node e.0)) refl (has (keys_of left) y.node) refl
    where
      above : covers n y.node ≢ true → node_cmp y.node n ≢ Less → covers y.node n ≢ true
      above under from c = under (only_itself n y.node from c)

      by : (s : Bool) → is_eq (node_cmp y.node e.0) ≡ s → (r : Bool) → has (keys_of left) y.node ≡ r → stops p m n y ≡ false
      by true s r h =
          let same = node_exact y.node e.0 (tie _ s) in
          let under : covers n y.node ≢ true = λ c. cc (ap (covers n) same, out, c) in
          clear p m n y under (above under (λ l. ahead.from.0 (node_total.antisymm n e.0 ∙ ap ordering_reverse (ap (λ x. node_cmp x n) (sym same) ∙ l))))
      by false s true h =
          let lt = after_head y.node h in
          let under : covers n y.node ≢ true = λ c. cc (covers_between n e.0 y.node c ahead.from.0 (λ g. cc (lt, g)), out) in
          clear p m n y under (above under (λ l. ahead.from.0 (node_total.antisymm n e.0 ∙ ap ordering_reverse (node_total.trans e.0 y.node n lt l))))
      by false s false h = ahead.others y there (ap (λ b. b || has (keys_of left) y.node) s ∙ h)

  holder_on : (x : Option Holder) → x ≡ find (keeps_out p m) (keys e.1) → IsOrdered holder_cmp e.1 → IsHolderOn rows p m e.0 x
  holder_on x is ordered = holder_found rows p m e.0 e.1 x ahead.rows_of.0 is ordered

  pub run_stops : (x : Holder) → Some x ≡ find (keeps_out p m) (keys e.1) → IsOrdered holder_cmp e.1 → covers n e.0 ≡ true → IsFirstStop rows p m n (hold_on e.0 x)
  run_stops x is ordered c = record {
    is_there = first.is_there;
    it_stops = under_stops p m n (hold_on e.0 x) first.keeps c;
    none_before = λ y there stop before. by y there stop (before_is y e.0 x before) (is_eq (node_cmp y.node e.0)) refl (has (keys_of left) y.node) refl;
  }
    where
      first : IsFirstHolder rows p m e.0 x
      first = holder_on (Some x) is ordered

      by : (y : Hold) → is_some (found rows y) ≡ true → stops p m n y ≡ true → (node_cmp y.node e.0 ≡ Less) ⊎ ((node_cmp y.node e.0 ≡ Equal) × (holder_cmp (holder_of y) x ≡ Less))
          → (s : Bool) → is_eq (node_cmp y.node e.0) ≡ s → (r : Bool) → has (keys_of left) y.node ≡ r → ⊥
      by y there stop (inr both) s s' r h =
          let own = own_hold y e.0 (node_exact y.node e.0 both.0) in
          first.none_before (holder_of y) (sym (ap (λ z. is_some (found rows z)) own) ∙ there) (it_excludes p m n y stop) both.1
      by y there stop (inl lt) true s r h = cc (ap is_eq lt, s)
      by y there stop (inl lt) false s true h = cc (node_total.antisymm y.node e.0 ∙ ap ordering_reverse (after_head y.node h), lt)
      by y there stop (inl lt) false s false h = cc (ahead.others y there (ap (λ b. b || has (keys_of left) y.node) s ∙ h), stop)

  pub run_goes_on : None ≡ find (keeps_out p m) (keys e.1) → IsOrdered holder_cmp e.1 → IsLeft rows p m n left
  run_goes_on is ordered = record {
    sorted = sorted_tail node_cmp e.0 (keys_of left) ahead.sorted;
    rows_of = ahead.rows_of.1;
    from = ahead.from.1;
    others = λ y there out. by y there out (is_eq (node_cmp y.node e.0)) refl;
  }
    where
      by : (y : Hold) → is_some (found rows y) ≡ true → has (keys_of left) y.node ≡ false → (s : Bool) → is_eq (node_cmp y.node e.0) ≡ s → stops p m n y ≡ false
      by y there out true s =
          let own = at_head y s in
          not_and (excludes p m y) _ (holder_on None is ordered (holder_of y) (sym (ap (λ z. is_some (found rows z)) own) ∙ there))
      by y there out false s = ahead.others y there (ap (λ b. b || has (keys_of left) y.node) s ∙ out)

pub none_left : (rows : Rows) (p : Pid) (m : Mode) (n : Node) (left : List (Node × Holders)) → IsLeft rows p m n left → left ≡ [] → NoneStops rows p m n
none_left rows p m n left ahead none y there = ahead.others y there (ap (λ l. has (keys_of l) y.node) none)

-- ---- at a way that is the next ancestor
pub stops_at : (rows : Rows) (p : Pid) (m : Mode) (n way : Node) (k : ℕ) (r : Option Holder) (x : Holder) → way ≡ ancestor k n → NoneBefore k rows p m n → IsHolderOn rows p m way r → r ≡ Some x → IsFirstStop rows p m n (hold_on way x)
stops_at rows p m n way k r x is none on e =
    subst (λ w. IsFirstStop rows p m n (hold_on w x)) (sym is)
    (ancestor_stops rows p m n k x none (subst (λ o. IsHolderOn rows p m (ancestor k n) o) e (subst (λ w. IsHolderOn rows p m w r) is on)))

pub goes_on : (rows : Rows) (p : Pid) (m : Mode) (n way : Node) (k : ℕ) (r : Option Holder) → way ≡ ancestor k n → k < length n.subs → NoneBefore k rows p m n → IsHolderOn rows p m way r → r ≡ None → NoneBefore (k + 1) rows p m n
goes_on rows p m n way k r is lt none on e = none_at_ancestor rows p m n k lt none (subst (λ o. IsHolderOn rows p m (ancestor k n) o) e (subst (λ w. IsHolderOn rows p m w r) is on))

pub way_is : (way n : Node) (k : ℕ) → way.global ≡ n.global → way.subs ≡ take k n.subs → way ≡ ancestor k n
way_is way n k g s = λ i. record { global = g i; subs = s i }

pub last_stop : (rows : Rows) (p : Pid) (m : Mode) (n way : Node) (r : Option (Bor Node × Holder)) (x : Bor Node) (h : Holder) (copy : Node) → way ≡ n
    → MatchOption r (NoneStops rows p m way) (λ x. IsFirstStop rows p m way (hold_on x.0.now x.1)) → r ≡ Some (x, h) → copy ≡ x.now → IsFirstStop rows p m n (hold_on copy h)
last_stop rows p m n way r x h copy is found e same =
    let there = subst (λ o. MatchOption o (NoneStops rows p m way) (λ x. IsFirstStop rows p m way (hold_on x.0.now x.1))) e found in
    subst (λ w. IsFirstStop rows p m w (hold_on copy h)) is (subst (λ k. IsFirstStop rows p m way (hold_on k h)) (sym same) there)

pub grown : (new was items subs : List Sub) (k : ℕ) (copy item : Sub) → new ≡ was ++ copy ∷ [] → copy ≡ item → was ≡ take k subs → items ≡ subs → item ≡ get_or items k item → k < length items → new ≡ take (k + 1) subs
grown new was items subs k copy item pushed copied front same at lt =
    let lt' : k < length subs = subst (λ l. k < length l) same lt in
    let one_more : suc k ≡ k + 1 = omega arith in
    let here : copy ≡ get_or subs k item = copied ∙ at ∙ ap (λ l. get_or l k item) same in
    pushed ∙ ap₂ (λ l x. l ++ x ∷ []) front here ∙ sym (take-suc subs k item lt') ∙ ap (λ j. take j subs) one_more

take_whole : (k : ℕ) (xs : List Sub) → length xs ≤ k → take k xs ≡ xs
take_whole zero [] le = refl
take_whole zero (x ∷ xs) le = absurd (omega arith)
take_whole (suc k) [] le = refl
take_whole (suc k) (x ∷ xs) le = ap (λ l. x ∷ l) (take_whole k xs (omega arith))

pub whole : (was items subs : List Sub) (k : ℕ) → was ≡ take k subs → items ≡ subs → length items ≤ k → was ≡ subs
whole was items subs k front same le = front ∙ take_whole k subs (subst (λ l. length l ≤ k) same le)
