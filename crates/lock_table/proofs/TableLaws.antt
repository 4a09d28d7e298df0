-- The map of holds that the rows say, and what the changes of the rows are there.
use Rattle.std.proofs.Common.{◌≡◌, ℕ, Bool, true, false, cond, not, ◌&&◌, ◌==◌, List, [], ◌∷◌, ◌++◌, map, Option, Some, None, is_some, unwrap_or, refl, sym, ap, subst, ◌∙◌, arith}
use Rattle.std.specs.declared.cmp.Ordering.TheVariants.{Less}
use Rattle.std.specs.Ordering.{is_eq, eq_by_cmp, nat_cmp}
use Rattle.std.specs.List.{AllByRecursion}
use Rattle.std.specs.List.Sorted.{IsStrictlySortedBy}
use Rattle.std.specs.Map.{lookup, keys_of}
use Rattle.std.specs.Cmp.{eq_by_cmp_equiv}
use Rattle.std.specs.BTreeMap as tree
use Rattle.std.specs.BTreeMap.{IsOrdered, WritesThrough}
use Rattle.std.specs.declared.result.Result.{Result}
use Rattle.std.specs.declared.result.Result.TheVariants.{Ok, Err}
use Rattle.std.specs.Result.{OnOk, OnErr}
use Rattle.std.specs.BTreeSet as nodes
use Rattle.std.specs.BTreeSet.{BTreeSet}
use Rattle.std.specs.FinMap.{get, empty, contains_key, from_entries, same_map, get-from_entries, get-insert}
use Rattle.std.specs.FinMap.Entries as rows
use Rattle.std.proofs.lemmas.Map.Keys.{sorted_head, sorted_tail}
use Rattle.std.proofs.lemmas.Bool.Decides.{nat_tests}
use Rattle.obj_kinds.specs.declared.op.Pid.{Pid}
use Rattle.obj_kinds.specs.declared.op.Owner.{Owner}
use Rattle.obj_kinds.specs.declared.op.Keep.{Keep}
use Rattle.obj_kinds.specs.declared.op.Mode.{Mode}
use Rattle.obj_kinds.specs.declared.node.Node.{Node}
use Rattle.obj_kinds.specs.Order.{node_cmp}
use Rattle.obj_kinds.specs.OrderLaws.{node_total, node_exact}
use Rattle.lock_table.specs.declared.hold.Hold.{Hold}
use Rattle.lock_table.specs.declared.hold.Kept.{Kept}
use Rattle.lock_table.specs.declared.holder.Holder.{Holder}
use Rattle.lock_table.specs.declared.holder.Change.{Change}
use Rattle.lock_table.specs.declared.holder.Change.TheVariants.{GiveBack, EndTran, Drop}
use Rattle.lock_table.specs.Holds.{Holds, hold, hold_cmp, kept, unheld, is_held, is_counted, put, raised, granted, given_back, one_back, all_back, all_given_back, without_end, tran_ended, all_dropped}
use Rattle.lock_table.specs.Holders.{holder_cmp, holder_total, holder_of, hold_on, some_held, changed_by, left_by}
use Rattle.lock_table.specs.Conflict.{conflicts, refusing}
use Rattle.lock_table.specs.Calls.{AllHeld}
use Rattle.lock_table.specs.Table.{Holders, Rows, Listed, flat, holds_of, found_among, found, is_among, is_listed, is_here, holds_node, IsTable}
use Rattle.lock_table.specs.Against.{IsFirstStop, NoneStops}
use Rattle.lock_table.proofs.HoldOrder.{hold_total, hold_exact}
use Rattle.lock_table.proofs.HoldLaws.{rekept_at, get-changed, get-put, get-dropped, raised_held}
use Rattle.lock_table.proofs.FirstLaws.{is_first, is_none}
use Rattle.lock_table.proofs.Found.{tie}
use Rattle.lock_table.proofs.RowLaws.{eq_then, here_is, some_there}
use Rattle.lock_table.proofs.TurnLaws.{held_node, same_number}

abbrev on : Node → Holder × Kept → Hold × Kept
on n d = (hold_on n d.0, d.1)

same_as : (q : Hold) (n : Node) (h : Holder) → eq_by_cmp hold_cmp q (hold_on n h) ≡ (is_eq (node_cmp q.node n) && is_eq (holder_cmp (holder_of q) h))
unfolding hold_cmp holder_cmp
same_as q n h = eq_then (node_cmp q.node n) _

pub here_same : (n : Node) (h : Holder) (q : Hold) → is_here n h q ≡ eq_by_cmp hold_cmp q (hold_on n h)
here_same n h q =
    ap (λ b. b && is_eq (holder_cmp h (holder_of q))) ((eq_by_cmp_equiv node_total).symm n q.node)
    ∙ ap (λ b. is_eq (node_cmp q.node n) && b) ((eq_by_cmp_equiv holder_total).symm h (holder_of q))
    ∙ sym (same_as q n h)

-- ---- what is found in the flat list
other_row : (q : Hold) (n : Node) (ds : List (Holder × Kept)) (ys : List (Hold × Kept)) → is_eq (node_cmp q.node n) ≡ false → rows.find hold_cmp q (map (on n) ds ++ ys) ≡ rows.find hold_cmp q ys
other_row q n [] ys e = refl
other_row q n (d ∷ ds) ys e =
    ap (λ b. cond b (Some d.1) (rows.find hold_cmp q (map (on n) ds ++ ys))) (same_as q n d.0 ∙ ap (λ b. b && is_eq (holder_cmp (holder_of q) d.0)) e)
    ∙ other_row q n ds ys e

own_row : (q : Hold) (n : Node) (ds : List (Holder × Kept)) (ys : List (Hold × Kept)) → is_eq (node_cmp q.node n) ≡ true → rows.find hold_cmp q ys ≡ None → rows.find hold_cmp q (map (on n) ds ++ ys) ≡ lookup (λ k. is_eq (holder_cmp (holder_of q) k)) ds
own_row q n [] ys e none = none
own_row q n (d ∷ ds) ys e none =
    ap (λ b. cond b (Some d.1) (rows.find hold_cmp q (map (on n) ds ++ ys))) (same_as q n d.0 ∙ ap (λ b. b && is_eq (holder_cmp (holder_of q) d.0)) e)
    ∙ ap (λ o. cond (is_eq (holder_cmp (holder_of q) d.0)) (Some d.1) o) (own_row q n ds ys e none)

none_later : (q : Hold) (n : Node) (es : List (Node × Holders)) → AllByRecursion (λ y. node_cmp n y ≡ Less) (keys_of es) → q.node ≡ n → rows.find hold_cmp q (flat es) ≡ None
none_later q n [] b is = refl
none_later q n (e ∷ es) b is = other_row q e.0 e.1.entries (flat es) (ap is_eq (ap (λ x. node_cmp x e.0) is ∙ b.0)) ∙ none_later q n es b.1 is

found_flat : (q : Hold) (es : List (Node × Holders)) → IsStrictlySortedBy node_cmp (keys_of es) → rows.find hold_cmp q (flat es) ≡ found_among (lookup (λ k. is_eq (node_cmp q.node k)) es) (holder_of q)
found_flat q [] s = refl
found_flat q (e ∷ es) s = by (is_eq (node_cmp q.node e.0)) refl (found_flat q es (sorted_tail node_cmp e.0 (keys_of es) s))
  where
    by : (b : Bool) → is_eq (node_cmp q.node e.0) ≡ b → rows.find hold_cmp q (flat es) ≡ found_among (lookup (λ k. is_eq (node_cmp q.node k)) es) (holder_of q)
        → rows.find hold_cmp q (map (on e.0) e.1.entries ++ flat es) ≡ found_among (cond b (Some e.1) (lookup (λ k. is_eq (node_cmp q.node k)) es)) (holder_of q)
    by true t rest = own_row q e.0 e.1.entries (flat es) t (none_later q e.0 es (sorted_head node_cmp e.0 (keys_of es) s) (node_exact q.node e.0 (tie _ t)))
    by false t rest = other_row q e.0 e.1.entries (flat es) t ∙ rest

-- the map of holds at a hold
pub get-holds_of : (rs : Rows) → IsOrdered node_cmp rs → (q : Hold) → get (holds_of rs) q ≡ found rs q
unfolding holds_of
get-holds_of rs s q = get-from_entries hold_total (flat rs.entries) q ∙ found_flat q rs.entries s

pub holds_of_none : (rs : Rows) → rs.entries ≡ [] → holds_of rs ≡ empty
unfolding holds_of
holds_of_none rs none = ap (λ es. from_entries (flat es)) none

module _ (rs new : Rows) (s : IsOrdered node_cmp rs) (s' : IsOrdered node_cmp new) where
  pub same_holds : ((q : Hold) → found new q ≡ found rs q) → holds_of new ≡ holds_of rs
  same_holds is = same_map hold_total hold_exact _ _ (λ q. get-holds_of new s' q ∙ is q ∙ sym (get-holds_of rs s q))

  pub put_holds : (n : Node) (h : Holder) (c : Kept) → ((q : Hold) → found new q ≡ cond (is_here n h q) (some_held c) (found rs q)) → holds_of new ≡ put (holds_of rs) (hold_on n h) c
  put_holds n h c is = same_map hold_total hold_exact _ _ (λ q.
      get-holds_of new s' q ∙ is q ∙ ap (λ b. cond b (some_held c) (found rs q)) (here_same n h q)
      ∙ sym (get-put (holds_of rs) (hold_on n h) c q ∙ ap (cond (eq_by_cmp hold_cmp q (hold_on n h)) (some_held c)) (get-holds_of rs s q)))

  pub granted_holds : (n : Node) (h : Holder) (k : Keep) (c : Kept) → c ≡ raised k (kept (holds_of rs) (hold_on n h)) → ((q : Hold) → found new q ≡ cond (is_here n h q) (Some c) (found rs q)) → holds_of new ≡ granted (holds_of rs) (hold_on n h) k
  unfolding granted
  granted_holds n h k c raise is = same_map hold_total hold_exact _ _ (λ q.
      get-holds_of new s' q ∙ is q ∙ ap (λ b. cond b (Some c) (found rs q)) (here_same n h q)
      ∙ ap (λ x. cond (eq_by_cmp hold_cmp q (hold_on n h)) (Some x) (found rs q)) raise
      ∙ sym (get-insert hold_total (holds_of rs) (hold_on n h) (raised k (kept (holds_of rs) (hold_on n h))) q ∙ ap (cond (eq_by_cmp hold_cmp q (hold_on n h)) (Some (raised k (kept (holds_of rs) (hold_on n h))))) (get-holds_of rs s q)))

-- ---- what is known of the table
pub all_held : (rs : Rows) (ls : Listed) → IsTable rs ls → AllHeld (holds_of rs)
all_held rs ls t h there =
    let is = get-holds_of rs t.ordered h in
    ap (λ o. is_held (unwrap_or o unheld)) is ∙ t.held h (sym (ap is_some is) ∙ there)

pub table_none : (rs : Rows) (ls : Listed) → rs.entries ≡ [] → IsOrdered node_cmp rs → IsTable rs ls
table_none rs ls none s = record { ordered = s; held = λ q there. cc (nothing q, there); in_list = λ q there. cc (nothing q, there) }
  where
    nothing : (q : Hold) → is_some (found rs q) ≡ false
    nothing q = ap (λ es. is_some (found_among (lookup (λ k. is_eq (node_cmp q.node k)) es) (holder_of q))) none

abbrev IsHeldAt : Option Kept → Type 0
IsHeldAt o = is_some o ≡ true → is_held (unwrap_or o unheld) ≡ true

held_if : (c : Kept) → IsHeldAt (some_held c)
held_if c = by (is_held c) refl
  where
    by : (b : Bool) → is_held c ≡ b → IsHeldAt (cond b (Some c) None)
    by true e = λ there. e
    by false e = λ there. cc

held_or : (t : Bool) (o o' : Option Kept) → IsHeldAt o → IsHeldAt o' → IsHeldAt (cond t o o')
held_or true o o' h h' = h
held_or false o o' h h' = h'

pub table_listed : (rs : Rows) (ls new : Listed) → IsTable rs ls → ((p : Pid) (n : Node) → is_listed ls p n ≡ true → is_listed new p n ≡ true) → IsTable rs new
table_listed rs ls new t more = record { ordered = t.ordered; held = t.held; in_list = λ q there. more q.pid q.node (t.in_list q there) }

pub table_same : (rs new : Rows) (ls : Listed) → IsTable rs ls → IsOrdered node_cmp new → ((q : Hold) → found new q ≡ found rs q) → IsTable new ls
table_same rs new ls t s is = record {
  ordered = s;
  held = λ q there. subst IsHeldAt (sym (is q)) (t.held q) there;
  in_list = λ q there. t.in_list q (sym (ap is_some (is q)) ∙ there);
}

pub table_granted : (rs new : Rows) (ls : Listed) (n : Node) (h : Holder) (k : Keep) (c was : Kept) → c ≡ raised k was → IsTable rs ls → is_listed ls h.pid n ≡ true → IsOrdered node_cmp new
    → ((q : Hold) → found new q ≡ cond (is_here n h q) (Some c) (found rs q)) → IsTable new ls
table_granted rs new ls n h k c was raise t listed s is = record {
  ordered = s;
  held = λ q there. subst IsHeldAt (sym (is q)) (held_or (is_here n h q) (Some c) (found rs q) (λ _. ap is_held raise ∙ raised_held k was) (t.held q)) there;
  in_list = λ q there. by q (is_here n h q) refl (sym (ap is_some (is q)) ∙ there);
}
  where
    by : (q : Hold) (b : Bool) → is_here n h q ≡ b → is_some (cond b (Some c) (found rs q)) ≡ true → is_listed ls q.pid q.node ≡ true
    by q true e there = ap (λ (x : Hold). is_listed ls x.pid x.node) (here_is n h q e) ∙ listed
    by q false e there = t.in_list q there

pub table_kept : (rs new : Rows) (ls : Listed) (n : Node) (h : Holder) (c : Kept) → IsTable rs ls → is_some (found rs (hold_on n h)) ≡ true → IsOrdered node_cmp new
    → ((q : Hold) → found new q ≡ cond (is_here n h q) (some_held c) (found rs q)) → IsTable new ls
table_kept rs new ls n h c t had s is = record {
  ordered = s;
  held = λ q there. subst IsHeldAt (sym (is q)) (held_or (is_here n h q) (some_held c) (found rs q) (held_if c) (t.held q)) there;
  in_list = λ q there. by q (is_here n h q) refl (sym (ap is_some (is q)) ∙ there);
}
  where
    by : (q : Hold) (b : Bool) → is_here n h q ≡ b → is_some (cond b (some_held c) (found rs q)) ≡ true → is_listed ls q.pid q.node ≡ true
    by q true e there = ap (λ (x : Hold). is_listed ls x.pid x.node) (here_is n h q e) ∙ t.in_list (hold_on n h) had
    by q false e there = t.in_list q there

-- a node that its process doesn't hold may leave the list
pub table_unlisted : (rs : Rows) (ls new : Listed) (n : Node) (p : Pid) → IsTable rs ls → holds_node rs n p ≡ false
    → ((o : Pid) (m : Node) → is_listed new o m ≡ cond (p.0 == o.0 && is_eq (node_cmp n m)) false (is_listed ls o m)) → IsTable rs new
table_unlisted rs ls new n p t idle is = record { ordered = t.ordered; held = t.held; in_list = λ q there. is q.pid q.node ∙ by q there (p.0 == q.pid.0) refl (is_eq (node_cmp n q.node)) refl }
  where
    turned : (a b : ℕ) → (a == b) ≡ true → (b == a) ≡ true
    turned a b e = grind (arith, nat_tests)

    by : (q : Hold) → is_some (found rs q) ≡ true → (a : Bool) → (p.0 == q.pid.0) ≡ a → (b : Bool) → is_eq (node_cmp n q.node) ≡ b → cond (a && b) false (is_listed ls q.pid q.node) ≡ true
    by q there true e true e' = cc (held_node rs p q (turned p.0 q.pid.0 e) there, ap (λ m. holds_node rs m p) (node_exact n q.node (tie _ e')), idle)
    by q there true e false e' = t.in_list q there
    by q there false e b e' = t.in_list q there

-- ---- the changes of all holds of a process
none_twice : (b : Bool) (v : Option Kept) → cond b v v ≡ v
none_twice true v = refl
none_twice false v = refl

still : (c : Kept) → IsHeldAt (Some c) → Some c ≡ some_held c
still c held = sym (ap (λ b. cond b (Some c) None) (held refl))

module _ (old new : Holds) (p : Pid) (held : AllHeld old) where
  given_at : (o : Owner) (in_tran : Bool) (q : Hold) (v : Option Kept) → IsHeldAt v → cond (q.pid.0 == p.0) (left_by (GiveBack o in_tran) (holder_of q) v) v ≡ rekept_at (all_back p o in_tran) q v
  given_at o in_tran q None h = none_twice (q.pid.0 == p.0) None
  given_at o in_tran q (Some c) h = by (q.pid.0 == p.0) refl
    where
      by : (b : Bool) → (q.pid.0 == p.0) ≡ b → cond b (left_by (GiveBack o in_tran) (holder_of q) (Some c)) (Some c) ≡ rekept_at (all_back p o in_tran) q (Some c)
      by true e = rw e refl
      by false e = rw e (still c h)

  pub is_given_back : (o : Owner) (in_tran : Bool) → ((q : Hold) → get new q ≡ cond (q.pid.0 == p.0) (left_by (GiveBack o in_tran) (holder_of q) (get old q)) (get old q)) → new ≡ all_given_back old p o in_tran
  unfolding all_given_back
  is_given_back o in_tran is = same_map hold_total hold_exact _ _ (λ q. is q ∙ given_at o in_tran q (get old q) (held q) ∙ sym (get-changed (all_back p o in_tran) old q))

  ended_at : (q : Hold) (v : Option Kept) → IsHeldAt v → cond (q.pid.0 == p.0) (left_by EndTran (holder_of q) v) v ≡ rekept_at (without_end p) q v
  ended_at q None h = none_twice (q.pid.0 == p.0) None
  ended_at q (Some c) h = by (q.pid.0 == p.0) refl
    where
      by : (b : Bool) → (q.pid.0 == p.0) ≡ b → cond b (left_by EndTran (holder_of q) (Some c)) (Some c) ≡ rekept_at (without_end p) q (Some c)
      by true e = rw e refl
      by false e = rw e (still c h)

  pub is_tran_ended : ((q : Hold) → get new q ≡ cond (q.pid.0 == p.0) (left_by EndTran (holder_of q) (get old q)) (get old q)) → new ≡ tran_ended old p
  unfolding tran_ended
  is_tran_ended is = same_map hold_total hold_exact _ _ (λ q. is q ∙ ended_at q (get old q) (held q) ∙ sym (get-changed (without_end p) old q))

  dropped_at : (b : Bool) (q : Hold) (v : Option Kept) → cond b (left_by Drop (holder_of q) v) v ≡ cond (not b) v None
  dropped_at true q None = refl
  dropped_at true q (Some c) = refl
  dropped_at false q v = refl

  pub is_dropped : ((q : Hold) → get new q ≡ cond (q.pid.0 == p.0) (left_by Drop (holder_of q) (get old q)) (get old q)) → new ≡ all_dropped old p
  unfolding all_dropped
  is_dropped is = same_map hold_total hold_exact _ _ (λ q. is q ∙ dropped_at (q.pid.0 == p.0) q (get old q) ∙ sym (get-dropped old (λ h. not (h.pid.0 == p.0)) q))

-- a process without a list holds nothing
pub none_listed : (rs : Rows) (ls : Listed) (p : Pid) (change : Change) → IsTable rs ls → tree.get nat_cmp ls p.0 ≡ None → (q : Hold)
    → get (holds_of rs) q ≡ cond (q.pid.0 == p.0) (left_by change (holder_of q) (get (holds_of rs) q)) (get (holds_of rs) q)
none_listed rs ls p change t none q = by (q.pid.0 == p.0) refl (get (holds_of rs) q) refl
  where
    by : (b : Bool) → (q.pid.0 == p.0) ≡ b → (v : Option Kept) → get (holds_of rs) q ≡ v → v ≡ cond b (left_by change (holder_of q) v) v
    by true e None e' = refl
    by true e (Some c) e' =
        let there = ap is_some (sym (get-holds_of rs t.ordered q) ∙ e') in
        cc (t.in_list q there, ap (λ n. is_among (tree.get nat_cmp ls n) q.node) (same_number q.pid.0 p.0 e), ap (λ o. is_among o q.node) none)
    by false e v e' = refl

-- the new rows after a change of all holds of a process
pub changed_holds : (rs new : Rows) (p : Pid) (change : Change) → IsOrdered node_cmp rs → IsOrdered node_cmp new → ((q : Hold) → found new q ≡ cond (q.pid.0 == p.0) (left_by change (holder_of q) (found rs q)) (found rs q)) → (q : Hold)
    → get (holds_of new) q ≡ cond (q.pid.0 == p.0) (left_by change (holder_of q) (get (holds_of rs) q)) (get (holds_of rs) q)
changed_holds rs new p change s s' is q = get-holds_of new s' q ∙ is q ∙ ap (λ v. cond (q.pid.0 == p.0) (left_by change (holder_of q) v) v) (sym (get-holds_of rs s q))

left_within : (change : Change) (h : Holder) (v : Option Kept) → is_some (left_by change h v) ≡ true → is_some v ≡ true
left_within change h None e = e
left_within change h (Some c) e = refl

left_held : (change : Change) (h : Holder) (v : Option Kept) → IsHeldAt (left_by change h v)
left_held change h None = λ there. cc
left_held change h (Some c) = held_if (changed_by change h c)

-- the process's list is a new one, and the others' are as they were
pub table_changed : (rs new : Rows) (ls ls' : Listed) (p : Pid) (change : Change) (ns ns' : BTreeSet Node) → IsTable rs ls → IsOrdered node_cmp new
    → ((q : Hold) → found new q ≡ cond (q.pid.0 == p.0) (left_by change (holder_of q) (found rs q)) (found rs q))
    → ((q : Hold) → (q.pid.0 == p.0) ≡ true → is_some (found new q) ≡ true → nodes.contains node_cmp ns' q.node ≡ true)
    → WritesThrough nat_cmp (nat_cmp p.0) ls ns' ls' → tree.get nat_cmp ls p.0 ≡ Some ns → IsTable new ls'
table_changed rs new ls ls' p change ns ns' t s is mine through there' = record {
  ordered = s;
  held = λ q there. subst IsHeldAt (sym (is q)) (held_or (q.pid.0 == p.0) (left_by change (holder_of q) (found rs q)) (found rs q) (left_held change (holder_of q) (found rs q)) (t.held q)) there;
  in_list = λ q there. by q there (q.pid.0 == p.0) refl;
}
  where
    lists : (n : ℕ) → tree.get nat_cmp ls' n ≡ cond (is_eq (nat_cmp p.0 n)) (Some ns') (tree.get nat_cmp ls n)
    lists = (through.3 (some_there (tree.get nat_cmp ls p.0) ns there')).0

    other : (a b : ℕ) → (a == b) ≡ false → is_eq (nat_cmp b a) ≡ false
    other a b e = grind (arith, nat_tests)

    own : (a b : ℕ) → (a == b) ≡ true → is_eq (nat_cmp b a) ≡ true
    own a b e = grind (arith, nat_tests)

    by : (q : Hold) → is_some (found new q) ≡ true → (b : Bool) → (q.pid.0 == p.0) ≡ b → is_listed ls' q.pid q.node ≡ true
    by q there true e =
        ap (λ o. is_among o q.node) (lists q.pid.0 ∙ ap (λ b. cond b (Some ns') (tree.get nat_cmp ls q.pid.0)) (own q.pid.0 p.0 e)) ∙ mine q e there
    by q there false e =
        ap (λ o. is_among o q.node) (lists q.pid.0 ∙ ap (λ b. cond b (Some ns') (tree.get nat_cmp ls q.pid.0)) (other q.pid.0 p.0 e))
        ∙ t.in_list q (sym (ap is_some (is q ∙ ap (λ b. cond b (left_by change (holder_of q) (found rs q)) (found rs q)) e)) ∙ there)

-- a hold that is found for the process is in its list
pub own_listed : (rs : Rows) (ls : Listed) (p : Pid) (ns : BTreeSet Node) → IsTable rs ls → tree.get nat_cmp ls p.0 ≡ Some ns → (q : Hold) → (q.pid.0 == p.0) ≡ true → is_some (found rs q) ≡ true → nodes.contains node_cmp ns q.node ≡ true
own_listed rs ls p ns t is q e there = sym (ap (λ n. is_among (tree.get nat_cmp ls n) q.node) (same_number q.pid.0 p.0 e) ∙ ap (λ o. is_among o q.node) is) ∙ t.in_list q there

-- ---- what stands against a lock
module _ (rs : Rows) (s : IsOrdered node_cmp rs) (p : Pid) (n : Node) (m : Mode) (o : Owner) where
  pub refused_by : (x : Hold) → IsFirstStop rs p m n x → refusing (holds_of rs) (hold p n m o) ≡ Some x
  unfolding conflicts
  refused_by x first = is_first (holds_of rs) (hold p n m o) x (record {
    is_there = ap is_some (get-holds_of rs s x) ∙ first.is_there;
    in_conflict = first.it_stops;
    none_before = λ y there c. first.none_before y (sym (ap is_some (get-holds_of rs s y)) ∙ there) c;
  })

  pub free_of : NoneStops rs p m n → refusing (holds_of rs) (hold p n m o) ≡ None
  unfolding conflicts
  free_of none = is_none (holds_of rs) (hold p n m o) (λ y there. none y (sym (ap is_some (get-holds_of rs s y)) ∙ there))

-- ---- what the calls use
pub kept_is : (rs : Rows) → IsOrdered node_cmp rs → (h : Hold) (o : Option Kept) → o ≡ found rs h → kept (holds_of rs) h ≡ unwrap_or o unheld
kept_is rs s h o is = ap (λ o. unwrap_or o unheld) (get-holds_of rs s h ∙ sym is)

pub there_is : (rs : Rows) → IsOrdered node_cmp rs → (h : Hold) → contains_key (holds_of rs) h ≡ true → is_some (found rs h) ≡ true
there_is rs s h there = sym (ap is_some (get-holds_of rs s h)) ∙ there

pub table_new : {A E : Type 0} (r : Result A E) (rs new : Rows) (ls : Listed) (n : Node) (h : Holder) (k : Keep) (c was : Kept) → c ≡ raised k was → IsTable rs ls → is_listed ls h.pid n ≡ true → IsOrdered node_cmp new
    → OnOk r ((q : Hold) → found new q ≡ cond (is_here n h q) (Some c) (found rs q)) → OnErr r ((q : Hold) → found new q ≡ found rs q) → IsTable new ls
table_new (Ok a) rs new ls n h k c was raise t listed s ok err = table_granted rs new ls n h k c was raise t listed s ok
table_new (Err e) rs new ls n h k c was raise t listed s ok err = table_same rs new ls t s err

pub on_ok : {A E P Q : Type 0} (r : Result A E) → (P → Q) → OnOk r P → OnOk r Q
on_ok (Ok a) f p = f p
on_ok (Err e) f p = tt

pub on_err : {A E P Q : Type 0} (r : Result A E) → (P → Q) → OnErr r P → OnErr r Q
on_err (Ok a) f p = tt
on_err (Err e) f p = f p

pub idle_back : (hs : Holds) (h : Hold) (in_tran : Bool) → is_counted (kept hs h) ≡ false → hs ≡ given_back hs h in_tran
unfolding given_back
idle_back hs h in_tran none = sym (ap (λ b. cond b (put hs h (one_back in_tran h (kept hs h))) hs) none)

pub one_given_back : (hs : Holds) (h : Hold) (in_tran : Bool) (c : Kept) → is_counted (kept hs h) ≡ true → c ≡ one_back in_tran h (kept hs h) → put hs h c ≡ given_back hs h in_tran
unfolding given_back
one_given_back hs h in_tran c counted is = ap (put hs h) is ∙ sym (ap (λ b. cond b (put hs h (one_back in_tran h (kept hs h))) hs) counted)
