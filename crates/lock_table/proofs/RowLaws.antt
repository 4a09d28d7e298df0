-- What a change of one row does to the holds that are found.
use Rattle.std.proofs.Common.{◌≡◌, ℕ, Bool, true, false, cond, ◌&&◌, ◌==◌, List, [], ◌∷◌, length, Option, Some, None, is_some, refl, sym, ap, ◌∙◌, arith}
use Rattle.std.specs.declared.cmp.Ordering.{Ordering}
use Rattle.std.specs.declared.cmp.Ordering.TheVariants.{Less, Equal, Greater}
use Rattle.std.specs.Ordering.{is_eq, nat_cmp, ordering_then}
use Rattle.std.specs.BTreeMap.{get, WritesThrough}
use Rattle.std.specs.Map.{lookup}
use Rattle.std.specs.Option.{IsSome}
use Rattle.std.specs.declared.result.Result.{Result}
use Rattle.std.specs.declared.result.Result.TheVariants.{Ok, Err}
use Rattle.std.specs.Result.{OnErr}
use Rattle.std.proofs.lemmas.Bool.Decides.{nat_tests}
use Rattle.std.specs.FinMap.{IsAntisymmetric, nat_cmp-IsAntisymmetric}
use Rattle.obj_kinds.specs.declared.op.Pid.{Pid}
use Rattle.obj_kinds.specs.declared.op.Mode.{Mode}
use Rattle.obj_kinds.specs.declared.op.Mode.TheVariants.{Shared, Exclusive}
use Rattle.obj_kinds.specs.declared.op.Owner.{Owner}
use Rattle.obj_kinds.specs.declared.op.Owner.TheVariants.{Script, Object}
use Rattle.obj_kinds.specs.declared.node.Node.{Node}
use Rattle.obj_kinds.specs.Order.{node_cmp}
use Rattle.obj_kinds.specs.OrderLaws.{node_exact}
use Rattle.lock_table.specs.declared.hold.Hold.{Hold}
use Rattle.lock_table.specs.declared.hold.Kept.{Kept}
use Rattle.lock_table.specs.declared.holder.Holder.{Holder}
use Rattle.lock_table.specs.declared.holder.Change.{Change}
use Rattle.lock_table.specs.Holds.{mode_rank, owner_rank}
use Rattle.lock_table.specs.Holders.{holder_cmp, holder_of, hold_on, some_held, changed_by, left_by}
use Rattle.lock_table.specs.Table.{Holders, Rows, found_among, found, is_here, is_in_mode, is_of_process}
use Rattle.lock_table.proofs.HoldOrder.{same_mode, same_owner, both_equal}

tie : (r : Ordering) → is_eq r ≡ true → r ≡ Equal
tie Less h = cc
tie Equal h = refl
tie Greater h = cc

both : (a b : Bool) → a && b ≡ true → (a ≡ true) × (b ≡ true)
both true b h = (refl, h)
both false b h = cc

pub holder_exact : IsAntisymmetric holder_cmp
unfolding holder_cmp
holder_exact a b e =
    let p = both_equal (nat_cmp a.pid.0 b.pid.0) _ e in
    let m = both_equal (nat_cmp (mode_rank a.mode) (mode_rank b.mode)) _ p.1 in
    let ep = nat_cmp-IsAntisymmetric a.pid.0 b.pid.0 p.0 in
    let em = same_mode a.mode b.mode (nat_cmp-IsAntisymmetric (mode_rank a.mode) (mode_rank b.mode) m.0) in
    let eo = same_owner a.owner b.owner (nat_cmp-IsAntisymmetric (owner_rank a.owner) (owner_rank b.owner) m.1) in
    λ i. record { pid = record { 0 = ep i }; mode = em i; owner = eo i }

-- ---- which hold is meant
pub here_is : (n : Node) (h : Holder) (q : Hold) → is_here n h q ≡ true → q ≡ hold_on n h
here_is n h q e =
    let parts = both (is_eq (node_cmp n q.node)) (is_eq (holder_cmp h (holder_of q))) e in
    let en = sym (node_exact n q.node (tie _ parts.0)) in
    let eh = sym (holder_exact h (holder_of q) (tie _ parts.1)) in
    λ i. record { node = en i; pid = (eh i).pid; mode = (eh i).mode; owner = (eh i).owner }

pub eq_then : (a b : Ordering) → is_eq (ordering_then a b) ≡ (is_eq a && is_eq b)
eq_then Less b = refl
eq_then Equal b = refl
eq_then Greater b = refl

eq_nat : (a b : ℕ) → is_eq (nat_cmp a b) ≡ (b == a)
eq_nat a b = grind (arith, nat_tests)

and_regroup : (a b c d : Bool) → (a && (b && (c && d))) ≡ (((a && b) && c) && d)
and_regroup true true c d = refl
and_regroup true false c d = refl
and_regroup false b c d = refl

pub here_splits : (n : Node) (p : Pid) (m : Mode) (o : Owner) (q : Hold) → is_here n (record { pid = p; mode = m; owner = o }) q ≡ (is_in_mode n p m q && owner_rank q.owner == owner_rank o)
unfolding holder_cmp
here_splits n p m o q =
    let l = eq_then (nat_cmp p.0 q.pid.0) (ordering_then (nat_cmp (mode_rank m) (mode_rank q.mode)) (nat_cmp (owner_rank o) (owner_rank q.owner))) in
    let k = eq_then (nat_cmp (mode_rank m) (mode_rank q.mode)) (nat_cmp (owner_rank o) (owner_rank q.owner)) in
    ap (λ b. is_eq (node_cmp n q.node) && b) (l ∙ ap (λ b. is_eq (nat_cmp p.0 q.pid.0) && b) k)
    ∙ rw (eq_nat p.0 q.pid.0, eq_nat (mode_rank m) (mode_rank q.mode), eq_nat (owner_rank o) (owner_rank q.owner)) (and_regroup (is_eq (node_cmp n q.node)) (q.pid.0 == p.0) (mode_rank q.mode == mode_rank m) (owner_rank q.owner == owner_rank o))

-- ---- one row
module _ (rows new : Rows) (n : Node) where
  pub found_put : (h : Holder) (m : Holders) (v : Option Kept) → ((q : Holder) → get holder_cmp m q ≡ cond (is_eq (holder_cmp h q)) v (found_among (get node_cmp rows n) q))
      → ((q : Node) → get node_cmp new q ≡ cond (is_eq (node_cmp n q)) (Some m) (get node_cmp rows q)) → (q : Hold) → found new q ≡ cond (is_here n h q) v (found rows q)
  found_put h m v row rest q = ap (λ o. found_among o (holder_of q)) (rest q.node) ∙ by (is_eq (node_cmp n q.node)) refl
    where
      by : (b : Bool) → is_eq (node_cmp n q.node) ≡ b → found_among (cond b (Some m) (get node_cmp rows q.node)) (holder_of q) ≡ cond (b && is_eq (holder_cmp h (holder_of q))) v (found rows q)
      by true e = row (holder_of q) ∙ ap (λ k. cond (is_eq (holder_cmp h (holder_of q))) v (found_among (get node_cmp rows k) (holder_of q))) (node_exact n q.node (tie _ e))
      by false e = refl

  -- a row without a holder doesn't matter
  pub found_tidy : ((q : Holder) → found_among (get node_cmp rows n) q ≡ None)
      → ((q : Node) → get node_cmp new q ≡ cond (is_eq (node_cmp n q)) None (get node_cmp rows q)) → (q : Hold) → found new q ≡ found rows q
  found_tidy idle rest q = ap (λ o. found_among o (holder_of q)) (rest q.node) ∙ by (is_eq (node_cmp n q.node)) refl
    where
      by : (b : Bool) → is_eq (node_cmp n q.node) ≡ b → found_among (cond b None (get node_cmp rows q.node)) (holder_of q) ≡ found rows q
      by true e = sym (ap (λ k. found_among (get node_cmp rows k) (holder_of q)) (sym (node_exact n q.node (tie _ e))) ∙ idle (holder_of q))
      by false e = refl

  -- a change at one hold
  pub change_none : (h : Holder) (change : Change) → found rows (hold_on n h) ≡ None → (q : Hold) → found rows q ≡ cond (is_here n h q) (left_by change (holder_of q) (found rows q)) (found rows q)
  change_none h change none q = by (is_here n h q) refl
    where
      by : (b : Bool) → is_here n h q ≡ b → found rows q ≡ cond b (left_by change (holder_of q) (found rows q)) (found rows q)
      by true e = let is = ap (found rows) (here_is n h q e) ∙ none in is ∙ sym (ap (left_by change (holder_of q)) is)
      by false e = refl

  pub change_some : (h : Holder) (change : Change) (c : Kept) → found rows (hold_on n h) ≡ Some c → ((q : Hold) → found new q ≡ cond (is_here n h q) (some_held (changed_by change h c)) (found rows q))
      → (q : Hold) → found new q ≡ cond (is_here n h q) (left_by change (holder_of q) (found rows q)) (found rows q)
  change_some h change c there put q = put q ∙ by (is_here n h q) refl
    where
      by : (b : Bool) → is_here n h q ≡ b → cond b (some_held (changed_by change h c)) (found rows q) ≡ cond b (left_by change (holder_of q) (found rows q)) (found rows q)
      by true e =
          let is = here_is n h q e in
          sym (ap (λ x. left_by change (holder_of x) (found rows x)) is ∙ ap (left_by change h) there)
      by false e = refl

-- ---- one after the other
module _ (n : Node) (p : Pid) (change : Change) (q : Hold) where
  abbrev L : Option Kept → Option Kept
  L = left_by change (holder_of q)

  pub by_owners : (m : Mode) (f g k : Option Kept)
      → g ≡ cond (is_here n (record { pid = p; mode = m; owner = Script }) q) (L f) f
      → k ≡ cond (is_here n (record { pid = p; mode = m; owner = Object }) q) (L g) g
      → k ≡ cond (is_in_mode n p m q) (L f) f
  by_owners m f g k one other = by (is_in_mode n p m q) q.owner (one ∙ ap (λ b. cond b (L f) f) (here_splits n p m Script q)) (other ∙ ap (λ b. cond b (L g) g) (here_splits n p m Object q))
    where
      by : (a : Bool) (o : Owner) → g ≡ cond (a && owner_rank o == 0) (L f) f → k ≡ cond (a && owner_rank o == 1) (L g) g → k ≡ cond a (L f) f
      by true Script e e' = e' ∙ e
      by true Object e e' = e' ∙ ap L e
      by false Script e e' = e' ∙ e
      by false Object e e' = e' ∙ e

  pub by_modes : (f g k : Option Kept) → g ≡ cond (is_in_mode n p Shared q) (L f) f → k ≡ cond (is_in_mode n p Exclusive q) (L g) g → k ≡ cond (is_of_process n p q) (L f) f
  by_modes f g k one other = by (is_of_process n p q) q.mode one other
    where
      by : (a : Bool) (m : Mode) → g ≡ cond (a && mode_rank m == 0) (L f) f → k ≡ cond (a && mode_rank m == 1) (L g) g → k ≡ cond a (L f) f
      by true Shared e e' = e' ∙ e
      by true Exclusive e e' = e' ∙ ap L e
      by false Shared e e' = e' ∙ e
      by false Exclusive e e' = e' ∙ e

-- a process that isn't found by any owner doesn't hold the node in the mode
pub none_in_mode : (rows : Rows) (n : Node) (p : Pid) (m : Mode) → found rows (hold_on n (record { pid = p; mode = m; owner = Script })) ≡ None → found rows (hold_on n (record { pid = p; mode = m; owner = Object })) ≡ None
    → (q : Hold) → is_in_mode n p m q ≡ true → found rows q ≡ None
none_in_mode rows n p m script object q e = by q.owner refl
  where
    by : (o : Owner) → q.owner ≡ o → found rows q ≡ None
    by Script is = ap (found rows) (here_is n _ q (here_splits n p m Script q ∙ ap (λ b. b && owner_rank q.owner == 0) e ∙ ap (λ o. owner_rank o == 0) is)) ∙ script
    by Object is = ap (found rows) (here_is n _ q (here_splits n p m Object q ∙ ap (λ b. b && owner_rank q.owner == 1) e ∙ ap (λ o. owner_rank o == 1) is)) ∙ object

-- ---- a row that was lent
pub some_there : {X : Type 0} (o : Option X) (x : X) → o ≡ Some x → IsSome o
some_there None x e = cc
some_there (Some y) x e = refl

pub lent_put : (rows new : Rows) (n : Node) (h : Holder) (m w : Holders) (v : Option Kept) → WritesThrough node_cmp (node_cmp n) rows w new → get node_cmp rows n ≡ Some m
    → ((q : Holder) → get holder_cmp w q ≡ cond (is_eq (holder_cmp h q)) v (get holder_cmp m q)) → (q : Hold) → found new q ≡ cond (is_here n h q) v (found rows q)
lent_put rows new n h m w v through there row =
    found_put rows new n h w v (λ q. row q ∙ ap (λ o. cond (is_eq (holder_cmp h q)) v (found_among o q)) (sym there)) ((through.3 (some_there _ m there)).0)

-- lent, and left as it was
pub lent_same : (rows new : Rows) (n : Node) (m w : Holders) → WritesThrough node_cmp (node_cmp n) rows w new → get node_cmp rows n ≡ Some m → w.entries ≡ m.entries → (q : Hold) → found new q ≡ found rows q
lent_same rows new n m w through there same q =
    ap (λ o. found_among o (holder_of q)) ((through.3 (some_there _ m there)).0 q.node) ∙ by (is_eq (node_cmp n q.node)) refl
  where
    by : (b : Bool) → is_eq (node_cmp n q.node) ≡ b → found_among (cond b (Some w) (get node_cmp rows q.node)) (holder_of q) ≡ found rows q
    by true e =
        ap (λ es. lookup (λ k. is_eq (holder_cmp (holder_of q) k)) es) same
        ∙ ap (λ o. found_among o (holder_of q)) (sym there)
        ∙ ap (λ k. found_among (get node_cmp rows k) (holder_of q)) (node_exact n q.node (tie _ e))
    by false e = refl

pub not_some : {X : Type 0} (o : Option X) → is_some o ≡ false → o ≡ None
not_some None e = refl
not_some (Some x) e = cc

pub empty_row : (o : Option Holders) (m : Holders) (q : Holder) → o ≡ Some m → length m.entries ≡ 0 → found_among o q ≡ None
empty_row o m q is none = ap (λ o. found_among o q) is ∙ by m.entries none
  where
    by : (es : List (Holder × Kept)) → length es ≡ 0 → lookup (λ k. is_eq (holder_cmp q k)) es ≡ None
    by [] e = refl
    by (x ∷ es) e = absurd (omega arith)

pub err_then : {A E : Type 0} {P : Type 0} (r : Result A E) → P → OnErr r P
err_then (Ok a) p = tt
err_then (Err e) p = p

pub new_row : (o : Option Holders) (m : Holders) (q : Holder) → o ≡ None → m.entries ≡ [] → get holder_cmp m q ≡ found_among o q
new_row o m q is none = ap (λ es. lookup (λ k. is_eq (holder_cmp q k)) es) none ∙ sym (ap (λ o. found_among o q) is)
