-- A change of all holds of a process, node by node of its list.
use Rattle.std.proofs.Common.{◌≡◌, ℕ, arith, Bool, true, false, cond, not, ◌&&◌, ◌||◌, ◌==◌, List, [], ◌∷◌, Option, is_some, refl, sym, ap, ◌∙◌}
use Rattle.std.specs.declared.cmp.Ordering.TheVariants.{Less}
use Rattle.std.specs.Ordering.{is_eq}
use Rattle.std.specs.List.{list_any, AllByRecursion, filter}
use Rattle.std.specs.List.Sorted.{IsStrictlySortedBy}
use Rattle.std.specs.Cmp.{eq_by_cmp_equiv}
use Rattle.std.specs.BTreeMap.{IsOrdered}
use Rattle.std.proofs.lemmas.Map.Keys.{sorted_head, sorted_tail}
use Rattle.std.proofs.lemmas.Map.Views.{any-filter_same}
use Rattle.std.proofs.lemmas.Bool.Decides.{nat_tests}
use Rattle.obj_kinds.specs.declared.op.Pid.{Pid}
use Rattle.obj_kinds.specs.declared.op.Mode.TheVariants.{Shared, Exclusive}
use Rattle.obj_kinds.specs.declared.op.Owner.TheVariants.{Script, Object}
use Rattle.obj_kinds.specs.declared.op.Mode.{Mode}
use Rattle.obj_kinds.specs.declared.op.Owner.{Owner}
use Rattle.obj_kinds.specs.declared.node.Node.{Node}
use Rattle.obj_kinds.specs.Order.{node_cmp}
use Rattle.obj_kinds.specs.OrderLaws.{node_total, node_exact}
use Rattle.lock_table.specs.declared.hold.Hold.{Hold}
use Rattle.lock_table.specs.declared.hold.Kept.{Kept}
use Rattle.lock_table.specs.declared.holder.Change.{Change}
use Rattle.lock_table.specs.Holders.{holder_of, hold_on, left_by}
use Rattle.lock_table.specs.Table.{Rows, found, is_of_process, holds_in_mode, holds_node}
use Rattle.lock_table.proofs.Found.{tie}

abbrev pub has : List Node → Node → Bool
has ks n = list_any (λ k. is_eq (node_cmp n k)) ks

-- the change is carried out at the nodes that are no longer left
pub record IsTurned (old new : Rows) (p : Pid) (change : Change) (all left : List Node) : Type 0 where
  pub at : (q : Hold) → found new q ≡ cond (q.pid.0 == p.0 && (has all q.node && not (has left q.node))) (left_by change (holder_of q) (found old q)) (found old q)
  pub sorted : IsStrictlySortedBy node_cmp left
  pub within : (n : Node) → has left n ≡ true → has all n ≡ true
  pub ordered : IsOrdered node_cmp new

pub turned_first : (old : Rows) (p : Pid) (change : Change) (all : List Node) → IsStrictlySortedBy node_cmp all → IsOrdered node_cmp old → IsTurned old old p change all all
turned_first old p change all sorted ordered = record {
  at = λ q. by (q.pid.0 == p.0) (has all q.node) (left_by change (holder_of q) (found old q)) (found old q);
  sorted = sorted;
  within = λ n h. h;
  ordered = ordered;
}
  where
    by : (a b : Bool) (v w : Option Kept) → w ≡ cond (a && (b && not b)) v w
    by true true v w = refl
    by true false v w = refl
    by false b v w = refl

none_after : (k n : Node) (ks : List Node) → AllByRecursion (λ y. node_cmp k y ≡ Less) ks → n ≡ k → has ks n ≡ false
none_after k n [] b is = refl
none_after k n (y ∷ ks) b is = ap (λ r. is_eq r || has ks n) (ap (λ x. node_cmp x y) is ∙ b.0) ∙ none_after k n ks b.1 is

pub turned_on : (old new newer : Rows) (p : Pid) (change : Change) (all : List Node) (k : Node) (rest : List Node) → IsTurned old new p change all (k ∷ rest)
    → ((q : Hold) → found newer q ≡ cond (is_of_process k p q) (left_by change (holder_of q) (found new q)) (found new q)) → IsOrdered node_cmp newer → IsTurned old newer p change all rest
turned_on old new newer p change all k rest t step ordered = record {
  at = at;
  sorted = sorted_tail node_cmp k rest t.sorted;
  within = λ n h. t.within n (or_second (is_eq (node_cmp n k)) (has rest n) h);
  ordered = ordered;
}
  where
    or_second : (a b : Bool) → b ≡ true → a || b ≡ true
    or_second true b e = refl
    or_second false b e = e

    at : (q : Hold) → found newer q ≡ cond (q.pid.0 == p.0 && (has all q.node && not (has rest q.node))) (left_by change (holder_of q) (found old q)) (found old q)
    at q = by (is_eq (node_cmp q.node k)) refl (q.pid.0 == p.0) (has rest q.node) refl (has all q.node) refl (t.at q) (step q ∙ ap (λ b. cond (b && q.pid.0 == p.0) (left_by change (holder_of q) (found new q)) (found new q)) ((eq_by_cmp_equiv node_total).symm k q.node))
      where
        by : (s : Bool) → is_eq (node_cmp q.node k) ≡ s → (own r : Bool) → has rest q.node ≡ r → (a : Bool) → has all q.node ≡ a
            → found new q ≡ cond (own && (a && not (s || r))) (left_by change (holder_of q) (found old q)) (found old q)
            → found newer q ≡ cond (s && own) (left_by change (holder_of q) (found new q)) (found new q)
            → found newer q ≡ cond (own && (a && not r)) (left_by change (holder_of q) (found old q)) (found old q)
        by true s own true r a e was is = cc (none_after k q.node rest (sorted_head node_cmp k rest t.sorted) (node_exact q.node k (tie _ s)), r)
        by true s true false r true e was is = is ∙ ap (left_by change (holder_of q)) was
        by true s true false r false e was is = cc (t.within q.node (ap (λ b. b || has rest q.node) s), e)
        by true s false false r true e was is = is ∙ was
        by true s false false r false e was is = is ∙ was
        by false s own r h a e was is = is ∙ was

pub turned_last : (old new : Rows) (p : Pid) (change : Change) (all left : List Node) → IsTurned old new p change all left → left ≡ [] → (q : Hold)
    → found new q ≡ cond (q.pid.0 == p.0 && has all q.node) (left_by change (holder_of q) (found old q)) (found old q)
turned_last old new p change all left t none q =
    t.at q ∙ ap (λ l. cond (q.pid.0 == p.0 && (has all q.node && not (has l q.node))) (left_by change (holder_of q) (found old q)) (found old q)) none
    ∙ ap (λ b. cond (q.pid.0 == p.0 && b) (left_by change (holder_of q) (found old q)) (found old q)) (and_true (has all q.node))
  where
    and_true : (b : Bool) → (b && true) ≡ b
    and_true true = refl
    and_true false = refl

-- what a test leaves
pub has_filter : (test : Node → Bool) (n : Node) (ks : List Node) → has (filter test ks) n ≡ (test n && has ks n)
has_filter test n ks = any-filter_same (λ k. is_eq (node_cmp n k)) test (test n) (λ k t. ap test (sym (node_exact n k (tie _ t)))) ks

pub same_number : (a b : ℕ) → (a == b) ≡ true → a ≡ b
same_number a b e = grind (arith, nat_tests)

-- a hold that is found makes its process hold the node
pub held_node : (rows : Rows) (p : Pid) (q : Hold) → (q.pid.0 == p.0) ≡ true → is_some (found rows q) ≡ true → holds_node rows q.node p ≡ true
held_node rows p q own there = by q.mode q.owner refl refl
  where
    or_true : (b : Bool) → b || true ≡ true
    or_true true = refl
    or_true false = refl

    first_or : (a b : Bool) → (a || true) || b ≡ true
    first_or true b = refl
    first_or false b = refl

    last_or : (a b : Bool) → a || (b || true) ≡ true
    last_or true b = refl
    last_or false true = refl
    last_or false false = refl

    same : q.pid ≡ p
    same = let e = same_number q.pid.0 p.0 own in λ i. record { 0 = e i }

    there_as : (m : Mode) (o : Owner) → q.mode ≡ m → q.owner ≡ o → is_some (found rows (hold_on q.node (record { pid = p; mode = m; owner = o }))) ≡ true
    there_as m o em eo = ap (λ x. is_some (found rows x)) (λ i. record { node = q.node; pid = sym same i; mode = sym em i; owner = sym eo i }) ∙ there

    by : (m : Mode) (o : Owner) → q.mode ≡ m → q.owner ≡ o → holds_node rows q.node p ≡ true
    by Shared Script em eo = rw (there_as Shared Script em eo) refl
    by Shared Object em eo = ap (λ b. (is_some (found rows (hold_on q.node (record { pid = p; mode = Shared; owner = Script }))) || b) || holds_in_mode rows q.node p Exclusive) (there_as Shared Object em eo) ∙ first_or _ _
    by Exclusive Script em eo = ap (λ b. holds_in_mode rows q.node p Shared || (b || is_some (found rows (hold_on q.node (record { pid = p; mode = Exclusive; owner = Object }))))) (there_as Exclusive Script em eo) ∙ or_true _
    by Exclusive Object em eo = ap (λ b. holds_in_mode rows q.node p Shared || (is_some (found rows (hold_on q.node (record { pid = p; mode = Exclusive; owner = Script }))) || b)) (there_as Exclusive Object em eo) ∙ last_or _ _
