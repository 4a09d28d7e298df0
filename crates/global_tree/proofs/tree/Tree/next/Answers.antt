use Rattle.std.proofs.Common.{◌≡◌, ℕ, ◌≤◌, ◌-◌, List, take, length-drop, length, Bor, rules, not, sym, ap, ◌∙◌, drop, Option, Some, None, IfSome, IfNone}
use Rattle.std.specs.Option.{option_copied}
use Rattle.std.proofs.Math.Seq.{take-length}
use Rattle.std.proofs.lemmas.List.Sorted.{IsPartitionPoint-from_clause}
use Rattle.obj_kinds.specs.declared.sub.Sub.{Sub}
use Rattle.obj_kinds.specs.declared.node.Node.{Node}
use Rattle.global_tree.specs.Contents.{Globals}
use Rattle.global_tree.specs.Below.{is_beyond, next_below, IsNext, IsLast}
use Rattle.global_tree.specs.FirstStep.{first_step}
use Rattle.global_tree.proofs.Seen.{entries_seen}
use Rattle.global_tree.proofs.NextLaws.{parted, from_start, next_seen, is_next, is_last}
use Rattle.global_tree.proofs.tree.Tree.next.Goals as goal

open_end : {A : Type 0} (xs : List A) (i : ℕ) → take (length xs - i) (drop i xs) ≡ drop i xs
open_end xs i = ap (λ n. take n (drop i xs)) (sym (length-drop i xs)) ∙ take-length (drop i xs)

-- the search ends at the first place that is beyond
next_is : (c : goal.After-first_step) → option_copied c.first_step.result ≡ next_below c.args.self.now.globals c.args.node.now (option_copied c.args.after)
next_is c =
    let places = c.self.inside.places.items in
    let node = c.args.node.now in
    let after = option_copied c.args.after in
    let start = c.partition_point-start.result in
    let parts = IsPartitionPoint-from_clause (λ e. not (is_beyond node after e.0)) places start (rw c.as_slice-places.ensures.value at c.partition_point-start.ensures.partitioned) (parted node after places c.self.invariant.rising) (λ a r h called. search rules) in
    let within : start ≤ length places = rw (← c.as_slice-places.ensures.value) c.partition_point-start.ensures.bound in
    let found = from_start node after places start c.self.invariant.rising within parts.0 parts.1 in
    let seen = next_seen c.args.self.now.globals node after places (entries_seen places _ (record { rising = c.self.invariant.rising; as_is = c.self.view_is })) in
    c.first_step.ensures ∙ ap (first_step node) (open_end c.as_slice-places.result.now start ∙ ap (drop start) c.as_slice-places.ensures.value) ∙ found ∙ seen

least_is : (g : Globals) (n : Node) (after : Option Sub) (r : Option (Bor Sub)) → option_copied r ≡ next_below g n after → IfSome r (λ s. IsNext g n after s.now)
least_is g n after None e = tt
least_is g n after (Some s) e = is_next g n after s.now (sym e)

last_is : (g : Globals) (n : Node) (after : Option Sub) (r : Option (Bor Sub)) → option_copied r ≡ next_below g n after → IfNone r (IsLast g n after)
last_is g n after None e = is_last g n after (sym e)
last_is g n after (Some s) e = tt

pub returns-clause-next : goal.returns-clause-next
returns-clause-next c = next_is c

pub returns-clause-least : goal.returns-clause-least
returns-clause-least c = least_is c.args.self.now.globals c.args.node.now (option_copied c.args.after) c.first_step.result (next_is c)

pub returns-clause-none : goal.returns-clause-none
returns-clause-none c = last_is c.args.self.now.globals c.args.node.now (option_copied c.args.after) c.first_step.result (next_is c)
