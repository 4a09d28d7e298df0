use Rattle.std.proofs.Common.{◌<◌, ℕ, length, get_or, cond, is_some, true, IsTrue, subst, ◌≡◌, not, sym, ap, ◌∙◌, None, arith}
use Rattle.std.specs.List.{remove}
use Rattle.std.specs.FinMap.{is_sorted}
use Rattle.obj_kinds.specs.declared.node.Node.{Node}
use Rattle.global_tree.specs.declared.place.Place.{Place}
use Rattle.global_tree.specs.Places.{IsLive, AllLive, IsTree}
use Rattle.global_tree.proofs.LiveLaws.{live_with}
use Rattle.obj_kinds.specs.Order.{node_cmp}
use Rattle.global_tree.proofs.Parts.{sorted-remove}
use Rattle.global_tree.proofs.Seen.{Places, without, no_value}
use Rattle.global_tree.proofs.place.remove_empty.Goals as goal
use Rattle.global_tree.proofs.place.remove_empty.Goals.{else-place-eq0-via-then-place-eq0+else-is_none, else-place-eq0-via-else-place-eq0}

pub returns-then-is_none-clause-tree : goal.returns-then-is_none-clause-tree
returns-then-is_none-clause-tree c = record {
  rising = rw c.remove.ensures.items (sorted-remove node_cmp c.args.places.now.items c.args.at (omega arith) c.requires.rising);
  live = rw c.remove.ensures.items c.requires.others;
}

-- a place that stays has a value or a pin
stays : (es : Places) (i : ℕ) (e : Node × Place) → i < length es → e ≡ get_or es i e → IsTrue (is_sorted node_cmp es) → AllLive (remove es i) → IsLive e.1 → IsTree es
stays es i e lt is rising others live = record { rising = rising; live = live_with es i e lt others (subst (λ (x : Node × Place). IsLive x.1) is live) }

pinned_live : (p : Place) → (p.pins ≡ 0 → ⊥) → IsLive p
pinned_live p no_pins = omega arith

valued_live : (p : Place) → is_some p.value ≡ true → IsLive p
valued_live p h = let one : cond {A = ℕ} (is_some p.value) 1 0 ≡ 1 = ap (λ b. cond {A = ℕ} b 1 0) h in omega arith

pub returns-else-place-eq0-clause-tree : goal.returns-else-place-eq0-clause-tree
returns-else-place-eq0-clause-tree c =
    let e = c.index.result.now in
    let live : IsLive e.1 = elim c.else-place-eq0.branch [
      | else-place-eq0-via-then-place-eq0+else-is_none w ↦ valued_live e.1 (w.is_none.ensures ∙ ap not w.if-is_none.false)
      | else-place-eq0-via-else-place-eq0 w ↦ pinned_live e.1 w.if-place-eq0.false
    ] in
    stays c.args.places.now.items c.args.at e (omega arith) c.index.ensures c.requires.rising c.requires.others live

pub returns-then-is_none-clause-same : goal.returns-then-is_none-clause-same
returns-then-is_none-clause-same c =
    let e = c.index.result.now in
    let none : e.1.value ≡ None = no_value e.1.value (ap not (c.is_none.ensures ∙ ap not c.if-is_none.true)) in
    rw c.remove.ensures.items (without c.args.places.now.items c.args.at e (omega arith) (ap (λ x. x.1.value) (sym c.index.ensures) ∙ none) (ap (λ x. x.1.pins) (sym c.index.ensures) ∙ c.if-place-eq0.true))
