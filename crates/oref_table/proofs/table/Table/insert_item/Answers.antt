use Rattle.std.proofs.Common.{ℕ, ◌≡◌, ◌-◌, None, List, ap, sym, subst, ◌∙◌, insert, slice_set, vec_capacity, OnOk}
use Rattle.oref_table.specs.declared.obj.Entry.{Entry}
use Rattle.oref_table.specs.Memory.{Memory, IsLive}
use Rattle.oref_table.specs.Exchanges.{HasItemsAt}
use Rattle.oref_table.specs.Stands.{memory_of, IsTable}
use Rattle.oref_table.specs.Filling.{IsHeldFor, HasItems, InsertsItem}
use Rattle.oref_table.proofs.InsertLaws.{slots-of, inserts-item}
use Rattle.oref_table.proofs.OutsideLaws.{inserted-holds}
use Rattle.oref_table.specs.Memory.{outside_of}
use Rattle.oref_table.specs.Refs.{times}
use Rattle.oref_table.specs.Filling.{passed, slot_from}
use Rattle.oref_table.specs.declared.slot.Slot.TheVariants.{Items}
use Rattle.oref_table.proofs.table.Table.insert_item.Goals as goal
use Rattle.oref_table.proofs.table.Table.insert_item.Goals.{in-None, in-Some}

pub insert_item-requires : goal.insert_item-requires
insert_item-requires c =
    slots-of (HasItemsAt c.args.slot c.args.before) c.self.inside.objects c.args.oref.0 (subst (λ (m : Memory). IsLive m c.args.oref.0) (sym c.self.view_is) c.requires.live) (subst (λ (m : Memory). HasItems m c.args.oref.0 c.args.slot c.args.before) (sym c.self.view_is) c.requires.there)

added : (c : goal.Joined-insert_item) → c.insert_item.result ≡ None → InsertsItem (memory_of c.self.inside.objects c.self.inside.last c.self.inside.released.items) (memory_of c.insert_item.new.self c.self.inside.last c.self.inside.released.items) c.args.oref.0 c.args.slot c.args.before c.args.with × IsTable c.insert_item.new.self c.self.inside.last c.self.inside.released.items (vec_capacity c.self.inside.released)
added c e =
    inserts-item c.self.inside.objects c.self.inside.last c.self.inside.released.items c.args.oref.0 (vec_capacity c.self.inside.released) c.args.slot c.args.before c.args.with c.slot_of.result c.insert_item.new.self c.self.invariant
    (subst (λ (m : Memory). IsHeldFor m c.args.with) (sym c.self.view_is) c.requires.held) c.slot_of.ensures (c.insert_item.ensures.added e)

pub invariant_of-self : goal.invariant_of-self
invariant_of-self c = elim c.match-insert_item.branch [
  | in-None w ↦ (added c w.in-None.is).1
  | in-Some w ↦ subst (λ (xs : List Entry). IsTable xs c.self.inside.last c.self.inside.released.items (vec_capacity c.self.inside.released)) (sym (c.insert_item.ensures.refused w.in-Some.item w.in-Some.is).1) c.self.invariant
]

pub returns-clause-ok : goal.returns-clause-ok
returns-clause-ok c = elim c.match-insert_item.branch [
  | in-None w ↦ subst (λ r. OnOk r (InsertsItem c.args.self.now (memory_of c.insert_item.new.self c.self.inside.last c.self.inside.released.items) c.args.oref.0 c.args.slot c.args.before c.args.with)) (sym w.result-is)
      (subst (λ (m : Memory). InsertsItem m (memory_of c.insert_item.new.self c.self.inside.last c.self.inside.released.items) c.args.oref.0 c.args.slot c.args.before c.args.with) c.self.view_is (added c w.in-None.is).0)
  | in-Some w ↦ subst (λ r. OnOk r (InsertsItem c.args.self.now (memory_of c.insert_item.new.self c.self.inside.last c.self.inside.released.items) c.args.oref.0 c.args.slot c.args.before c.args.with)) (sym w.result-is) tt
]

holds : (c : goal.Joined-insert_item) → c.insert_item.result ≡ None → (k : ℕ) → outside_of (memory_of c.insert_item.new.self c.self.inside.last c.self.inside.released.items) k ≡ outside_of c.args.self.now k - times k (passed c.args.with)
holds c e k =
    let a = (added c e).0 in
    ap (λ (w : Memory). outside_of w k) a.4
    ∙ inserted-holds (memory_of c.self.inside.objects c.self.inside.last c.self.inside.released.items) c.args.oref.0 (λ slots. slice_set slots c.args.slot (Items (insert a.1 c.args.before (slot_from c.args.with)))) (passed c.args.with) k
    ∙ ap (λ (m : Memory). outside_of m k - times k (passed c.args.with)) c.self.view_is

pub returns-clause-holds : goal.returns-clause-holds
returns-clause-holds c = elim c.match-insert_item.branch [
  | in-None w ↦ subst (λ r. OnOk r ((k : ℕ) → outside_of (memory_of c.insert_item.new.self c.self.inside.last c.self.inside.released.items) k ≡ outside_of c.args.self.now k - times k (passed c.args.with))) (sym w.result-is) (holds c w.in-None.is)
  | in-Some w ↦ subst (λ r. OnOk r ((k : ℕ) → outside_of (memory_of c.insert_item.new.self c.self.inside.last c.self.inside.released.items) k ≡ outside_of c.args.self.now k - times k (passed c.args.with))) (sym w.result-is) tt
]
