use Rattle.std.proofs.Common.{◌≡◌, ℕ, ◌+◌, ◌≤◌, List, ◌++◌, ap, sym, subst, arith, length, vec_capacity}
use Rattle.oref_table.specs.declared.obj.Freed.{Freed}
use Rattle.oref_table.specs.Memory.{Memory, loosed, outside_of}
use Rattle.oref_table.specs.Entries.{refs_all}
use Rattle.oref_table.specs.Refs.{times}
use Rattle.oref_table.specs.Making.{new_entries, refs_of_new, with_all}
use Rattle.oref_table.specs.Stands.{memory_of}
use Rattle.oref_table.proofs.MakeLaws.{IsMade, made-along, some-iff, below-next}
use Rattle.oref_table.proofs.MakeAllLaws.{make-all}
use Rattle.oref_table.proofs.table.Table.make_all.Goals as goal
use Rattle.oref_table.proofs.table.Table.make_all.Goals.{After-add_all}

pub add_all-requires-clause-above : goal.add_all-requires-clause-above
add_all-requires-clause-above c = below-next 0 c.self.inside.last (refs_all c.self.inside.objects) c.self.inside.objects c.self.invariant.sound.rising

made : (c : goal.After-self-1) → IsMade (loosed (with_all c.args.self.now c.args.news.items) (refs_of_new c.args.news.items)) c.add_all.new.self c.in_ok-last.last c.make_room.new.released.items (vec_capacity c.make_room.new.released)
made c =
    let m : Memory = memory_of c.self.inside.objects c.self.inside.last c.self.inside.released.items in
    let sum : c.in_ok-last.last ≡ c.self.inside.last + c.len.result = some-iff c.checked_add.result _ (c.self.inside.last + c.len.result) c.in_ok-last.last c.checked_add.ensures c.in_ok-last.ensures.ok_part in
    let last : c.in_ok-last.last ≡ c.self.inside.last + length c.args.news.items = omega (arith, sum, c.len.ensures) in
    let enough : (n : ℕ) → times n (refs_of_new c.args.news.items) ≤ outside_of (with_all m c.args.news.items) n
    = subst (λ (x : Memory). (n : ℕ) → times n (refs_of_new c.args.news.items) ≤ outside_of (with_all x c.args.news.items) n) (sym c.self.view_is) c.requires in
    let room : length c.self.inside.objects + length c.args.news.items + length c.self.inside.released.items ≤ vec_capacity c.make_room.new.released
    = omega (arith, c.in_ok-make_room.ensures.telling, c.len-2.ensures, ap (λ (xs : List Freed). length xs) c.in_ok-make_room.ensures.released) in
    made-along
    (loosed (with_all m c.args.news.items) (refs_of_new c.args.news.items))
    (loosed (with_all c.args.self.now c.args.news.items) (refs_of_new c.args.news.items))
    (c.self.inside.objects ++ new_entries c.self.inside.last c.args.news.items)
    c.add_all.new.self
    (c.self.inside.last + length c.args.news.items) c.in_ok-last.last c.self.inside.released.items c.make_room.new.released.items (vec_capacity c.make_room.new.released)
    (ap (λ (x : Memory). loosed (with_all x c.args.news.items) (refs_of_new c.args.news.items)) c.self.view_is)
    (sym c.in_ok-add_all.ensures.ok)
    (sym last) (sym c.in_ok-make_room.ensures.released)
    (make-all c.self.inside.objects c.self.inside.last c.self.inside.released.items (vec_capacity c.self.inside.released) (vec_capacity c.make_room.new.released) c.args.news.items c.self.invariant enough room)

pub invariant_of-self-2 : goal.invariant_of-self-2
invariant_of-self-2 c = (made c).stands

pub returns-clause-ok : goal.returns-clause-ok
returns-clause-ok c = (made c).is
