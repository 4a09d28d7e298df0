use Rattle.std.proofs.Common.{OnOk, Result, Ok, Err}
use Rattle.save_looks.specs.Looks.{item_of}
use Rattle.save_looks.proofs.LookLaws.{read_taken, row_taken}
use Rattle.save_looks.proofs.taking.taken.Goals as goal

on_ok : {A E : Type 0} {P Q : Type 0} (r : Result A E) → (P → Q) → OnOk r P → OnOk r Q
on_ok (Ok a) f h = f h
on_ok (Err e) f h = h

pub returns-in-AtRow-clause-ok : goal.returns-in-AtRow-clause-ok
returns-in-AtRow-clause-ok c = rw c.in-AtRow.is (row_taken c.args.call.schema.now (item_of c.args.call.item.now) c.args.reply c.row_judged.result c.row_judged.ensures)

pub returns-in-Reading-clause-ok : goal.returns-in-Reading-clause-ok
returns-in-Reading-clause-ok c =
    rw c.in-Reading.is
    (on_ok c.take.result
    (read_taken c.read_call.result c.args.call.schema.now (item_of c.args.call.item.now) c.read_call.ensures.schema c.read_call.ensures.key c.read_call.ensures.wanted
    c.in-Reading.read c.take.new.self c.args.reply)
    c.take.ensures.ok)
