use Rattle.std.proofs.Common.{◌+◌, ◌<◌, ◌∷◌, [], List, sym, subst, ◌∙◌, arith, length-append}
use Rattle.std.specs.List.{AllByRecursion}
use Rattle.oref_table.specs.declared.obj.Entry.{Entry}
use Rattle.oref_table.proofs.MakeAllLaws.{append-none, below-next, more-added}
use Rattle.oref_table.proofs.objects.Objects.add_all.Goals as goal

pub loop-new-init : goal.loop-new-init
loop-new-init c = (sym (append-none c.args.self.now), omega arith)

pub add_new-requires : goal.add_new-requires
add_new-requires c =
    subst (λ (es : List Entry). AllByRecursion (λ (e : Entry). e.number < c.loop-new.number + 1) es) (sym c.loop-new.invariant.0)
    (below-next c.args.last c.loop-new.number c.args.self.now c.loop-new.yielded c.loop-new.invariant.1 c.requires.above)

pub loop-new-preserved : goal.loop-new-preserved
loop-new-preserved c = (
  more-added c.args.last c.loop-new.number c.args.self.now c.loop-new.self c.add_new.new.self c.loop-new.yielded c.in-Some.new c.loop-new.invariant.1 c.loop-new.invariant.0 c.in-Ok.ensures.ok,
  omega (arith, c.loop-new.invariant.1, length-append c.loop-new.yielded (c.in-Some.new ∷ [])),
)

pub returns-in-Err-clause-err : goal.returns-in-Err-clause-err
returns-in-Err-clause-err c = c.take_back.ensures c.args.self.now c.loop-new.yielded (c.in-Err.ensures.err ∙ c.loop-new.invariant.0) c.loop-new.invariant.1 c.requires.held c.requires.above
