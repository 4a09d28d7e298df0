use Rattle.oref_table.proofs.MakeAllLaws.{back-end, back-more}
use Rattle.oref_table.proofs.objects.Objects.take_back.Goals as goal

pub loop-left-init : goal.loop-left-init
loop-left-init c = λ es news is number held below. (news, is, number)

pub loop-left-preserved : goal.loop-left-preserved
loop-left-preserved c = λ es news is number held below.
    back-more c.args.last c.loop-left.left es c.loop-left.self c.take_last.new.self c.loop-left-test.true (c.loop-left.invariant es news is number held below) held below c.take_last.ensures

pub returns : goal.returns
returns c = λ es news is number held below. back-end c.args.last c.loop-left.left es c.loop-left.self c.loop-left-test.false (c.loop-left.invariant es news is number held below)
