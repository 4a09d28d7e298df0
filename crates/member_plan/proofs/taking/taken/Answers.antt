use Rattle.std.proofs.Common.{refl}
use Rattle.read_plan.specs.Reads.{tried_of}
use Rattle.member_plan.proofs.NextLaws.{key_taken, given_back}
use Rattle.member_plan.proofs.taking.taken.Goals as goal

pub returns-in_ok-member-in-AtKey-clause-ok : goal.returns-in_ok-member-in-AtKey-clause-ok
returns-in_ok-member-in-AtKey-clause-ok c =
    rw c.in-AtKey.is
    (key_taken c.args.schema.now c.args.call.now c.in-AtKey.is_locked c.told_at_key.result c.args.reply (tried_of c.in_ok-member-in-AtKey.member) c.in_ok-member-in-AtKey.ensures (c.told_at_key.ensures.left c.args.schema.now c.args.call.now))

pub returns-in-Unlocking-clause-ok : goal.returns-in-Unlocking-clause-ok
returns-in-Unlocking-clause-ok c = rw c.unlocked.ensures (given_back c.args.schema.now c.args.call.now c.args.phase.now c.args.reply (rw c.in-Unlocking.is refl))
