use Rattle.oref_cases.proofs.collections.take_member.Goals as goal

pub drop_member-requires-clause-live : goal.drop_member-requires-clause-live
drop_member-requires-clause-live c = c.is_member.ensures.live c.if-is_member.true
