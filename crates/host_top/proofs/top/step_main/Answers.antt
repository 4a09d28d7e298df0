use Rattle.host_top.proofs.VerdictLaws.{says_status, comes_status}
use Rattle.host_top.proofs.top.step_main.Goals as goal

pub returns-clause-says : goal.returns-clause-says
returns-clause-says g c = says_status _ _ _ _ _ _ _ _ c.status-status.ensures c.conduct.ensures

pub returns-clause-comes : goal.returns-clause-comes
returns-clause-comes g c = comes_status _ g.D.Device.bytes g.D.Device.faults _ _ _ _ _ c.status-status.ensures c.conduct.ensures
