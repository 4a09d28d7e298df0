use Rattle.std.proofs.Common.{Err, ap}
use Rattle.host_top.proofs.job.class_of.Goals as goal

pub returns-in-Err-NotInForm-clause-refused : goal.returns-in-Err-NotInForm-clause-refused
returns-in-Err-NotInForm-clause-refused c = c.in-Err-NotInForm.ensures.refused (ap Err c.in-Err-NotInForm.field-0-is)
