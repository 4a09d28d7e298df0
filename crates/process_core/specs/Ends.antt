-- How a process of one script ends.
use Rattle.std.specs.Prelude.{None}
use Rattle.os_kinds.specs.declared.call.ScriptEnd.{ScriptEnd}
use Rattle.os_kinds.specs.declared.call.ScriptEnd.TheVariants as end
use Rattle.host_meaning.specs.declared.ending.Ending.{Ending}
use Rattle.host_meaning.specs.declared.ending.Ending.TheVariants as ending
use Rattle.store_core.specs.declared.refusal.ApplyError.{ApplyError}
use Rattle.store_core.specs.declared.refusal.ApplyError.TheVariants as refused
use Rattle.process_core.specs.declared.end.End.{End}
use Rattle.process_core.specs.declared.end.End.TheVariants as own

abbrev pub ending_by : End → Ending
ending_by own.Done = ending.Done
ending_by (own.Error name line) = ending.Error name None line
ending_by own.NoMemory = ending.NoMemory
ending_by own.Fuel = ending.Fuel
ending_by own.Volume = ending.Volume
ending_by own.DeviceFault = ending.DeviceFault

abbrev pub end_by : ScriptEnd → End
end_by (end.Done v) = own.Done
end_by end.Halt = own.Done
end_by (end.Error name line) = own.Error name line
end_by end.Fuel = own.Fuel

abbrev pub end_refused : ApplyError → End
end_refused refused.NoMemory = own.NoMemory
end_refused refused.Volume = own.Volume
