-- The report of a run of one process.
use Rattle.std.specs.Prelude.{ℕ, List, ◌++◌, codes}
use Rattle.std.specs.FinMap.{entries}
use Rattle.global_dump.specs.Lines.{dump_of}
use Rattle.first_path.specs.Image.{image}
use Rattle.first_path.specs.declared.playing.Ending.{Ending}
use Rattle.first_path.specs.declared.playing.Ending.TheVariants.{Done, DeviceFault}

-- the line of the process
abbrev pub ending_line : Ending → List ℕ
ending_line Done = codes "1 Done\n"
ending_line DeviceFault = codes "1 DeviceFault\n"

-- that line, and the dump of the image of the world
unfoldable pub report_of : Ending → List ℕ → List (List (List ℕ)) → List ℕ
report_of ending class world = ending_line ending ++ dump_of (entries (image class world))
