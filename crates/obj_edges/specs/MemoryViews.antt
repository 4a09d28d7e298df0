-- What the implementations in memory show.
use Rattle.std.specs.Prelude.{◌≡◌, ℕ, List, []}
use Rattle.obj_edges.specs.declared.files.MemFiles.{MemFiles}
use Rattle.obj_edges.specs.declared.memory.Room.{Room}
use Rattle.obj_edges.specs.declared.memory.MemSink.{MemSink}
use Rattle.obj_edges.specs.declared.memory.MemDevice.{MemDevice}

-- nothing was put yet into so much room; the calls with these numbers are to fail
pub record IsFreshRoom (r : Room) (len : ℕ) (failing : List ℕ) : Type 0 where
  pub bytes : r.bytes.items ≡ []
  pub len_is : r.len ≡ len
  pub failing_are : r.failing ≡ failing
  pub calls : r.calls ≡ 0
  pub faults : r.faults ≡ 0

abbrev pub IsFreshSink : MemSink → ℕ → List ℕ → Type 0
IsFreshSink s len failing = IsFreshRoom s.room len failing

abbrev pub IsFreshDevice : MemDevice → ℕ → List ℕ → Type 0
IsFreshDevice d len failing = IsFreshRoom d.room len failing

abbrev pub sink_bytes : MemSink → List ℕ
sink_bytes s = s.room.bytes.items

abbrev pub sink_faults : MemSink → ℕ
sink_faults s = s.room.faults

abbrev pub device_faults : MemDevice → ℕ
device_faults d = d.room.faults

-- there is no file, and none was asked; the reads with these numbers are to fail
pub record IsFreshFiles (f : MemFiles) (failing : List ℕ) : Type 0 where
  pub files : f.files ≡ []
  pub failing_are : f.failing ≡ failing
  pub asked : f.asked ≡ []
  pub calls : f.calls ≡ 0
  pub faults : f.faults ≡ 0

abbrev pub files_of : MemFiles → List (List ℕ × List ℕ)
files_of f = f.files

abbrev pub with_files : MemFiles → List (List ℕ × List ℕ) → MemFiles
with_files f files = record f { files = files }

abbrev pub read_faults : MemFiles → ℕ
read_faults f = f.faults

abbrev pub names_asked : MemFiles → List (List ℕ)
names_asked f = f.asked
