-- A byte opens one list at most.
use Rattle.std.proofs.Common.{◌≡◌, ℕ, ◌+◌, ◌≤◌, Bool, true, false, ◌&&◌, ◌==◌, nat_lt, if◌then◌else◌, Result, Ok, Err, subst, arith}
use Rattle.dump_reading.specs.declared.place.Place.{Place}
use Rattle.dump_reading.specs.declared.place.Place.TheVariants.{Start}
use Rattle.dump_reading.specs.declared.place.Turn.{Turn}
use Rattle.dump_reading.specs.declared.place.Turn.TheVariants.{Moves, Puts, Ends, Wrong}
use Rattle.dump_reading.specs.declared.stop.DumpWhy.{DumpWhy}
use Rattle.dump_reading.specs.declared.stop.DumpWhy.TheVariants.{BadValue}
use Rattle.dump_reading.specs.declared.value_reader.ValuePlace.{ValuePlace}
use Rattle.dump_reading.specs.declared.value_reader.ValuePlace.TheVariants as at
use Rattle.dump_reading.specs.declared.value_reader.ValueReader.{ValueReader}
use Rattle.dump_reading.specs.declared.node_reader.NodeReader.{NodeReader}
use Rattle.dump_reading.specs.declared.line.Line.{Line}
use Rattle.dump_reading.specs.Places.{turn, is_bare}
use Rattle.dump_reading.specs.NodeReading.{is_whole_node, node_step}
use Rattle.dump_reading.specs.ValueReading.{with_item, opened, ended, behind, is_list_letter, letter, item_turn, item, value_step_at, value_step}
use Rattle.dump_reading.specs.LineReading.{with_node, with_read, line_step}

-- the depth is at most this
abbrev Within : ℕ → Result ValueReader DumpWhy → Type 0
Within d (Ok t) = t.depth ≤ d
Within d (Err why) = Unit {0}

-- either of two that are within it
either : (d : ℕ) (c : Bool) (x y : Result ValueReader DumpWhy) → Within d x → Within d y → Within d (if c then x else y)
either d true x y hx hy = hx
either d false x y hx hy = hy

ended_within : (s : ValueReader) → Within (s.depth + 1) (ended s)
ended_within s = either (s.depth + 1) (s.depth == 0) (Err BadValue) _ tt (omega arith)

behind_within : (s : ValueReader) (b : ℕ) → Within (s.depth + 1) (behind s b)
behind_within s b =
    either (s.depth + 1) (b == 41) (ended s) _ (ended_within s)
    (either (s.depth + 1) (b == 44 && nat_lt 0 s.depth) (Ok (record s { place = at.Item Start })) (Err BadValue) (omega arith) tt)

letter_within : (p : Place) (s : ValueReader) (b : ℕ) → Within (s.depth + 1) (letter p s b)
letter_within p s b = either (s.depth + 1) (is_list_letter p b) (Ok (record s { place = at.Letter })) (Err BadValue) (omega arith) tt

turn_within : (p : Place) (s : ValueReader) (b : ℕ) (r : Turn) → Within (s.depth + 1) (item_turn p s b r)
turn_within p s b (Moves q) = omega arith
turn_within p s b (Puts q c) = omega arith
turn_within p s b Ends = behind_within (with_item (is_bare p) s) b
turn_within p s b Wrong = letter_within p s b

step_within : (p : ValuePlace) (s : ValueReader) (b : ℕ) → Within (s.depth + 1) (value_step_at p s b)
step_within (at.Item p) s b = turn_within p s b (turn p b)
step_within at.Letter s b = either (s.depth + 1) (b == 98) (Ok (record s { place = at.Name })) (Err BadValue) (omega arith) tt
step_within at.Name s b = either (s.depth + 1) (b == 40) (Ok (opened s)) (Err BadValue) (omega arith) tt
step_within at.Opened s b = either (s.depth + 1) (b == 41) (ended s) (item Start s b) (ended_within s) (turn_within Start s b (turn Start b))
step_within at.Behind s b = behind_within s b

-- ---- of a line

abbrev LineWithin : ℕ → Result Line DumpWhy → Type 0
LineWithin d (Ok t) = t.value.depth ≤ d
LineWithin d (Err why) = Unit {0}

line_either : (d : ℕ) (c : Bool) (x y : Result Line DumpWhy) → LineWithin d x → LineWithin d y → LineWithin d (if c then x else y)
line_either d true x y hx hy = hx
line_either d false x y hx hy = hy

read_within : (s : Line) (d : ℕ) (r : Result ValueReader DumpWhy) → Within d r → LineWithin d (with_read s r)
read_within s d (Ok v) h = h
read_within s d (Err why) h = tt

node_within : (s : Line) (r : Result NodeReader DumpWhy) → LineWithin (s.value.depth + 1) (with_node s r)
node_within s (Ok n) = omega arith
node_within s (Err why) = tt

line_within : (s : Line) (b : ℕ) → LineWithin (s.value.depth + 1) (line_step s b)
unfolding line_step value_step
line_within s b =
    line_either (s.value.depth + 1) s.is_behind _ _ (read_within s (s.value.depth + 1) (value_step s.value b) (step_within s.value.place s.value b))
    (line_either (s.value.depth + 1) (b == 61 && is_whole_node s.node) (Ok (record s { is_behind = true })) (with_node s (node_step s.node b)) (omega arith) (node_within s (node_step s.node b)))

pub depth_grows : (s t : Line) (b : ℕ) → line_step s b ≡ Ok t → t.value.depth ≤ s.value.depth + 1
depth_grows s t b e = subst (LineWithin (s.value.depth + 1)) e (line_within s b)
