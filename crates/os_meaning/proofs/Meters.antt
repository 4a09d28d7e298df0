-- Units and points: where only so many units are left, and how many are taken.
use Rattle.std.proofs.Common.{◌≡◌, ◌≤◌, ℕ, zero, suc, ◌+◌, Bool, true, false, cond, List, [], ◌∷◌, arith}
use Rattle.os_kinds.specs.declared.call.Answer.{Answer}
use Rattle.os_meaning.specs.Frames.{Frame, Ends, Prints, Holds, Loses, Points, Spends, Asks, within}
use Rattle.os_meaning.specs.Units.{IsMetered, units_taken, points_passed}

pub meter_cut : (taken : Bool) (f : Frame) (units : ℕ) → IsMetered taken f → IsMetered taken (within f units)
meter_cut taken (Ends e) units b = b
meter_cut taken (Prints t f) units b = meter_cut taken f units b
meter_cut taken (Holds n f) units b = meter_cut taken f units b
meter_cut taken (Loses n f) units b = meter_cut taken f units b
meter_cut taken (Points f) units b = meter_cut false f units b
meter_cut taken (Spends f) zero b = tt
meter_cut taken (Spends f) (suc units) b = (b.0, meter_cut true f units b.1)
meter_cut taken (Asks c f) units b = λ a. meter_cut taken (f a) units (b a)

abbrev open_unit : Bool → ℕ
open_unit taken = cond taken 1 0

at_most_one : (taken : Bool) → open_unit taken ≤ 1
at_most_one true = omega arith
at_most_one false = omega arith

pub meter_bounded : (taken : Bool) (f : Frame) (answers : List Answer) → IsMetered taken f → units_taken f answers + open_unit taken ≤ suc (points_passed f answers)
meter_bounded taken (Ends e) answers b = omega (arith, at_most_one taken)
meter_bounded taken (Prints t f) answers b = meter_bounded taken f answers b
meter_bounded taken (Holds n f) answers b = meter_bounded taken f answers b
meter_bounded taken (Loses n f) answers b = meter_bounded taken f answers b
meter_bounded taken (Points f) answers b = omega (arith, meter_bounded false f answers b, at_most_one taken)
meter_bounded taken (Spends f) answers b = by taken b.0 (meter_bounded true f answers b.1)
  where
    by : (t : Bool) → t ≡ false → units_taken f answers + 1 ≤ suc (points_passed f answers) → suc (units_taken f answers) + open_unit t ≤ suc (points_passed f answers)
    by false e h = omega (arith, h)
    by true e h = cc
meter_bounded taken (Asks c f) [] b = omega (arith, at_most_one taken)
meter_bounded taken (Asks c f) (a ∷ answers) b = meter_bounded taken (f a) answers (b a)
