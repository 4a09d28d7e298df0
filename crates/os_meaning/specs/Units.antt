-- Where units are taken: one for each argument of a command, each condition that is tested and each turn of a loop, and all of them
-- end at a point.
use Rattle.std.specs.Prelude.{◌≡◌, ℕ, suc, Bool, true, false, List, [], ◌∷◌}
use Rattle.os_kinds.specs.declared.call.Answer.{Answer}
use Rattle.os_meaning.specs.Frames.{Frame, Ends, Prints, Holds, Loses, Points, Spends, Asks}

-- Between one unit and the next there is a point, so no argument, condition or turn takes two. It is told whether the unit of one was
-- taken whose point is still to come.
abbrev pub IsMetered : Bool → Frame → Type 0
IsMetered taken (Ends e) = Unit {0}
IsMetered taken (Prints t f) = IsMetered taken f
IsMetered taken (Holds o f) = IsMetered taken f
IsMetered taken (Loses o f) = IsMetered taken f
IsMetered taken (Points f) = IsMetered false f
IsMetered taken (Spends f) = (taken ≡ false) × IsMetered true f
IsMetered taken (Asks c f) = (a : Answer) → IsMetered taken (f a)

-- how many units are taken where these are the answers, up to the call that has none
abbrev pub units_taken : Frame → List Answer → ℕ
units_taken (Ends e) answers = 0
units_taken (Prints t f) answers = units_taken f answers
units_taken (Holds o f) answers = units_taken f answers
units_taken (Loses o f) answers = units_taken f answers
units_taken (Points f) answers = units_taken f answers
units_taken (Spends f) answers = suc (units_taken f answers)
units_taken (Asks c f) [] = 0
units_taken (Asks c f) (a ∷ answers) = units_taken (f a) answers

-- and how many points are passed
abbrev pub points_passed : Frame → List Answer → ℕ
points_passed (Ends e) answers = 0
points_passed (Prints t f) answers = points_passed f answers
points_passed (Holds o f) answers = points_passed f answers
points_passed (Loses o f) answers = points_passed f answers
points_passed (Points f) answers = suc (points_passed f answers)
points_passed (Spends f) answers = points_passed f answers
points_passed (Asks c f) [] = 0
points_passed (Asks c f) (a ∷ answers) = points_passed (f a) answers
