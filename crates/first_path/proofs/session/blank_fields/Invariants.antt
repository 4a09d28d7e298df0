use Rattle.std.proofs.Common.{◌≡◌, ◌++◌, ◌-◌, [], replicate}
use Rattle.first_path.proofs.session.blank_fields.Given as goal

-- the fields so far, with those that are left
abbrev pub invariant-loop : goal.invariant-loop
invariant-loop l = l.fields ++ replicate (l.properties - l.counter) [] ≡ replicate l.properties []
