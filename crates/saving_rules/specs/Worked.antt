-- What is asked of the objects of a save, tried on three objects of worked calls: a new branch, an account whose number changes, and a clerk
-- whose branch is known.
use Rattle.std.specs.Prelude.{Bool, true, cond, List, [], ◌∷◌, codes, None, Some}
use Rattle.obj_kinds.specs.declared.name.ClassName.{ClassName}
use Rattle.schema_kinds.specs.declared.key.Key.{Key}
use Rattle.schema_kinds.specs.declared.record.Record.{Record}
use Rattle.object_calls.specs.Banking.{bank, account, branch, clerk, key_in, account_record, branch_record, clerk_record}
use Rattle.object_calls.specs.Saves.{ToSave, is_key}
use Rattle.saving_rules.specs.Saving.{CanBeSaved}

abbrev pub north : Record
north = branch_record (codes "North")

abbrev pub ann8 : Record
ann8 = account_record (codes "Ann") (codes "8") None

-- a clerk of branch 1
abbrev pub carl : Record
carl = clerk_record (codes "Carl") (Some (1 ∷ []))

abbrev pub worked : List ToSave
worked =
    record { number = 3; extent = branch; id = None; level = 2; record_with = λ drawn. north }
    ∷ record { number = 4; extent = account; id = Some (1 ∷ []); level = 3; record_with = λ drawn. ann8 }
    ∷ record { number = 5; extent = clerk; id = Some (1 ∷ []); level = 4; record_with = λ drawn. carl } ∷ []

-- the account and the clerk are live
abbrev pub is_worked : Key → Bool
is_worked key = cond (is_key key (key_in account 1)) true (is_key key (key_in clerk 1))

abbrev pub branch_known : List (Key × ClassName)
branch_known = (key_in branch 1, branch) ∷ []

abbrev pub WorkedCanBeSaved : Type 0
WorkedCanBeSaved = CanBeSaved bank is_worked branch_known worked
