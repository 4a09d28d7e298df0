-- The marks of worked calls, where these are all that a process asks; worked out by hand.
use Rattle.std.specs.Prelude.{◌≡◌, pos, false, [], ◌∷◌, codes, None}
use Rattle.obj_kinds.specs.declared.op.Pid.{Pid}
use Rattle.obj_kinds.specs.declared.op.Reply.TheVariants as reply
use Rattle.obj_kinds.specs.declared.cause.Cause.TheVariants as cause
use Rattle.schema_kinds.specs.declared.record.Part.TheVariants.{Put, Del}
use Rattle.object_calls.specs.Loads.{LoadCall, load}
use Rattle.object_calls.specs.Saves.{save}
use Rattle.object_calls.specs.Deletes.{delete}
use Rattle.object_calls.specs.Banking.{bank, account, branch, key_in, num, row, account_record}
use Rattle.object_calls.specs.SaveSamples.{new_object, none_live, drawn_for, ann7}
use Rattle.object_runs.specs.declared.mark.MarkKind.TheVariants as mark
use Rattle.object_runs.specs.Marks.{marks_of, noted}

abbrev pub one : Pid
one = record { 0 = 1 }

-- the opening of an account: the mark names the Get behind the lock
abbrev pub open_account : LoadCall
open_account = record { key = key_in account 1; class = account; level = 2; touch = false }

abbrev pub OpensAccount : Type 0
OpensAccount =
    marks_of bank one (load bank 3 10 open_account) (reply.Granted ∷ reply.Found (row ([] ∷ codes "Ann" ∷ codes "7" ∷ [] ∷ [])) ∷ reply.Done ∷ [])
    ≡ noted one 2 (mark.Loaded (key_in account 1) ann7)

-- the save of a new account: the mark names the Commit, the ninth entry
abbrev pub SavesAccount : Type 0
SavesAccount =
    marks_of bank one (save bank 2 10 none_live (new_object 1 account (λ drawn. ann7) ∷ []))
    (reply.Number (pos 1) ∷ reply.Number (pos 1) ∷ reply.Granted ∷ reply.Absent ∷ reply.Granted ∷ reply.NoNext ∷ reply.Done ∷ reply.Done ∷ reply.Number (pos 0) ∷ [])
    ≡ noted one 9 (mark.Saved (Put (key_in account 1) ann7 ∷ []))

-- the failed save of a chain of three: the mark names its last entry, the RollbackOne
abbrev pub FailsToSave : Type 0
FailsToSave =
    marks_of bank one
    (save bank 2 10 none_live (new_object 1 account (λ drawn. account_record [] [] (drawn_for 2 drawn)) ∷ new_object 2 account (λ drawn. account_record [] [] (drawn_for 3 drawn)) ∷ new_object 3 account (λ drawn. account_record [] (codes "7") None) ∷ []))
    (reply.Number (pos 1) ∷ reply.Number (pos 2) ∷ reply.Number (pos 3) ∷ reply.Number (pos 4) ∷ reply.Granted ∷ reply.Granted ∷ reply.Granted ∷ reply.Absent ∷ reply.Absent ∷ reply.Absent ∷ reply.Granted ∷ reply.Done ∷ reply.Done ∷ reply.Next (num 1) ∷ reply.Number (pos 0) ∷ [])
    ≡ noted one 15 (mark.Failed (cause.NotUnique (codes "NumIdx") (1 ∷ [])))

-- the delete of an account, and the failed one of a branch with a member
abbrev pub DeletesAccount : Type 0
DeletesAccount =
    marks_of bank one (delete bank 2 10 (key_in account 1) account 2)
    (reply.Number (pos 1) ∷ reply.Granted ∷ reply.Found (row ([] ∷ codes "Ann" ∷ codes "7" ∷ [] ∷ [])) ∷ reply.Granted ∷ reply.Done ∷ reply.Done ∷ reply.Number (pos 0) ∷ [])
    ≡ noted one 7 (mark.Deleted (Del (key_in account 1) ∷ []))

abbrev pub FailsToDelete : Type 0
FailsToDelete =
    marks_of bank one (delete bank 2 10 (key_in branch 1) branch 2)
    (reply.Number (pos 1) ∷ reply.Granted ∷ reply.Found (row ([] ∷ codes "North" ∷ [])) ∷ reply.Granted ∷ reply.Next (num 1) ∷ reply.Number (pos 0) ∷ [])
    ≡ noted one 6 (mark.Failed (cause.HasMembers (1 ∷ [])))
