-- Walks over the clerks of a branch, with all that is seen of them; worked out by hand.
use Rattle.std.specs.Prelude.{◌≡◌, ℕ, List, [], ◌∷◌, codes, Option, Some, None}
use Rattle.obj_kinds.specs.declared.op.Op.TheVariants as ops
use Rattle.obj_kinds.specs.declared.op.Mode.TheVariants.{Exclusive, Shared}
use Rattle.obj_kinds.specs.declared.op.Reply.{Reply}
use Rattle.obj_kinds.specs.declared.op.Reply.TheVariants as reply
use Rattle.obj_kinds.specs.declared.cause.Cause.TheVariants as cause
use Rattle.store_calls.specs.Calls.{Walking, Failed, Tried, Got, Lost}
use Rattle.object_calls.specs.Asking.{lock_counted, unlock}
use Rattle.object_calls.specs.Keys.{ManySide}
use Rattle.object_calls.specs.Members.{next_member}
use Rattle.object_calls.specs.Shown.{Shown, Noted, Asked, Answers, shown}
use Rattle.object_calls.specs.Banking.{bank, clerk, num, word, members_of}

pub record MemberSample : Type 0 where
  pub level : ℕ
  pub behind : Option (List ℕ)
  pub replies : List Reply
  pub sees : List (Shown (Tried (Option (List ℕ))))

abbrev pub clerks : ManySide
clerks = record { class = clerk; side = codes "Branch" }

-- of the branch 1, with one try of a lock
abbrev pub IsMemberSeen : MemberSample → Type 0
IsMemberSeen x = shown (next_member bank 1 clerks (1 ∷ []) x.level x.behind) x.replies ≡ x.sees

abbrev pub AreMembersSeen : List MemberSample → Type 0
AreMembersSeen [] = Unit {0}
AreMembersSeen (x ∷ xs) = IsMemberSeen x × AreMembersSeen xs

abbrev pub walks : List MemberSample
walks =
    -- the first one
    (record { level = 2; behind = None; replies = reply.Granted ∷ reply.Next (num 3) ∷ reply.Done ∷ []; sees = Asked (lock_counted Shared (members_of 1)) ∷ Asked (ops.Order (members_of 1) None) ∷ Asked (unlock Shared (members_of 1)) ∷ Answers (Got (Some (3 ∷ []))) ∷ [] }) ∷
    -- behind the last one
    (record { level = 2; behind = Some (3 ∷ []); replies = reply.Granted ∷ reply.NoNext ∷ reply.Done ∷ []; sees = Asked (lock_counted Shared (members_of 1)) ∷ Asked (ops.Order (members_of 1) (Some (num 3))) ∷ Asked (unlock Shared (members_of 1)) ∷ Answers (Got None) ∷ [] }) ∷
    -- at level 0 without a lock
    (record { level = 0; behind = None; replies = reply.NoNext ∷ []; sees = Asked (ops.Order (members_of 1) None) ∷ Answers (Got None) ∷ [] }) ∷
    -- a subscript that is no id: the failure comes when the lock is given back
    (record { level = 2; behind = None; replies = reply.Granted ∷ reply.Next (word (codes "x")) ∷ reply.Done ∷ []; sees = Asked (lock_counted Shared (members_of 1)) ∷ Asked (ops.Order (members_of 1) None) ∷ Asked (unlock Shared (members_of 1)) ∷ Noted (Failed Walking 1 (cause.Damaged (members_of 1))) ∷ Answers (Lost (cause.Damaged (members_of 1))) ∷ [] }) ∷
    -- another process holds an entry below the node
    (record { level = 2; behind = None; replies = reply.Held (record { 0 = 2 }) (members_of 1) Exclusive ∷ []; sees = Asked (lock_counted Shared (members_of 1)) ∷ Noted (Failed Walking 0 (cause.Busy (record { 0 = 2 }) (members_of 1))) ∷ Answers (Lost (cause.Busy (record { 0 = 2 }) (members_of 1))) ∷ [] }) ∷
    []
