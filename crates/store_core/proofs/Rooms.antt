-- The volume of replies with a number.
use Rattle.std.proofs.Common.{◌≡◌, ◌+◌, ◌<◌, ℕ, Option, Some, None, is_some, arith, pos, Bool, true, false, cond, nat_lt, length, [], ◌∷◌, refl}
use Rattle.obj_kinds.specs.declared.op.Reply.{Reply}
use Rattle.obj_kinds.specs.declared.op.Reply.TheVariants.{Done, Number, NotHeld, TooDeep}
use Rattle.obj_kinds.specs.declared.op.Keep.{Keep}
use Rattle.lock_table.specs.declared.hold.Hold.{Hold}
use Rattle.lock_table.specs.Holds.{Holds, is_counted, kept, granted}
use Rattle.lock_table.specs.Conflict.{asked, ask_reply, release_reply, refusing, told}
use Rattle.tran_log.specs.Levels.{Levels}
use Rattle.store_core.specs.Volume.{reply_volume}
use Rattle.store_core.specs.Machine.{is_open, begun_reply, left_reply}

pub volume_begun : (ls : Levels) → reply_volume (begun_reply ls) ≡ cond (nat_lt (length ls) 255) 8 0
unfolding reply_volume
volume_begun ls = by (nat_lt (length ls) 255) (Number (pos (length ls + 1)))
  where
    by : (b : Bool) (r : Reply) → reply_volume (cond b (Number (pos (length ls + 1))) TooDeep) ≡ cond b 8 0
    by true r = refl
    by false r = refl

pub volume_left : (ls : Levels) → reply_volume (left_reply ls) ≡ cond (is_open ls) 8 0
unfolding reply_volume
volume_left [] = refl
volume_left (l ∷ ls) = refl

pub volume_release : (hs : Holds) (h : Hold) → reply_volume (release_reply hs h) ≡ 0
unfolding reply_volume
volume_release hs h = by (is_counted (kept hs h))
  where
    by : (b : Bool) → reply_volume (cond b Done NotHeld) ≡ 0
    by true = refl
    by false = refl

-- a lock that is granted takes no volume, and one that is refused changes nothing
pub held_same : (hs : Holds) (h : Hold) (k : Keep) (room : ℕ) → room < reply_volume (ask_reply hs h) → asked hs h k ≡ hs
unfolding reply_volume
held_same hs h k room = by (refusing hs h)
  where
    by : (o : Option Hold) → room < reply_volume (told o) → cond (is_some o) hs (granted hs h k) ≡ hs
    by None lt = absurd (omega (arith, lt))
    by (Some x) lt = refl
