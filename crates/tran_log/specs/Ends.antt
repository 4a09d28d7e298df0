-- What beginning and ending a level answer.
use Rattle.std.specs.Prelude.{◌+◌, nat_lt, cond, [], ◌∷◌, length}
use Rattle.tran_log.specs.declared.ends.Begun.{Begun}
use Rattle.tran_log.specs.declared.ends.Begun.TheVariants.{Level as Opened, TooDeep}
use Rattle.tran_log.specs.declared.ends.Ended.{Ended}
use Rattle.tran_log.specs.declared.ends.Ended.TheVariants.{Level as Left, NoTran}
use Rattle.tran_log.specs.Levels.{Levels}

-- the level that is opened, from 1
abbrev pub begun_at : Levels → Begun
begun_at ls = cond (nat_lt (length ls) 255) (Opened (length ls + 1)) TooDeep

-- the level that is left, from 0
abbrev pub ended_at : Levels → Ended
ended_at [] = NoTran
ended_at (l ∷ ls) = Left (length ls)
