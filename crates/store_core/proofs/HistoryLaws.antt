-- A history and one entry more.
use Rattle.std.proofs.Common.{◌≡◌, ◌+◌, true, List, [], ◌∷◌, ◌++◌, refl, arith}
use Rattle.obj_kinds.specs.declared.op.Pid.{Pid}
use Rattle.obj_kinds.specs.declared.op.Op.{Op}
use Rattle.store_core.specs.declared.entry.Entry.{Entry}
use Rattle.store_core.specs.Machine.{State, is_live, after}
use Rattle.store_core.specs.History.{IsLegal, IsStep, state_after, entry_of}
use Rattle.store_core.specs.Volume.{entry_volume, volume}

pub legal_more : (s : State) (es : List Entry) (e : Entry) → IsLegal s es → IsStep (state_after s es) e → IsLegal s (es ++ e ∷ [])
legal_more s [] e h step = (step, tt)
legal_more s (x ∷ xs) e h step = (h.0, legal_more (after s x.pid x.op) xs e h.1 step)

pub legal_step : (s : State) (es : List Entry) (p : Pid) (op : Op) → IsLegal s es → is_live (state_after s es) p ≡ true → IsLegal s (es ++ entry_of (state_after s es) p op ∷ [])
legal_step s es p op h live = legal_more s es (entry_of (state_after s es) p op) h (live, refl)

pub state_more : (s : State) (es : List Entry) (e : Entry) → state_after s (es ++ e ∷ []) ≡ after (state_after s es) e.pid e.op
state_more s [] e = refl
state_more s (x ∷ xs) e = state_more (after s x.pid x.op) xs e

pub volume_more : (es : List Entry) (e : Entry) → volume (es ++ e ∷ []) ≡ volume es + entry_volume e
volume_more [] e = omega arith
volume_more (x ∷ xs) e = let h = volume_more xs e in omega arith
