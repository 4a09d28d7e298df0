-- Which replies have texts.
use Rattle.std.specs.Prelude.{Bool, true, false}
use Rattle.obj_kinds.specs.declared.op.Reply.{Reply}
use Rattle.obj_kinds.specs.declared.op.Reply.TheVariants.{Found, Next, Held}

-- a copy of it takes memory
abbrev pub has_text : Reply → Bool
has_text (Found v) = true
has_text (Next s) = true
has_text (Held p n m) = true
has_text _ = false
