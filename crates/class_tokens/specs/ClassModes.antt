-- What the tokens before tell of the next one: what a brace opens, whether a dot is one of a name.
use Rattle.std.specs.Prelude.{Bool, true, false, if◌then◌else◌}
use Rattle.class_tokens.specs.declared.token.Kind.{Kind}
use Rattle.class_tokens.specs.declared.token.Kind.TheVariants as k
use Rattle.class_tokens.specs.declared.mode.At.{At}
use Rattle.class_tokens.specs.declared.mode.At.TheVariants as at
use Rattle.class_tokens.specs.declared.mode.Joint.{Joint}
use Rattle.class_tokens.specs.declared.mode.Joint.TheVariants as j
use Rattle.class_tokens.specs.declared.mode.Mode.{Mode}

-- A class begins behind its first brace. A member ends with `;` or with the block of a method or of a storage.
abbrev pub at_after : At → Bool → Kind → At
at_after at.Outside equals k.Class = at.OwnName
at_after at.Outside equals k.LBrace = at.Member
at_after at.Outside equals _ = at.Outside
at_after at.OwnName equals k.LBrace = at.Member
at_after at.OwnName equals _ = at.Outside
at_after at.Member equals k.Storage = at.InStorage
at_after at.Member equals k.RBrace = at.Outside
at_after at.Member equals k.Semicolon = at.Member
at_after at.Member equals k.Block = at.Member
at_after at.Member equals _ = at.Inside
at_after at.Inside equals k.Semicolon = at.Member
at_after at.Inside equals k.RBrace = at.Outside
at_after at.Inside equals k.Block = if equals then at.Inside else at.Member
at_after at.Inside equals _ = at.Inside
at_after at.InStorage equals k.Block = at.Member
at_after at.InStorage equals k.RBrace = at.Outside
at_after at.InStorage equals _ = at.InStorage

abbrev pub joint_after : Joint → Kind → Joint
joint_after j.Dotted k.Blank = j.Torn
joint_after j.Torn k.Blank = j.Torn
joint_after _ k.Blank = j.Apart
joint_after _ k.Dot = j.Dotted
joint_after _ _ = j.Joined

abbrev equals_after : Bool → Kind → Bool
equals_after equals k.Blank = equals
equals_after equals k.Equals = true
equals_after equals _ = false

abbrev place_after : At → Bool → Kind → At
place_after at equals k.Blank = at
place_after at equals kind = at_after at equals kind

-- the mode behind a token of this kind
unfoldable pub after : Mode → Kind → Mode
after m kind = record { at = place_after m.at m.equals kind; joint = joint_after m.joint kind; equals = equals_after m.equals kind }

abbrev pub start : Mode
start = record { at = at.Outside; joint = j.Apart; equals = false }
