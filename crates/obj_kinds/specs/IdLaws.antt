-- The numbers of an id tell its parts.
use Rattle.std.specs.Prelude.{◌≡◌, refl}
use Rattle.obj_kinds.specs.declared.id.Parts.{Parts}
use Rattle.obj_kinds.specs.declared.id.Parts.TheVariants.{One, Two, Three}
use Rattle.obj_kinds.specs.Ids.{listed, unlisted}

pub unlisted-listed : (p : Parts) → unlisted (listed p) ≡ p
unlisted-listed (One a) = refl
unlisted-listed (Two a b) = refl
unlisted-listed (Three a b c) = refl
