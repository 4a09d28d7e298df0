-- Keys that tie are the same.
use Rattle.std.proofs.Common.{◌≡◌, ◌↔◌, subst}
use Rattle.std.specs.declared.cmp.Ordering.TheVariants.{Equal}
use Rattle.std.specs.Cmp.{tied_itself}
use Rattle.schema_kinds.specs.declared.key.Key.{Key}
use Rattle.schema_kinds.specs.Worlds.{key_cmp}
use Rattle.schema_kinds.specs.KeyLaws.{key_total, key_exact}

pub key_is_same : (x y : Key) → (key_cmp x y ≡ Equal) ↔ (x ≡ y)
key_is_same x y = (key_exact x y, λ e. subst (λ z. key_cmp x z ≡ Equal) e (tied_itself key_total x))
