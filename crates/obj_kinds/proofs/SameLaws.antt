-- What ties in its order is the same.
use Rattle.std.proofs.Common.{◌≡◌, ℕ, List, ◌↔◌, subst}
use Rattle.std.specs.declared.cmp.Ordering.TheVariants.{Equal}
use Rattle.std.specs.Cmp.{tied_itself}
use Rattle.obj_kinds.specs.declared.sub.Sub.{Sub}
use Rattle.obj_kinds.specs.declared.node.Node.{Node}
use Rattle.obj_kinds.specs.Order.{text_cmp, sub_cmp, node_cmp}
use Rattle.obj_kinds.proofs.TextLaws.{text_tie-is, text_ties-itself}
use Rattle.obj_kinds.specs.OrderLaws.{sub_total, sub_exact, node_total, node_exact}

pub sub_is_same : (x y : Sub) → (sub_cmp x y ≡ Equal) ↔ (x ≡ y)
sub_is_same x y = (sub_exact x y, λ e. subst (λ z. sub_cmp x z ≡ Equal) e (tied_itself sub_total x))

pub node_is_same : (x y : Node) → (node_cmp x y ≡ Equal) ↔ (x ≡ y)
node_is_same x y = (node_exact x y, λ e. subst (λ z. node_cmp x z ≡ Equal) e (tied_itself node_total x))

pub numbers_are_same : (x y : List ℕ) → (text_cmp x y ≡ Equal) ↔ (x ≡ y)
numbers_are_same x y = (text_tie-is x y, λ e. subst (λ z. text_cmp x z ≡ Equal) e (text_ties-itself x))
