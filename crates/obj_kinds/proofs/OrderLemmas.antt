-- The order of nodes is total, and equal only at equal nodes: specs/OrderLaws.antt proves it.
pub use Rattle.obj_kinds.specs.OrderLaws.{sub_total, sub_exact, node_total, node_exact}
