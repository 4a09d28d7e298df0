-- The plan of a walk: a phase for each reply that is awaited.
use Rattle.std.specs.Prelude.{Bool, true, false}
use Rattle.obj_kinds.specs.declared.node.Node.{Node}
use Rattle.obj_kinds.specs.declared.sub.Sub.{Sub}
use Rattle.obj_kinds.specs.declared.value.Value.{Value}
use Rattle.obj_kinds.specs.declared.op.Op.TheVariants.{Get, Order}
use Rattle.obj_kinds.specs.declared.op.Reply.{Reply}
use Rattle.obj_kinds.specs.declared.op.Reply.TheVariants.{Next}
use Rattle.store_calls.specs.Calls.{Give, Tag, Tried, Got, Lost, then, Round, Again, Ends, round}
use Rattle.store_calls.specs.Plans.{Bounded, Says, AsksFor, Tells}
use Rattle.store_calls.specs.Walks.{child, Elements, Walk, on_element, element, walk}

pub data WalkPhase : Type 0 where
  -- the next key is awaited
  AtKey : Walk → WalkPhase
  -- the element of this key is
  AtElement : Elements → Sub → WalkPhase
  -- nothing is: this is the answer
  Walked : Tried Elements → WalkPhase

module _ (n : Node) (tag : Tag) (is_form : Node → Value → Bool) where
  -- the call that is left in each phase
  abbrev pub walk_to_come : WalkPhase → Bounded (Tried Elements)
  walk_to_come (AtKey w) most = walk n tag is_form most w
  walk_to_come (AtElement found k) most = then (element n tag is_form found k) (round (walk n tag is_form most))
  walk_to_come (Walked a) most = Give a

  abbrev pub walk_says : WalkPhase → Says (Tried Elements)
  walk_says (AtKey w) = AsksFor (Order n w.behind)
  walk_says (AtElement found k) = AsksFor (Get (child n k))
  walk_says (Walked a) = Tells a

  abbrev pub by_round : Tried (Round Walk Elements) → WalkPhase
  by_round (Got (Again w)) = AtKey w
  by_round (Got (Ends a)) = Walked (Got a)
  by_round (Lost x) = Walked (Lost x)

  abbrev pub by_key : Elements → Reply → WalkPhase
  by_key found (Next k) = AtElement found k
  by_key found _ = Walked (Got found)

  -- the phase behind the reply
  abbrev pub walk_takes : WalkPhase → Reply → WalkPhase
  walk_takes (AtKey w) r = by_key w.found r
  walk_takes (AtElement found k) r = by_round (on_element n tag is_form found k r)
  walk_takes (Walked a) r = Walked a

abbrev pub is_walking : WalkPhase → Bool
is_walking (Walked a) = false
is_walking _ = true
