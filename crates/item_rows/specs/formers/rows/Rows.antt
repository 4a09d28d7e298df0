-- What the logic asks before a type may hold rows of itself: rows keep their items as a list does, and
-- are stored as the vector in them.
use mathlib.Core.Former.{Former, this, list, via, children}
use mathlib.Core.List.{List, []}
use mathlib.Core.Path.{◌≡◌, refl, sym}
use base.Stored.{code_map}
use denote.Hole.Carrier.{listed, list-listed}
use denote.Hole.Fix.{over}
use denote.HoleLaws.{Alike}
use denote.HolePlaces.{Recodes, struct_places, laid}
use denote.Model.Placed.{view_places}
use denote.Param.Weighed.{Weighed, w_list}
use denote.RattleType.{RattleType}
use Rattle.item_rows.specs.contracts.rows.Rows as rows
use Rattle.item_rows.specs.contracts.rows.Rows.TheInside as inside
use Rattle.item_rows.specs.declared.rows.Rows.TheInside.{Inside}
use Rattle.item_rows.specs.declared.rows.Rows.TheView.{view, invariant}
use Rattle.std.specs.contracts.alloc.Global as heap
use Rattle.std.specs.contracts.impls.GlobalAllocator.TheImpl.{ghosts}
use Rattle.std.specs.declared.alloc.Global.{Global}
use Rattle.std.specs.formers.vec.Vec as vec

-- its shape, its items, and its size are those of a list
abbrev pub the_former : Former {0} → Former {0}
the_former item = list item

abbrev pub the_items : (X : Type 0) → List X → List X
the_items X items = items

pub the_items_listed : (X : Type 0) (items : List X) → listed _ (children (the_former this) X items) ≡ the_items X items
the_items_listed X items = list-listed X items

abbrev pub the_weighed : {item : Former {0}} → Weighed item → Weighed (the_former item)
the_weighed weights = w_list weights

-- rows of a type without values
pub the_empty : List ⊥
the_empty = []

-- the one field behind the view
abbrev vector : Former {0}
vector = via (vec.the_former this Global) Inside (λ X it. it.items) (λ X held. record { items = held }) (λ X it. refl) (λ X held. refl)

module _ (R S : RattleType) (h : R.Denot → S.Denot) where
  pub the_codes_placed : Recodes R S h → Recodes (rows.the_row R) (rows.the_row S) ((the_former this).map R.Denot S.Denot h)
  the_codes_placed same items = sym (code_map R.coded.code S.coded.code h (λ item. sym (same item)) items)

  pub the_places : Alike R S h → Alike (rows.the_row R) (rows.the_row S) ((the_former this).map R.Denot S.Denot h)
  the_places alike =
      view_places vector (list this) view (λ X Y k it. refl) (λ X it. refl) R.Denot S.Denot h (rows.the_row R).coded (rows.the_row S).coded
      (invariant R.Denot) (invariant S.Denot) (λ it p q. refl) (λ it p q. refl) (λ it e. tt) (λ it e. tt)
      (over (inside.the_row R)) (over (inside.the_row S))
      (struct_places (inside.the_type R) (inside.the_type S) (vec.mapped h, tt) _ (λ it. refl) refl (laid _ _ _ (vec.the_places heap.the_row ghosts R S h alike), tt))
