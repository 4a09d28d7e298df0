-- Words on finite maps.
use Rattle.std.specs.Prelude.{Option, None, Some}
use Rattle.std.specs.declared.cmp.Ordering.{Ordering}
use Rattle.std.specs.FinMap.{FinMap, insert, remove}

-- the map with this value at the key, or without the key
unfoldable pub placed : {K X : Type 0} {R : K → K → Ordering} → FinMap R X → K → Option X → FinMap R X
placed m k None = remove m k
placed m k (Some v) = insert m k v
