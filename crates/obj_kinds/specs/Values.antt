-- What a value weighs, how deep its lists are nested, which texts are in it, and which values are the same.
use Rattle.std.specs.Prelude.{ℕ, zero, suc, ◌+◌, ℤ, Bool, true, false, ◌&&◌, List, [], ◌∷◌, length}
use Rattle.std.specs.Fmt.{signed_decimal}
use Rattle.obj_kinds.specs.declared.value.Value.{Value}
use Rattle.obj_kinds.specs.declared.value.Value.TheVariants.{Str}
use Rattle.obj_kinds.specs.declared.value.Value.TheOpen.{Value-F}
use Rattle.obj_kinds.specs.declared.value.Value.TheViews.{out-Value}
use Rattle.obj_kinds.specs.declared.value.Value.TheFolds.{fold-Value}
use Rattle.obj_kinds.specs.Texts.{same_text}

-- how a number is stored
abbrev pub as_value : ℤ → Value
as_value z = Str (signed_decimal z)

-- 2 for each item, and its weight
abbrev pub items_weight : List ℕ → ℕ
items_weight [] = 0
items_weight (n ∷ ns) = 2 + (n + items_weight ns)

abbrev pub weight_step : Value-F ℕ → ℕ
weight_step (Value-F.Str text) = length text
weight_step (Value-F.List weights) = 2 + items_weight weights

-- a text weighs its length, a list 2 and its items
abbrev pub weight : Value → ℕ
weight = fold-Value ℕ weight_step

-- whether each passes
abbrev pub all_nested : ℕ → List (ℕ → Bool) → Bool
all_nested most [] = true
all_nested most (item ∷ items) = item most && all_nested most items

abbrev pub nested_step : Value-F (ℕ → Bool) → ℕ → Bool
nested_step (Value-F.Str text) most = true
nested_step (Value-F.List items) zero = false
nested_step (Value-F.List items) (suc most) = all_nested most items

-- whether at most so many lists stand in one another
abbrev pub nested : Value → ℕ → Bool
nested = fold-Value (ℕ → Bool) nested_step

abbrev pub all_true : List Bool → Bool
all_true [] = true
all_true (b ∷ bs) = b && all_true bs

abbrev pub texts_step : (List ℕ → Bool) → Value-F Bool → Bool
texts_step test (Value-F.Str text) = test text
texts_step test (Value-F.List items) = all_true items

-- whether each text in it passes a test
abbrev pub all_texts : (List ℕ → Bool) → Value → Bool
all_texts test = fold-Value Bool (texts_step test)

abbrev pub each_same : List (Value → Bool) → List Value → Bool
each_same [] [] = true
each_same [] (v ∷ vs) = false
each_same (test ∷ tests) [] = false
each_same (test ∷ tests) (v ∷ vs) = test v && each_same tests vs

abbrev pub same_layer : Value-F (Value → Bool) → Value-F Value → Bool
same_layer (Value-F.Str s) (Value-F.Str t) = same_text s t
same_layer (Value-F.List tests) (Value-F.List vs) = each_same tests vs
same_layer _ _ = false

abbrev pub same_step : Value-F (Value → Bool) → Value → Bool
same_step layer v = same_layer layer (out-Value v)

-- whether two values are the same
abbrev pub same_value : Value → Value → Bool
same_value = fold-Value (Value → Bool) same_step
