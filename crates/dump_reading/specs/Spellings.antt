-- The grammar of lines in its own words: how nodes and values may be spelt. Each may be spelt as it is written, and the text
-- of a whole number in quotes too.
use Rattle.std.specs.Prelude.{◌≡◌, ◌⊎◌, ℕ, zero, suc, List, [], ◌∷◌, ◌++◌, codes}
use Rattle.obj_kinds.specs.declared.sub.Sub.{Sub}
use Rattle.obj_kinds.specs.declared.node.Node.{Node}
use Rattle.obj_kinds.specs.declared.value.Value.{Value}
use Rattle.obj_kinds.specs.declared.value.Value.TheVariants as value
use Rattle.obj_kinds.specs.Subscript.{sub_of}
use Rattle.obj_kinds.specs.Quoted.{quoted}
use Rattle.obj_kinds.specs.NodeText.{sub_text}
use Rattle.global_dump.specs.Lines.{text_value}

abbrev pub Bytes : Type 0
Bytes = List ℕ

-- parts with a comma before each
abbrev pub AreMoreSpelt : {A : Type 0} → (A → Bytes → Type 0) → List A → Bytes → Type 0
AreMoreSpelt spelt [] z = z ≡ []
AreMoreSpelt spelt (x ∷ xs) z = (a : Bytes) × (b : Bytes) × (z ≡ 44 ∷ a ++ b) × spelt x a × AreMoreSpelt spelt xs b

-- ---- nodes

-- a subscript as it is written, or as a text in quotes that is read as it
abbrev pub IsSubSpelt : Sub → Bytes → Type 0
IsSubSpelt x z = (z ≡ sub_text x) ⊎ ((t : Bytes) × (z ≡ quoted t) × (sub_of t ≡ x))

-- none, or some in parentheses with commas between them
abbrev pub AreSubsSpelt : List Sub → Bytes → Type 0
AreSubsSpelt [] z = z ≡ []
AreSubsSpelt (x ∷ xs) z = (a : Bytes) × (b : Bytes) × (z ≡ 40 ∷ a ++ b ++ 41 ∷ []) × IsSubSpelt x a × AreMoreSpelt IsSubSpelt xs b

abbrev pub IsNodeSpelt : Node → Bytes → Type 0
IsNodeSpelt n z = (s : Bytes) × (z ≡ 94 ∷ n.global ++ s) × AreSubsSpelt n.subs s

-- ---- values

-- a text as it is written, or in quotes
abbrev pub IsTextSpelt : Value → Bytes → Type 0
IsTextSpelt v z = (t : Bytes) × (v ≡ value.Str t) × ((z ≡ text_value t) ⊎ (z ≡ quoted t))

-- none, or some with commas between them
abbrev pub AreItemsSpelt : (Value → Bytes → Type 0) → List Value → Bytes → Type 0
AreItemsSpelt spelt [] z = z ≡ []
AreItemsSpelt spelt (v ∷ vs) z = (a : Bytes) × (b : Bytes) × (z ≡ a ++ b) × spelt v a × AreMoreSpelt spelt vs b

abbrev pub IsListSpelt : (Value → Bytes → Type 0) → Value → Bytes → Type 0
IsListSpelt spelt v z = (vs : List Value) × (x : Bytes) × (v ≡ value.List vs) × (z ≡ codes "$lb(" ++ x ++ codes ")") × AreItemsSpelt spelt vs x

-- a value with so many lists in one another at most
unfoldable pub IsValueSpelt : ℕ → Value → Bytes → Type 0
IsValueSpelt zero v z = IsTextSpelt v z
IsValueSpelt (suc n) v z = IsTextSpelt v z ⊎ IsListSpelt (IsValueSpelt n) v z

-- ---- lines

abbrev pub IsLineSpelt : Node → Value → Bytes → Type 0
IsLineSpelt n v z = (a : Bytes) × (b : Bytes) × (z ≡ a ++ 61 ∷ b) × IsNodeSpelt n a × IsValueSpelt 16 v b
