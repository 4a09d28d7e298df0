-- How a node is written.
use Rattle.std.specs.Prelude.{ℕ, List, [], ◌∷◌, ◌++◌}
use Rattle.std.specs.Fmt.{signed_decimal}
use Rattle.obj_kinds.specs.declared.sub.Sub.{Sub}
use Rattle.obj_kinds.specs.declared.sub.Sub.TheVariants.{Num, Str}
use Rattle.obj_kinds.specs.declared.node.Node.{Node}
use Rattle.obj_kinds.specs.Quoted.{quoted}

-- numbers bare, other texts in quotes
abbrev pub sub_text : Sub → List ℕ
sub_text (Num n) = signed_decimal n
sub_text (Str text) = quoted text

-- each of the subscripts after the first has a comma before it
abbrev pub more_subs : List Sub → List ℕ
more_subs [] = []
more_subs (s ∷ rest) = 44 ∷ sub_text s ++ more_subs rest

abbrev pub subs_text : List Sub → List ℕ
subs_text [] = []
subs_text (s ∷ rest) = 40 ∷ sub_text s ++ more_subs rest ++ 41 ∷ []

unfoldable pub node_text : Node → List ℕ
node_text n = 94 ∷ n.global ++ subs_text n.subs
