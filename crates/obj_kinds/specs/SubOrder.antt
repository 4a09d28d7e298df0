-- The order of subscripts, and which way begins with which.
use Rattle.std.specs.Prelude.{ℕ, Bool, true, false, ◌&&◌, List, [], ◌∷◌}
use Rattle.std.specs.declared.cmp.Ordering.{Ordering}
use Rattle.std.specs.declared.cmp.Ordering.TheVariants.{Less, Greater}
use Rattle.std.specs.Ordering.{nat_cmp, int_cmp, eq_by_cmp}
use Rattle.std.specs.Cmp.Lexicographic.{slice_cmp}
use Rattle.obj_kinds.specs.declared.sub.Sub.{Sub}
use Rattle.obj_kinds.specs.declared.sub.Sub.TheVariants.{Num, Str}

-- texts by their bytes
abbrev pub text_cmp : List ℕ → List ℕ → Ordering
text_cmp = slice_cmp nat_cmp

-- numbers by value, before texts by their bytes
abbrev pub sub_cmp : Sub → Sub → Ordering
sub_cmp (Num m) (Num n) = int_cmp m n
sub_cmp (Num m) (Str t) = Less
sub_cmp (Str s) (Num n) = Greater
sub_cmp (Str s) (Str t) = text_cmp s t

-- whether a way begins with a front, or is the front
abbrev pub is_front : List Sub → List Sub → Bool
is_front [] way = true
is_front (x ∷ front) [] = false
is_front (x ∷ front) (y ∷ way) = eq_by_cmp sub_cmp x y && is_front front way
