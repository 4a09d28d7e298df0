-- Which fields and records are the same.
use Rattle.std.specs.Prelude.{ℕ, Bool, true, false, ◌&&◌, List, [], ◌∷◌, map, Option, None, Some}
use Rattle.std.specs.Ordering.{eq_by_cmp}
use Rattle.obj_kinds.specs.declared.sub.Sub.{Sub}
use Rattle.obj_kinds.specs.SubOrder.{text_cmp, sub_cmp}
use Rattle.obj_kinds.specs.Texts.{same_text}
use Rattle.schema_kinds.specs.declared.record.Field.{Field}
use Rattle.schema_kinds.specs.declared.record.Field.TheOpen.{Field-F}
use Rattle.schema_kinds.specs.declared.record.Field.TheViews.{out-Field}
use Rattle.schema_kinds.specs.declared.record.Field.TheFolds.{fold-Field}
use Rattle.schema_kinds.specs.declared.record.Record.{Record}

abbrev pub same_target : Option (List ℕ) → Option (List ℕ) → Bool
same_target None None = true
same_target None (Some b) = false
same_target (Some a) None = false
same_target (Some a) (Some b) = eq_by_cmp text_cmp a b

abbrev pub each_same : List (Field → Bool) → List Field → Bool
each_same [] [] = true
each_same [] (f ∷ fs) = false
each_same (test ∷ tests) [] = false
each_same (test ∷ tests) (f ∷ fs) = test f && each_same tests fs

abbrev pub same_part : Option (List (Field → Bool)) → Option (List Field) → Bool
same_part None None = true
same_part None (Some fs) = false
same_part (Some tests) None = false
same_part (Some tests) (Some fs) = each_same tests fs

abbrev pub each_pair_same : List (Sub × (Field → Bool)) → List (Sub × Field) → Bool
each_pair_same [] [] = true
each_pair_same [] (p ∷ ps) = false
each_pair_same (test ∷ tests) [] = false
each_pair_same (test ∷ tests) (p ∷ ps) = (eq_by_cmp sub_cmp test.0 p.0 && test.1 p.1) && each_pair_same tests ps

abbrev pub same_layer : Field-F (Field → Bool) → Field-F Field → Bool
same_layer (Field-F.Plain s) (Field-F.Plain t) = same_text s t
same_layer (Field-F.Target a) (Field-F.Target b) = same_target a b
same_layer (Field-F.Part tests) (Field-F.Part fs) = same_part tests fs
same_layer (Field-F.List tests) (Field-F.List fs) = each_same tests fs
same_layer (Field-F.Map tests) (Field-F.Map ps) = each_pair_same tests ps
same_layer _ _ = false

abbrev pub same_step : Field-F (Field → Bool) → Field → Bool
same_step layer f = same_layer layer (out-Field f)

-- whether two fields are the same
abbrev pub same_field : Field → Field → Bool
same_field = fold-Field (Field → Bool) same_step

-- and two records
abbrev pub same_record : Record → Record → Bool
same_record r s = same_text r.class.0 s.class.0 && each_same (map same_field r.fields) s.fields
