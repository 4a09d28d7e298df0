-- Where each class extends the one above it, each field has one place.
use Rattle.std.proofs.Common.{◌≡◌, ℕ, zero, suc, Bool, true, false, cond, List, [], ◌∷◌, ◌++◌, map, filter, take, drop, length, Option, None, Some, refl, sym, ap, ◌∙◌, take-append-drop}
use Rattle.std.specs.List.{filter_map, cons_option}
use Rattle.std.proofs.lemmas.List.{append-nil, append_assoc}
use Rattle.std.proofs.lemmas.List.Elements.{filter_map-append, filter-append}
use Rattle.obj_kinds.specs.declared.name.ClassName.{ClassName}
use Rattle.schema_kinds.specs.declared.class.Class.{Class}
use Rattle.schema_kinds.specs.declared.kind.Kind.{Kind}
use Rattle.schema_kinds.specs.declared.kind.Item.{Item}
use Rattle.schema_kinds.specs.declared.prop.Prop.{Prop}
use Rattle.schema_kinds.specs.Classes.{short_name}
use Rattle.record_layout.specs.Shapes.{Form, single, listed, keyed, is_row, form_of, forms_of, row_forms}
use Rattle.record_layout.specs.Layout.{Layout, IsLaidOut, line_of, layout_of, layout_on, own_props, own_list, lower_lists, lower_forms, last_props, array_of, arrays_of, keyed_item}
use Rattle.record_layout.specs.Records.{HaveNames, IsNotNamed, HaveDifferentNames}
use Rattle.record_layout.specs.Schemas.{Extends, IsExtendedBy, IsLine, IsNoneOf, AreAllDifferent, names_behind, IsStorable}

-- forms are those of the kinds
forms_by_kinds : (ps : List Prop) → forms_of ps ≡ filter_map form_of (map (λ p. p.kind) ps)
forms_by_kinds [] = refl
forms_by_kinds (p ∷ ps) = by (form_of p.kind) (forms_by_kinds ps)
  where
    by : (o : Option Form) → forms_of ps ≡ filter_map form_of (map (λ q. q.kind) ps) → cons_option o (forms_of ps) ≡ cons_option o (filter_map form_of (map (λ q. q.kind) ps))
    by None h = h
    by (Some f) h = ap (λ fs. f ∷ fs) h

rows_by_kinds : (ps qs : List Prop) → map (λ p. p.kind) ps ≡ map (λ p. p.kind) qs → row_forms ps ≡ row_forms qs
rows_by_kinds ps qs h = ap (filter is_row) (forms_by_kinds ps ∙ ap (filter_map form_of) h ∙ sym (forms_by_kinds qs))

rows_append : (ps qs : List Prop) → row_forms (ps ++ qs) ≡ row_forms ps ++ row_forms qs
rows_append ps qs = ap (filter is_row) (filter_map-append (λ p. form_of p.kind) ps qs) ∙ filter-append is_row (forms_of ps) (forms_of qs)

-- a class has the forms of the class above, and then its own
rows_split : (above c : Class) → Extends above c → row_forms above.props ++ row_forms (own_props above c) ≡ row_forms c.props
rows_split above c h =
    ap (λ fs. fs ++ row_forms (own_props above c)) (sym (rows_by_kinds (take (length above.props) c.props) above.props h))
    ∙ sym (rows_append (take (length above.props) c.props) (own_props above c))
    ∙ ap row_forms (take-append-drop (length above.props) c.props)

own_forms : (name : List ℕ) (forms : List Form) (rest : List (List ℕ × List Form)) → lower_forms (own_list name forms ++ rest) ≡ forms ++ lower_forms rest
own_forms name [] rest = refl
own_forms name (f ∷ fs) rest = refl

all_rows : (above : Class) (cs : List Class) → IsExtendedBy above cs → row_forms above.props ++ lower_forms (lower_lists above cs) ≡ row_forms (last_props above cs)
all_rows above [] h = append-nil (row_forms above.props)
all_rows above (c ∷ cs) h =
    ap (λ fs. row_forms above.props ++ fs) (own_forms (short_name c.name) (row_forms (own_props above c)) (lower_lists c cs))
    ∙ sym (append_assoc (row_forms above.props) (row_forms (own_props above c)) (lower_forms (lower_lists c cs)))
    ∙ ap (λ fs. fs ++ lower_forms (lower_lists c cs)) (rows_split above c h.0)
    ∙ all_rows c cs h.1

all_arrays : (ps : List Prop) → map (λ a. a.1) (arrays_of ps) ≡ filter_map keyed_item (forms_of ps)
all_arrays [] = refl
all_arrays (p ∷ ps) = by (form_of p.kind) (all_arrays ps)
  where
    by : (o : Option Form) → map (λ a. a.1) (arrays_of ps) ≡ filter_map keyed_item (forms_of ps) → map (λ a. a.1) (cons_option (array_of p o) (arrays_of ps)) ≡ filter_map keyed_item (cons_option o (forms_of ps))
    by None h = h
    by (Some (single i)) h = h
    by (Some (listed i)) h = h
    by (Some (keyed i)) h = ap (λ is. i ∷ is) h

laid_out : (line : List Class) → IsLine line → IsLaidOut (layout_on line)
laid_out [] h = record { own = refl; arrays = refl }
laid_out (root ∷ below) h = record { own = all_rows root below h; arrays = all_arrays (last_props root below) }

-- names that differ
module _ (name : List ℕ) where
  none_left : (xs ys : List (List ℕ)) → IsNoneOf name (xs ++ ys) → IsNoneOf name xs
  none_left [] ys h = tt
  none_left (x ∷ xs) ys h = (h.0, none_left xs ys h.1)

different_left : (xs ys : List (List ℕ)) → AreAllDifferent (xs ++ ys) → AreAllDifferent xs
different_left [] ys h = tt
different_left (x ∷ xs) ys h = (none_left x xs ys h.0, different_left xs ys h.1)

different_right : (xs ys : List (List ℕ)) → AreAllDifferent (xs ++ ys) → AreAllDifferent ys
different_right [] ys h = h
different_right (x ∷ xs) ys h = different_right xs ys h.1

not_named : {X : Type 0} (name : List ℕ) (es : List (List ℕ × X)) → IsNoneOf name (map (λ e. e.0) es) → IsNotNamed name es
not_named name [] h = tt
not_named name (e ∷ es) h = (h.0, not_named name es h.1)

have_names : {X : Type 0} (es : List (List ℕ × X)) → AreAllDifferent (map (λ e. e.0) es) → HaveNames es
have_names [] h = tt
have_names (e ∷ es) h = (not_named e.0 es h.0, have_names es h.1)

-- of the classes below the root some have lists
not_lower : (name : List ℕ) (above : Class) (cs : List Class) → IsNoneOf name (map (λ c. short_name c.name) cs) → IsNotNamed name (lower_lists above cs)
not_lower name above [] h = tt
not_lower name above (c ∷ cs) h = by (row_forms (own_props above c)) (not_lower name c cs h.1)
  where
    by : (forms : List Form) → IsNotNamed name (lower_lists c cs) → IsNotNamed name (own_list (short_name c.name) forms ++ lower_lists c cs)
    by [] rest = rest
    by (f ∷ fs) rest = (h.0, rest)

lower_names : (above : Class) (cs : List Class) → AreAllDifferent (map (λ c. short_name c.name) cs) → HaveNames (lower_lists above cs)
lower_names above [] h = tt
lower_names above (c ∷ cs) h = by (row_forms (own_props above c)) (lower_names c cs h.1)
  where
    by : (forms : List Form) → HaveNames (lower_lists c cs) → HaveNames (own_list (short_name c.name) forms ++ lower_lists c cs)
    by [] rest = rest
    by (f ∷ fs) rest = (not_lower (short_name c.name) c cs h.0, rest)

different : (line : List Class) → AreAllDifferent (names_behind line) → HaveDifferentNames (layout_on line)
different [] h = record { lower = tt; arrays = tt }
different (root ∷ below) h =
    let shorts = map (λ c. short_name c.name) (root ∷ below) in
    let arrays = arrays_of (last_props root below) in
    record {
      lower = lower_names root below (different_left shorts (map (λ a. a.0) arrays) h).1;
      arrays = have_names arrays (different_right shorts (map (λ a. a.0) arrays) h);
    }

pub storable_is_laid_out : (classes : List Class) (name : ClassName) → IsStorable classes name → IsLaidOut (layout_of classes name) × HaveDifferentNames (layout_of classes name)
unfolding layout_of
storable_is_laid_out classes name s = (laid_out (line_of classes name) s.line, different (line_of classes name) s.names)
