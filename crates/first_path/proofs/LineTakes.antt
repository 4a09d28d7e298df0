-- A line that is spelt is read, whatever follows it.
use Rattle.std.proofs.Common.{◌≡◌, ℕ, Bool, true, false, ◌&&◌, List, [], ◌∷◌, ◌++◌, Option, Some, None, codes, refl, sym, ap, subst, ◌∙◌, append_assoc}
use Rattle.std.specs.Option.{option_map, option_and_then}
use Rattle.std.specs.List.{list_all}
use Rattle.first_class.specs.Names.{is_alphanumeric, is_name}
use Rattle.first_path.specs.Pieces.{after, piece, name_in, text_in, is_text_byte, is_short}
use Rattle.first_path.specs.Lines.{Line, New, Fill, Save, line_text, is_formed}
use Rattle.first_path.specs.LineReading.{new_end, set_in, new_in, value_in, fill_in, save_in, first_of, line_in}
use Rattle.first_path.proofs.LineLaws.{after-takes, piece-takes, name_in-takes, both_true, spelt3, spelt5, spelt7}
use Rattle.first_path.proofs.LineParts.{line_in-new, line_in-fill, line_in-save}

abbrev with_rest : {A : Type 0} → A → List ℕ → A × List ℕ
with_rest a rest = (a, rest)

set_in-takes : (var : List ℕ) (byte : ℕ) (rest : List ℕ) → is_name var ≡ true → is_alphanumeric byte ≡ false → set_in (codes "Set " ++ (var ++ byte ∷ rest)) ≡ Some (var, byte ∷ rest)
set_in-takes var byte rest is ends = name_in-takes var byte rest is ends

new_end-takes : (class rest : List ℕ) → new_end class (codes "=##class(" ++ (class ++ (codes ").%New()\n" ++ rest))) ≡ Some rest
new_end-takes class rest = ap (option_and_then (after (codes ").%New()\n"))) (after-takes class (codes ").%New()\n" ++ rest))

new_in-takes : (class var rest : List ℕ) → is_name var ≡ true → new_in class (codes "Set " ++ (var ++ (codes "=##class(" ++ (class ++ (codes ").%New()\n" ++ rest))))) ≡ Some (var, rest)
unfolding new_in
new_in-takes class var rest is =
    ap (option_and_then (λ (v : List ℕ × List ℕ). option_map (λ (r : List ℕ). (v.0, r)) (new_end class v.1))) (set_in-takes var 61 (codes "##class(" ++ (class ++ (codes ").%New()\n" ++ rest))) is refl)
    ∙ ap (option_map (λ (r : List ℕ). (var, r))) (new_end-takes class rest)

value_in-takes : (prop text rest : List ℕ) → is_name prop ≡ true → is_short text ≡ true → list_all is_text_byte text ≡ true → value_in (codes "." ++ (prop ++ (codes "=\"" ++ (text ++ (codes "\"\n" ++ rest))))) ≡ Some (prop, text, rest)
unfolding value_in
value_in-takes prop text rest is short plain =
    ap (option_and_then (λ (p : List ℕ × List ℕ). option_and_then (λ (t : List ℕ × List ℕ). option_map (λ (r : List ℕ). (p.0, t.0, r)) (after (codes "\"\n") t.1)) (option_and_then text_in (after (codes "=\"") p.1))))
    (name_in-takes prop 61 (codes "\"" ++ (text ++ (codes "\"\n" ++ rest))) is refl)
    ∙ ap (option_and_then (λ (t : List ℕ × List ℕ). option_map (λ (r : List ℕ). (prop, t.0, r)) (after (codes "\"\n") t.1))) (piece-takes is_text_byte is_short text 34 (codes "\n" ++ rest) plain short refl)

fill_in-takes : (var prop text rest : List ℕ) → is_name var ≡ true → is_name prop ≡ true → is_short text ≡ true → list_all is_text_byte text ≡ true
    → fill_in (codes "Set " ++ (var ++ (codes "." ++ (prop ++ (codes "=\"" ++ (text ++ (codes "\"\n" ++ rest))))))) ≡ Some (var, prop, text, rest)
unfolding fill_in
fill_in-takes var prop text rest is is' short plain =
    ap (option_and_then (λ (v : List ℕ × List ℕ). option_map (λ (p : List ℕ × List ℕ × List ℕ). (v.0, p.0, p.1, p.2)) (value_in v.1))) (set_in-takes var 46 (prop ++ (codes "=\"" ++ (text ++ (codes "\"\n" ++ rest)))) is refl)
    ∙ ap (option_map (λ (p : List ℕ × List ℕ × List ℕ). (var, p.0, p.1, p.2))) (value_in-takes prop text rest is' short plain)

save_in-takes : (var rest : List ℕ) → is_name var ≡ true → save_in (codes "Write " ++ (var ++ (codes ".%Save(),!\n" ++ rest))) ≡ Some (var, rest)
unfolding save_in
save_in-takes var rest is =
    ap (option_and_then (λ (v : List ℕ × List ℕ). option_map (λ (r : List ℕ). (v.0, r)) (after (codes ".%Save(),!\n") v.1))) (name_in-takes var 46 (codes "%Save(),!\n" ++ rest) is refl)

-- a setting is no line that makes an object
no_new : (class var rest : List ℕ) → is_name var ≡ true → None ≡ new_in class (codes "Set " ++ (var ++ 46 ∷ rest))
unfolding new_in
no_new class var rest is =
    sym (ap (option_and_then (λ (v : List ℕ × List ℕ). option_map (λ (r : List ℕ). (v.0, r)) (new_end class v.1))) (set_in-takes var 46 rest is refl))

-- a line that saves sets nothing
save_no_new : (class rest : List ℕ) → None ≡ new_in class (codes "Write " ++ rest)
unfolding new_in
save_no_new class rest = refl

save_no_fill : (rest : List ℕ) → None ≡ fill_in (codes "Write " ++ rest)
unfolding fill_in
save_no_fill rest = refl

-- the parts of a setting that is formed
record FillParts (var prop text : List ℕ) : Type 0 where
  var_is : is_name var ≡ true
  prop_is : is_name prop ≡ true
  short : is_short text ≡ true
  plain : list_all is_text_byte text ≡ true

fill_parts : (var prop text : List ℕ) → is_formed (Fill var prop text) ≡ true → FillParts var prop text
fill_parts var prop text h =
    let last = both_true (is_name var && is_name prop && is_short text) (list_all is_text_byte text) h in
    let third = both_true (is_name var && is_name prop) (is_short text) last.0 in
    let second = both_true (is_name var) (is_name prop) third.0 in
    record { var_is = second.0; prop_is = second.1; short = third.1; plain = last.1 }

pub line_in-takes : (class : List ℕ) (line : Line) (rest : List ℕ) → is_formed line ≡ true → line_in class (line_text class line ++ rest) ≡ Some (line, rest)
line_in-takes class (New var) rest is =
    subst (λ t. line_in class t ≡ Some (New var, rest)) (spelt5 (codes "Set ") var (codes "=##class(") class (codes ").%New()\n") rest)
    (line_in-new class _ (var, rest) (sym (new_in-takes class var rest is)))
line_in-takes class (Fill var prop text) rest is =
    let parts = fill_parts var prop text is in
    subst (λ t. line_in class t ≡ Some (Fill var prop text, rest)) (spelt7 (codes "Set ") var (codes ".") prop (codes "=\"") text (codes "\"\n") rest)
    (line_in-fill class _ (var, prop, text, rest) (no_new class var (prop ++ (codes "=\"" ++ (text ++ (codes "\"\n" ++ rest)))) parts.var_is) (sym (fill_in-takes var prop text rest parts.var_is parts.prop_is parts.short parts.plain)))
line_in-takes class (Save var) rest is =
    subst (λ t. line_in class t ≡ Some (Save var, rest)) (spelt3 (codes "Write ") var (codes ".%Save(),!\n") rest)
    (line_in-save class _ (var, rest) (save_no_new class _) (save_no_fill _) (sym (save_in-takes var rest is)))
