-- A class file is of one class of text properties at most.
use Rattle.std.proofs.Common.{◌≡◌, List, ◌∷◌, [], refl, sym, ap, ◌∙◌, map, ℕ}
use Rattle.obj_kinds.specs.declared.name.ClassName.{ClassName}
use Rattle.schema_kinds.specs.declared.tree.ClassTree.{ClassTree}
use Rattle.first_class.specs.declared.form.TextClass.{TextClass}
use Rattle.first_class.specs.TextClasses.{IsTextClass}

same_class : (c d : TextClass) → c.name ≡ d.name → c.props ≡ d.props → c ≡ d
same_class c d name props =
    let named : c ≡ record c { name = d.name } = ap (λ (n : ClassName). record c { name = n }) name in
    named ∙ ap (λ (ps : List (List ℕ)). record d { props = ps }) props

pub one_class : (trees : List ClassTree) (c d : TextClass) → IsTextClass trees c → IsTextClass trees d → c ≡ d
one_class trees c d first second =
    let lists : first.tree ∷ [] ≡ second.tree ∷ [] = sym first.only ∙ second.only in
    let same : first.tree ≡ second.tree = cc in
    same_class c d (first.name ∙ ap (λ (t : ClassTree). t.name) same ∙ sym second.name) (first.props ∙ ap (λ (t : ClassTree). map (λ p. p.name) t.props) same ∙ sym second.props)
