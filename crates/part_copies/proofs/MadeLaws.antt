-- What is made of parts so far, and what is left to make.
use Rattle.std.proofs.Common.{◌≡◌, List, [], ◌∷◌, ◌++◌, refl, ap, sym, ◌∙◌, append_assoc}
use Rattle.oref_table.specs.declared.slot.Slot.{Slot}
use Rattle.part_copies.specs.declared.copies.Made.{Made}
use Rattle.part_copies.specs.Copies.{Copies, joined, none_left}
use Rattle.part_copies.specs.Made.{IsAdded}

pub append-none : {X : Type 0} (xs : List X) → xs ++ [] ≡ xs
append-none [] = refl
append-none (x ∷ xs) = ap (λ ys. x ∷ ys) (append-none xs)

pub record IsAmid (start now : Made) (all rest : Copies (List Slot)) (copy : List Slot) : Type 0 where
  pub last : all.last ≡ rest.last
  pub made : start.objects.items ++ all.made ≡ now.objects.items ++ rest.made
  pub named : start.named.items ++ all.named ≡ now.named.items ++ rest.named
  pub copy_is : all.copy ≡ copy ++ rest.copy

pub amid-start : (start : Made) (all : Copies (List Slot)) → IsAmid start start all all []
amid-start start all = record { last = refl; made = refl; named = refl; copy_is = refl }

behind : {X : Type 0} (start now then one rest : List X) → then ≡ now ++ one → start ≡ now ++ (one ++ rest) → start ≡ then ++ rest
behind start now then one rest add is = is ∙ sym (append_assoc now one rest) ∙ ap (λ xs. xs ++ rest) (sym add)

pub amid-more : (start now then : Made) (all one_rest rest : Copies (List Slot)) (one : Copies Slot) (x : Slot) (copy more : List Slot) → IsAmid start now all one_rest copy → one_rest ≡ joined one rest → IsAdded now then one x → more ≡ copy ++ x ∷ []
    → IsAmid start then all rest more
amid-more start now then all one_rest rest one x copy more h is add push = record {
  last = h.last ∙ ap (λ (c : Copies (List Slot)). c.last) is;
  made = behind (start.objects.items ++ all.made) now.objects.items then.objects.items one.made rest.made add.made (h.made ∙ ap (λ (c : Copies (List Slot)). now.objects.items ++ c.made) is);
  named = behind (start.named.items ++ all.named) now.named.items then.named.items one.named rest.named add.named (h.named ∙ ap (λ (c : Copies (List Slot)). now.named.items ++ c.named) is);
  copy_is = behind all.copy copy more (x ∷ []) rest.copy push (h.copy_is ∙ ap (λ (c : Copies (List Slot)). copy ++ c.copy) is ∙ ap (λ y. copy ++ (y ∷ rest.copy)) (sym add.copy));
}

pub amid-end : (start now : Made) (all rest : Copies (List Slot)) (copy : List Slot) → IsAmid start now all rest copy → rest ≡ none_left now.last → IsAdded start now all copy
amid-end start now all rest copy h is = record {
  copy = sym (h.copy_is ∙ ap (λ (c : Copies (List Slot)). copy ++ c.copy) is ∙ append-none copy);
  last = sym (h.last ∙ ap (λ (c : Copies (List Slot)). c.last) is);
  made = sym (h.made ∙ ap (λ (c : Copies (List Slot)). now.objects.items ++ c.made) is ∙ append-none now.objects.items);
  named = sym (h.named ∙ ap (λ (c : Copies (List Slot)). now.named.items ++ c.named) is ∙ append-none now.named.items);
}
