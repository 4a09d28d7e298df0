-- The line at the front of a text, by its kind.
use Rattle.std.proofs.Common.{◌≡◌, ℕ, List, Some, None, refl, sym}
use Rattle.first_path.specs.Lines.{New, Fill, Save}
use Rattle.first_path.specs.LineReading.{new_in, fill_in, save_in, line_in}

pub line_in-new : (class text : List ℕ) (v : List ℕ × List ℕ) → Some v ≡ new_in class text → line_in class text ≡ Some (New v.0, v.1)
unfolding line_in
line_in-new class text v found = rw (sym found) refl

pub line_in-fill : (class text : List ℕ) (f : List ℕ × List ℕ × List ℕ × List ℕ) → None ≡ new_in class text → Some f ≡ fill_in text → line_in class text ≡ Some (Fill f.0 f.1 f.2, f.3)
unfolding line_in
line_in-fill class text f none found = rw (sym none, sym found) refl

pub line_in-save : (class text : List ℕ) (v : List ℕ × List ℕ) → None ≡ new_in class text → None ≡ fill_in text → Some v ≡ save_in text → line_in class text ≡ Some (Save v.0, v.1)
unfolding line_in
line_in-save class text v none none' found = rw (sym none, sym none', sym found) refl

pub line_in-none : (class text : List ℕ) → None ≡ new_in class text → None ≡ fill_in text → None ≡ save_in text → line_in class text ≡ None
unfolding line_in
line_in-none class text none none' none'' = rw (sym none, sym none', sym none'') refl
