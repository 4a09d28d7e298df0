-- What is known of a call that was refused, or that wasn't.
use Rattle.std.proofs.Common.{◌≡◌, sym, ◌∙◌, Result, Ok, Err, OnOk, OnErr, IfErr, IfOk}
use Rattle.std.specs.Result.{IsErrAnd}

pub on_err : {A E : Type 0} {P Q S : Type 0} (r : Result A E) → OnErr r P → OnErr r Q → (P → Q → S) → OnErr r S
on_err (Ok a) p q f = tt
on_err (Err e) p q f = f p q

pub on_ok : {A E : Type 0} {P S : Type 0} (r : Result A E) → OnOk r P → (P → S) → OnOk r S
on_ok (Ok a) p f = f p
on_ok (Err e) p f = tt

pub if_err : {A E : Type 0} {P : E → Type 0} {S : Type 0} (r : Result A E) → IfErr r P → ((e : E) → P e → S) → OnErr r S
if_err (Ok a) p f = tt
if_err (Err e) p f = f e p

pub if_ok : {A E : Type 0} {P Q : A → Type 0} (r : Result A E) → IfOk r P → ((a : A) → P a → Q a) → IfOk r Q
if_ok (Ok a) p f = f a p
if_ok (Err e) p f = tt

-- where the error is e, and it is known to be x
pub err_is : {A E : Type 0} (r : Result A E) (x e : E) → IsErrAnd r (λ y. y ≡ x) → r ≡ Err e → e ≡ x
err_is (Ok a) x e h is = absurd h
err_is (Err y) x e h is = let same : y ≡ e = cc in sym same ∙ h
