-- An expression keeps the account: its value has a place of its own, and all else is as it was. It takes no unit.
use Rattle.std.proofs.Common.{◌≡◌, ℕ, ◌+◌, ◌+ℤ◌, pos, Bool, true, false, cond, List, [], ◌∷◌, Option, Some, None, is_some, refl, arith}
use Rattle.obj_kinds.specs.declared.sub.Sub.{Sub}
use Rattle.obj_kinds.specs.declared.sub.Sub.TheVariants.{Num, Str}
use Rattle.os_kinds.specs.declared.val.Val.{Val}
use Rattle.os_kinds.specs.declared.val.Val.TheVariants.{Data}
use Rattle.os_meaning.specs.Syntax as s
use Rattle.os_meaning.specs.Syntax.{Expr, Exprs, Place}
use Rattle.os_value.specs.Readings.{whole}
use Rattle.os_meaning.specs.Values.{text_value, number_value, number_of, bit}
use Rattle.os_meaning.specs.Frames.{Frame, Vars, Use, Rest, Whole, Collection, value_in, with_var, current, object_here, object_in}
use Rattle.os_meaning.specs.Expressions.{value, values, subscripts, steps, copied_or, next_value}
use Rattle.os_meaning.specs.Accounts.{count, count_each, count_vars}
use Rattle.os_meaning.proofs.Balances.{Keeps, kept, ends, asks, held, lost, lost_each, lost_some, set_counts, checks, got, was_read, got_at, defined_at, counted_at, ordered_at, called, called_own}

module _ (o : ℕ) where
  pub bit_counts : (t : Bool) → count o (bit t) ≡ 0
  bit_counts true = refl
  bit_counts false = refl

  pub next_counts : (next : Option Sub) → count o (next_value next) ≡ 0
  next_counts None = refl
  next_counts (Some (Num z)) = refl
  next_counts (Some (Str t)) = refl

module _ (o : ℕ) {taken : Bool} where
  pub copies : (x : Option Val) (go : Val → Frame) (absent : Frame) (k : ℕ) → ((v : Val) → Keeps o taken (go v) (k + count o v)) → Keeps o taken absent k → Keeps o taken (copied_or x go absent) k
  copies None go absent k b i = i
  copies (Some v) go absent k b i = held o v (go v) k (b v)

  pub either : (t : Bool) (f g : Frame) (k : ℕ) → Keeps o taken f k → Keeps o taken g k → Keeps o taken (cond t f g) k
  either true f g k a b = a
  either false f g k a b = b

  module _ (this : Option Val) (line : ℕ) where
    mutual
      pub valued : (e : Expr) (vars : Vars) (go : Use) (k : ℕ) → ((v : Val) (ws : Vars) → Keeps o taken (go v ws) (k + count o v + count_vars o ws)) → Keeps o taken (value this line e vars go) (k + count_vars o vars)
      valued (s.Literal t) vars go k b = kept o _ _ (omega arith) (b (text_value t) vars)
      valued (s.Read (s.Local x)) vars go k b = checks o _ line _ _ (λ v. held o v _ _ (kept o _ _ (omega arith) (b v vars)))
      valued (s.Read (s.Global g subs)) vars go k b =
          kept o _ _ (omega arith) (subscripted subs [] vars _ k (λ vs ws.
          got_at o g vs line _ _ _ (λ v. lost_each o vs _ (k + count_vars o ws) _ (omega arith) (kept o _ _ (omega arith) (b (Data v) ws))) (ends o _ _ tt)))
      valued (s.Kept special) vars go k b = asks o _ _ _ (λ a. got o line a _ _ (λ v. kept o _ _ (omega arith) (b v vars)))
      valued s.This vars go k b = checks o _ line _ _ (λ v. held o v _ _ (kept o _ _ (omega arith) (b v vars)))
      valued (s.Apply f args) vars go k b =
          kept o _ _ (omega arith) (valueds args [] vars _ k (λ vs ws.
          checks o _ line _ _ (λ r. lost_each o vs _ (k + count_vars o ws) _ (omega arith) (kept o _ _ (omega arith) (b (Data r) ws)))))
      valued (s.Get (s.Local x)) vars go k b =
          copies (value_in x vars) _ _ _ (λ v. kept o _ _ (omega arith) (b v vars)) (kept o _ _ (omega arith) (b (text_value []) vars))
      valued (s.Get (s.Global g subs)) vars go k b =
          kept o _ _ (omega arith) (subscripted subs [] vars _ k (λ vs ws.
          got_at o g vs line _ _ _ (λ v. lost_each o vs _ (k + count_vars o ws) _ (omega arith) (kept o _ _ (omega arith) (b (Data v) ws)))
          (lost_each o vs _ (k + count_vars o ws) _ (omega arith) (kept o _ _ (omega arith) (b (text_value []) ws)))))
      valued (s.GetOr (s.Local x) other) vars go k b =
          valued other vars _ k (λ d ws. copies (value_in x ws) _ _ _
          (λ v. lost o d _ (k + count o v + count_vars o ws) _ (omega arith) (b v ws)) (b d ws))
      valued (s.GetOr (s.Global g subs) other) vars go k b =
          kept o _ _ (omega arith) (subscripted subs [] vars _ k (λ vs ws. valued other ws _ (k + count_each o vs) (λ d us.
          got_at o g vs line _ _ _
          (λ v. lost o d _ (k + count_each o vs + count_vars o us) _ (omega arith) (lost_each o vs _ (k + count_vars o us) _ (omega arith) (kept o _ _ (omega arith) (b (Data v) us))))
          (lost_each o vs _ (k + count o d + count_vars o us) _ (omega arith) (b d us)))))
      valued (s.Defined (s.Local x)) vars go k b = kept o _ _ (omega (arith, bit_counts o (is_some (value_in x vars)))) (b (bit (is_some (value_in x vars))) vars)
      valued (s.Defined (s.Global g subs)) vars go k b =
          kept o _ _ (omega arith) (subscripted subs [] vars _ k (λ vs ws.
          defined_at o g vs line _ _ (λ n. lost_each o vs _ (k + count_vars o ws) _ (omega arith) (kept o _ _ (omega arith) (b _ ws)))))
      valued (s.Order g subs) vars go k b =
          kept o _ _ (omega arith) (stepped subs [] vars _ k (λ vs ws.
          ordered_at o g vs line _ _ (λ next. lost_each o vs _ (k + count_vars o ws) _ (omega arith) (kept o _ _ (omega (arith, next_counts o next)) (b (next_value next) ws)))))
      valued (s.Increment (s.Local x)) vars go k b =
          checks o (current (value_in x vars)) line _ _ (λ a. checks o (whole (a +ℤ pos 1)) line _ _ (λ z. lost_some o (value_in x vars) _ (k + count_vars o (with_var x (number_value z) vars)) _
          (omega (arith, set_counts o x (number_value z) vars)) (kept o _ _ (omega arith) (b (number_value z) (with_var x (number_value z) vars)))))
      valued (s.Increment (s.Global g subs)) vars go k b =
          kept o _ _ (omega arith) (subscripted subs [] vars _ k (λ vs ws.
          counted_at o g vs _ line _ _ (λ z. lost_each o vs _ (k + count_vars o ws) _ (omega arith) (kept o _ _ (omega arith) (b (number_value z) ws)))))
      valued (s.IncrementBy (s.Local x) by) vars go k b =
          valued by vars _ k (λ d ws. checks o (number_of d) line _ _ (λ n. checks o (current (value_in x ws)) line _ _ (λ a. checks o (whole (a +ℤ n)) line _ _ (λ z.
          lost_some o (value_in x ws) _ (k + count o d + count_vars o (with_var x (number_value z) ws)) _ (omega (arith, set_counts o x (number_value z) ws))
          (lost o d _ (k + count_vars o (with_var x (number_value z) ws)) _ (omega arith) (kept o _ _ (omega arith) (b (number_value z) (with_var x (number_value z) ws))))))))
      valued (s.IncrementBy (s.Global g subs) by) vars go k b =
          kept o _ _ (omega arith) (subscripted subs [] vars _ k (λ vs ws. valued by ws _ (k + count_each o vs) (λ d us. checks o _ line _ _ (λ n.
          counted_at o g vs n line _ _ (λ z. lost o d _ (k + count_each o vs + count_vars o us) _ (omega arith)
          (lost_each o vs _ (k + count_vars o us) _ (omega arith) (kept o _ _ (omega arith) (b (number_value z) us))))))))
      valued (s.OnClass class member args) vars go k b =
          kept o _ _ (omega arith) (valueds args [] vars _ k (λ vs ws.
          asks o _ _ _ (λ a. got o line a _ _ (λ v. lost_each o vs _ (k + count o v + count_vars o ws) _ (omega arith) (b v ws)))))
      valued (s.OwnProperty name) vars go k b =
          checks o (object_here this) line _ _ (λ object. checks o (object_in object) line _ _ (λ number. asks o _ _ _ (λ a. got o line a _ _ (λ v. kept o _ _ (omega arith) (b v vars)))))
      valued (s.OwnMethod name args) vars go k b =
          kept o _ _ (omega arith) (valueds args [] vars _ k (λ vs ws.
          called_own o this name vs line _ _ (λ v. lost_each o vs _ (k + count o v + count_vars o ws) _ (omega arith) (b v ws))))
      valued (s.OwnPropertyMethod property name args) vars go k b =
          checks o (object_here this) line _ _ (λ object. checks o (object_in object) line _ _ (λ number. asks o _ _ _ (λ a. was_read o line a _ _ _
          (λ v. kept o _ _ (omega arith) (valueds args [] vars _ (k + count o v) (λ vs ws.
          called o (Whole v) name vs line _ _ (λ r. lost_each o vs _ (k + count o r + count o v + count_vars o ws) _ (omega arith) (lost o v _ (k + count o r + count_vars o ws) _ (omega arith) (b r ws))))))
          (kept o _ _ (omega arith) (valueds args [] vars _ k (λ vs ws.
          called o (Collection number property) name vs line _ _ (λ r. lost_each o vs _ (k + count o r + count_vars o ws) _ (omega arith) (b r ws))))))))
      valued (s.Property object name) vars go k b =
          valued object vars _ k (λ on ws. checks o _ line _ _ (λ number.
          asks o _ _ _ (λ a. got o line a _ _ (λ v. lost o on _ (k + count o v + count_vars o ws) _ (omega arith) (b v ws)))))
      valued (s.PropertyMethod object property name args) vars go k b =
          valued object vars _ k (λ on ws. checks o _ line _ _ (λ number. asks o _ _ _ (λ a. was_read o line a _ _ _
          (λ v. lost o on _ (k + count o v + count_vars o ws) _ (omega arith) (kept o _ _ (omega arith) (valueds args [] ws _ (k + count o v) (λ vs us.
          called o (Whole v) name vs line _ _ (λ r. lost_each o vs _ (k + count o r + count o v + count_vars o us) _ (omega arith) (lost o v _ (k + count o r + count_vars o us) _ (omega arith) (b r us)))))))
          (kept o _ _ (omega arith) (valueds args [] ws _ (k + count o on) (λ vs us.
          called o (Collection number property) name vs line _ _ (λ r. lost_each o vs _ (k + count o r + count o on + count_vars o us) _ (omega arith) (lost o on _ (k + count o r + count_vars o us) _ (omega arith) (b r us)))))))))
      valued (s.Method object name args) vars go k b =
          valued object vars _ k (λ on ws. kept o _ _ (omega arith) (valueds args [] ws _ (k + count o on) (λ vs us.
          called o (Whole on) name vs line _ _ (λ r. lost_each o vs _ (k + count o r + count o on + count_vars o us) _ (omega arith) (lost o on _ (k + count o r + count_vars o us) _ (omega arith) (b r us))))))
      valued (s.Signed sign e) vars go k b =
          valued e vars _ k (λ x ws. checks o _ line _ _ (λ r. lost o x _ (k + count_vars o ws) _ (omega arith) (kept o _ _ (omega arith) (b (Data r) ws))))
      valued (s.Binary op left right) vars go k b =
          valued left vars _ k (λ x ws. kept o _ _ (omega arith) (valued right ws _ (k + count o x) (λ y us. checks o _ line _ _ (λ r.
          lost o y _ (k + count o x + count_vars o us) _ (omega arith) (lost o x _ (k + count_vars o us) _ (omega arith) (kept o _ _ (omega arith) (b (Data r) us)))))))
      valued (s.AndThen left right) vars go k b =
          valued left vars _ k (λ x ws. checks o _ line _ _ (λ t. either t _ _ _
          (valued right ws _ (k + count o x) (λ y us. checks o _ line _ _ (λ u.
          lost o y _ (k + count o x + count_vars o us) _ (omega arith) (lost o x _ (k + count_vars o us) _ (omega arith) (kept o _ _ (omega (arith, bit_counts o u)) (b (bit u) us))))))
          (lost o x _ (k + count_vars o ws) _ (omega arith) (kept o _ _ (omega arith) (b (bit false) ws)))))
      valued (s.OrElse left right) vars go k b =
          valued left vars _ k (λ x ws. checks o _ line _ _ (λ t. either t _ _ _
          (lost o x _ (k + count_vars o ws) _ (omega arith) (kept o _ _ (omega arith) (b (bit true) ws)))
          (valued right ws _ (k + count o x) (λ y us. checks o _ line _ _ (λ u.
          lost o y _ (k + count o x + count_vars o us) _ (omega arith) (lost o x _ (k + count_vars o us) _ (omega arith) (kept o _ _ (omega (arith, bit_counts o u)) (b (bit u) us))))))))

      pub valueds : (es : Exprs) (vs : List Val) (vars : Vars) (go : List Val → Rest) (k : ℕ) → ((ws : List Val) (us : Vars) → Keeps o taken (go ws us) (k + count_each o ws + count_vars o us)) → Keeps o taken (values this line es vs vars go) (k + count_each o vs + count_vars o vars)
      valueds s.NoMore vs vars go k b = b vs vars
      valueds (s.More e es) vs vars go k b = valued e vars _ (k + count_each o vs) (λ v ws. kept o _ _ (omega arith) (valueds es (v ∷ vs) ws go k b))

      pub subscripted : (es : Exprs) (vs : List Val) (vars : Vars) (go : List Val → Rest) (k : ℕ) → ((ws : List Val) (us : Vars) → Keeps o taken (go ws us) (k + count_each o ws + count_vars o us)) → Keeps o taken (subscripts this line es vs vars go) (k + count_each o vs + count_vars o vars)
      subscripted s.NoMore vs vars go k b = b vs vars
      subscripted (s.More e es) vs vars go k b =
          valued e vars _ (k + count_each o vs) (λ v ws. checks o _ line _ _ (λ _. kept o _ _ (omega arith) (subscripted es (v ∷ vs) ws go k b)))

      pub stepped : (es : Exprs) (vs : List Val) (vars : Vars) (go : List Val → Rest) (k : ℕ) → ((ws : List Val) (us : Vars) → Keeps o taken (go ws us) (k + count_each o ws + count_vars o us)) → Keeps o taken (steps this line es vs vars go) (k + count_each o vs + count_vars o vars)
      stepped s.NoMore vs vars go k b = b vs vars
      stepped (s.More e es) vs vars go k b =
          valued e vars _ (k + count_each o vs) (λ v ws. checks o _ line _ _ (λ _. kept o _ _ (omega arith) (stepped es (v ∷ vs) ws go k b)))
