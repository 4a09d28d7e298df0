-- What an expression means. Each function is given what follows. A value that an operator, a function, a call or the store
-- takes is lost when this has ended, the one that was evaluated last first.
use Rattle.std.specs.Prelude.{ℕ, ◌+ℤ◌, pos, true, false, cond, List, [], ◌∷◌, reverse, length, Option, Some, None, is_some, Ok}
use Rattle.obj_kinds.specs.declared.sub.Sub.{Sub}
use Rattle.os_kinds.specs.declared.val.Val.{Val}
use Rattle.os_kinds.specs.declared.val.Val.TheVariants.{Data}
use Rattle.os_kinds.specs.declared.call.Call.TheVariants as call
use Rattle.os_value.specs.Answers.{and_then}
use Rattle.os_value.specs.Readings.{whole}
use Rattle.os_meaning.specs.Syntax as s
use Rattle.os_meaning.specs.Syntax.{Name, Expr, Exprs, Place}
use Rattle.os_meaning.specs.Values.{Checked, text_value, number_value, bit, truth, number_of, joins, signs, applies, subscript_of, after_of, sub_value}
use Rattle.os_meaning.specs.Frames.{Frame, Asks, Vars, Use, Rest, Whole, Collection, checked, holds, loses, loses_each, loses_some, value_in, with_var, read, current, object_in, object_here, on_got, on_read, gets, defines, increments, orders, calls, calls_own}

-- a copy of a variable's value, or what follows where it has none
abbrev pub copied_or : Option Val → (Val → Frame) → Frame → Frame
copied_or None go absent = absent
copied_or (Some v) go absent = holds v (go v)

-- the subscript that an answer of the store names, or the empty text
abbrev pub next_value : Option Sub → Val
next_value None = text_value []
next_value (Some sub) = sub_value sub

-- behind the last subscript of `$ORDER` the next one is sought, so it may be empty
abbrev pub tested : Exprs → ℕ → Val → Checked (Option Sub)
tested s.NoMore others v = after_of others v
tested (s.More e es) others v = and_then (subscript_of others v) (λ sub. Ok (Some sub))

module _ (this : Option Val) (line : ℕ) where
  abbrev mutual
    pub value : Expr → Vars → Use → Frame
    value (s.Literal t) vars go = go (text_value t) vars
    value (s.Read (s.Local x)) vars go = checked (read (value_in x vars)) line (λ v. holds v (go v vars))
    value (s.Read (s.Global g subs)) vars go =
        subscripts subs [] vars (λ vs vars. gets g vs line (λ v. loses_each vs (go v vars)) (checked (read None) line (λ v. go v vars)))
    value (s.Kept special) vars go = Asks (call.Special special) (λ a. on_got line a (λ v. go v vars))
    value s.This vars go = checked (object_here this) line (λ v. holds v (go v vars))
    value (s.Apply f args) vars go =
        values args [] vars (λ vs vars. checked (applies f (reverse vs)) line (λ r. loses_each vs (go (Data r) vars)))
    value (s.Get (s.Local x)) vars go = copied_or (value_in x vars) (λ v. go v vars) (go (text_value []) vars)
    value (s.Get (s.Global g subs)) vars go =
        subscripts subs [] vars (λ vs vars. gets g vs line (λ v. loses_each vs (go v vars)) (loses_each vs (go (text_value []) vars)))
    -- what is answered in its place is evaluated in any case, before the value is looked for
    value (s.GetOr (s.Local x) other) vars go =
        value other vars (λ d vars. copied_or (value_in x vars) (λ v. loses d (go v vars)) (go d vars))
    value (s.GetOr (s.Global g subs) other) vars go =
        subscripts subs [] vars (λ vs vars. value other vars (λ d vars.
        gets g vs line (λ v. loses d (loses_each vs (go v vars))) (loses_each vs (go d vars))))
    value (s.Defined (s.Local x)) vars go = go (bit (is_some (value_in x vars))) vars
    value (s.Defined (s.Global g subs)) vars go =
        subscripts subs [] vars (λ vs vars. defines g vs line (λ n. loses_each vs (go (number_value (pos n)) vars)))
    value (s.Order g subs) vars go =
        steps subs [] vars (λ vs vars. orders g vs line (λ next. loses_each vs (go (next_value next) vars)))
    value (s.Increment (s.Local x)) vars go =
        checked (current (value_in x vars)) line (λ a. checked (whole (a +ℤ pos 1)) line (λ z.
        loses_some (value_in x vars) (go (number_value z) (with_var x (number_value z) vars))))
    value (s.Increment (s.Global g subs)) vars go =
        subscripts subs [] vars (λ vs vars. increments g vs (pos 1) line (λ z. loses_each vs (go (number_value z) vars)))
    value (s.IncrementBy (s.Local x) by) vars go =
        value by vars (λ k vars. checked (number_of k) line (λ b. checked (current (value_in x vars)) line (λ a. checked (whole (a +ℤ b)) line (λ z.
        loses_some (value_in x vars) (loses k (go (number_value z) (with_var x (number_value z) vars)))))))
    value (s.IncrementBy (s.Global g subs) by) vars go =
        subscripts subs [] vars (λ vs vars. value by vars (λ k vars. checked (number_of k) line (λ b.
        increments g vs b line (λ z. loses k (loses_each vs (go (number_value z) vars))))))
    value (s.OnClass class member args) vars go =
        values args [] vars (λ vs vars. Asks (call.OnClass class member (reverse vs)) (λ a. on_got line a (λ v. loses_each vs (go v vars))))
    value (s.OwnProperty name) vars go =
        checked (object_here this) line (λ o. checked (object_in o) line (λ number.
        Asks (call.Read number name) (λ a. on_got line a (λ v. go v vars))))
    value (s.OwnMethod name args) vars go = values args [] vars (λ vs vars. calls_own this name vs line (λ v. loses_each vs (go v vars)))
    value (s.Property object name) vars go =
        value object vars (λ o vars. checked (object_in o) line (λ number.
        Asks (call.Read number name) (λ a. on_got line a (λ v. loses o (go v vars)))))
    -- A method of a property is one of its value, or one of the collection that it is; then the object keeps its place until the
    -- call has ended. A value that has no members is refused when the arguments have been evaluated.
    value (s.OwnPropertyMethod property name args) vars go =
        checked (object_here this) line (λ o. checked (object_in o) line (λ number.
        Asks (call.Read number property) (λ a. on_read line a
        (λ v. values args [] vars (λ vs vars. calls (Whole v) name vs line (λ r. loses_each vs (loses v (go r vars)))))
        (values args [] vars (λ vs vars. calls (Collection number property) name vs line (λ r. loses_each vs (go r vars)))))))
    value (s.PropertyMethod object property name args) vars go =
        value object vars (λ o vars. checked (object_in o) line (λ number.
        Asks (call.Read number property) (λ a. on_read line a
        (λ v. loses o (values args [] vars (λ vs vars. calls (Whole v) name vs line (λ r. loses_each vs (loses v (go r vars))))))
        (values args [] vars (λ vs vars. calls (Collection number property) name vs line (λ r. loses_each vs (loses o (go r vars))))))))
    value (s.Method object name args) vars go =
        value object vars (λ o vars. values args [] vars (λ vs vars. calls (Whole o) name vs line (λ r. loses_each vs (loses o (go r vars)))))
    value (s.Signed sign e) vars go = value e vars (λ x vars. checked (signs sign x) line (λ r. loses x (go (Data r) vars)))
    value (s.Binary op a b) vars go =
        value a vars (λ x vars. value b vars (λ y vars. checked (joins op x y) line (λ r. loses y (loses x (go (Data r) vars)))))
    value (s.AndThen a b) vars go =
        value a vars (λ x vars. checked (truth x) line (λ t. cond t
        (value b vars (λ y vars. checked (truth y) line (λ u. loses y (loses x (go (bit u) vars)))))
        (loses x (go (bit false) vars))))
    value (s.OrElse a b) vars go =
        value a vars (λ x vars. checked (truth x) line (λ t. cond t
        (loses x (go (bit true) vars))
        (value b vars (λ y vars. checked (truth y) line (λ u. loses y (loses x (go (bit u) vars)))))))

    -- the values of arguments, the last one first
    pub values : Exprs → List Val → Vars → (List Val → Rest) → Frame
    values s.NoMore vs vars go = go vs vars
    values (s.More e es) vs vars go = value e vars (λ v vars. values es (v ∷ vs) vars go)

    -- the same of subscripts, each of which is tested when it is evaluated
    pub subscripts : Exprs → List Val → Vars → (List Val → Rest) → Frame
    subscripts s.NoMore vs vars go = go vs vars
    subscripts (s.More e es) vs vars go =
        value e vars (λ v vars. checked (subscript_of (length vs) v) line (λ _. subscripts es (v ∷ vs) vars go))

    -- the same of those of `$ORDER`
    pub steps : Exprs → List Val → Vars → (List Val → Rest) → Frame
    steps s.NoMore vs vars go = go vs vars
    steps (s.More e es) vs vars go = value e vars (λ v vars. checked (tested es (length vs) v) line (λ _. steps es (v ∷ vs) vars go))
