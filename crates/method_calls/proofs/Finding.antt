-- Which class method a call means, by the place of its name.
use Rattle.std.proofs.Common.{◌≡◌, ℕ, Bool, true, false, cond, List, [], ◌∷◌, slice_get, Option, Some, None, is_some, option_and_then, Result, Err, refl, sym, ap, ◌∙◌, subst}
use Rattle.std.specs.Str.{bytes_eq}
use Rattle.std.proofs.lemmas.Cmp.{nat_list_eq_equiv}
use Rattle.obj_kinds.specs.declared.name.ClassName.{ClassName}
use Rattle.obj_kinds.specs.declared.error_name.ErrorName.{ErrorName}
use Rattle.obj_kinds.specs.declared.error_name.ErrorName.TheVariants as error
use Rattle.obj_kinds.proofs.TextLaws.{same_text-is}
use Rattle.schema_kinds.specs.declared.class.Class.{Class}
use Rattle.schema_kinds.specs.Hierarchy.{place_of}
use Rattle.schema_kinds.specs.Classes.{class_names, class_of}
use Rattle.os_meaning.specs.Syntax.{Name, Block}
use Rattle.host_meaning.specs.Methods.{Program as Meant, Found, class_at, method_of}
use Rattle.method_table.specs.declared.table.MethodPlace.{MethodPlace}
use Rattle.method_table.specs.Places.{method_place}
use Rattle.method_table.specs.Tables.{found_at, Leads}
use Rattle.method_table.proofs.Leading.{Located, located, places_are_methods}
use Rattle.method_calls.specs.declared.program.Program.{Program}
use Rattle.method_calls.specs.declared.program.Callee.{Callee}
use Rattle.method_calls.specs.Programs.{IsProgramOf, of_found, callee_of, Finds}

-- ---- the class of a name

abbrev first_of : Option (Class × List Block) → Option Class
first_of None = None
first_of (Some r) = Some r.0

same_name : (c : Class) (name : ClassName) → bytes_eq c.name.0 name.0 ≡ true → c.name ≡ name
same_name c name at = ap (λ (t : List ℕ). record { 0 = t }) (sym (same_text-is name.0 c.name.0 (nat_list_eq_equiv.symm name.0 c.name.0 ∙ at)))

name_or : ClassName → Option (Class × List Block) → ClassName
name_or name None = name
name_or name (Some x) = x.0.name

class_by : (name : ClassName) (c : Class) (b : List Block) (r : Class × List Block) (o : Option (Class × List Block)) → (o ≡ Some r → r.0.name ≡ name) → (t : Bool) → bytes_eq c.name.0 name.0 ≡ t → cond t (Some (c, b)) o ≡ Some r → r.0.name ≡ name
unfolding name_or
class_by name c b r o more true at h = sym (ap (name_or name) h) ∙ same_name c name at
class_by name c b r o more false at h = more h

class_name : (name : ClassName) (cs : List Class) (bs : List (List Block)) (r : Class × List Block) → class_at name cs bs ≡ Some r → r.0.name ≡ name
class_name name [] bs r h = cc
class_name name (c ∷ cs) [] r h = cc
class_name name (c ∷ cs) (b ∷ bs) r h = class_by name c b r (class_at name cs bs) (class_name name cs bs r) (bytes_eq c.name.0 name.0) refl h

class_there : (cs : List Class) (bs : List (List Block)) (o : Option ℕ) (r : Option (Class × List Block)) → Located cs bs o r → option_and_then (λ i. slice_get cs i) o ≡ first_of r
class_there cs bs None None l = refl
class_there cs bs (Some i) (Some r) l = l.0
class_there cs bs None (Some r) l = elim l [ ]
class_there cs bs (Some i) None l = elim l [ ]

none_there : (r : Option (Class × List Block)) → None ≡ first_of r → is_some r ≡ false
none_there None h = refl
none_there (Some r) h = cc

some_there : (r : Option (Class × List Block)) (c : Class) → Some c ≡ first_of r → is_some r ≡ true
some_there None c h = cc
some_there (Some r) c h = refl

class_or : Class → Option Class → Class
class_or c None = c
class_or c (Some x) = x

named_there : (name : ClassName) (cs : List Class) (bs : List (List Block)) (r : Option (Class × List Block)) (c : Class) → class_at name cs bs ≡ r → Some c ≡ first_of r → c.name ≡ name
unfolding class_or
named_there name cs bs None c at h = cc
named_there name cs bs (Some r) c at h = ap (λ (y : Class). y.name) (ap (class_or c) h) ∙ class_name name cs bs r at

place_or : MethodPlace → Option MethodPlace → MethodPlace
place_or x None = x
place_or x (Some z) = z

module _ (meant : Meant) (p : Program) (is : IsProgramOf meant p) (class : ClassName) (name : Name) where
  there : class_of p.schema class ≡ first_of (class_at class meant.classes meant.bodies)
  there = ap (λ cs. class_of cs class) is.classes ∙ class_there meant.classes meant.bodies (place_of (class_names meant.classes) class) (class_at class meant.classes meant.bodies) (located meant.classes meant.bodies is.bodies class)

  no_callee : None ≡ class_of p.schema class → callee_of meant class name ≡ Err error.ClassDoesNotExist
  no_callee h = ap (λ b. cond b (of_found (method_of meant class name)) (Err error.ClassDoesNotExist)) (none_there (class_at class meant.classes meant.bodies) (h ∙ there))

  known : (c : Class) → Some c ≡ class_of p.schema class → callee_of meant class name ≡ of_found (method_of meant class name)
  known c h = ap (λ b. cond b (of_found (method_of meant class name)) (Err error.ClassDoesNotExist)) (some_there (class_at class meant.classes meant.bodies) c (h ∙ there))

  leads : Leads meant (method_place p.schema class name) (method_of meant class name)
  leads = subst (λ cs. Leads meant (method_place cs class name) (method_of meant class name)) (sym is.classes) (places_are_methods meant is.bodies class name)

  none_leads : (o : Option MethodPlace) (f : Option Found) → Leads meant o f → None ≡ o → f ≡ None
  none_leads None None l h = refl
  none_leads None (Some f) l h = elim l [ ]
  none_leads (Some x) None l h = refl
  none_leads (Some x) (Some f) l h = cc

  some_leads : (x : MethodPlace) (r : Result Callee ErrorName) (n : ClassName) (o : Option MethodPlace) (f : Option Found) → Leads meant o f → Some x ≡ o
      → ((f : Found) → found_at meant x ≡ Some f → Finds (of_found (Some f)) n r) → Finds (of_found f) n r
  unfolding place_or
  some_leads x r n None f l h does = let e : Some x ≡ None = h in cc
  some_leads x r n (Some y) None l h does = elim l [ ]
  some_leads x r n (Some y) (Some f) l h does = does f (ap (λ (z : MethodPlace). found_at meant z) (ap (place_or x) h) ∙ l)

  pub no_class : None ≡ class_of p.schema class → Finds (callee_of meant class name) class (Err error.ClassDoesNotExist)
  no_class h = subst (λ y. Finds y class (Err error.ClassDoesNotExist)) (sym (no_callee h)) refl

  pub no_method : (c : Class) → Some c ≡ class_of p.schema class → None ≡ method_place p.schema class name → Finds (callee_of meant class name) class (Err error.MethodDoesNotExist)
  no_method c h none =
      subst (λ y. Finds y class (Err error.MethodDoesNotExist)) (sym (known c h ∙ ap of_found (none_leads (method_place p.schema class name) (method_of meant class name) leads none))) refl

  pub finds : (c : Class) (x : MethodPlace) (r : Result Callee ErrorName) → Some c ≡ class_of p.schema class → Some x ≡ method_place p.schema class name
      → ((f : Found) → found_at meant x ≡ Some f → Finds (of_found (Some f)) c.name r) → Finds (callee_of meant class name) class r
  finds c x r h at does =
      subst (λ n. Finds (callee_of meant class name) n r) (named_there class meant.classes meant.bodies (class_at class meant.classes meant.bodies) c refl (h ∙ there))
      (subst (λ y. Finds y c.name r) (sym (known c h)) (some_leads x r c.name (method_place p.schema class name) (method_of meant class name) leads at does))
