-- Why two texts are no class and script, step by step.
use Rattle.std.proofs.Common.{◌≡◌, List, ℕ, Option, subst}
use Rattle.schema_kinds.specs.declared.tree.ClassTree.{ClassTree}
use Rattle.first_class.specs.declared.form.TextClass.{TextClass}
use Rattle.first_class.specs.TextClasses.{IsTextClass}
use Rattle.first_class.proofs.OneClass.{one_class}
use Rattle.first_path.specs.Lines.{Line}
use Rattle.first_path.specs.Script.{IsScript}
use Rattle.first_path.specs.declared.act.Act.{Act}
use Rattle.obj_edges.specs.Told.{Contents}
use Rattle.host_top.specs.Words.{Names}
use Rattle.host_top.specs.Texts.{Input, AreRead, Declares, CanLink, NotInForm}
use Rattle.host_top.specs.Refusals.{IsTextRefused, IsFormRefused, AreRefused, IsScriptRefused, IsJobRefused, IsRefused}
use Rattle.host_top.specs.declared.refusal.Refusal.{Refusal}
use Rattle.host_top.specs.declared.refusal.Refusal.TheVariants.{BadWords, TooLong, NotRead, BadClass, BadLink, BadForm, Memory}

-- a class without a script is no form
no_script_form : (trees : List ClassTree) (script_text : List ℕ) (c : TextClass) → IsTextClass trees c → ((lines : List Line) (acts : List Act) → IsScript c.name.0 c.props script_text lines acts → ⊥) → NotInForm trees script_text
no_script_form trees script_text c is none class lines acts form =
    none lines acts (subst (λ (d : TextClass). IsScript d.name.0 d.props script_text lines acts) (one_class trees class c form.class_form is) form.script_form)

pub text_refused : (name class_text script_text : List ℕ) (r : Refusal) → IsTextRefused name class_text r → IsJobRefused name class_text script_text r
text_refused name class_text script_text BadWords h = h
text_refused name class_text script_text (TooLong n) h = h
text_refused name class_text script_text (NotRead n) h = h
text_refused name class_text script_text (BadClass n line column why) h = h
text_refused name class_text script_text (BadLink class why) h = absurd h
text_refused name class_text script_text BadForm h = absurd h
text_refused name class_text script_text Memory h = h

pub trees_refused : (name class_text script_text : List ℕ) (trees : List ClassTree) (r : Refusal) → Declares class_text trees → AreRefused trees r → IsJobRefused name class_text script_text r
trees_refused name class_text script_text trees BadWords said h = h
trees_refused name class_text script_text trees (TooLong n) said h = h
trees_refused name class_text script_text trees (NotRead n) said h = h
trees_refused name class_text script_text trees (BadClass n line column why) said h = absurd h
trees_refused name class_text script_text trees (BadLink class why) said h = (trees, said, h)
trees_refused name class_text script_text trees BadForm said h = (trees, said, h.0, λ class lines acts form. h.1 class form.class_form)
trees_refused name class_text script_text trees Memory said h = h

-- what stands before the script
pub record IsClassOf (class_text : List ℕ) (trees : List ClassTree) (class : TextClass) : Type 0 where
  pub said : Declares class_text trees
  pub links : CanLink trees
  pub form : IsTextClass trees class

pub script_refused : (name class_text script_text : List ℕ) (trees : List ClassTree) (class : TextClass) (r : Refusal) → IsClassOf class_text trees class → IsScriptRefused class script_text r → IsJobRefused name class_text script_text r
script_refused name class_text script_text trees class BadWords is h = h
script_refused name class_text script_text trees class (TooLong n) is h = h
script_refused name class_text script_text trees class (NotRead n) is h = h
script_refused name class_text script_text trees class (BadClass n line column why) is h = absurd h
script_refused name class_text script_text trees class (BadLink c why) is h = absurd h
script_refused name class_text script_text trees class BadForm is h = (trees, is.said, is.links, no_script_form trees script_text class is.form h)
script_refused name class_text script_text trees class Memory is h = h

-- the same, where the script's text is seen by another name
pub script_refused_as : (name class_text script_text text : List ℕ) (trees : List ClassTree) (class : TextClass) (r : Refusal) → text ≡ script_text → IsClassOf class_text trees class → IsScriptRefused class text r → IsJobRefused name class_text script_text r
script_refused_as name class_text script_text text trees class r same is h = script_refused name class_text script_text trees class r is (subst (λ (t : List ℕ). IsScriptRefused class t r) same h)

-- classes that link, but are no class of text properties
pub form_refused : (trees : List ClassTree) (r : Refusal) → CanLink trees → IsFormRefused trees r → AreRefused trees r
form_refused trees BadWords links h = h
form_refused trees (TooLong n) links h = h
form_refused trees (NotRead n) links h = h
form_refused trees (BadClass n line column why) links h = h
form_refused trees (BadLink class why) links h = absurd h
form_refused trees BadForm links h = (links, h)
form_refused trees Memory links h = h

-- with the files that were read
pub job_refused : (words : List (List ℕ)) (contents : List ℕ → Contents) (asked asked' : Option (List (List ℕ))) (faults faults' : ℕ) (input : Input) (r : Refusal) → AreRead words contents asked asked' input → IsJobRefused input.names.class input.class_text input.script_text r → IsRefused words contents asked asked' faults faults' r
job_refused words contents asked asked' faults faults' input BadWords read h = absurd h
job_refused words contents asked asked' faults faults' input (TooLong n) read h = absurd h
job_refused words contents asked asked' faults faults' input (NotRead n) read h = absurd h
job_refused words contents asked asked' faults faults' input (BadClass n line column why) read h = record { input = input; read = read; named = h.0; misspelt = h.1 }
job_refused words contents asked asked' faults faults' input (BadLink class why) read h = record { input = input; read = read; trees = h.0; said = h.1; unlinked = h.2 }
job_refused words contents asked asked' faults faults' input BadForm read h = record { input = input; read = read; trees = h.0; said = h.1; links = h.2; not_in_form = h.3 }
job_refused words contents asked asked' faults faults' input Memory read h = h
