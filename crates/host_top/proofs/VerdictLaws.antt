-- What a verdict says of its status, and which verdict comes.
use Rattle.std.proofs.Common.{◌≡◌, ℕ, ◌<◌, ◌≤◌, ◌⊎◌, inl, inr, List, [], ◌∷◌, ◌++◌, length, Option, Some, None, Result, Ok, Err, codes, refl, sym, ap, subst, ◌∙◌, arith}
use Rattle.std.specs.Option.{IfSome}
use Rattle.obj_kinds.specs.declared.name.ClassName.{ClassName}
use Rattle.schema_kinds.specs.declared.tree.ClassTree.{ClassTree}
use Rattle.class_tokens.specs.declared.error.ClassWhy.{ClassWhy}
use Rattle.class_reader.specs.ClassReading.{reading}
use Rattle.class_link.specs.declared.error.LinkWhy.{LinkWhy}
use Rattle.class_link.specs.Refusal.{Has}
use Rattle.text_reading.specs.declared.stop.Refusal.{Refusal}
use Rattle.first_class.specs.declared.form.TextClass.{TextClass}
use Rattle.first_path.specs.declared.act.Act.{Act}
use Rattle.first_path.specs.Lines.{Line}
use Rattle.obj_edges.specs.Told.{Contents, HasBytes, IsLonger}
use Rattle.host_top.specs.Words.{Names, AreRunWords, AreNoRunWords}
use Rattle.host_top.specs.Texts.{Input, Tells, TellsTooLong, AreRead, Declares, IsMisspelt, CanLink, InForm, NotInForm, IsUnderstood, max_file_len}
use Rattle.host_top.specs.Refusals.{AskedUpTo, IsTooLong, IsUnlinked, IsBadLink, IsBadForm}
use Rattle.host_top.specs.Run.{HasInput}
use Rattle.host_top.specs.Verdict.{Seen, Holds, verdict_status}
use Rattle.host_top.specs.Answer.{Says, IsAmong, IsTold, AreShort, Comes, TooLong as TextTooLong, Misspelt, Unlinked}
use Rattle.host_top.specs.declared.refusal.Refusal.TheVariants.{BadWords, TooLong, NotRead, BadClass, BadLink, BadForm, Memory}
use Rattle.host_top.specs.declared.verdict.Verdict.{Verdict}
use Rattle.host_top.specs.declared.verdict.Verdict.TheVariants.{Done, Stopped, Refused, NoMemory, NotPut}

module _ (D : Type 0) (bytes : D → Option (List ℕ)) (faults : D → ℕ) (s : Seen) (devices devices' : List D) where
  pub says : (v : Verdict) → Holds D bytes faults s devices devices' v → Says D bytes faults s devices devices' (verdict_status v)
  says Done h = record {
    done = λ e. h;
    stopped = λ e. absurd (omega arith);
    refused = λ e. absurd (omega arith);
    no_memory = λ e. absurd (omega arith);
    not_read = λ e. absurd (omega arith);
    not_put = λ e. absurd (omega arith);
    bad_words = λ e. absurd (omega arith);
    bad_form = λ e. absurd (omega arith);
    no_other = inl refl;
  }
  says Stopped h = record {
    done = λ e. absurd (omega arith);
    stopped = λ e. h;
    refused = λ e. absurd (omega arith);
    no_memory = λ e. absurd (omega arith);
    not_read = λ e. absurd (omega arith);
    not_put = λ e. absurd (omega arith);
    bad_words = λ e. absurd (omega arith);
    bad_form = λ e. absurd (omega arith);
    no_other = inr (inl refl);
  }
  says (Refused BadWords) h = record {
    done = λ e. absurd (omega arith);
    stopped = λ e. absurd (omega arith);
    refused = λ e. absurd (omega arith);
    no_memory = λ e. absurd (omega arith);
    not_read = λ e. absurd (omega arith);
    not_put = λ e. absurd (omega arith);
    bad_words = λ e. (h.0.0, h.0.1, h.1, h.2);
    bad_form = λ e. absurd (omega arith);
    no_other = inr (inr (inr (inr (inr (inr (inl refl))))));
  }
  says (Refused (TooLong name)) h = record {
    done = λ e. absurd (omega arith);
    stopped = λ e. absurd (omega arith);
    refused = λ e. (TextTooLong name.now h.0 h.1, h.2);
    no_memory = λ e. absurd (omega arith);
    not_read = λ e. absurd (omega arith);
    not_put = λ e. absurd (omega arith);
    bad_words = λ e. absurd (omega arith);
    bad_form = λ e. absurd (omega arith);
    no_other = inr (inr (inl refl));
  }
  says (Refused (NotRead name)) h = record {
    done = λ e. absurd (omega arith);
    stopped = λ e. absurd (omega arith);
    refused = λ e. absurd (omega arith);
    no_memory = λ e. absurd (omega arith);
    not_read = λ e. (name.now, h.0, h.1, h.2);
    not_put = λ e. absurd (omega arith);
    bad_words = λ e. absurd (omega arith);
    bad_form = λ e. absurd (omega arith);
    no_other = inr (inr (inr (inr (inl refl))));
  }
  says (Refused (BadClass name line column why)) h = record {
    done = λ e. absurd (omega arith);
    stopped = λ e. absurd (omega arith);
    refused = λ e. (Misspelt name.now line column why h.0 h.1, h.2);
    no_memory = λ e. absurd (omega arith);
    not_read = λ e. absurd (omega arith);
    not_put = λ e. absurd (omega arith);
    bad_words = λ e. absurd (omega arith);
    bad_form = λ e. absurd (omega arith);
    no_other = inr (inr (inl refl));
  }
  says (Refused (BadLink class why)) h = record {
    done = λ e. absurd (omega arith);
    stopped = λ e. absurd (omega arith);
    refused = λ e. (Unlinked class why h.0 h.1, h.2);
    no_memory = λ e. absurd (omega arith);
    not_read = λ e. absurd (omega arith);
    not_put = λ e. absurd (omega arith);
    bad_words = λ e. absurd (omega arith);
    bad_form = λ e. absurd (omega arith);
    no_other = inr (inr (inl refl));
  }
  says (Refused BadForm) h = record {
    done = λ e. absurd (omega arith);
    stopped = λ e. absurd (omega arith);
    refused = λ e. absurd (omega arith);
    no_memory = λ e. absurd (omega arith);
    not_read = λ e. absurd (omega arith);
    not_put = λ e. absurd (omega arith);
    bad_words = λ e. absurd (omega arith);
    bad_form = λ e. (h.0, h.1, h.2);
    no_other = inr (inr (inr (inr (inr (inr (inr (inl refl)))))));
  }
  says (Refused Memory) h = record {
    done = λ e. absurd (omega arith);
    stopped = λ e. absurd (omega arith);
    refused = λ e. absurd (omega arith);
    no_memory = λ e. h.2;
    not_read = λ e. absurd (omega arith);
    not_put = λ e. absurd (omega arith);
    bad_words = λ e. absurd (omega arith);
    bad_form = λ e. absurd (omega arith);
    no_other = inr (inr (inr (inl refl)));
  }
  says NoMemory h = record {
    done = λ e. absurd (omega arith);
    stopped = λ e. absurd (omega arith);
    refused = λ e. absurd (omega arith);
    no_memory = λ e. h;
    not_read = λ e. absurd (omega arith);
    not_put = λ e. absurd (omega arith);
    bad_words = λ e. absurd (omega arith);
    bad_form = λ e. absurd (omega arith);
    no_other = inr (inr (inr (inl refl)));
  }
  says NotPut h = record {
    done = λ e. absurd (omega arith);
    stopped = λ e. absurd (omega arith);
    refused = λ e. absurd (omega arith);
    no_memory = λ e. absurd (omega arith);
    not_read = λ e. absurd (omega arith);
    not_put = λ e. h;
    bad_words = λ e. absurd (omega arith);
    bad_form = λ e. absurd (omega arith);
    no_other = inr (inr (inr (inr (inr (inl refl)))));
  }

-- WHAT THE FILES TELL

-- words are those of one pair of names at most
pub one_names : (words : List (List ℕ)) (n m : Names) → AreRunWords words n → AreRunWords words m → (n.class ≡ m.class) × (n.script ≡ m.script)
one_names words n m first second =
    let same = sym first.words_are ∙ second.words_are in
    (cc, cc)

tells_same : (contents : List ℕ → Contents) (name told text : List ℕ) → Tells contents name text → contents name ≡ Some (Some told) → text ≡ told
tells_same contents name told text tells is = let same : Some told ≡ Some text = subst (λ (o : Contents). HasBytes o text) is tells in cc same

-- the texts that were read are those that are told
record AreSame (input told : Input) : Type 0 where
  class_text : input.class_text ≡ told.class_text
  script_text : input.script_text ≡ told.script_text

read_same : (s : Seen) (input told : Input) → AreRead s.words s.contents s.asked s.asked' input → IsTold s told → AreSame input told
read_same s input told read is =
    let names = one_names s.words input.names told.names read.words_are is.words_are in
    record {
      class_text = tells_same s.contents input.names.class told.class_text input.class_text read.class_told (ap s.contents names.0 ∙ is.class_told);
      script_text = tells_same s.contents input.names.script told.script_text input.script_text read.script_told (ap s.contents names.1 ∙ is.script_told);
    }

understood_same : (input told : Input) (class : TextClass) (lines : List Line) (acts : List Act) → AreSame input told → IsUnderstood input.class_text input.script_text class lines acts → IsUnderstood told.class_text told.script_text class lines acts
understood_same input told class lines acts same form =
    subst (λ t. IsUnderstood told.class_text t class lines acts) same.script_text (subst (λ t. IsUnderstood t input.script_text class lines acts) same.class_text form)

not_short : (contents : List ℕ → Contents) (name text : List ℕ) → contents name ≡ Some (Some text) → length text ≤ max_file_len → TellsTooLong contents name → ⊥
not_short contents name text is short long = let more = subst (λ (o : Contents). IsLonger o max_file_len) is long in omega arith

-- a file that is refused for its length is too long
too_long_is : (s : Seen) (told : Input) (name : List ℕ) → IsTold s told → AreShort told → IsTooLong s.words s.contents s.asked s.asked' name → ⊥
too_long_is s told name is short long = by long.asks
  where
    names : (long.names.class ≡ told.names.class) × (long.names.script ≡ told.names.script)
    names = one_names s.words long.names told.names long.words_are is.words_are

    by : AskedUpTo long.names s.asked s.asked' name → ⊥
    by (inl class) = not_short s.contents name told.class_text (ap s.contents (class.0 ∙ names.0) ∙ is.class_told) short.0 long.too_long
    by (inr script) = not_short s.contents name told.script_text (ap s.contents (script.0 ∙ names.1) ∙ is.script_told) short.1 long.too_long

-- what was read isn't too long
read_short : (s : Seen) (input told : Input) → AreRead s.words s.contents s.asked s.asked' input → IsTold s told → (max_file_len < length told.class_text) ⊎ (max_file_len < length told.script_text) → ⊥
read_short s input told read is (inl long) = let same = read_same s input told read is in let short = read.class_short in omega (arith, ap length same.class_text)
read_short s input told read is (inr long) = let same = read_same s input told read is in let short = read.script_short in omega (arith, ap length same.script_text)

-- ---- what a class file says is one thing

one_answer : (o : Result (List ClassTree) (Refusal ClassWhy)) (trees others : List ClassTree) → o ≡ Ok trees → o ≡ Ok others → trees ≡ others
one_answer o trees others first second = cc

no_two_answers : (o : Result (List ClassTree) (Refusal ClassWhy)) (trees : List ClassTree) (r : Refusal ClassWhy) → o ≡ Ok trees → o ≡ Err r → ⊥
no_two_answers o trees r first second = cc

declares_one : (text : List ℕ) (trees others : List ClassTree) → Declares text trees → Declares text others → trees ≡ others
declares_one text trees others first second = one_answer (reading text) trees others first second

no_refusal : (text : List ℕ) (trees : List ClassTree) (r : Refusal ClassWhy) → Declares text trees → IsMisspelt text r → ⊥
no_refusal text trees r said misspelt = no_two_answers (reading text) trees r said misspelt

-- the classes of a text that is understood link, and are in the form
not_understood : (class_text script_text : List ℕ) (class : TextClass) (lines : List Line) (acts : List Act) (trees : List ClassTree) → Declares class_text trees → NotInForm trees script_text → IsUnderstood class_text script_text class lines acts → ⊥
not_understood class_text script_text class lines acts trees said none is =
    none class lines acts (subst (λ (ts : List ClassTree). InForm ts script_text class lines acts) (declares_one class_text is.trees trees is.said said) is.form)

linked_all : (class_text script_text : List ℕ) (class : TextClass) (lines : List Line) (acts : List Act) (trees : List ClassTree) → Declares class_text trees → IsUnderstood class_text script_text class lines acts → CanLink trees
linked_all class_text script_text class lines acts trees said is = subst CanLink (declares_one class_text is.trees trees is.said said) is.links

-- the first reason is one
unlinked_is : (trees : List ClassTree) (class : ClassName) (why : LinkWhy) → IsUnlinked trees class why → CanLink trees → ⊥
unlinked_is trees class why first links = links first.0 why first.2.within first.2.has

-- ---- what was read, against what is told

-- the trees that were read are those that are told
read_declares : (s : Seen) (input told : Input) (trees : List ClassTree) → AreRead s.words s.contents s.asked s.asked' input → IsTold s told → Declares told.class_text trees → Declares input.class_text trees
read_declares s input told trees read is said = subst (λ (t : List ℕ). Declares t trees) (sym (read_same s input told read is).class_text) said

read_misspelt : (s : Seen) (input told : Input) (r : Refusal ClassWhy) → AreRead s.words s.contents s.asked s.asked' input → IsTold s told → IsMisspelt told.class_text r → IsMisspelt input.class_text r
read_misspelt s input told r read is misspelt = subst (λ (t : List ℕ). IsMisspelt t r) (sym (read_same s input told read is).class_text) misspelt

ran_misspelt : (s : Seen) (told : Input) (class : TextClass) (acts : List Act) (r : Refusal ClassWhy) → HasInput s.words s.contents s.asked s.asked' class acts → IsTold s told → IsMisspelt told.class_text r → ⊥
ran_misspelt s told class acts r h is misspelt = no_refusal h.input.class_text h.form.trees r h.form.said (read_misspelt s h.input told r h.read is misspelt)

ran_unlinked : (s : Seen) (told : Input) (class : TextClass) (acts : List Act) (trees : List ClassTree) (i : ℕ) (why : LinkWhy) → HasInput s.words s.contents s.asked s.asked' class acts → IsTold s told → Declares told.class_text trees → i < length trees → Has trees i why → ⊥
ran_unlinked s told class acts trees i why h is said within has =
    linked_all h.input.class_text h.input.script_text class h.lines acts trees (read_declares s h.input told trees h.read is said) h.form i why within has

ran_without_form : (s : Seen) (told : Input) (class : TextClass) (acts : List Act) (trees : List ClassTree) → HasInput s.words s.contents s.asked s.asked' class acts → IsTold s told → Declares told.class_text trees → NotInForm trees told.script_text → ⊥
ran_without_form s told class acts trees h is said none =
    not_understood told.class_text told.script_text class h.lines acts trees said none (understood_same h.input told class h.lines acts (read_same s h.input told h.read is) h.form)

misspelt_is : (s : Seen) (told : Input) (trees : List ClassTree) (input : Input) → AreRead s.words s.contents s.asked s.asked' input → (r : Refusal ClassWhy) → IsMisspelt input.class_text r → IsTold s told → Declares told.class_text trees → ⊥
misspelt_is s told trees input read r misspelt is said = no_refusal input.class_text trees r (read_declares s input told trees read is said) misspelt

bad_link_is : (s : Seen) (told : Input) (trees : List ClassTree) (class : ClassName) (why : LinkWhy) → IsBadLink s.words s.contents s.asked s.asked' class why → IsTold s told → Declares told.class_text trees → CanLink trees → ⊥
bad_link_is s told trees class why bad is said links =
    unlinked_is bad.trees class why bad.unlinked (subst CanLink (declares_one bad.input.class_text trees bad.trees (read_declares s bad.input told trees bad.read is said) bad.said) links)

bad_form_misspelt : (s : Seen) (told : Input) (r : Refusal ClassWhy) → IsBadForm s.words s.contents s.asked s.asked' → IsTold s told → IsMisspelt told.class_text r → ⊥
bad_form_misspelt s told r bad is misspelt = no_refusal bad.input.class_text bad.trees r bad.said (read_misspelt s bad.input told r bad.read is misspelt)

bad_form_unlinked : (s : Seen) (told : Input) (trees : List ClassTree) (i : ℕ) (why : LinkWhy) → IsBadForm s.words s.contents s.asked s.asked' → IsTold s told → Declares told.class_text trees → i < length trees → Has trees i why → ⊥
bad_form_unlinked s told trees i why bad is said within has =
    subst CanLink (declares_one bad.input.class_text bad.trees trees bad.said (read_declares s bad.input told trees bad.read is said)) bad.links i why within has

bad_form_understood : (s : Seen) (told : Input) (class : TextClass) (lines : List Line) (acts : List Act) → IsBadForm s.words s.contents s.asked s.asked' → IsTold s told → IsUnderstood told.class_text told.script_text class lines acts → ⊥
bad_form_understood s told class lines acts bad is form =
    let same = read_same s bad.input told bad.read is in
    not_understood bad.input.class_text bad.input.script_text class lines acts bad.trees bad.said bad.not_in_form
    (understood_same told bad.input class lines acts (record { class_text = sym same.class_text; script_text = sym same.script_text }) form)

module _ (D : Type 0) (bytes : D → Option (List ℕ)) (faults : D → ℕ) (s : Seen) (devices devices' : List D) where
  pub comes : (v : Verdict) → Holds D bytes faults s devices devices' v → Comes s (verdict_status v)
  comes Done h = record {
    words = λ none. absurd (none h.2.input.names h.2.read.words_are);
    too_long = λ input is long. absurd (read_short s h.2.input input h.2.read is long);
    misspelt = λ input is short r misspelt. absurd (ran_misspelt s input h.0 h.1 r h.2 is misspelt);
    unlinked = λ input is short trees said i why within has. absurd (ran_unlinked s input h.0 h.1 trees i why h.2 is said within has);
    form = λ input is short trees said links none. absurd (ran_without_form s input h.0 h.1 trees h.2 is said none);
    right = λ input is short class lines acts form. inl refl;
  }
  comes Stopped h = record {
    words = λ none. absurd (none h.2.input.names h.2.read.words_are);
    too_long = λ input is long. absurd (read_short s h.2.input input h.2.read is long);
    misspelt = λ input is short r misspelt. absurd (ran_misspelt s input h.0 h.1 r h.2 is misspelt);
    unlinked = λ input is short trees said i why within has. absurd (ran_unlinked s input h.0 h.1 trees i why h.2 is said within has);
    form = λ input is short trees said links none. absurd (ran_without_form s input h.0 h.1 trees h.2 is said none);
    right = λ input is short class lines acts form. inr (inl refl);
  }
  comes (Refused BadWords) h = record {
    words = λ none. inl refl;
    too_long = λ input is long. absurd (h.0.0 input.names is.words_are);
    misspelt = λ input is short r misspelt. absurd (h.0.0 input.names is.words_are);
    unlinked = λ input is short trees said i why within has. absurd (h.0.0 input.names is.words_are);
    form = λ input is short trees said links none. absurd (h.0.0 input.names is.words_are);
    right = λ input is short class lines acts form. absurd (h.0.0 input.names is.words_are);
  }
  comes (Refused (TooLong name)) h = record {
    words = λ none. absurd (none h.0.names h.0.words_are);
    too_long = λ input is long. inl refl;
    misspelt = λ input is short r misspelt. inl refl;
    unlinked = λ input is short trees said i why within has. inl refl;
    form = λ input is short trees said links none. absurd (too_long_is s input name.now is short h.0);
    right = λ input is short class lines acts form. absurd (too_long_is s input name.now is short h.0);
  }
  comes (Refused (NotRead name)) h = record {
    words = λ none. absurd (none h.0.names h.0.words_are);
    too_long = λ input is long. inr (inr (inl refl));
    misspelt = λ input is short r misspelt. inr (inr (inl refl));
    unlinked = λ input is short trees said i why within has. inr (inr (inl refl));
    form = λ input is short trees said links none. inr (inr (inl refl));
    right = λ input is short class lines acts form. inr (inr (inr (inl refl)));
  }
  comes (Refused (BadClass name line column why)) h = record {
    words = λ none. absurd (none h.0.input.names h.0.read.words_are);
    too_long = λ input is long. inl refl;
    misspelt = λ input is short r misspelt. inl refl;
    unlinked = λ input is short trees said i reason within has. inl refl;
    form = λ input is short trees said links none. absurd (misspelt_is s input trees h.0.input h.0.read h.0.misspelt.0 h.0.misspelt.1 is said);
    right = λ input is short class lines acts form. absurd (misspelt_is s input form.trees h.0.input h.0.read h.0.misspelt.0 h.0.misspelt.1 is form.said);
  }
  comes (Refused (BadLink class why)) h = record {
    words = λ none. absurd (none h.0.input.names h.0.read.words_are);
    too_long = λ input is long. inl refl;
    misspelt = λ input is short r misspelt. inl refl;
    unlinked = λ input is short trees said i reason within has. inl refl;
    form = λ input is short trees said links none. absurd (bad_link_is s input trees class why h.0 is said links);
    right = λ input is short found lines acts form. absurd (bad_link_is s input form.trees class why h.0 is form.said form.links);
  }
  comes (Refused BadForm) h = record {
    words = λ none. absurd (none h.0.input.names h.0.read.words_are);
    too_long = λ input is long. absurd (read_short s h.0.input input h.0.read is long);
    misspelt = λ input is short r misspelt. absurd (bad_form_misspelt s input r h.0 is misspelt);
    unlinked = λ input is short trees said i why within has. absurd (bad_form_unlinked s input trees i why h.0 is said within has);
    form = λ input is short trees said links none. inl refl;
    right = λ input is short class lines acts form. absurd (bad_form_understood s input class lines acts h.0 is form);
  }
  comes (Refused Memory) h = record {
    words = λ none. inr (inl refl);
    too_long = λ input is long. inr (inl refl);
    misspelt = λ input is short r misspelt. inr (inl refl);
    unlinked = λ input is short trees said i why within has. inr (inl refl);
    form = λ input is short trees said links none. inr (inl refl);
    right = λ input is short class lines acts form. inr (inr (inl refl));
  }
  comes NoMemory h = record {
    words = λ none. inr (inl refl);
    too_long = λ input is long. inr (inl refl);
    misspelt = λ input is short r misspelt. inr (inl refl);
    unlinked = λ input is short trees said i why within has. inr (inl refl);
    form = λ input is short trees said links none. inr (inl refl);
    right = λ input is short class lines acts form. inr (inr (inl refl));
  }
  comes NotPut h = record {
    words = λ none. inr (inr (inl refl));
    too_long = λ input is long. inr (inr (inr (inl refl)));
    misspelt = λ input is short r misspelt. inr (inr (inr (inl refl)));
    unlinked = λ input is short trees said i why within has. inr (inr (inr (inl refl)));
    form = λ input is short trees said links none. inr (inr (inr (inl refl)));
    right = λ input is short class lines acts form. inr (inr (inr (inr (inl refl))));
  }

pub says_status : (D : Type 0) (bytes : D → Option (List ℕ)) (faults : D → ℕ) (s : Seen) (devices devices' : List D) (v : Verdict) (status : ℕ) → status ≡ verdict_status v → Holds D bytes faults s devices devices' v → Says D bytes faults s devices devices' status
says_status D bytes faults s devices devices' v status is h = subst (Says D bytes faults s devices devices') (sym is) (says D bytes faults s devices devices' v h)

pub comes_status : (D : Type 0) (bytes : D → Option (List ℕ)) (faults : D → ℕ) (s : Seen) (devices devices' : List D) (v : Verdict) (status : ℕ) → status ≡ verdict_status v → Holds D bytes faults s devices devices' v → Comes s status
comes_status D bytes faults s devices devices' v status is h = subst (Comes s) (sym is) (comes D bytes faults s devices devices' v h)
