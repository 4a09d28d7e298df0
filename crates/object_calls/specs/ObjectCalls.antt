-- Calls of objects over the memory of a process: what they ask, and then memory and the answer.
use Rattle.std.specs.Prelude.{ℕ, zero, suc, Bool, true, false, cond, nat_lt, List, [], ◌∷◌, Option, None, Some, is_some}
use Rattle.std.specs.Option.{option_and_then}
use Rattle.obj_kinds.specs.declared.name.ClassName.{ClassName}
use Rattle.obj_kinds.specs.declared.cause.Cause.{Cause}
use Rattle.obj_kinds.specs.declared.cause.Cause.TheVariants.{NotFound, OtherClass, NotMember}
use Rattle.obj_kinds.specs.Ids.{id_text}
use Rattle.obj_kinds.specs.IdReading.{id_in}
use Rattle.schema_kinds.specs.declared.class.Class.{Class}
use Rattle.schema_kinds.specs.declared.key.Key.{Key}
use Rattle.schema_kinds.specs.declared.record.Record.{Record}
use Rattle.record_layout.specs.Items.{if_long}
use Rattle.record_layout.specs.Shapes.{id_length}
use Rattle.store_calls.specs.Calls.{Call, Give, Tell, bind, About, Opening, Failed, Refused, Low, Tried, Got, Lost}
use Rattle.object_calls.specs.Asking.{timed}
use Rattle.object_calls.specs.Extents.{extent_at, is_at_or_below}
use Rattle.object_calls.specs.Keys.{ManySide}
use Rattle.object_calls.specs.Loads.{LoadCall, load, raise}
use Rattle.object_calls.specs.Deletes.{delete}
use Rattle.object_calls.specs.Saves.{Drawn, save}
use Rattle.object_calls.specs.Members.{next_member}
use Rattle.object_calls.specs.Memories.{Memories, Seen, live_with, written, first_fault, all_to_save}

-- the id of an extent that a text is
abbrev pub id_of_text : List Class → ClassName → List ℕ → Option (List ℕ)
id_of_text classes extent text = option_and_then (if_long (id_length classes extent)) (id_in text)

module _ {M : Type 0} (memories : Memories M) (classes : List Class) (tries most : ℕ) where
  -- memory behind a call, and what it answers
  abbrev pub Answer : Type 0 → Type 0
  Answer A = M × Tried A

  abbrev pub refusing : {A : Type 0} → M → Cause → Call (Answer A)
  refusing m x = Tell (Refused x) (Give (m, Lost x))

  -- ---- opening an object

  -- a live object, raised where the level is higher
  abbrev pub live_opened : M → LoadCall → ℕ → ℕ → Tried (Unit {0}) → Answer ℕ
  live_opened m l n u (Lost x) = (m, Lost x)
  live_opened m l n u (Got _) = (memories.held n (cond (nat_lt u l.level) (memories.with_level n l.level m) m), Got n)

  abbrev pub open_seen : M → LoadCall → ℕ → Option Seen → Call (Answer ℕ)
  open_seen m l n None = Give (m, Got n)
  open_seen m l n (Some s) =
      cond (is_at_or_below classes s.class l.class) (bind (raise tries l.key l.class s.level l.level) (λ x. Give (live_opened m l n s.level x))) (refusing m (OtherClass s.class))

  abbrev pub loaded : M → LoadCall → Tried Record → Answer ℕ
  loaded m l (Lost x) = (m, Lost x)
  loaded m l (Got r) = let new = memories.with_loaded l r m in (new.0, Got new.1)

  abbrev pub open_by : M → LoadCall → Option ℕ → Call (Answer ℕ)
  open_by m l None = bind (load classes tries most l) (λ x. Give (loaded m l x))
  open_by m l (Some n) = open_seen m l n (memories.seen m n)

  -- the object of a key, which is loaded where it isn't live
  unfoldable pub open_object : M → LoadCall → Call (Answer ℕ)
  open_object m l = open_by m l (live_with memories m l.key)

  abbrev pub opening : M → ClassName → ℕ → Bool → Option (List ℕ) → Call (Answer ℕ)
  opening m class level touch None = refusing m NotFound
  opening m class level touch (Some id) = open_object m (record { key = record { extent = extent_at classes class; id = id }; class = class; level = level; touch = touch })

  -- by the text of an id: another text is no object's
  unfoldable pub open_text : M → ClassName → ℕ → List ℕ → Call (Answer ℕ)
  open_text m class level text = opening m class level false (id_of_text classes (extent_at classes class) text)

  -- a level of 0 or 1 is noted before anything is asked
  abbrev pub noting : {A : Type 0} → ℕ → Call A → Call A
  noting level c = cond (nat_lt level 2) (Tell Low c) c

  -- `%OpenId`
  unfoldable pub open_id : M → ClassName → ℕ → List ℕ → Call (Answer ℕ)
  open_id m class level text = noting level (open_text m class level text)

  -- ---- saving

  abbrev pub has_live : M → Key → Bool
  has_live m key = is_some (live_with memories m key)

  abbrev pub saved : M → List ℕ → Tried Drawn → Answer (Unit {0})
  saved m ns (Lost x) = (m, Lost x)
  saved m ns (Got drawn) = (memories.with_saved drawn ns m, Got tt)

  abbrev pub save_valid : M → List ℕ → Option Cause → Call (Answer (Unit {0}))
  save_valid m [] x = Give (m, Got tt)
  save_valid m (n ∷ ns) (Some x) = refusing m x
  save_valid m (n ∷ ns) None = bind (save classes tries most (has_live m) (all_to_save memories m (n ∷ ns))) (λ x. Give (saved m (n ∷ ns) x))

  -- the save of a root: nothing is asked where nothing is modified, or where an object breaks a rule
  unfoldable pub save_object : M → ℕ → Call (Answer (Unit {0}))
  save_object m root = save_valid m (written memories m root) (first_fault memories m (written memories m root))

  -- ---- deleting: the objects in memory stay as they are

  abbrev pub delete_by : M → ClassName → ℕ → Option (List ℕ) → Call (Answer (Unit {0}))
  delete_by m class level None = refusing m NotFound
  delete_by m class level (Some id) = bind (delete classes tries most (record { extent = extent_at classes class; id = id }) class level) (λ x. Give (m, x))

  unfoldable pub delete_text : M → ClassName → ℕ → List ℕ → Call (Answer (Unit {0}))
  delete_text m class level text = delete_by m class level (id_of_text classes (extent_at classes class) text)

  -- `%DeleteId`
  unfoldable pub delete_id : M → ClassName → ℕ → List ℕ → Call (Answer (Unit {0}))
  delete_id m class level text = noting level (delete_text m class level text)

  -- ---- a many side

  abbrev pub text_or : Option (List ℕ) → List ℕ
  text_or None = []
  text_or (Some id) = id_text id

  abbrev pub next_text : M → Tried (Option (List ℕ)) → Answer (List ℕ)
  next_text m (Lost x) = (m, Lost x)
  next_text m (Got id) = (m, Got (text_or id))

  abbrev pub next_behind : M → ManySide → Seen → List ℕ → Option (Option (List ℕ)) → Call (Answer (List ℕ))
  next_behind m side s holder None = refusing m NotFound
  next_behind m side s holder (Some behind) = bind (next_member classes tries side holder s.level behind) (λ x. Give (next_text m x))

  -- the empty text is before the first member
  abbrev pub behind_text : ManySide → List ℕ → Option (Option (List ℕ))
  behind_text side [] = Some None
  behind_text side (b ∷ text) = option_and_then (λ id. Some (Some id)) (id_of_text classes (extent_at classes side.class) (b ∷ text))

  abbrev pub next_of : M → ManySide → List ℕ → Seen → Option (List ℕ) → Call (Answer (List ℕ))
  next_of m side text s None = Give (m, Got [])
  next_of m side text s (Some holder) = next_behind m side s holder (behind_text side text)

  abbrev pub next_seen : M → ManySide → List ℕ → Option Seen → Call (Answer (List ℕ))
  next_seen m side text None = Give (m, Got [])
  next_seen m side text (Some s) = next_of m side text s s.id

  -- the id of the member behind one, as a text; a holder that isn't stored has none, whatever the text
  unfoldable pub next_id : M → ℕ → ManySide → List ℕ → Call (Answer (List ℕ))
  next_id m holder side text = next_seen m side text (memories.seen m holder)

  -- the member that was opened names the holder, or the call fails: by the memory alone where it asked nothing
  abbrev pub not_member : M → About → ℕ → List ℕ → Call (Answer ℕ)
  not_member m about zero id = refusing m (NotMember id)
  not_member m about (suc n) id = Tell (Failed about 0 (NotMember id)) (Give (m, Lost (NotMember id)))

  abbrev pub member_ends : LoadCall → ManySide → ℕ → Answer ℕ × ℕ → Call (Answer ℕ)
  member_ends l side holder ((m, Lost x), asked) = Give (m, Lost x)
  member_ends l side holder ((m, Got n), asked) =
      cond (memories.names_holder m side holder n) (Give (memories.with_member side holder n m, Got n)) (not_member m (Opening l.key l.class) asked l.key.id)

  abbrev pub member_by : M → ℕ → ManySide → Seen → Option (List ℕ) → Call (Answer ℕ)
  member_by m holder side s None = refusing m NotFound
  member_by m holder side s (Some id) =
      let l : LoadCall = record { key = record { extent = extent_at classes side.class; id = id }; class = side.class; level = s.level; touch = true } in
      bind (timed (open_object m l)) (member_ends l side holder)

  -- the member of an id: a load at the holder's level
  unfoldable pub member_at : M → ℕ → ManySide → Seen → List ℕ → Call (Answer ℕ)
  member_at m holder side s text = member_by m holder side s (id_of_text classes (extent_at classes side.class) text)
