-- A call that is cut earlier, or refuses more, answers what the other answers, where it answers.
use Rattle.std.proofs.Common.{◌≡◌, ℕ, zero, suc, ◌+◌, List, [], ◌∷◌, Option, Some, None, refl, sym, ap, subst, ◌∙◌, arith}
use Rattle.obj_kinds.specs.declared.name.ClassName.{ClassName}
use Rattle.obj_kinds.specs.declared.value.Value.{Value}
use Rattle.obj_kinds.specs.declared.op.Op.{Op}
use Rattle.obj_kinds.specs.declared.op.Reply.{Reply}
use Rattle.obj_kinds.specs.declared.cause.Cause.{Cause}
use Rattle.schema_kinds.specs.declared.class.Class.{Class}
use Rattle.schema_kinds.specs.declared.key.Key.{Key}
use Rattle.schema_kinds.specs.declared.kind.Item.{Item}
use Rattle.schema_kinds.specs.declared.record.Field.{Field}
use Rattle.record_layout.specs.Inverse.{each_read}
use Rattle.record_layout.specs.Items.{row_field}
use Rattle.record_layout.specs.Layout.{Layout, layout_of}
use Rattle.record_layout.specs.Rows.{data_node, below}
use Rattle.record_reading.specs.Rows.{items_behind}
use Rattle.storage_map.specs.Markers.{row_class}
use Rattle.store_calls.specs.Calls.{Call, Give, Ask, Tell, Cut, Tag, bind, Tried, Got, Lost, then, then_on, each, Round, Again, Ends, round, turns}
use Rattle.store_calls.specs.Walks.{Walk, first_walk, walk_turn, walk}
use Rattle.read_laws.specs.Undisturbed.{undisturbed}
use Rattle.object_calls.specs.Extents.{refuses_none}
use Rattle.object_calls.specs.Reading.{value_found, or_damaged_at, read_list, is_element, read_array, read_below, read_as, on_refusal, on_marker, on_row, read}

abbrev pub IsLess : {A : Type 0} → Call (Tried A) → Call (Tried A) → Type 0
IsLess Cut d = Unit {0}
IsLess (Give (Lost x)) d = Unit {0}
IsLess (Give (Got a)) d = d ≡ Give (Got a)
IsLess {A} (Tell x c) d = (e : Call (Tried A)) × (d ≡ Tell x e) × IsLess c e
IsLess {A} (Ask op tag k) d = (j : Reply → Call (Tried A)) × (d ≡ Ask op tag j) × ((r : Reply) → IsLess (k r) (j r))

pub less_same : {A : Type 0} (c : Call (Tried A)) → IsLess c c
less_same Cut = tt
less_same (Give (Lost x)) = tt
less_same (Give (Got a)) = refl
less_same (Tell x c) = (c, refl, less_same c)
less_same (Ask op tag k) = (k, refl, λ r. less_same (k r))

pub less_then : {A B : Type 0} (c d : Call (Tried A)) (f g : A → Call (Tried B)) → IsLess c d → ((a : A) → IsLess (f a) (g a)) → IsLess (then c f) (then d g)
less_then Cut d f g h more = tt
less_then (Give (Lost x)) d f g h more = tt
less_then (Give (Got a)) d f g h more = subst (λ e. IsLess (f a) (then e g)) (sym h) (more a)
less_then (Tell x c) d f g h more = (then h.0 g, ap (λ e. then e g) h.1, less_then c h.0 f g h.2 more)
less_then (Ask op tag k) d f g h more = ((λ r. then (h.0 r) g), ap (λ e. then e g) h.1, λ r. less_then (k r) (h.0 r) f g (h.2 r) more)

less_each : {A B : Type 0} (f g : A → Call (Tried B)) → ((x : A) → IsLess (f x) (g x)) → (xs : List A) → IsLess (each f xs) (each g xs)
less_each f g h [] = refl
less_each f g h (x ∷ xs) =
    less_then (f x) (g x) (λ y. then (each f xs) (λ ys. Give (Got (y ∷ ys)))) (λ y. then (each g xs) (λ ys. Give (Got (y ∷ ys)))) (h x)
    (λ y. less_then (each f xs) (each g xs) (λ ys. Give (Got (y ∷ ys))) (λ ys. Give (Got (y ∷ ys))) (less_each f g h xs) (λ ys. refl))

less_turns : {S A : Type 0} (body : S → Call (Tried (Round S A))) (n k : ℕ) (s : S) → IsLess (turns n body s) (turns (n + k) body s)
less_turns body zero k s = tt
less_turns {S} {A} body (suc n) k s = subst (λ m. IsLess (turns (suc n) body s) (turns m body s)) (let e : suc (n + k) ≡ suc n + k = omega arith in e)
    (less_then (body s) (body s) (round (turns n body)) (round (turns (n + k) body)) (less_same (body s)) (by (less_turns body n k)))
  where
    by : ((s : S) → IsLess (turns n body s) (turns (n + k) body s)) → (x : Round S A) → IsLess (round (turns n body) x) (round (turns (n + k) body) x)
    by more (Again t) = more t
    by more (Ends a) = refl

-- then the other answers the same
pub less_answers : {A : Type 0} (replies : Op → Reply) (c d : Call (Tried A)) (a : A) → IsLess c d → undisturbed replies c ≡ Some (Got a) → undisturbed replies d ≡ Some (Got a)
less_answers replies Cut d a h e = absurd (cc e)
less_answers replies (Give (Lost x)) d a h e = absurd (cc e)
less_answers replies (Give (Got b)) d a h e = ap (undisturbed replies) h ∙ e
less_answers replies (Tell x c) d a h e = ap (undisturbed replies) h.1 ∙ less_answers replies c h.0 a h.2 e
less_answers replies (Ask op tag k) d a h e = ap (undisturbed replies) h.1 ∙ less_answers replies (k (replies op)) (h.0 (replies op)) a (h.2 (replies op)) e

-- ---- the read of a record

module _ (classes : List Class) (key : Key) (tag : Tag) (most more : ℕ) where
  less_array : (a : List ℕ × Item) → IsLess (read_array classes key tag most a) (read_array classes key tag (most + more) a)
  unfolding walk
  less_array a = less_then (walk (below (data_node key) (Rattle.obj_kinds.specs.declared.sub.Sub.TheVariants.Str a.0 ∷ [])) tag (is_element classes key tag most a.1) most first_walk) (walk (below (data_node key) (Rattle.obj_kinds.specs.declared.sub.Sub.TheVariants.Str a.0 ∷ [])) tag (is_element classes key tag (most + more) a.1) (most + more) first_walk) _ _
      (less_turns (walk_turn (below (data_node key) (Rattle.obj_kinds.specs.declared.sub.Sub.TheVariants.Str a.0 ∷ [])) tag (is_element classes key tag most a.1)) most more first_walk) (λ es. refl)

  less_give : {A : Type 0} (x : Tried A) → IsLess (Give x) (Give x)
  less_give x = less_same (Give x)

  less_below : (class : ClassName) (layout : Layout) (first : List Field) → IsLess (read_below classes key tag most class layout first) (read_below classes key tag (most + more) class layout first)
  less_below class layout first =
      less_then (each (read_list classes key tag most) layout.lower) (each (read_list classes key tag (most + more)) layout.lower) _ _ (less_same (each (read_list classes key tag most) layout.lower)) (λ lists.
      less_then (each (read_array classes key tag most) layout.arrays) (each (read_array classes key tag (most + more)) layout.arrays) _ _ (less_each (read_array classes key tag most) (read_array classes key tag (most + more)) less_array layout.arrays) (λ maps. less_give _))

  less_as : (class : ClassName) (items : List Value) → IsLess (read_as classes key tag most class items) (read_as classes key tag (most + more) class items)
  unfolding read_as
  less_as class items =
      less_then (Give (or_damaged_at (data_node key) (each_read (row_field classes) (layout_of classes class).root items))) (Give (or_damaged_at (data_node key) (each_read (row_field classes) (layout_of classes class).root items)))
      (read_below classes key tag most class (layout_of classes class)) (read_below classes key tag (most + more) class (layout_of classes class))
      (less_give (or_damaged_at (data_node key) (each_read (row_field classes) (layout_of classes class).root items))) (λ first. less_below class (layout_of classes class) first)

  less_row : (refuses : ClassName → Option Cause) (o : Option Value) → IsLess (on_row classes key tag most refuses o) (on_row classes key tag (most + more) refuses_none o)
  less_row refuses None = refl
  less_row refuses (Some v) = marked (row_class classes key.extent v)
    where
      refused : (class : ClassName) (x : Option Cause) → IsLess (on_refusal classes key tag most class (items_behind v) x) (read_as classes key tag (most + more) class (items_behind v))
      refused class (Some x) = tt
      refused class None = less_as class (items_behind v)

      marked : (o : Option ClassName) → IsLess (on_marker classes key tag most refuses (items_behind v) o) (on_marker classes key tag (most + more) refuses_none (items_behind v) o)
      marked None = tt
      marked (Some class) = refused class (refuses class)

  -- with more turns, and no class that is refused
  pub less_read : (refuses : ClassName → Option Cause) → IsLess (read classes key tag most refuses) (read classes key tag (most + more) refuses_none)
  unfolding read
  less_read refuses = (λ r. on_row classes key tag (most + more) refuses_none (value_found r), refl, λ r. less_row refuses (value_found r))
