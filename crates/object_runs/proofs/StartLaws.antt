-- The invariant holds at the start, and an empty start is sound.
use Rattle.std.proofs.Common.{◌≡◌, refl, sym, ap, subst, ◌∙◌, inl, ℕ, Bool, true, false, cond, ◌&&◌, ◌||◌, List, [], ◌∷◌, ◌++◌, Option, None, Some, is_some, unwrap_or}
use Rattle.std.specs.List.{list_any}
use Rattle.std.specs.Option.{option_and_then}
use Rattle.std.specs.Ordering.{nat_cmp}
use Rattle.std.specs.FinMap.{get, empty, get-empty}
use Rattle.obj_kinds.specs.declared.name.ClassName.{ClassName}
use Rattle.obj_kinds.specs.declared.node.Node.{Node}
use Rattle.obj_kinds.specs.declared.sub.Sub.{Sub}
use Rattle.obj_kinds.specs.Order.{node_cmp}
use Rattle.schema_kinds.specs.declared.class.Class.{Class}
use Rattle.schema_kinds.specs.declared.key.Key.{Key}
use Rattle.schema_kinds.specs.declared.record.Record.{Record}
use Rattle.schema_kinds.specs.declared.record.Part.TheVariants.{Put, Del}
use Rattle.schema_kinds.specs.Classes.{class_names, is_with, is_root, is_global_of, is_own_global}
use Rattle.schema_kinds.specs.Worlds.{World, key_cmp}
use Rattle.storage_map.specs.Worlds.{extent_with, key_at, entry_key, or_key, owner, stands_at, owned_at, image}
use Rattle.global_tree.specs.Contents.{Globals}
use Rattle.store_core.specs.Machine.{levels_at, opening}
use Rattle.store_core.proofs.FrameLaws.{no_levels, cleared_opening}
use Rattle.store_core.proofs.GuardLaws.{opening_guarded}
use Rattle.object_runs.specs.ObjectMachine.{desk_at, clear_desk, first_desks, apply_all}
use Rattle.storage_map.specs.SoundWorlds.{IsSound}
use Rattle.object_runs.specs.Runs.{start}
use Rattle.object_runs.specs.Headline.{is_object_node, Opening, IsCounted, ClearedIsImage}
use Rattle.object_runs.specs.Invariant.{row_guard, key_guard, some_changes, IsPending, shown, Stands, IsAligned, IsPossible, Present, Pending, IsInvariant}

-- ---- a node that belongs to a key is one of the schema

one_own : (a i r rest : Bool) (c : ClassName) (x : Option ClassName) → is_some (cond (a && r) (Some c) x) ≡ true → (is_some x ≡ true → rest ≡ true) → (((a || i) && r) || rest) ≡ true
one_own true i true rest c x h more = refl
one_own true i false rest c x h more = more h
one_own false true true rest c x h more = refl
one_own false true false rest c x h more = more h
one_own false false r rest c x h more = more h

one_index : (a i r rest : Bool) (c : ClassName) (x : Option ClassName) → is_some (cond (i && r) (Some c) x) ≡ true → (is_some x ≡ true → rest ≡ true) → (((a || i) && r) || rest) ≡ true
one_index true i true rest c x h more = refl
one_index true true false rest c x h more = more h
one_index true false false rest c x h more = more h
one_index false true true rest c x h more = refl
one_index false true false rest c x h more = more h
one_index false false r rest c x h more = more h

pub data_is_own : (names : List (List ℕ)) (global : List ℕ) (cs : List Class) → is_some (extent_with names 68 global cs) ≡ true → list_any (is_global_of names global) cs ≡ true
data_is_own names global [] h = absurd (cc h)
data_is_own names global (c ∷ cs) h =
    one_own (is_with global c.name.0 68) (is_with global c.name.0 73) (is_root names c) (list_any (is_global_of names global) cs) c.name (extent_with names 68 global cs) h (data_is_own names global cs)

index_is_own : (names : List (List ℕ)) (global : List ℕ) (cs : List Class) → is_some (extent_with names 73 global cs) ≡ true → list_any (is_global_of names global) cs ≡ true
index_is_own names global [] h = absurd (cc h)
index_is_own names global (c ∷ cs) h =
    one_index (is_with global c.name.0 68) (is_with global c.name.0 73) (is_root names c) (list_any (is_global_of names global) cs) c.name (extent_with names 73 global cs) h (index_is_own names global cs)

pub bare_unowned : (classes : List Class) (o p : Option ClassName) → or_key (option_and_then (key_at classes None) o) (option_and_then (entry_key classes []) p) ≡ None
bare_unowned classes None None = refl
bare_unowned classes None (Some e) = refl
bare_unowned classes (Some e) None = refl
bare_unowned classes (Some e) (Some f) = refl

pub owned_own : (classes : List Class) (global : List ℕ) (f g : ClassName → Option Key) (key : Key)
    → or_key (option_and_then f (extent_with (class_names classes) 68 global classes)) (option_and_then g (extent_with (class_names classes) 73 global classes)) ≡ Some key
    → is_own_global classes global ≡ true
owned_own classes global f g key h = by (extent_with (class_names classes) 68 global classes) (extent_with (class_names classes) 73 global classes) refl refl h
  where
    by : (o p : Option ClassName) → extent_with (class_names classes) 68 global classes ≡ o → extent_with (class_names classes) 73 global classes ≡ p
        → or_key (option_and_then f o) (option_and_then g p) ≡ Some key → is_own_global classes global ≡ true
    by (Some e) p is also h = data_is_own (class_names classes) global classes (ap is_some is)
    by None (Some e) is also h = index_is_own (class_names classes) global classes (ap is_some also)
    by None None is also h = absurd (cc h)

owned_at_node : (classes : List Class) (global : List ℕ) (subs : List Sub) (key : Key)
    → owner classes (record { global = global; subs = subs }) ≡ Some key → is_object_node classes (record { global = global; subs = subs }) ≡ true
unfolding owner is_object_node
owned_at_node classes global [] key h =
    absurd (cc (sym (bare_unowned classes (extent_with (class_names classes) 68 global classes) (extent_with (class_names classes) 73 global classes)) ∙ h))
owned_at_node classes global (s ∷ ss) key h = ap (λ b. b && true) (owned_own classes global _ _ key h)

pub owned_is_object : (classes : List Class) (n : Node) (key : Key) → owner classes n ≡ Some key → is_object_node classes n ≡ true
owned_is_object classes n key h = owned_at_node classes n.global n.subs key h

-- ---- the image at a node of a key

shown_image : (classes : List Class) (key : Key) (n : Node) (o : Option Record) → option_and_then (stands_at classes key n) o ≡ shown classes key n o
shown_image classes key n None = refl
shown_image classes key n (Some r) = refl

pub image_of_key : (classes : List Class) (w : World) (n : Node) (key : Key) → owner classes n ≡ Some key → image classes w n ≡ shown classes key n (get w key)
unfolding image
image_of_key classes w n key h = ap (owned_at classes w n) h ∙ shown_image classes key n (get w key)

pub image_of_none : (classes : List Class) (w : World) (n : Node) → owner classes n ≡ None → image classes w n ≡ None
unfolding image
image_of_none classes w n h = ap (owned_at classes w n) h

-- ---- the start

no_desk : (w : World) (p : ℕ) → desk_at (first_desks w) p ≡ clear_desk
no_desk w p = ap (λ o. unwrap_or o clear_desk) (get-empty nat_cmp p)

no_front : {A : Type 0} (front rest : List A) → [] ≡ front ++ rest → rest ≡ []
no_front [] rest e = sym e
no_front (x ∷ front) rest e = absurd (cc e)

pub possible_at_start : (w v : World) → IsPossible (first_desks w) v → v ≡ w
possible_at_start w v (Present e) = e
possible_at_start w v (Pending p cs below e) =
    e ∙ ap (λ ds. apply_all ds w) (no_front below.0 cs (sym (ap (λ d. d.lists) (no_desk w p)) ∙ below.1))

module _ (classes : List Class) (pids : ℕ) (g : Globals) (w : World) (opens : Opening classes g w) where
  start_aligned : (p : ℕ) → IsAligned (desk_at (first_desks w) p).within (levels_at (opening pids g) p) (desk_at (first_desks w) p).lists
  start_aligned p =
      subst (λ d. IsAligned d.within (levels_at (opening pids g) p) d.lists) (sym (no_desk w p))
      (subst (λ ls. IsAligned None ls []) (sym (no_levels pids p)) (refl, λ e. absurd (cc e)))

  start_stands : (p : ℕ) (n : Node) (key : Key) → owner classes n ≡ Some key
      → Stands classes n key (desk_at (first_desks w) p).within (levels_at (opening pids g) p) (desk_at (first_desks w) p).lists (get g n) w
  start_stands p n key h =
      subst (λ d. Stands classes n key d.within (levels_at (opening pids g) p) d.lists (get g n) w) (sym (no_desk w p))
      (subst (λ ls. Stands classes n key None ls [] (get g n) w) (sym (no_levels pids p)) (opens.image n (owned_is_object classes n key h) ∙ image_of_key classes w n key h))

  pub start_invariant : IsInvariant classes (opening pids g) (first_desks w)
  start_invariant = record {
    rows = opening_guarded (row_guard classes) pids g;
    keys = opening_guarded (key_guard classes) pids g;
    aligned = λ p. start_aligned p.0;
    pending = λ p key h. absurd (cc (subst (λ d. some_changes d.lists key ≡ true) (no_desk w p.0) h));
    foreign = λ p n key s own h unheld x. absurd (cc (subst (λ d. d.within ≡ Some s) (no_desk w p.0) h));
    stands = λ p n key own alone. start_stands p.0 n key own;
    strays = λ n is own. opens.image n is ∙ image_of_none classes w n own;
    targets = λ p key r side id h has is. absurd (subst (λ d. IsPending d.lists (Put key r)) (no_desk w p.0) h);
    deletes = λ p key r m h is has. absurd (subst (λ d. IsPending d.lists (Del key)) (no_desk w p.0) h);
    sound = λ v h. subst (IsSound classes) (sym (possible_at_start w v h)) opens.sound;
    counted = λ v extent real h. subst (λ x. IsCounted g x extent) (sym (possible_at_start w v h)) (opens.counters extent real);
    classes_agree = λ v u key q r a b is also.
        ap (λ o. (unwrap_or o q).class) (sym is ∙ ap (λ x. get x key) (possible_at_start w v a ∙ sym (possible_at_start w u b)) ∙ also);
  }

  pub start_image : ClearedIsImage classes (start pids g w)
  start_image n h = cleared_opening pids g n ∙ opens.image n h

-- ---- an empty start

nothing_there : {A : Type 0} (key : Key) (r : Record) → get (empty {X = Record} {R = key_cmp}) key ≡ Some r → A
nothing_there key r h = absurd (cc (sym (get-empty key_cmp key) ∙ h))

empty_sound : (classes : List Class) → IsSound classes empty
empty_sound classes = record {
  records = λ key r h. nothing_there key r h;
  apart = λ a b c. nothing_there a c.one c.first.0;
  targets = λ key r s h has. nothing_there key r h;
}

empty_image : (classes : List Class) (n : Node) (o : Option Key) → owned_at classes empty n o ≡ None
empty_image classes n None = refl
empty_image classes n (Some key) = ap (option_and_then (stands_at classes key n)) (get-empty key_cmp key)

pub empty_opens : (classes : List Class) → Opening classes empty empty
unfolding image
empty_opens classes = record {
  sound = empty_sound classes;
  image = λ n h. get-empty node_cmp n ∙ sym (empty_image classes n (owner classes n));
  counters = λ extent real. record {
    number = 0;
    counts = inl (get-empty node_cmp _, refl);
    enough = λ key r h e. nothing_there key r h;
  };
}
