-- The edits of a key turn the image of a world into that of the world with the change.
use Rattle.std.proofs.Common.{◌≡◌, ◌≢◌, cond, Bool, true, false, List, Option, None, Some, refl, ap, sym, subst, ◌∙◌}
use Rattle.std.specs.Option.{option_and_then}
use Rattle.std.specs.Ordering.{eq_by_cmp, is_eq}
use Rattle.std.specs.FinMap.{get, insert, remove, get-insert, get-remove}
use Rattle.std.proofs.lemmas.Cmp.{tied_itself}
use Rattle.obj_kinds.specs.declared.name.ClassName.{ClassName}
use Rattle.obj_kinds.specs.declared.node.Node.{Node}
use Rattle.schema_kinds.specs.declared.class.Class.{Class}
use Rattle.schema_kinds.specs.declared.key.Key.{Key}
use Rattle.schema_kinds.specs.declared.record.Record.{Record}
use Rattle.schema_kinds.specs.Worlds.{World, key_cmp}
use Rattle.schema_kinds.specs.KeyLaws.{key_total, key_exact}
use Rattle.record_layout.specs.Rows.{Globals}
use Rattle.record_layout.specs.Schemas.{IsStorable}
use Rattle.record_reading.specs.Laws.{IsStoredAt}
use Rattle.global_tree.proofs.MapLaws.{one_key}
use Rattle.storage_map.specs.Worlds.{owner, stands_at, owned_at, image}
use Rattle.world_images.specs.Images.{stands_if, IsOfClass, IsTurned}
use Rattle.world_images.proofs.ImageLaws.{image_with, image_without}
use Rattle.world_images.proofs.TurnLaws.{nodes_turn}
use Rattle.object_calls.specs.Edits.{edits_of}
use Rattle.object_calls.proofs.EditLaws.{edits_are_changes}
use Rattle.store_calls.specs.Calls.{Got}
use Rattle.read_laws.proofs.ShownLaws.{reads_show_worlds}
use Rattle.image_laws.specs.Changed.{ShowsWorld, AreWritten, IsChangeOf, SavesShow, DeletesShow, SavedAreRead, DeletedAreGone}

module _ (classes : List Class) (key : Key) (class : ClassName) (g after : Globals) (w : World) (change : IsChangeOf classes w key class) (shows : ShowsWorld classes g w) (new : Option Record) (of_class : IsOfClass class new)
    (written : AreWritten classes key (get w key) new g after) where
  turned : (n : Node) → IsTurned classes key (get w key) new (edits_of classes key (get w key) new) g n
  turned n = nodes_turn classes key class change.real change.extent change.even (get w key) new (edits_of classes key (get w key) new) g n change.old of_class (edits_are_changes classes key (get w key) new)

  -- a node of the key has what the record of the world has there
  was : (n : Node) → owner classes n ≡ Some key → get g n ≡ stands_if classes key n (get w key)
  unfolding image
  was n mine = shows key n mine ∙ ap (owned_at classes w n) mine ∙ by (get w key)
    where
      by : (o : Option Record) → option_and_then (stands_at classes key n) o ≡ stands_if classes key n o
      by None = refl
      by (Some r) = refl

  own : (n : Node) → owner classes n ≡ Some key → get after n ≡ stands_if classes key n new
  own n mine = written n ∙ (turned n).own mine (was n mine)

  others : (n : Node) (k : Key) → owner classes n ≡ Some k → k ≢ key → get after n ≡ image classes w n
  others n k mine apart = written n ∙ (turned n).others k mine apart ∙ shows k n mine

  -- a world that has the new record at the key, and all others as they were
  shows-then : (v : World) → ((n : Node) → owner classes n ≡ Some key → image classes v n ≡ stands_if classes key n new) → ((n : Node) → owner classes n ≢ Some key → image classes v n ≡ image classes w n) → ShowsWorld classes after v
  shows-then v here there k n mine = by (eq_by_cmp key_cmp k key) refl
    where
      one : (a : Key) → Some k ≡ Some a → k ≡ a
      one a e = cc

      by : (b : Bool) → eq_by_cmp key_cmp k key ≡ b → get after n ≡ image classes v n
      by true e =
          let same : owner classes n ≡ Some key = mine ∙ ap Some (one_key key_exact k key e) in
          own n same ∙ sym (here n same)
      by false e =
          let apart : k ≢ key = (λ same. differ same e) in
          others n k mine apart ∙ sym (there n (λ is. apart (one key (sym mine ∙ is))))
        where
          differ : k ≡ key → eq_by_cmp key_cmp k key ≡ false → ⊥
          differ same no_tie = let tie : eq_by_cmp key_cmp k key ≡ true = ap (eq_by_cmp key_cmp k) (sym same) ∙ ap is_eq (tied_itself key_total k) in cc

pub saves_show : SavesShow
saves_show classes key r g after w change shows written =
    shows-then classes key r.class g after w change shows (Some r) refl written (insert w key r) (λ n mine. (image_with classes w key r n).own mine) (λ n other. (image_with classes w key r n).others other)

pub deletes_show : DeletesShow
deletes_show classes key class g after w change shows written =
    shows-then classes key class g after w change shows None tt written (remove w key) (λ n mine. (image_without classes w key n).own mine) (λ n other. (image_without classes w key n).others other)

there-now : (w : World) (key : Key) (r : Record) → get (insert w key r) key ≡ Some r
there-now w key r = get-insert key_total w key r key ∙ ap (λ o. cond (is_eq o) (Some r) (get w key)) (tied_itself key_total key)

gone-now : (w : World) (key : Key) → get (remove w key) key ≡ None
gone-now w key = get-remove key_total w key key ∙ ap (λ o. cond (is_eq o) None (get w key)) (tied_itself key_total key)

pub saved_are_read : SavedAreRead
saved_are_read classes key r g w tag most s p change shows written storable stored few =
    reads_show_worlds classes key tag most s p (insert w key r) few change.real
    (λ q is. (let same : r ≡ q = one q (sym (there-now w key r) ∙ is) in (subst (λ (x : Record). IsStorable classes x.class) same storable, subst (IsStoredAt classes key) same stored)))
    (saves_show classes key r g s.globals w change shows written key)
    ∙ ap (λ o. Some (Got o)) (there-now w key r)
  where
    one : (q : Record) → Some r ≡ Some q → r ≡ q
    one q e = cc

pub deleted_are_gone : DeletedAreGone
deleted_are_gone classes key class g w tag most s p change shows written few =
    reads_show_worlds classes key tag most s p (remove w key) few change.real
    (λ q is. absurd (none q (sym (gone-now w key) ∙ is)))
    (deletes_show classes key class g s.globals w change shows written key)
    ∙ ap (λ o. Some (Got o)) (gone-now w key)
  where
    none : (q : Record) → None ≡ Some q → ⊥
    none q e = cc
