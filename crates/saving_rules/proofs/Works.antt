-- What all objects of a save write at one node: what the object of the node's key writes.
use Rattle.std.proofs.Common.{◌≡◌, ◌≢◌, inl, inr, Bool, true, false, cond, ◌||◌, List, [], ◌∷◌, ◌++◌, map, Option, Some, None, option_map, refl, sym, ap, ◌∙◌}
use Rattle.std.specs.Ordering.{is_eq}
use Rattle.std.proofs.lemmas.Cmp.{tied_itself}
use Rattle.obj_kinds.specs.declared.node.Node.{Node}
use Rattle.obj_kinds.specs.declared.value.Value.{Value}
use Rattle.obj_kinds.specs.declared.op.Op.{Op}
use Rattle.schema_kinds.specs.declared.class.Class.{Class}
use Rattle.schema_kinds.specs.declared.key.Key.{Key}
use Rattle.schema_kinds.specs.declared.record.Record.{Record}
use Rattle.schema_kinds.specs.KeyLaws.{key_total, key_exact}
use Rattle.schema_kinds.specs.Worlds.{Change}
use Rattle.global_tree.proofs.MapLaws.{one_key}
use Rattle.storage_map.specs.Worlds.{owner}
use Rattle.storage_map.specs.SoundWorlds.{IsSoundAt}
use Rattle.world_images.specs.Images.{IsEvenExtent, IsOfClass}
use Rattle.object_calls.specs.Edits.{edits_of}
use Rattle.object_calls.specs.Saves.{Item, Work, change_of, is_key}
use Rattle.object_runs.specs.Causes.{Each, Has}
use Rattle.object_runs.specs.Invariant.{changes, written, shown}
use Rattle.sound_runs.specs.Closing.{AreDistinct, put_in}
use Rattle.call_rules.proofs.Rules.{all_writes, written-append}
use Rattle.call_rules.proofs.Writes.{first_writes, later_writes, own_work, first_foreign, later_foreign}
use Rattle.saving_rules.proofs.Owns.{WasSound}

pub same_key : (k j : Key) → is_key k j ≡ true → k ≡ j
same_key k j e = one_key key_exact k j e

pub other_key : (k j : Key) → is_key k j ≡ false → k ≢ j
other_key k j e same = cc (sym (ap is_eq (tied_itself key_total k)) ∙ ap (is_key k) same ∙ e)

pub apart_key : (k j : Key) → k ≢ j → is_key k j ≡ false
apart_key k j ne = by (is_key k j) refl
  where
    by : (b : Bool) → is_key k j ≡ b → b ≡ false
    by false e = refl
    by true e = absurd (ne (same_key k j e))

-- the objects with what stood under their keys, as a change
abbrev pub items_in : List Work → List Item
items_in ws = map (λ (w : Work). w.item) ws

abbrev pub puts : List Work → Change
puts ws = change_of (items_in ws)

-- the object of a key
abbrev pub work_at : Key → List Work → Option Work
work_at k [] = None
work_at k (w ∷ ws) = cond (is_key k w.item.key) (Some w) (work_at k ws)

pub work_has : (k : Key) (ws : List Work) (u : Work) → work_at k ws ≡ Some u → Has u ws × (k ≡ u.item.key)
work_has k [] u e = absurd (cc e)
work_has k (w ∷ ws) u e = by (is_key k w.item.key) refl e (work_has k ws u)
  where
    by : (b : Bool) → is_key k w.item.key ≡ b → cond b (Some w) (work_at k ws) ≡ Some u → (work_at k ws ≡ Some u → Has u ws × (k ≡ u.item.key)) → Has u (w ∷ ws) × (k ≡ u.item.key)
    by true f g more = let one : w ≡ u = cc g in (inl (sym one), same_key k w.item.key f ∙ ap (λ (x : Work). x.item.key) one)
    by false f g more = let r = more g in (inr r.0, r.1)

now_of : Work → Record
now_of w = w.item.now

pub puts_at : (k : Key) (ws : List Work) → put_in (puts ws) k ≡ option_map (λ (w : Work). w.item.now) (work_at k ws)
puts_at k [] = refl
puts_at k (w ∷ ws) = by (is_key k w.item.key) (puts_at k ws)
  where
    by : (b : Bool) → put_in (puts ws) k ≡ option_map (λ (w : Work). w.item.now) (work_at k ws) → cond b (Some w.item.now) (put_in (puts ws) k) ≡ option_map (λ (w : Work). w.item.now) (cond b (Some w) (work_at k ws))
    by true e = refl
    by false e = e

or_left : (a b : Bool) → (a || b) ≡ false → a ≡ false
or_left false b e = refl
or_left true b e = absurd (cc e)

or_right : (a b : Bool) → (a || b) ≡ false → b ≡ false
or_right false b e = e
or_right true b e = absurd (cc e)

pub unchanged_at : (k : Key) (ws : List Work) → changes (puts ws) k ≡ false → work_at k ws ≡ None
unchanged_at k [] e = refl
unchanged_at k (w ∷ ws) e = ap (λ b. cond b (Some w) (work_at k ws)) (or_left (is_key k w.item.key) (changes (puts ws) k) e) ∙ unchanged_at k ws (or_right (is_key k w.item.key) (changes (puts ws) k) e)

pub changed_at : (k : Key) (ws : List Work) → changes (puts ws) k ≡ true → (u : Work) × (work_at k ws ≡ Some u)
changed_at k [] e = absurd (cc e)
changed_at k (w ∷ ws) e = by (is_key k w.item.key) e (changed_at k ws)
  where
    by : (b : Bool) → (b || changes (puts ws) k) ≡ true → (changes (puts ws) k ≡ true → (u : Work) × (work_at k ws ≡ Some u)) → (u : Work) × (cond b (Some w) (work_at k ws) ≡ Some u)
    by true f more = (w, refl)
    by false f more = more f

pub front_at : (k : Key) (xs ys : List Work) (u : Work) → work_at k xs ≡ Some u → work_at k (xs ++ ys) ≡ Some u
front_at k [] ys u e = absurd (cc e)
front_at k (w ∷ xs) ys u e = by (is_key k w.item.key) e (front_at k xs ys u)
  where
    by : (b : Bool) → cond b (Some w) (work_at k xs) ≡ Some u → (work_at k xs ≡ Some u → work_at k (xs ++ ys) ≡ Some u) → cond b (Some w) (work_at k (xs ++ ys)) ≡ Some u
    by true f more = f
    by false f more = more f

pub back_at : (k : Key) (xs ys : List Work) → work_at k xs ≡ None → work_at k (xs ++ ys) ≡ work_at k ys
back_at k [] ys e = refl
back_at k (w ∷ xs) ys e = by (is_key k w.item.key) e (back_at k xs ys)
  where
    by : (b : Bool) → cond b (Some w) (work_at k xs) ≡ None → (work_at k xs ≡ None → work_at k (xs ++ ys) ≡ work_at k ys) → cond b (Some w) (work_at k (xs ++ ys)) ≡ work_at k ys
    by true f more = absurd (cc f)
    by false f more = more f

-- no key of the first ones stands twice
changes_front : (k : Key) (xs ys : List Work) → changes (puts (xs ++ ys)) k ≡ false → changes (puts xs) k ≡ false
changes_front k [] ys e = refl
changes_front k (w ∷ xs) ys e = by (is_key k w.item.key) e (changes_front k xs ys)
  where
    by : (b : Bool) → (b || changes (puts (xs ++ ys)) k) ≡ false → (changes (puts (xs ++ ys)) k ≡ false → changes (puts xs) k ≡ false) → (b || changes (puts xs) k) ≡ false
    by true f more = f
    by false f more = more f

pub distinct_front : (xs ys : List Work) → AreDistinct (puts (xs ++ ys)) → AreDistinct (puts xs)
distinct_front [] ys d = tt
distinct_front (w ∷ xs) ys d = (changes_front w.item.key xs ys d.0, distinct_front xs ys d.1)

-- an object of a save: its record fits its key, and what stood there is of its class
pub record IsWork (classes : List Class) (w : Work) : Type 0 where
  pub at : IsSoundAt classes w.item.key w.item.now
  pub was : WasSound classes w.item.key w.item.now w.old

pub old_class : (classes : List Class) (key : Key) (q : Record) (old : Option Record) → WasSound classes key q old → IsOfClass q.class old
old_class classes key q None h = tt
old_class classes key q (Some r) h = h.0

module _ (classes : List Class) where
  abbrev pub first_of : Work → List Op
  first_of w = first_writes (edits_of classes w.item.key w.old (Some w.item.now))

  abbrev pub later_of : Work → List Op
  later_of w = later_writes (edits_of classes w.item.key w.old (Some w.item.now))

  -- what an object writes leaves the nodes of other keys
  abbrev LeavesOthers : (Work → List Op) → Type 0
  LeavesOthers d = (w : Work) → IsWork classes w → (n : Node) (k : Key) → owner classes n ≡ Some k → k ≢ w.item.key → (x : Option Value) → written (d w) n x ≡ x

  module _ (d : Work → List Op) (leaves : LeavesOthers d) (n : Node) (k : Key) (own : owner classes n ≡ Some k) where
    pub none_at : (ws : List Work) → Each (IsWork classes) ws → work_at k ws ≡ None → (x : Option Value) → written (all_writes d ws) n x ≡ x
    none_at [] are e x = refl
    none_at (w ∷ ws) are e x = by (is_key k w.item.key) refl e (none_at ws are.1)
      where
        by : (b : Bool) → is_key k w.item.key ≡ b → cond b (Some w) (work_at k ws) ≡ None → (work_at k ws ≡ None → (x : Option Value) → written (all_writes d ws) n x ≡ x) → written (all_writes d ws ++ d w) n x ≡ x
        by true f g more = absurd (cc g)
        by false f g more = written-append (all_writes d ws) (d w) n x ∙ more g (written (d w) n x) ∙ leaves w are.0 n k own (other_key k w.item.key f) x

    pub one_at : (ws : List Work) → Each (IsWork classes) ws → AreDistinct (puts ws) → (u : Work) → work_at k ws ≡ Some u → (x : Option Value) → written (all_writes d ws) n x ≡ written (d u) n x
    one_at [] are ds u e x = absurd (cc e)
    one_at (w ∷ ws) are ds u e x = by (is_key k w.item.key) refl e (one_at ws are.1 ds.1 u)
      where
        by : (b : Bool) → is_key k w.item.key ≡ b → cond b (Some w) (work_at k ws) ≡ Some u → (work_at k ws ≡ Some u → (x : Option Value) → written (all_writes d ws) n x ≡ written (d u) n x) → written (all_writes d ws ++ d w) n x ≡ written (d u) n x
        by true f g more =
            let one : w ≡ u = cc g in
            written-append (all_writes d ws) (d w) n x
            ∙ none_at ws are.1 (unchanged_at k ws (ap (changes (puts ws)) (same_key k w.item.key f) ∙ ds.0)) (written (d w) n x)
            ∙ ap (λ z. written (d z) n x) one
        by false f g more = written-append (all_writes d ws) (d w) n x ∙ more g (written (d w) n x) ∙ ap (written (d u) n) (leaves w are.0 n k own (other_key k w.item.key f) x)

  module _ (even : (extent : Rattle.obj_kinds.specs.declared.name.ClassName.ClassName) → IsEvenExtent classes extent) where
    pub first_leaves : LeavesOthers first_of
    first_leaves w is n k own ne x = first_foreign classes w.item.key w.item.now.class is.at.key_of is.at.record_of.extent (even w.item.key.extent) w.old (Some w.item.now) (old_class classes w.item.key w.item.now w.old is.was) refl n k own ne x

    pub later_leaves : LeavesOthers later_of
    later_leaves w is n k own ne x = later_foreign classes w.item.key w.item.now.class is.at.key_of is.at.record_of.extent (even w.item.key.extent) w.old (Some w.item.now) (old_class classes w.item.key w.item.now w.old is.was) refl n k own ne x

    pub whole_work : (w : Work) → IsWork classes w → (n : Node) → owner classes n ≡ Some w.item.key → written (later_of w) n (written (first_of w) n (shown classes w.item.key n w.old)) ≡ shown classes w.item.key n (Some w.item.now)
    whole_work w is n own = own_work classes w.item.key w.item.now.class is.at.key_of is.at.record_of.extent (even w.item.key.extent) w.old (Some w.item.now) (old_class classes w.item.key w.item.now w.old is.was) refl n own
