-- A place that is filled.
use Rattle.std.proofs.Common.{zero, suc, ◌≡◌, ◌≢◌, ℕ, ◌+◌, ◌<◌, ◌≤◌, cond, Some, None, List, [], ◌∷◌, ◌++◌, take, drop, length, insert, refl, ap, sym, subst, ◌∙◌, arith, slice_set, slice_index_or, IsTrue, Result, Ok, Err, IfOk, IfErr, IsOk, IsSome, true, false}
use Rattle.std.specs.List.{slice_get, remove}
use Rattle.std.specs.Ordering.{is_eq}
use Rattle.std.specs.FinMap.{find, put, is_sorted}
use Rattle.std.specs.declared.cmp.Ordering.TheVariants.{Less, Equal, Greater}
use Rattle.std.proofs.lemmas.Bool.{eq-eqb, ne_eqb, true≢false}
use Rattle.std.proofs.lemmas.Cmp.{alike_right}
use Rattle.std.proofs.lemmas.List.Concat.{flat_map-append}
use Rattle.obj_kinds.specs.declared.sub.Sub.{Sub}
use Rattle.obj_kinds.specs.SubOrder.{sub_cmp}
use Rattle.obj_kinds.specs.OrderLaws.{sub_total}
use Rattle.obj_kinds.specs.Search.{IsHit, IsGap}
use Rattle.obj_kinds.proofs.Sorted.{first, second, turned, below_each, hit_tail, find_gap, put_gap, put_hit}
use Rattle.oref_table.specs.declared.oref.Oref.{Oref}
use Rattle.oref_table.specs.declared.slot.Slot.{Slot}
use Rattle.oref_table.specs.declared.slot.Slot.TheVariants.{Target, Items, Map, Members, rolls-Items, rolls-Map}
use Rattle.oref_table.specs.declared.slot.Slot.TheOpen.{Slot-F}
use Rattle.oref_table.specs.declared.slot.Slot.TheViews.{out-Slot, out-roll-Slot}
use Rattle.oref_table.specs.declared.fill.Fill.{Fill}
use Rattle.oref_table.specs.declared.fill.Fill.TheVariants as fill
use Rattle.oref_table.specs.declared.oref.Held.{Held}
use Rattle.oref_table.specs.declared.fill.Place.{Place}
use Rattle.oref_table.specs.declared.fill.Place.TheVariants as place
use Rattle.oref_table.specs.declared.obj.Entry.{Entry}
use Rattle.oref_table.specs.declared.obj.Freed.{Freed}
use Rattle.oref_table.specs.Refs.{times, numbers, refs_in, refs_of, refs_of_pairs}
use Rattle.oref_table.specs.Memory.{Object, Memory, object_of, edited, loosed, first_that, without_first, at_first}
use Rattle.oref_table.specs.Entries.{refs_all, seen_one, lowered, is_entry, with_entry_slots}
use Rattle.oref_table.specs.Exchanges.{FillsFirst}
use Rattle.oref_table.specs.Stands.{memory_of, IsTable}
use Rattle.oref_table.specs.Filling.{slot_from, passed, IsHeldFor, with_slots}
use Rattle.oref_table.specs.Places.{has_key, item_put, items_filled, ItemTakes, pairs_filled, PairTakes, MemberTakes, with_members, slot_number, PartTakes, PartFills, Takes, Fills, IsAmong, IsExchange, IsThere, MayFill}
use Rattle.oref_table.proofs.Lowered.{times-append}
use Rattle.oref_table.proofs.RefLaws.{refs-target, refs-items, refs-map, refs-members}
use Rattle.oref_table.proofs.EditLaws.{entry-of, object-found, length-at_first}
use Rattle.oref_table.proofs.FillLaws.{IsFilled, fill-any, times-slot, refs-passed, covered-passed, dead-passed}
use Rattle.oref_table.proofs.InsertLaws.{take-drop}
use Rattle.oref_table.proofs.SetLaws.{set-set, set-same}
use Rattle.oref_table.proofs.ReleaseLaws.{length-lowered}

-- an item is added at the end
pub put-end : (items : List Slot) (item : Slot) (i : ℕ) → i ≡ length items → items ++ item ∷ [] ≡ item_put i item items
put-end items item i e = ap (λ b. cond b (items ++ item ∷ []) (slice_set items i item)) (sym (eq-eqb i (length items) e))

pub exchange-end : (items : List Slot) (item : Slot) → IsExchange (refs_in items) (refs_of item) (refs_in (items ++ item ∷ [])) (refs_of (Target None))
exchange-end items item x =
    let whole : times x (refs_in (items ++ item ∷ [])) ≡ times x (refs_in items ++ refs_in (item ∷ [])) = ap (times x) (flat_map-append refs_of items (item ∷ [])) in
    omega (arith, whole, times-append x (refs_in items) (refs_of item ++ []), times-append x (refs_of item) [], ap (times x) (refs-target None))

-- an item is put in the place of another
pub put-other : (items : List Slot) (item : Slot) (i : ℕ) → (i ≡ length items → ⊥) → slice_set items i item ≡ item_put i item items
put-other items item i h = ap (λ b. cond b (items ++ item ∷ []) (slice_set items i item)) (sym (ne_eqb i (length items) h))

pub exchange-other : (items : List Slot) (item old : Slot) (i : ℕ) → slice_get items i ≡ Some old → IsExchange (refs_in items) (refs_of item) (refs_in (slice_set items i item)) (refs_of old)
exchange-other items item old i e x = times-slot x items i item old e

-- an item is taken out
pub exchange-taken : (items : List Slot) (i : ℕ) (old : Slot) → slice_get items i ≡ Some old → IsExchange (refs_in items) [] (refs_in (remove items i)) (refs_of old)
exchange-taken [] i old e x = cc
exchange-taken (s ∷ ss) zero old e x =
    let same : times x (refs_of s) ≡ times x (refs_of old) = let y : s ≡ old = cc in ap (λ v. times x (refs_of v)) y in
    omega (arith, same, times-append x (refs_of s) (refs_in ss))
exchange-taken (s ∷ ss) (suc i) old e x =
    omega (arith, exchange-taken ss i old e x, times-append x (refs_of s) (refs_in ss), times-append x (refs_of s) (refs_in (remove ss i)))

at-place : {X : Type 0} (xs : List X) (i : ℕ) (x : X) → slice_get xs i ≡ Some x → slice_index_or xs i x ≡ x
at-place [] i x e = refl
at-place (y ∷ ys) zero x e = cc
at-place (y ∷ ys) (suc i) x e = at-place ys i x e

pub at-any : {X : Type 0} (xs : List X) (i : ℕ) (x d : X) → slice_get xs i ≡ Some x → slice_index_or xs i d ≡ x
at-any [] i x d e = cc
at-any (y ∷ ys) zero x d e = cc
at-any (y ∷ ys) (suc i) x d e = at-any ys i x d e

-- ---- as the calls on items and pairs say it

pub exchange_push : (items : List Slot) (item : Slot) (new : List Slot) → new ≡ items ++ item ∷ [] → IsExchange (refs_in items) (refs_of item) (refs_in new) (refs_of (Target None))
exchange_push items item new e = subst (λ ss. IsExchange (refs_in items) (refs_of item) (refs_in ss) (refs_of (Target None))) (sym e) (exchange-end items item)

pub exchange_set : (items : List Slot) (item old : Slot) (i : ℕ) (new : List Slot) → new ≡ slice_set items i item → slice_get items i ≡ Some old → IsExchange (refs_in items) (refs_of item) (refs_in new) (refs_of old)
exchange_set items item old i new e g = subst (λ ss. IsExchange (refs_in items) (refs_of item) (refs_in ss) (refs_of old)) (sym e) (exchange-other items item old i g)

pub exchange_take : (items : List Slot) (old : Slot) (i : ℕ) (new : List Slot) → new ≡ remove items i → slice_get items i ≡ Some old → IsExchange (refs_in items) [] (refs_in new) (refs_of old)
exchange_take items old i new e g = subst (λ ss. IsExchange (refs_in items) [] (refs_in ss) (refs_of old)) (sym e) (exchange-taken items i old g)

pub exchange_member : (members : List Oref) (n : ℕ) → IsExchange (refs_of (Members members)) (n ∷ []) (refs_of (Members (members ++ record { 0 = n } ∷ []))) (refs_of (Target None))
exchange_member members n x =
    let whole : times x (numbers (members ++ record { 0 = n } ∷ [])) ≡ times x (numbers members ++ n ∷ []) = ap (times x) (flat_map-append (λ (o : Oref). o.0 ∷ []) members (record { 0 = n } ∷ [])) in
    omega (arith, whole, times-append x (numbers members) (n ∷ []), ap (times x) (refs-members members), ap (times x) (refs-members (members ++ record { 0 = n } ∷ [])), ap (times x) (refs-target None))

-- the elements of an array
times-set-pair : (x : ℕ) (pairs : List (Sub × Slot)) (i : ℕ) (k : Sub) (slot : Slot) (d : Sub × Slot) → i < length pairs → times x (refs_of_pairs (slice_set pairs i (k, slot))) + times x (refs_of (slice_index_or pairs i d).1) ≡ times x (refs_of_pairs pairs) + times x (refs_of slot)
times-set-pair x [] i k slot d h = absurd (omega arith)
times-set-pair x (p ∷ ps) zero k slot d h = omega (arith, times-append x (refs_of p.1) (refs_of_pairs ps), times-append x (refs_of slot) (refs_of_pairs ps))
times-set-pair x (p ∷ ps) (suc i) k slot d h = omega (arith, times-set-pair x ps i k slot d (omega arith), times-append x (refs_of p.1) (refs_of_pairs ps), times-append x (refs_of p.1) (refs_of_pairs (slice_set ps i (k, slot))))

times-remove-pair : (x : ℕ) (pairs : List (Sub × Slot)) (i : ℕ) (d : Sub × Slot) → i < length pairs → times x (refs_of_pairs (remove pairs i)) + times x (refs_of (slice_index_or pairs i d).1) ≡ times x (refs_of_pairs pairs)
times-remove-pair x [] i d h = absurd (omega arith)
times-remove-pair x (p ∷ ps) zero d h = omega (arith, times-append x (refs_of p.1) (refs_of_pairs ps))
times-remove-pair x (p ∷ ps) (suc i) d h = omega (arith, times-remove-pair x ps i d (omega arith), times-append x (refs_of p.1) (refs_of_pairs ps), times-append x (refs_of p.1) (refs_of_pairs (remove ps i)))

times-insert-pair : (x : ℕ) (pairs : List (Sub × Slot)) (i : ℕ) (k : Sub) (slot : Slot) → times x (refs_of_pairs (insert pairs i (k, slot))) ≡ times x (refs_of_pairs pairs) + times x (refs_of slot)
times-insert-pair x pairs i k slot =
    let front : List (Sub × Slot) = take i pairs in
    let back : List (Sub × Slot) = drop i pairs in
    let each : Sub × Slot → List ℕ = λ p. refs_of p.1 in
    let whole : times x (refs_of_pairs pairs) ≡ times x (refs_of_pairs front) + times x (refs_of_pairs back) =
    ap (λ ps. times x (refs_of_pairs ps)) (sym (take-drop pairs i)) ∙ ap (times x) (flat_map-append each front back) ∙ times-append x (refs_of_pairs front) (refs_of_pairs back) in
    let parts : times x (refs_of_pairs (front ++ (k, slot) ∷ back)) ≡ times x (refs_of_pairs front) + times x (refs_of_pairs ((k, slot) ∷ back)) =
    ap (times x) (flat_map-append each front ((k, slot) ∷ back)) ∙ times-append x (refs_of_pairs front) (refs_of_pairs ((k, slot) ∷ back)) in
    omega (arith, whole, parts, times-append x (refs_of slot) (refs_of_pairs back))

-- a slot takes the place of the one of the key
pub record IsPut (pairs : List (Sub × Slot)) (k : Sub) (slot old : Slot) (new : List (Sub × Slot)) : Type 0 where
  pub is : new ≡ put sub_cmp k slot pairs
  pub exchange : IsExchange (refs_of_pairs pairs) (refs_of slot) (refs_of_pairs new) (refs_of old)

pub put_in_place : (pairs : List (Sub × Slot)) (k : Sub) (slot old : Slot) (new : List (Sub × Slot)) (i : ℕ) → IsTrue (is_sorted sub_cmp pairs) → IsHit sub_cmp pairs k i → ((d : Sub × Slot) → new ≡ slice_set pairs i ((slice_index_or pairs i d).0, slot)) → ((d : Sub × Slot) → old ≡ (slice_index_or pairs i d).1) → IsPut pairs k slot old new
put_in_place pairs k slot old new i sorted hit is was =
    let d : Sub × Slot = (k, slot) in
    record {
      is = is d ∙ sym (put_hit sub_cmp sub_total pairs k slot i d sorted hit);
      exchange = λ x. omega (arith, ap (λ ps. times x (refs_of_pairs ps)) (is d), times-set-pair x pairs i (slice_index_or pairs i d).0 slot d hit.in_range, ap (λ s. times x (refs_of s)) (was d));
    }

-- or stands among the others
pub put_among : (pairs : List (Sub × Slot)) (k : Sub) (slot old : Slot) (new : List (Sub × Slot)) (i : ℕ) → IsTrue (is_sorted sub_cmp pairs) → IsGap sub_cmp pairs k i → new ≡ insert pairs i (k, slot) → old ≡ Target None → IsPut pairs k slot old new
put_among pairs k slot old new i sorted gap is was = record {
  is = is ∙ sym (put_gap sub_cmp sub_total pairs k slot i gap);
  exchange = λ x. omega (arith, ap (λ ps. times x (refs_of_pairs ps)) is, times-insert-pair x pairs i k slot, ap (λ s. times x (refs_of s)) was, ap (times x) (refs-target None));
}

remove-hit : (es : List (Sub × Slot)) (k : Sub) (i : ℕ) → IsTrue (is_sorted sub_cmp es) → IsHit sub_cmp es k i → without_first (has_key k) es ≡ remove es i
remove-hit [] k i h hit = absurd (omega (arith, hit.in_range))
remove-hit (e ∷ es) k zero h hit = ap (λ r. cond (is_eq r) es (e ∷ without_first (has_key k) es)) (turned sub_cmp sub_total e.0 k Equal (hit.ties e))
remove-hit (e ∷ es) k (suc i) h hit =
    let lt : i < length es = omega (arith, hit.in_range) in
    let before : sub_cmp k e.0 ≡ Greater = turned sub_cmp sub_total e.0 k Less (sym (alike_right sub_total (slice_index_or es i e).0 k e.0 (hit.ties e)) ∙ below_each sub_cmp sub_total e.0 es (first _ _ h) i e lt) in
    ap (λ r. cond (is_eq r) es (e ∷ without_first (has_key k) es)) before
    ∙ ap (λ xs. e ∷ xs) (remove-hit es k i (second _ _ h) (hit_tail sub_cmp sub_total e es k i hit))

-- what is found where a search ends
pub none-found : (pairs : List (Sub × Slot)) (k : Sub) (i : ℕ) → IsGap sub_cmp pairs k i → IsSome (find sub_cmp k pairs) → ⊥
none-found pairs k i gap s = let z : find sub_cmp k pairs ≡ None = find_gap sub_cmp sub_total pairs k i gap in cc

pub take_hit : (pairs : List (Sub × Slot)) (k : Sub) (i : ℕ) (item : Sub × Slot) (new : List (Sub × Slot)) → IsTrue (is_sorted sub_cmp pairs) → IsHit sub_cmp pairs k i → slice_get pairs i ≡ Some item → new ≡ remove pairs i → (new ≡ without_first (has_key k) pairs) × IsExchange (refs_of_pairs pairs) [] (refs_of_pairs new) (refs_of item.1)
take_hit pairs k i item new sorted hit there is =
    let same : slice_index_or pairs i item ≡ item = at-place pairs i item there in
    (is ∙ sym (remove-hit pairs k i sorted hit), λ x. omega (arith, ap (λ ps. times x (refs_of_pairs ps)) is, times-remove-pair x pairs i item hit.in_range, ap (λ (p : Sub × Slot). times x (refs_of p.1)) same))

-- ---- what is done as a `Fill` says

pub ok_then : {X E : Type 0} (P Q : X → Type 0) (r : Result X E) → ((x : X) → P x → Q x) → IfOk r P → IfOk r Q
ok_then P Q (Ok x) h i = h x i
ok_then P Q (Err e) h i = tt

pub item_within : (i : ℕ) (w : Fill) (items : List Slot) → w ≢ fill.Nothing → ItemTakes i w items → i ≤ length items
unfolding ItemTakes
item_within i (fill.Plain v) items h t = t
item_within i (fill.Target v) items h t = t
item_within i (fill.To v) items h t = t
item_within i fill.Nothing items h t = absurd (h refl)

pub item_taken : (i : ℕ) (w : Fill) (items : List Slot) → w ≡ fill.Nothing → ItemTakes i w items → i < length items
unfolding ItemTakes
item_taken i w items e t = subst (λ x. ItemTakes i x items) e t

other_items : (i : ℕ) (w : Fill) (items : List Slot) → w ≢ fill.Nothing → item_put i (slot_from w) items ≡ items_filled i w items
unfolding items_filled
other_items i (fill.Plain v) items h = refl
other_items i (fill.Target v) items h = refl
other_items i (fill.To v) items h = refl
other_items i fill.Nothing items h = absurd (h refl)

no_items : (i : ℕ) (w : Fill) (items : List Slot) → w ≡ fill.Nothing → remove items i ≡ items_filled i w items
unfolding items_filled
no_items i w items e = ap (λ x. items_filled i x items) (sym e)

none_passed : (w : Fill) → w ≡ fill.Nothing → passed w ≡ []
unfolding passed
none_passed w e = ap passed e

-- the item that is put in is what the `Fill` says
pub put_as : (i : ℕ) (w : Fill) (item : Slot) (items new : List Slot) (out : Slot) → item ≡ slot_from w → (new ≡ item_put i item items) × IsExchange (refs_in items) (refs_of item) (refs_in new) (refs_of out) → (new ≡ item_put i (slot_from w) items) × IsExchange (refs_in items) (passed w) (refs_in new) (refs_of out)
put_as i w item items new out e h = (h.0 ∙ ap (λ x. item_put i x items) e, λ x. omega (arith, h.1 x, ap (λ s. times x (refs_of s)) e, ap (times x) (refs-passed w)))

pub put_filled : (i : ℕ) (w : Fill) (items new : List Slot) (out : Slot) → w ≢ fill.Nothing → (new ≡ item_put i (slot_from w) items) × IsExchange (refs_in items) (passed w) (refs_in new) (refs_of out) → (new ≡ items_filled i w items) × IsExchange (refs_in items) (passed w) (refs_in new) (refs_of out)
put_filled i w items new out h k = (k.0 ∙ other_items i w items h, k.1)

pub take_filled : (i : ℕ) (w : Fill) (items new : List Slot) (out : Slot) → w ≡ fill.Nothing → new ≡ remove items i → IsExchange (refs_in items) [] (refs_in new) (refs_of out) → (new ≡ items_filled i w items) × IsExchange (refs_in items) (passed w) (refs_in new) (refs_of out)
take_filled i w items new out e is k = (is ∙ no_items i w items e, λ x. omega (arith, k x, ap (times x) (none_passed w e)))

pub list_filled : (i : ℕ) (w : Fill) (old : Slot) (items new : List Slot) (out : Slot) → old ≡ Items items → (new ≡ items_filled i w items) × IsExchange (refs_in items) (passed w) (refs_in new) (refs_of out) → ((items : List Slot) × (old ≡ Items items) × (Items new ≡ Items (items_filled i w items))) × IsExchange (refs_of old) (passed w) (refs_of (Items new)) (refs_of out)
list_filled i w old items new out e k =
    ((items, e, ap Items k.0), λ x. omega (arith, k.1 x, ap (λ s. times x (refs_of s)) e, ap (times x) (refs-items items), ap (times x) (refs-items new)))

-- ---- the same of the elements of an array

other_pairs : (k : Sub) (w : Fill) (pairs : List (Sub × Slot)) → w ≢ fill.Nothing → put sub_cmp k (slot_from w) pairs ≡ pairs_filled k w pairs
unfolding pairs_filled
other_pairs k (fill.Plain v) pairs h = refl
other_pairs k (fill.Target v) pairs h = refl
other_pairs k (fill.To v) pairs h = refl
other_pairs k fill.Nothing pairs h = absurd (h refl)

no_pairs : (k : Sub) (w : Fill) (pairs : List (Sub × Slot)) → w ≡ fill.Nothing → without_first (has_key k) pairs ≡ pairs_filled k w pairs
unfolding pairs_filled
no_pairs k w pairs e = ap (λ x. pairs_filled k x pairs) (sym e)

pub pair_taken : (k : Sub) (w : Fill) (pairs : List (Sub × Slot)) → w ≡ fill.Nothing → PairTakes k w pairs → IsSome (find sub_cmp k pairs)
unfolding PairTakes
pair_taken k w pairs e t = subst (λ x. PairTakes k x pairs) e t

pub put_pair_as : (k : Sub) (w : Fill) (item : Slot) (pairs new : List (Sub × Slot)) (out : Slot) → item ≡ slot_from w → (new ≡ put sub_cmp k item pairs) × IsExchange (refs_of_pairs pairs) (refs_of item) (refs_of_pairs new) (refs_of out) → (new ≡ put sub_cmp k (slot_from w) pairs) × IsExchange (refs_of_pairs pairs) (passed w) (refs_of_pairs new) (refs_of out)
put_pair_as k w item pairs new out e h = (h.0 ∙ ap (λ x. put sub_cmp k x pairs) e, λ x. omega (arith, h.1 x, ap (λ s. times x (refs_of s)) e, ap (times x) (refs-passed w)))

pub put_pair_filled : (k : Sub) (w : Fill) (pairs new : List (Sub × Slot)) (out : Slot) → w ≢ fill.Nothing → (new ≡ put sub_cmp k (slot_from w) pairs) × IsExchange (refs_of_pairs pairs) (passed w) (refs_of_pairs new) (refs_of out) → (new ≡ pairs_filled k w pairs) × IsExchange (refs_of_pairs pairs) (passed w) (refs_of_pairs new) (refs_of out)
put_pair_filled k w pairs new out h i = (i.0 ∙ other_pairs k w pairs h, i.1)

pub take_pair_filled : (k : Sub) (w : Fill) (pairs new : List (Sub × Slot)) (out : Slot) → w ≡ fill.Nothing → new ≡ without_first (has_key k) pairs → IsExchange (refs_of_pairs pairs) [] (refs_of_pairs new) (refs_of out) → (new ≡ pairs_filled k w pairs) × IsExchange (refs_of_pairs pairs) (passed w) (refs_of_pairs new) (refs_of out)
take_pair_filled k w pairs new out e is i = (is ∙ no_pairs k w pairs e, λ x. omega (arith, i x, ap (times x) (none_passed w e)))

pub map_filled : (k : Sub) (w : Fill) (old : Slot) (pairs new : List (Sub × Slot)) (out : Slot) → old ≡ Map pairs → (new ≡ pairs_filled k w pairs) × IsExchange (refs_of_pairs pairs) (passed w) (refs_of_pairs new) (refs_of out) → ((pairs : List (Sub × Slot)) × (old ≡ Map pairs) × (Map new ≡ Map (pairs_filled k w pairs))) × IsExchange (refs_of old) (passed w) (refs_of (Map new)) (refs_of out)
map_filled k w old pairs new out e i =
    ((pairs, e, ap Map i.0), λ x. omega (arith, i.1 x, ap (λ s. times x (refs_of s)) e, ap (times x) (refs-map pairs), ap (times x) (refs-map new)))

-- ---- and of members

pub member_added : (n : ℕ) (old : Slot) (members new : List Oref) → old ≡ Members members → new ≡ members ++ record { 0 = n } ∷ [] → ((members : List Oref) × (old ≡ Members members) × (Members new ≡ Members (members ++ record { 0 = n } ∷ []))) × IsExchange (refs_of old) (n ∷ []) (refs_of (Members new)) (refs_of (Target None))
member_added n old members new e is =
    ((members, e, ap Members is), subst (λ v. IsExchange (refs_of old) (n ∷ []) (refs_of (Members v)) (refs_of (Target None))) (sym is) (subst (λ v. IsExchange (refs_of v) (n ∷ []) (refs_of (Members (members ++ record { 0 = n } ∷ []))) (refs_of (Target None))) (sym e) (exchange_member members n)))

pub member_filled : (held : Held) (w : Fill) (old new out : Slot) → w ≡ fill.To held → ((members : List Oref) × (old ≡ Members members) × (new ≡ Members (members ++ record { 0 = held.number } ∷ []))) × IsExchange (refs_of old) (held.number ∷ []) (refs_of new) (refs_of out) → ((members : List Oref) × (old ≡ Members members) × (new ≡ Members (with_members w members))) × IsExchange (refs_of old) (passed w) (refs_of new) (refs_of out)
unfolding passed
member_filled held w old new out e i =
    subst (λ x. ((members : List Oref) × (old ≡ Members members) × (new ≡ Members (with_members x members))) × IsExchange (refs_of old) (passed x) (refs_of new) (refs_of out)) (sym e) i

-- one slot is changed among the slots
pub exchange-slots : (slots : List Slot) (s : ℕ) (old part : Slot) (put out : List ℕ) → slice_get slots s ≡ Some old → IsExchange (refs_of old) put (refs_of part) out → IsExchange (refs_in slots) put (refs_in (slice_set slots s part)) out
exchange-slots slots s old part put out e h x = omega (arith, h x, times-slot x slots s part old e)

-- ---- a part of a slot, by the place

pub part_items : (at : Place) (s i : ℕ) (w : Fill) (old : Slot) → at ≡ place.Item s i → PartTakes at w old → (items : List Slot) × (old ≡ Items items) × ItemTakes i w items
unfolding PartTakes
part_items at s i w old e t = subst (λ p. PartTakes p w old) e t

pub part_pairs : (at : Place) (s : ℕ) (k : Sub) (w : Fill) (old : Slot) → at ≡ place.Pair s k → PartTakes at w old → (pairs : List (Sub × Slot)) × (old ≡ Map pairs) × IsTrue (is_sorted sub_cmp pairs) × PairTakes k w pairs
unfolding PartTakes
part_pairs at s k w old e t = subst (λ p. PartTakes p w old) e t

pub part_members : (at : Place) (s : ℕ) (w : Fill) (old : Slot) → at ≡ place.Member s → PartTakes at w old → (members : List Oref) × (old ≡ Members members) × MemberTakes w members
unfolding PartTakes
part_members at s w old e t = subst (λ p. PartTakes p w old) e t

pub slot_fills : (at : Place) (s : ℕ) (w : Fill) (old new : Slot) → at ≡ place.Slot s → new ≡ slot_from w → PartFills at w old new × IsExchange (refs_of old) (passed w) (refs_of new) (refs_of old)
unfolding PartFills
slot_fills at s w old new e is = (subst (λ p. PartFills p w old new) (sym e) is, λ x. omega (arith, ap (λ v. times x (refs_of v)) is, ap (times x) (refs-passed w)))

pub items_fill : (at : Place) (s i : ℕ) (w : Fill) (old new : Slot) → at ≡ place.Item s i → ((items : List Slot) × (old ≡ Items items) × (new ≡ Items (items_filled i w items))) → PartFills at w old new
unfolding PartFills
items_fill at s i w old new e h = subst (λ p. PartFills p w old new) (sym e) h

pub pairs_fill : (at : Place) (s : ℕ) (k : Sub) (w : Fill) (old new : Slot) → at ≡ place.Pair s k → ((pairs : List (Sub × Slot)) × (old ≡ Map pairs) × (new ≡ Map (pairs_filled k w pairs))) → PartFills at w old new
unfolding PartFills
pairs_fill at s k w old new e h = subst (λ p. PartFills p w old new) (sym e) h

pub members_fill : (at : Place) (s : ℕ) (w : Fill) (old new : Slot) → at ≡ place.Member s → ((members : List Oref) × (old ≡ Members members) × (new ≡ Members (with_members w members))) → PartFills at w old new
unfolding PartFills
members_fill at s w old new e h = subst (λ p. PartFills p w old new) (sym e) h

pub slots_filled : (at : Place) (w : Fill) (slots mid new : List Slot) (s : ℕ) (old part out : Slot) → s ≡ slot_number at → slice_get slots s ≡ Some old → mid ≡ slice_set slots s (Target None) → new ≡ slice_set mid s part → PartFills at w old part × IsExchange (refs_of old) (passed w) (refs_of part) (refs_of out) → Fills at w slots new × IsExchange (refs_in slots) (passed w) (refs_in new) (refs_of out)
slots_filled at w slots mid new s old part out e there taken put_ h =
    let made : new ≡ slice_set slots s part = put_ ∙ ap (λ ss. slice_set ss s part) taken ∙ set-set slots s (Target None) part in (
      (old, part, subst (λ k. slice_get slots k ≡ Some old) e there, h.0, made ∙ ap (λ k. slice_set slots k part) e),
      subst (λ ss. IsExchange (refs_in slots) (passed w) (refs_in ss) (refs_of out)) (sym made) (λ x. omega (arith, h.1 x, times-slot x slots s part old there)),
    )

pub slots_back : (slots mid new : List Slot) (s : ℕ) (old part : Slot) → slice_get slots s ≡ Some old → mid ≡ slice_set slots s (Target None) → new ≡ slice_set mid s part → part ≡ old → new ≡ slots
slots_back slots mid new s old part there taken put_ e =
    put_ ∙ ap (λ ss. slice_set ss s part) taken ∙ set-set slots s (Target None) part ∙ ap (slice_set slots s) e ∙ set-same slots s old there

pub err_then : {X E : Type 0} (P Q : E → Type 0) (r : Result X E) → ((e : E) → P e → Q e) → IfErr r P → IfErr r Q
err_then P Q (Ok x) h i = tt
err_then P Q (Err e) h i = h e i

-- the place is in the entry
pub place-takes : (es : List Entry) (last : ℕ) (fs : List Freed) (n : ℕ) (at : Place) (w : Fill) → MayFill (memory_of es last fs) n at w → (e : Entry) × (first_that (is_entry n) es ≡ Some e) × Takes at w e.obj.slots
place-takes es last fs n at w may =
    let e = entry-of n es may.0 may.1 in
    (e.0, e.1, subst (λ (q : Object). Takes at w q.slots) e.2 may.2)

-- the memory before the release, and the entries behind it
pub record IsPlaceFilled (m : Memory) (n : ℕ) (at : Place) (w : Fill) (es before : List Entry) : Type 0 where
  pub object : Object
  pub slots : List Slot
  pub found : object_of n m.objects ≡ Some object
  pub fills : Fills at w object.slots slots
  pub filled : IsFilled (loosed (edited m n (with_slots (λ _. slots))) (passed w)) before
  pub long : length before ≡ length es

pub fill-place : (es : List Entry) (last : ℕ) (fs : List Freed) (n places : ℕ) (at : Place) (w : Fill) (mid before : List Entry) (out : List ℕ) → IsTable es last fs places → IsHeldFor (memory_of es last fs) w → FillsFirst at w n es mid out → before ≡ lowered out mid → IsPlaceFilled (memory_of es last fs) n at w es before
fill-place es last fs n places at w mid before out t held s so =
    let r : Entry = s.0 in
    let slots : List Slot = s.1 in
    let made : before ≡ lowered out (at_first (is_entry n) (with_entry_slots (λ _. slots)) es) = so ∙ ap (lowered out) s.4 in
    record {
      object = seen_one (refs_all es) r;
      slots = slots;
      found = object-found es n r s.2;
      fills = s.3.0;
      filled = fill-any es last fs n places r (λ _. slots) out (passed w) before t s.2 (covered-passed es last fs places w t held) (λ x a. dead-passed (memory_of es last fs) w x held a) s.3.1 made;
      long = ap length made ∙ length-lowered out (at_first (is_entry n) (with_entry_slots (λ _. slots)) es) ∙ length-at_first (is_entry n) (with_entry_slots (λ _. slots)) es;
    }

-- ---- what is there already

pub not_ok : {X E : Type 0} (r : Result X E) (e : E) → r ≡ Err e → IsOk r → ⊥
not_ok (Ok x) e is h = absurd (cc)
not_ok (Err x) e is h = let g : false ≡ true = h in true≢false (sym g)

there_items : (at : Place) (s i : ℕ) (old : Slot) → at ≡ place.Item s i → IsThere at old → (items : List Slot) × (old ≡ Items items) × (i < length items)
unfolding IsThere
there_items at s i old e h = subst (λ (a : Place). IsThere a old) e h

pub items_there : (at : Place) (s i : ℕ) (old : Slot) (P : Type 0) → at ≡ place.Item s i → ((items : List Slot) → old ≡ Items items → i < length items → P) → IsThere at old → P
items_there at s i old P e f h = let g = there_items at s i old e h in f g.0 g.1 g.2

there_pairs : (at : Place) (s : ℕ) (k : Sub) (old : Slot) → at ≡ place.Pair s k → IsThere at old → (pairs : List (Sub × Slot)) × (old ≡ Map pairs) × IsSome (find sub_cmp k pairs)
unfolding IsThere
there_pairs at s k old e h = subst (λ (a : Place). IsThere a old) e h

pub pairs_there : (at : Place) (s : ℕ) (k : Sub) (old : Slot) (P : Type 0) → at ≡ place.Pair s k → ((pairs : List (Sub × Slot)) → old ≡ Map pairs → IsSome (find sub_cmp k pairs) → P) → IsThere at old → P
pairs_there at s k old P e f h = let g = there_pairs at s k old e h in f g.0 g.1 g.2

pub no_member_there : (at : Place) (s : ℕ) (old : Slot) → at ≡ place.Member s → ¬ IsThere at old
unfolding IsThere
no_member_there at s old e h = let g : IsThere (place.Member s) old = subst (λ (a : Place). IsThere a old) e h in g

pub same_items : (old : Slot) (xs ys : List Slot) → old ≡ Items xs → old ≡ Items ys → xs ≡ ys
same_items old xs ys e f =
    let z : Slot-F.Items xs ≡ Slot-F.Items ys = sym (out-roll-Slot (Slot-F.Items xs)) ∙ ap out-Slot (rolls-Items xs ∙ sym e ∙ f ∙ sym (rolls-Items ys)) ∙ out-roll-Slot (Slot-F.Items ys) in cc

pub same_pairs : (old : Slot) (xs ys : List (Sub × Slot)) → old ≡ Map xs → old ≡ Map ys → xs ≡ ys
same_pairs old xs ys e f =
    let z : Slot-F.Map xs ≡ Slot-F.Map ys = sym (out-roll-Slot (Slot-F.Map xs)) ∙ ap out-Slot (rolls-Map xs ∙ sym e ∙ f ∙ sym (rolls-Map ys)) ∙ out-roll-Slot (Slot-F.Map ys) in cc

-- the slot that stood there is the one that is known
pub slots_there : (at : Place) (slots : List Slot) (s : ℕ) (old : Slot) → s ≡ slot_number at → slice_get slots s ≡ Some old → IsAmong at slots → IsThere at old
slots_there at slots s old e got h =
    let same : old ≡ h.0 = let g : Some old ≡ Some h.0 = sym got ∙ ap (slice_get slots) e ∙ h.1 in cc in
    subst (λ (x : Slot). IsThere at x) (sym same) h.2
