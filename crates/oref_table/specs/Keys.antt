-- Where the objects with a key are found: each extent that was met has a place, and the numbers of the objects
-- stand under the place of their extent and their id.
use Rattle.std.specs.Prelude.{ℕ, ◌≡◌, ◌+◌, ◌≤◌, ◌&&◌, ◌==◌, cond, Bool, true, Option, None, Some, IsSome, is_some, List, [], ◌∷◌, length, map, position, slice_get}
use Rattle.std.specs.Option.{option_map, unwrap_or}
use Rattle.std.specs.List.{AllByRecursion}
use Rattle.std.specs.Map.{lookup}
use Rattle.std.specs.Ordering.{nat_cmp, eq_by_cmp}
use Rattle.std.specs.Cmp.Lexicographic.{slice_cmp}
use Rattle.obj_kinds.specs.declared.name.ClassName.{ClassName}
use Rattle.obj_kinds.specs.declared.id.Id.{Id}
use Rattle.obj_kinds.specs.Texts.{same_text}
use Rattle.oref_table.specs.declared.spot.Spot.{Spot}
use Rattle.oref_table.specs.declared.obj.Entry.{Entry}
use Rattle.oref_table.specs.Memory.{first_that}

-- both the extent and the id are the same
abbrev pub same_spot : Spot → Spot → Bool
same_spot a b = (a.extent == b.extent) && eq_by_cmp (slice_cmp nat_cmp) a.id b.id

-- the number at a place of an id, 0 behind its end
abbrev pub number_in : ℕ → List ℕ → ℕ
number_in at id = unwrap_or (slice_get id at) 0

-- what tells where an object is found
pub record Tag : Type 0 where
  pub number : ℕ
  pub extent : Option ClassName
  pub id : Option Id

abbrev pub tag_of : Entry → Tag
tag_of e = record { number = e.number; extent = e.obj.extent; id = e.obj.id }

abbrev pub tags : List Entry → List Tag
tags es = map tag_of es

abbrev pub has_number : ℕ → Tag → Bool
has_number n t = t.number == n

-- the place of an extent among those that were met
abbrev pub place_of : List (List ℕ) → ClassName → Option ℕ
place_of names e = position (same_text e.0) names

abbrev pub spot_at : Id → Option ℕ → Option Spot
spot_at id place = option_map (λ x. record { extent = x; id = id }) place

-- where the key stands: none without an id or an extent, and none for an extent that wasn't met
abbrev pub spot_for : (ClassName → Option ℕ) → Option ClassName → Option Id → Option Spot
spot_for place None id = None
spot_for place (Some e) None = None
spot_for place (Some e) (Some id) = spot_at id (place e)

abbrev pub spot_in : (ClassName → Option ℕ) → Tag → Option Spot
spot_in place t = spot_for place t.extent t.id

abbrev pub has_key : Tag → Bool
has_key t = is_some t.extent && is_some t.id

-- how many have no key
abbrev pub keyless : List Tag → ℕ
keyless [] = 0
keyless (t ∷ ts) = cond (has_key t) 0 1 + keyless ts

abbrev pub IsKnown : (ClassName → Option ℕ) → Option ClassName → Type 0
IsKnown place None = ℕ
IsKnown place (Some e) = IsSome (place e)

-- `found`: the number of each object with a key stands at its spot; `right`: no other number stands anywhere; `known`:
-- the extent of each object was met; `room`: each object without a key may come to have one
pub record IsIndexed (ts : List Tag) (place : ClassName → Option ℕ) (at : Spot → Option ℕ) (long spare : ℕ) : Type 0 where
  pub found : AllByRecursion (λ t. (s : Spot) → spot_in place t ≡ Some s → at s ≡ Some t.number) ts
  pub right : (s : Spot) (n : ℕ) → at s ≡ Some n → (t : Tag) × (first_that (has_number n) ts ≡ Some t) × (spot_in place t ≡ Some s)
  pub known : AllByRecursion (λ t. IsKnown place t.extent) ts
  pub few : long + keyless ts ≤ length ts
  pub room : keyless ts ≤ spare

-- the tag is that of the id in the extent
abbrev pub IsTagOf : ClassName → Id → Tag → Type 0
IsTagOf extent id t = (t.extent ≡ Some extent) × (t.id ≡ Some id)

-- the number that stands at a spot
abbrev pub numbers_in : List (Spot × ℕ) → Spot → Option ℕ
numbers_in ks s = lookup (same_spot s) ks

abbrev pub found_at : Option Spot → (Spot → Option ℕ) → Option ℕ
found_at None at = None
found_at (Some s) at = at s

-- each extent keeps its place
abbrev pub KeepsPlaces : (ClassName → Option ℕ) → (ClassName → Option ℕ) → Type 0
KeepsPlaces place wider = (e : ClassName) (x : ℕ) → place e ≡ Some x → wider e ≡ Some x

-- nothing stands at the spot of the tag any more, and elsewhere what stood there
abbrev pub IsForgotten : (Spot → Spot → Bool) → Option Spot → (Spot → Option ℕ) → (Spot → Option ℕ) → Type 0
IsForgotten same None at now = (q : Spot) → now q ≡ at q
IsForgotten same (Some s) at now = (q : Spot) → now q ≡ cond (same s q) None (at q)

abbrev pub AreSpots : (Spot → Spot → Bool) → Type 0
AreSpots same = (s q : Spot) → (same s q ≡ true → s ≡ q) × (s ≡ q → same s q ≡ true)

-- the entry at a spot is one less where it was
abbrev pub IsFewer : Option Spot → ℕ → ℕ → Type 0
IsFewer None long fewer = fewer ≡ long
IsFewer (Some s) long fewer = fewer + 1 ≡ long

abbrev pub IsPut : (Spot → Spot → Bool) → Option Spot → ℕ → (Spot → Option ℕ) → (Spot → Option ℕ) → Type 0
IsPut same None n at now = (q : Spot) → now q ≡ at q
IsPut same (Some s) n at now = (q : Spot) → now q ≡ cond (same s q) (Some n) (at q)

abbrev pub IsMore : Option Spot → ℕ → ℕ → Type 0
IsMore None long longer = longer ≤ long
IsMore (Some s) long longer = longer ≤ long + 1

abbrev pub HasSpare : Option Spot → ℕ → ℕ → Type 0
HasSpare None spare left = spare ≤ left
HasSpare (Some s) spare left = spare ≤ left + 1
