-- What one act changes in a session, and how a session shows what stands.
use Rattle.std.specs.Prelude.{◌≡◌, ℕ, ◌<◌, List, [], ◌∷◌, ◌++◌, length, replicate, Option, Some, None, slice_get, slice_set}
use Rattle.std.specs.Option.{IfSome}
use Rattle.first_path.specs.World.{Past, objects_made, fields_of, first_saves, place_among, world_after}
use Rattle.first_path.specs.declared.act.Act.{Act}
use Rattle.first_path.specs.declared.act.Act.TheVariants.{Make, Fill, Save}
use Rattle.first_path.specs.declared.session.Object.{Object}
use Rattle.first_path.specs.declared.session.Session.{Session}

-- an object without a value and without a row
abbrev pub blank : ℕ → Object
blank n = record { fields = replicate n []; row = None }

-- what an act asks of the session: its object, and the place of its property or of its row
abbrev pub CanStep : Act → Session → Type 0
CanStep Make s = Unit {0}
CanStep (Fill object place text) s = (o : Object) × (slice_get s.objects.items object ≡ Some o) × (place < length o.fields)
CanStep (Save object) s = (o : Object) × (slice_get s.objects.items object ≡ Some o) × IfSome o.row (λ row. row < length s.saved)

-- a first save adds a row, and a later one writes it anew
abbrev pub SavesAt : Option ℕ → ℕ → Object → Session → Session → Type 0
SavesAt None object o old new = (new.objects.items ≡ slice_set old.objects.items object (record o { row = Some (length old.saved) })) × (new.saved ≡ old.saved ++ o.fields ∷ [])
SavesAt (Some row) object o old new = (new.objects.items ≡ old.objects.items) × (new.saved ≡ slice_set old.saved row o.fields)

abbrev pub Steps : Act → Session → Session → Type 0
Steps Make old new = (new.objects.items ≡ old.objects.items ++ blank old.properties ∷ []) × (new.saved ≡ old.saved) × (new.properties ≡ old.properties)
Steps (Fill object place text) old new =
    (o : Object) × (slice_get old.objects.items object ≡ Some o) × (new.objects.items ≡ slice_set old.objects.items object (record o { fields = slice_set o.fields place text }))
    × (new.saved ≡ old.saved) × (new.properties ≡ old.properties)
Steps (Save object) old new = (o : Object) × (slice_get old.objects.items object ≡ Some o) × SavesAt o.row object o old new × (new.properties ≡ old.properties)

-- an object as it stands after these acts
abbrev pub object_after : ℕ → Past → ℕ → Object
object_after n before object = record { fields = fields_of n before object; row = place_among (first_saves before) object }

-- the session has each object as it stands, and the world
pub record Stands (n : ℕ) (before : Past) (s : Session) : Type 0 where
  pub properties : s.properties ≡ n
  pub made : length s.objects.items ≡ objects_made before
  pub objects : (object : ℕ) → object < objects_made before → slice_get s.objects.items object ≡ Some (object_after n before object)
  pub saved : s.saved ≡ world_after n before
