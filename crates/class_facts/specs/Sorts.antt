-- What is stored of the objects of a sort.
use Rattle.std.specs.Prelude.{Bool, true, false}
use Rattle.schema_kinds.specs.declared.class.Sort.{Sort}
use Rattle.schema_kinds.specs.declared.class.Sort.TheVariants.{Persistent, Serial, Registered, Plain}

-- objects of the sort are parts of others
abbrev pub is_serial : Sort → Bool
is_serial Persistent = false
is_serial Serial = true
is_serial Registered = false
is_serial Plain = false

-- objects of the sort are stored, by themselves or in others
abbrev pub is_stored : Sort → Bool
is_stored Persistent = true
is_stored Serial = true
is_stored Registered = false
is_stored Plain = false
