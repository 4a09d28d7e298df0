-- The worked classes have names apart, and the forms of their own properties.
use Rattle.std.proofs.Common.{refl}
use Rattle.record_layout.specs.Layout.{layout_of, line_of}
use Rattle.call_rules.specs.BankNames.{BankIsApart}

pub bank_is_apart : BankIsApart
unfolding layout_of line_of
bank_is_apart = record { unique = refl; no_side = refl; side = refl; not_unique = refl; elsewhere = refl; accounts = refl; savers = refl; branches = refl; clerks = refl }
