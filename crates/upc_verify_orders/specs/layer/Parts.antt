-- The program's places and parts, as the definitions have them.
use Rattle.std.specs.Prelude.{◌≡◌, Bool, true, List}
use Rattle.upc_values.specs.Lists.{Has}
use Rattle.upc_values.specs.Operations.{Place, Cell, Sync, Operation}
use Rattle.upc_values.specs.Orders.{is_shown}
use Rattle.upc_verify_orders.specs.declared.place.Place as program
use Rattle.upc_verify_orders.specs.declared.place.Place.TheVariants as variants
use Rattle.upc_verify_orders.specs.declared.part.Part.{Part}
use Rattle.upc_verify_orders.specs.declared.part.Part.TheVariants.{Strict, Shown}

-- The place of the definitions.
abbrev pub place_of : program.Place → Place
place_of (variants.Cell l) = Cell l
place_of variants.Sync = Sync

-- An operation is strict, or stands in the order of this thread (UPC Appendix B).
abbrev pub is_in : Part → Operation → Bool
is_in Strict o = o.strict
is_in (Shown t) o = is_shown t o

-- So, and it is one of these operations.
abbrev pub IsPartOf : Part → List Operation → Operation → Type 0
IsPartOf part operations o = Has operations o × (is_in part o ≡ true)
