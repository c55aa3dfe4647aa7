-- The arguments of a collective call.
use Rattle.std.specs.Prelude.{Bool, true, false}
use Rattle.upc_values.specs.Calls.{Call, Copies, Permutes, Reduces, Reduces_prefixes}

-- The call is one of the collective calls 5 to 12, with arguments of its parameters' types (UPC 7.3).
abbrev pub copies_or_reduces : Call → Bool
copies_or_reduces (Copies way dst src n flags) = true
copies_or_reduces (Permutes dst src perm n flags) = true
copies_or_reduces (Reduces dst src op n block kind flags) = true
copies_or_reduces (Reduces_prefixes dst src op n block kind flags) = true
copies_or_reduces c = false
