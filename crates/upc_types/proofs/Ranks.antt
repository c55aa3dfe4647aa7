-- How deep structs lie in structs.
use Rattle.std.proofs.Common.{ℕ, ◌+◌, List, Option, Some, None}
use Rattle.upc_types.specs.declared.layout.Known.{Known}
use Rattle.upc_types.specs.Types.{Base, Struct, Completed}
use Rattle.upc_types.specs.Layout.{known_in}

abbrev pub place_or_none : Option Known → ℕ
place_or_none None = 0
place_or_none (Some k) = k.place

-- A struct has more than the structs in it.
abbrev pub struct_rank : List Completed → ℕ → ℕ
struct_rank cs number = place_or_none (known_in cs number) + 1

abbrev pub rank : List Completed → Base → ℕ
rank cs (Struct number) = struct_rank cs number
rank cs b = 0
