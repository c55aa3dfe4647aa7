-- Local names in scope, and the blocks that have their objects.
use Rattle.std.specs.Prelude.{◌≡◌, ◌⊎◌, List, [], ◌∷◌}
use Rattle.private_store.specs.declared.frame.Block.{Block}
use Rattle.private_store.specs.Live.{Live, open_blocks}

-- One of these blocks is that of a function: no local name was in scope before it (C99 6.2.1, 6.9.1).
abbrev pub HasOuter : List Block → Type 0
HasOuter [] = ⊥
HasOuter (b ∷ blocks) = (b.from ≡ 0) ⊎ HasOuter blocks

-- The block of the function is open in the youngest call.
abbrev pub HasScope : Live → Type 0
HasScope s = HasOuter (open_blocks s)
