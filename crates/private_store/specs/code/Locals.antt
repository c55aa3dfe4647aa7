-- What reads and writes of the objects give for which local names stand.
use Rattle.std.specs.Prelude.{ℕ, ◌≡◌, pos, Option, Some, None, option_map, Result, Ok, Err}
use Rattle.block_layout.specs.declared.kind.Kind.{Kind}
use Rattle.block_layout.specs.declared.place.LocalPtr.{LocalPtr}
use Rattle.block_layout.specs.declared.place.LocalPtr.TheVariants as local
use Rattle.upc_values.specs.declared.scalar.Value.{Value}
use Rattle.private_store.specs.Live.{Live, local_number}
use Rattle.private_store.specs.Cells.{loaded, stored}

-- The first byte of the object with a number.
abbrev pub first_byte : ℕ → LocalPtr
first_byte number = local.Private number (pos 0)

-- What a read of this kind gives at the first byte of the object for which the n-th local name in scope stands, if
-- there is one.
abbrev pub local_loaded : ℕ → Kind → Live → Option (Result Value ℕ)
local_loaded n kind s = option_map (λ number. loaded (first_byte number) kind s) (local_number n s)

-- The write through a pointer is done, or it is a run error and nothing has changed.
abbrev pub IsStored : {X : Type 0} → Result X ℕ → LocalPtr → Kind → Value → Live → Live → Type 0
IsStored (Ok x) p kind v before after = stored p kind v before ≡ Ok after
IsStored (Err code) p kind v before after = (stored p kind v before ≡ Err code) × (after ≡ before)

-- The write to the first byte of the object with a number is done, or it is a run error and nothing has changed.
-- Without a number there is no answer, and nothing has changed.
abbrev pub IsStoredBy : {X : Type 0} → Option (Result X ℕ) → Option ℕ → Kind → Value → Live → Live → Type 0
IsStoredBy None None kind v before after = after ≡ before
IsStoredBy (Some r) (Some number) kind v before after = IsStored r (first_byte number) kind v before after
IsStoredBy r number kind v before after = ⊥
