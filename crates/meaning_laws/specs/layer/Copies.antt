-- What a call of the library does with cells.
use Rattle.std.specs.Prelude.{◌≡◌, true}
use Rattle.upc_values.specs.declared.scalar.Scalar.{Scalar}
use Rattle.upc_values.specs.declared.scalar.Value.{Value}
use Rattle.upc_values.specs.declared.scalar.Value.TheVariants as value
use Rattle.upc_values.specs.declared.action.Reply.{Reply}
use Rattle.upc_values.specs.Shapes.{fits_kind, value_fits}
use Rattle.upc_values.specs.Expansion.{Expansion, Gives, Fails, Reads, Asks, Loads, Stores}

-- Where what a call of the library reads of a cell fits the cell, what it reads of a private one is a scalar, and what
-- it writes to a private one fits it (UPC 7.2.5).
abbrev pub TakesCells : {A : Type 0} → Expansion A → Type 0
TakesCells (Gives v) = Unit {0}
TakesCells (Fails code) = Unit {0}
TakesCells (Reads l kind after) = (v : Scalar) → fits_kind v kind ≡ true → TakesCells (after v)
TakesCells (Asks action after) = (r : Reply) → TakesCells (after r)
TakesCells (Loads p kind after) =
    (v : Value) → value_fits v kind ≡ true → (s : Scalar) × (v ≡ value.Scalar s) × TakesCells (after s)
TakesCells (Stores p kind v after) = (fits_kind v kind ≡ true) × TakesCells after
