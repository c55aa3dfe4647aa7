-- Cells of structs that are kept while others are put together.
use Rattle.std.specs.Prelude.{◌≡◌, ℕ, List, Option, None, get_or}
use Rattle.std.specs.List.{All}
use Rattle.std.specs.Option.{ForSome}
use Rattle.block_layout.specs.declared.kind.Kind.{Kind}
use Rattle.upc_types.specs.declared.layout.Layout.{Layout}
use Rattle.upc_types.specs.declared.shape.KeptCells.{KeptCells}
use Rattle.upc_types.specs.declared.structs.Held.{Held}
use Rattle.upc_types.specs.declared.structs.Held.TheVariants as held

-- The cells that are kept of each struct are its cells.
abbrev pub AreKept : (ℕ → List (ℕ × Kind)) → List KeptCells → Type 0
AreKept cells_of kept = All (λ k. k.cells ≡ cells_of k.number) kept

-- The layout of a struct by what is held of it: its own, or that of another struct.
abbrev pub held_layout : (ℕ → Layout) → ℕ → Held → Layout
held_layout layouts n (held.Own cells) = layouts n
held_layout layouts n (held.Like m) = layouts m

-- The cells of a struct by what is held of it.
abbrev pub held_cells : (ℕ → List (ℕ × Kind)) → Held → List (ℕ × Kind)
held_cells cells_of (held.Own cells) = cells
held_cells cells_of (held.Like m) = cells_of m

-- What is held of the struct with this number gives its layout and its cells.
abbrev pub IsHeld : (ℕ → Layout) → (ℕ → List (ℕ × Kind)) → ℕ → Held → Type 0
IsHeld layouts cells_of n h = (held_layout layouts n h ≡ layouts n) × (held_cells cells_of h ≡ cells_of n)

-- What is held by the number of each struct is of that struct.
abbrev pub AreHeld : (ℕ → Layout) → (ℕ → List (ℕ × Kind)) → List (Option Held) → Type 0
AreHeld layouts cells_of list = (n : ℕ) → ForSome (get_or list n None) (IsHeld layouts cells_of n)
