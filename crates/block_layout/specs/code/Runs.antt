-- Cells that are held as copies of a pattern.
use Rattle.std.specs.Prelude.{◌≡◌, ◌⊎◌, Bool, false, ◌==◌, ◌||◌}
use Rattle.std.specs.Prelude.{ℕ, zero, suc, ◌+◌, ◌*◌, ◌<◌, ◌≤◌, List, [], ◌∷◌, ◌++◌, length}
use Rattle.block_layout.specs.declared.kind.Kind.{Kind}
use Rattle.block_layout.specs.Moved.{moved, copies}

-- So many copies of a pattern: the first begins at `start`, each next one `stride` bytes further.
pub record Repeated : Type 0 where
  pub start : ℕ
  pub stride : ℕ
  pub count : ℕ
  pub cells : List (ℕ × Kind)

-- So many copies of a pattern of cells, by where the first begins and how far apart they begin.
abbrev pub repeated : ℕ → ℕ → ℕ → List (ℕ × Kind) → Repeated
repeated start stride count cells = record { start = start; stride = stride; count = count; cells = cells }

-- The cells of all copies of a pattern, one copy after the other.
abbrev pub run_cells : Repeated → List (ℕ × Kind)
run_cells r = moved r.start (copies r.count r.stride r.cells)

-- The cells of all copies of some patterns, in order.
abbrev pub runs_cells : List Repeated → List (ℕ × Kind)
runs_cells [] = []
runs_cells (r ∷ rs) = run_cells r ++ runs_cells rs

-- Each cell begins at a byte that 32 bits can name.
abbrev pub AreNear : List (ℕ × Kind) → Type 0
AreNear [] = Unit {0}
AreNear (c ∷ cells) = (c.0 ≤ 4294967295) × AreNear cells

-- The byte at which the first cell begins; 0 where there is no cell.
abbrev pub first_of : List (ℕ × Kind) → ℕ
first_of [] = 0
first_of (c ∷ cells) = c.0

-- If there is a cell, the first begins after this byte.
abbrev pub BeginsBehind : ℕ → List (ℕ × Kind) → Type 0
BeginsBehind place cells = 0 < length cells → place < first_of cells

-- A run has a copy, and its pattern a cell. It is a list as it is, or its places are near.
pub record IsRun (r : Repeated) : Type 0 where
  pub some : 0 < r.count
  pub cell : 0 < length r.cells
  pub near : ((r.start ≡ 0) × (r.count ≡ 1)) ⊎ AreNear (run_cells r)

-- The copies of the second run go on after those of the first, so many bytes from one to the next.
pub record GoesOn (stride : ℕ) (r s : Repeated) : Type 0 where
  pub positive : 0 < stride
  pub own : (r.count ≡ 1) ⊎ (r.stride ≡ stride)
  pub other : (s.count ≡ 1) ⊎ (s.stride ≡ stride)
  pub behind : s.start ≡ r.start + r.count * stride

-- The last copy that begins at this byte or before it; the first one where none does.
pub record IsLastBy (place copy : ℕ) (r : Repeated) : Type 0 where
  pub below : copy < r.count
  pub before : 0 < copy → r.start + copy * r.stride + first_of r.cells ≤ place
  pub behind : 0 < r.stride → copy + 1 < r.count → place < r.start + (copy + 1) * r.stride + first_of r.cells

-- Whether one of these copies of a cell begins at a byte.
abbrev pub hits : ℕ → ℕ → ℕ → ℕ → ℕ → Bool
hits start stride zero offset place = false
hits start stride (suc n) offset place = hits start stride n offset place || (start + (n * stride + offset)) == place

-- What is left of a copy that begins at `start`, and so many copies after it.
abbrev pub copies_left : List (ℕ × Kind) → ℕ → ℕ → ℕ → List (ℕ × Kind) → List (ℕ × Kind)
copies_left left start stride more pattern = moved start left ++ moved (start + stride) (copies more stride pattern)

-- What is left of a copy and of the copies after it lies at places that 32 bits can name, unless it is one copy that
-- begins at 0; and a pattern of which copies are left has a cell.
pub record IsLeft (left : List (ℕ × Kind)) (start stride more : ℕ) (pattern : List (ℕ × Kind)) : Type 0 where
  pub near : ((start ≡ 0) × (more ≡ 0)) ⊎ AreNear (copies_left left start stride more pattern)
  pub cell : 0 < more → 0 < length pattern
