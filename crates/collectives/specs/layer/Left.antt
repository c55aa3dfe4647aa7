-- What is left of the work of a collective call, reply by reply (UPC 7.3).
use Rattle.std.specs.Prelude.{ℕ, ℤ, false, not, List, [], ◌∷◌, ◌++◌, Option, Some, None, Result, Ok}
use Rattle.block_layout.specs.declared.place.SharedPtr.{SharedPtr}
use Rattle.block_layout.specs.declared.kind.Kind.{Kind}
use Rattle.block_layout.specs.declared.kind.Kind.TheVariants as kind
use Rattle.block_layout.specs.declared.kind.Shape.{Shape}
use Rattle.block_layout.specs.declared.run_error.TheConstants.{LIBRARY_ARGS}
use Rattle.upc_values.specs.declared.scalar.Scalar.{Scalar}
use Rattle.upc_values.specs.layer.Parts as parts
use Rattle.upc_values.specs.declared.action.Action.TheVariants as act
use Rattle.upc_values.specs.History.{each_thread}
use Rattle.upc_values.specs.Reductions.{Reduction, step}
use Rattle.upc_values.specs.Expansion.{Expansion, Reads, nothing, bind, does, each_in_turn, gathered, refused_by}
use Rattle.upc_values.specs.Expansions as said
use Rattle.upc_values.specs.Expansions.{Part}
use Rattle.upc_values.specs.Views.{location_behind}

-- The part that is copied, its next cell, and the cells and parts behind.
pub record CopiesLeft : Type 0 where
  pub bytes : ℕ
  pub part : Part
  pub cell : ℕ × Kind
  pub cells : List (ℕ × Kind)
  pub parts : List Part

-- A cell of a part is read and written.
abbrev pub cell_copied : Part → ℕ × Kind → Expansion (Unit {0})
cell_copied x c =
    Reads (location_behind x.from c.0) c.1 (λ v. does (act.Write false (location_behind x.into c.0) v))

-- Parts are copied, none of which is begun.
abbrev pub parts_copied : List Shape → ℕ → List Part → Expansion (Unit {0})
parts_copied shapes n parts = each_in_turn (said.copied 0 shapes 0 n) parts

-- What is left of parts that are copied.
abbrev pub copies_rest : List Shape → CopiesLeft → Expansion (Unit {0})
copies_rest shapes l =
    bind (each_in_turn (cell_copied l.part) (l.cell ∷ l.cells)) (λ u. parts_copied shapes l.bytes l.parts)

-- So where the value of the next cell has come, which is to be written.
abbrev pub copies_put : List Shape → CopiesLeft → Scalar → Expansion (Unit {0})
copies_put shapes l v =
    bind (bind (does (act.Write false (location_behind l.part.into l.cell.0) v)) (λ u.
    each_in_turn (cell_copied l.part) l.cells)) (λ u. parts_copied shapes l.bytes l.parts)

-- What is left of parts that are copied, of which there may be none.
abbrev pub copies_left : List Shape → Option CopiesLeft → Expansion (Unit {0})
copies_left shapes (Some l) = copies_rest shapes l
copies_left shapes None = nothing

-- Where a permutation copies to and from, the numbers that have come, the element that is read next, and those behind.
pub record NumbersLeft : Type 0 where
  pub dst : SharedPtr
  pub src : SharedPtr
  pub bytes : ℕ
  pub came : List ℤ
  pub element : SharedPtr
  pub elements : List SharedPtr

-- A permutation's numbers are tested, and the block that they choose is copied.
abbrev pub permuted : ℕ → List Shape → ℕ → SharedPtr → SharedPtr → ℕ → List ℤ → Expansion (Unit {0})
permuted threads shapes me dst src n vs =
    refused_by ((not (each_thread threads (λ t. parts.is_at threads shapes me t vs)), LIBRARY_ARGS) ∷ [])
    (said.some_bytes threads shapes me n
    (said.move threads shapes me n (said.chosen threads shapes me dst src n vs ∷ [])))

-- What is left of a permutation whose numbers are read.
abbrev pub numbers_rest : ℕ → List Shape → ℕ → NumbersLeft → Expansion (Unit {0})
numbers_rest threads shapes me l =
    bind (gathered (said.number_at 0 [] 0 kind.Int) (l.element ∷ l.elements))
    (λ vs. permuted threads shapes me l.dst l.src l.bytes (l.came ++ vs))

-- The value so far with one element more: the first is as it is.
abbrev pub joined : Reduction → Kind → Option ℤ → ℤ → Result ℤ ℕ
joined op k None v = Ok v
joined op k (Some a) v = step op k a v

-- The operator and kind of a reduction, the value so far if there is one, where the value goes, the element that is read
-- next, and those behind.
pub record TotalLeft : Type 0 where
  pub op : Reduction
  pub kind : Kind
  pub so_far : Option ℤ
  pub dst : SharedPtr
  pub element : SharedPtr
  pub elements : List SharedPtr

-- What is left of a reduction whose elements are read.
abbrev pub total_rest : TotalLeft → Expansion (Unit {0})
total_rest l =
    bind (said.number_at 0 [] 0 l.kind l.element) (λ v.
    bind (said.outcome 0 [] 0 (joined l.op l.kind l.so_far v)) (λ b.
    said.total 0 [] 0 l.op l.kind b l.dst l.elements))

-- The operator and kind of a prefix reduction, the value so far if there is one, the element that is read and written
-- next, and those behind.
pub record PrefixesLeft : Type 0 where
  pub op : Reduction
  pub kind : Kind
  pub so_far : Option ℤ
  pub part : Part
  pub parts : List Part

-- What is left of a prefix reduction whose next element has this value so far, which is to be written.
abbrev pub prefixes_put : PrefixesLeft → ℤ → Expansion (Unit {0})
prefixes_put l b =
    bind (said.number_put 0 [] 0 l.part.into b) (λ u. said.totals 0 [] 0 l.op l.kind b l.parts)

-- What is left of a prefix reduction.
abbrev pub prefixes_rest : PrefixesLeft → Expansion (Unit {0})
prefixes_rest l =
    bind (said.number_at 0 [] 0 l.kind l.part.from) (λ v.
    bind (said.outcome 0 [] 0 (joined l.op l.kind l.so_far v)) (λ b. prefixes_put l b))
