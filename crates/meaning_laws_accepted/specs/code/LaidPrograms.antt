-- Programs whose objects have layouts, and whose blocks are such as a type can have.
use Rattle.std.specs.Prelude.{◌≡◌, ℕ, ◌≤◌, true, Option}
use Rattle.upc_values.specs.Lists.{Each}
use Rattle.upc_types.specs.Types.{CType, Qualified, Base, Array, Pointer}
use Rattle.typing_rules.specs.Constants.{block_or_none}
use Rattle.typing_rules.specs.Rules.{has_size}
use Rattle.typed_tree.specs.LocalObjects.{objects_in}
use Rattle.typed_tree.specs.Programs.{Checked}
use Rattle.typed_tree.specs.Tree.{DeclaredObject}
use Rattle.meaning_laws.specs.layer.Uses.{IsLaid}
use Rattle.meaning_laws_accepted.specs.layer.Throughout.{ThroughoutStatement}

-- A block is at most 16,777,216 elements, the value of UPC_MAX_BLOCK_SIZE; what is not shared has none (UPC 6.3,
-- 6.5.1.1).
abbrev pub IsBlock : Option ℕ → Type 0
IsBlock block = block_or_none block ≤ 16777216

-- Types in which each block is at most 16,777,216 elements.
abbrev mutual
  -- The block of a type is so, and each block inside it (UPC 6.5.1.1).
  pub HasBlocks : CType → Type 0
  HasBlocks (Qualified b c s x) = IsBlock s × HasBlocksIn b

  -- So is each block inside a type without its own qualifiers: of elements, and of what pointers lead to.
  pub HasBlocksIn : Base → Type 0
  HasBlocksIn (Array element count) = HasBlocks element
  HasBlocksIn (Pointer target) = HasBlocks target
  HasBlocksIn b = Unit {0}

-- A type has a size: it is complete, and has no more bytes than an object can have (C99 6.2.5).
abbrev pub IsSized : Checked → CType → Type 0
IsSized x t = has_size x.structs t ≡ true

-- The type of an object has a layout, and so have its leaf elements, and thereby the elements of its list of initial
-- values; and each block in the type is at most 16,777,216 elements (C99 6.7, 6.7.8; UPC 6.5.1.1).
pub record IsLaidObject (x : Checked) (o : DeclaredObject) : Type 0 where
  pub whole : IsSized x o.ctype
  pub leaves : IsLaid x o.ctype
  pub blocks : HasBlocks o.ctype

-- Each object of a program is so, those of the file and those of blocks and of heads of loops; the type of each
-- parameter has a layout; and each block in the types of a function's result and parameters is at most 16,777,216
-- elements, and each in the type of an expression that is evaluated, of which its own is that over which a subscript
-- steps, and that of what it points to the one over which an operator does (C99 6.5, 6.7, 6.9.1; UPC 6.5.1.1).
pub record IsLaidProgram (x : Checked) : Type 0 where
  pub objects : Each (IsLaidObject x) x.objects
  pub inside : Each (λ f. Each (IsLaidObject x) (objects_in f.body)) x.functions
  pub parameters : Each (λ f. Each (IsSized x) f.parameters) x.functions
  pub signatures : Each (λ f. HasBlocks f.result × Each HasBlocks f.parameters) x.functions
  pub blocks : Each (λ f. ThroughoutStatement (λ a kind. HasBlocks a.ctype) f.body) x.functions
