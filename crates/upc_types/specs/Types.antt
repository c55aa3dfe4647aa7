-- Types as values (C99 6.2.5, UPC 6.5.1).
use Rattle.std.specs.Prelude.{ℕ, Bool, Option, List, [], ◌∷◌, ◌==◌, if◌then◌else◌}
use Rattle.block_layout.specs.declared.kind.Kind.{Kind}
use Rattle.upc_types.specs.declared.ctype.Access.{Access}

mutual
  -- A type with its qualifiers: its base, whether it is const, its block size where it is shared (0 for indefinite),
  -- and whether it says strict or relaxed (C99 6.2.5, 6.7.3; UPC 6.5.1).
  pub data CType : Type 0 where
    Qualified : (base : Base) (constant : Bool) (shared : Option ℕ) (access : Access) → CType

  -- A type without its own qualifiers: void, an integer type by its kind, a struct by its number, an array, a pointer,
  -- or the lock to which a lock pointer points (C99 6.2.5, UPC 7.2.4).
  pub data Base : Type 0 where
    Void : Base
    Integer : (kind : Kind) → Base
    Struct : (number : ℕ) → Base
    Array : (element : CType) (count : ℕ) → Base
    Pointer : (target : CType) → Base
    LockObject : Base

-- A type without its own qualifiers (C99 6.2.5).
abbrev pub base_of : CType → Base
base_of (Qualified base constant shared access) = base

-- Whether a type is const (C99 6.7.3).
abbrev pub is_constant : CType → Bool
is_constant (Qualified base constant shared access) = constant

-- The block size of a shared type in elements, 0 for indefinite; a type that is not shared has none (UPC 6.5.1.1).
abbrev pub block_of : CType → Option ℕ
block_of (Qualified base constant shared access) = shared

-- Whether a type says strict, relaxed, or neither (UPC 6.5.1.1).
abbrev pub access_of : CType → Access
access_of (Qualified base constant shared access) = access

-- A member of a struct: the bytes of its name, and its type (C99 6.7.2.1).
pub record Member : Type 0 where
  pub name : List ℕ
  pub ctype : CType

-- A struct that is complete: its number, and its members in order (C99 6.7.2.1, 6.7.2.3).
pub record Completed : Type 0 where
  pub number : ℕ
  pub members : List Member

-- The structs of a program, which have the numbers below `declared`: those that are complete, the one completed last
-- first, and the targets of pointer types by number. A member that is a struct, or an array of structs, is of one later
-- in that list.
pub record Structs : Type 0 where
  pub declared : ℕ
  pub completed : List Completed
  pub targets : List CType

-- The members of a struct by its number among those that are complete, none where it is incomplete (C99 6.7.2.1).
abbrev pub members_in : List Completed → ℕ → List Member
members_in [] number = []
members_in (c ∷ older) number = if c.number == number then c.members else members_in older number

-- The members of a struct by its number, none where it is incomplete (C99 6.7.2.1).
abbrev pub members_of : Structs → ℕ → List Member
members_of structs number = members_in structs.completed number

-- The structs after the struct with this number is completed with these members (C99 6.7.2.3).
abbrev pub with_members : Structs → ℕ → List Member → Structs
with_members structs number members = record {
  declared = structs.declared;
  completed = record { number = number; members = members } ∷ structs.completed;
  targets = structs.targets;
}
