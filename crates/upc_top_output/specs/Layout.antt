-- Where the shared objects of a program lie, in text (UPC 6.5.1.1).
use Rattle.std.specs.Prelude.{ℕ, ◌≤◌, List, ◌++◌, codes, decimal}
use Rattle.std.specs.List.{flat_map, range_with_len}
use Rattle.block_layout.specs.declared.place.ObjectRef.{ObjectRef}
use Rattle.block_layout.specs.Pieces.{piece_of}
use Rattle.typed_tree.specs.declared.beginning.SharedDecl.{SharedDecl}
use Rattle.typed_tree.specs.Programs.{Checked, start_of}

-- A word, and after it a number in decimal.
abbrev pub field : List ℕ → ℕ → List ℕ
field word number = word ++ decimal number

-- The bytes that each thread has of an object, each after a blank.
abbrev pub pieces_text : ℕ → ObjectRef → List ℕ
pieces_text threads object =
    flat_map (λ t. field (codes " ") (piece_of object t threads)) (range_with_len 0 threads)

-- The line of a shared object: `NAME block B elements N size S pieces P0 P1 ..`, with its block in elements (0 where it
-- is indefinite), the number of its leaf elements, the bytes of one of them, and the bytes that each thread has.
abbrev pub layout_line : ℕ → SharedDecl → List ℕ
layout_line threads x =
    x.name ++ field (codes " block ") x.block ++ field (codes " elements ") x.elements
    ++ field (codes " size ") x.size ++ codes " pieces" ++ pieces_text threads x.object ++ codes "\n"

-- The lines of a program's shared objects, in order of declaration.
abbrev pub layout : Checked → List ℕ
layout program = flat_map (layout_line program.threads) (start_of program).shared_objects

-- An object has no more bytes, in all and in a block, than all shared objects together may have.
pub record IsSmall (object : ObjectRef) : Type 0 where
  pub total : object.total ≤ 16777216
  pub block : object.block ≤ 16777216
