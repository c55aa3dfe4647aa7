-- What is left of a memory call, reply by reply.
use Rattle.std.specs.Prelude.{ℕ, ◌≡◌, ◌+◌, ◌*◌, ◌<◌, List, [], ◌∷◌, length, Option, Some, None}
use Rattle.block_layout.specs.declared.kind.Kind.{Kind}
use Rattle.upc_values.specs.declared.scalar.Scalar.{Scalar}
use Rattle.upc_values.specs.declared.action.Reply.{Reply}
use Rattle.upc_values.specs.Copying as said
use Rattle.upc_values.specs.Expansion.{Expansion, nothing, bind, each_in_turn, after_reply}

-- Where the values of a memory call come from: an area, or one byte for all.
pub data Source : Type 0 where
  From : (area : said.Area) → Source
  Filled : (byte : ℕ) → Source

-- A memory call on its way: its destination and source, the cells that are left, and the value that has come for the
-- first of them, if one has.
pub record Left : Type 0 where
  pub dst : said.Area
  pub src : Source
  pub cells : List (ℕ × Kind)
  pub value : Option Scalar

-- A memory call with this destination, this source, these cells left, and this value come.
abbrev pub left : said.Area → Source → List (ℕ × Kind) → Option Scalar → Left
left dst src cells value = record { dst = dst; src = src; cells = cells; value = value }

-- The write of a cell, which is the same in every program.
abbrev pub written : said.Area → ℕ × Kind → Scalar → Expansion (Unit {0})
written dst c v = said.written 0 [] None dst c v

-- What a memory call does for one cell.
abbrev pub one : said.Area → Source → ℕ × Kind → Expansion (Unit {0})
one dst (From src) c = said.copied 0 [] None dst src c
one dst (Filled byte) c = written dst c (said.filled byte c.1)

-- What a memory call does for these cells, one after another.
abbrev pub all : said.Area → Source → List (ℕ × Kind) → Expansion (Unit {0})
all dst src cells = each_in_turn (one dst src) cells

-- What is left of a memory call where the value of the next cell has come: it is written, and the others are copied.
abbrev pub rest_with : Scalar → said.Area → Source → List (ℕ × Kind) → Expansion (Unit {0})
rest_with v dst src [] = nothing
rest_with v dst src (c ∷ cells) = bind (written dst c v) (λ u. all dst src cells)

-- What is left of a memory call where the value of the next cell may have come.
abbrev pub rest_of : Option Scalar → said.Area → Source → List (ℕ × Kind) → Expansion (Unit {0})
rest_of None dst src cells = all dst src cells
rest_of (Some v) dst src cells = rest_with v dst src cells

-- What is left of a memory call.
abbrev pub rest : Left → Expansion (Unit {0})
rest l = rest_of l.value l.dst l.src l.cells

-- What is left of an expansion after a reply; without one, all of it.
abbrev pub behind : Expansion (Unit {0}) → Option Reply → Expansion (Unit {0})
behind x None = x
behind x (Some r) = after_reply x r

-- How many replies are still taken at most for these cells, where the value of the first may have come.
abbrev pub replies_of : Option Scalar → List (ℕ × Kind) → ℕ
replies_of None cells = 2 * length cells
replies_of (Some v) [] = 0
replies_of (Some v) (c ∷ cells) = 2 * length cells + 1

-- How many replies a memory call still takes at most.
abbrev pub replies_left : Left → ℕ
replies_left l = replies_of l.value l.cells

-- After a reply fewer replies are still taken, unless none was; without one nothing changes.
abbrev pub Falls : Option Reply → Left → Left → Type 0
Falls None l m = m ≡ l
Falls (Some r) l m = 0 < replies_left l → replies_left m < replies_left l
