-- The place of a cell among the cells of a shape, whose offsets rise.
use Rattle.std.proofs.Common.{◌≡◌, ◌≢◌, ℕ, ◌+◌, ◌<◌, ◌≤◌, Bool, true, false, cond, ◌==◌, ◌&&◌, nat_lt, List, [], ◌∷◌, length, get_or, Some, None, refl, sym, ap, ◌∙◌, arith}
use Rattle.std.specs.List.{AllPairs, position, position_or_len}
use Rattle.std.proofs.lemmas.Bool.Decides.{nat_tests}
use Rattle.std.proofs.lemmas.List.Quantifiers.{position-Some}
use Rattle.std.proofs.lemmas.List.Sums.{fails_before_first}
use Rattle.block_layout.specs.declared.kind.Kind.{Kind}
use Rattle.block_layout.specs.declared.kind.Kind.TheVariants as kind
use Rattle.block_layout.specs.Shapes.{same_kind, kind_size, CellsWithin}
use Rattle.private_store.specs.Cells.{cell_place}
use Rattle.private_store.proofs.Searches.{only_place, position_none, differs, equals}

abbrev pub Cells : Type 0
Cells = List (ℕ × Kind)

-- each cell begins before those after it
abbrev pub Rise : Cells → Type 0
Rise cells = AllPairs (λ a b. a.0 < b.0) cells

equal_at : (a b : ℕ) → (a == b) ≡ true → a ≡ b
equal_at a b e = grind (arith, nat_tests)

unequal : (a b : ℕ) (k : Bool) → a ≢ b → ((a == b) && k) ≡ false
unequal a b k ne = grind (arith, nat_tests)

by_kind : (a b : ℕ) (k : Bool) → a ≡ b → ((a == b) && k) ≡ k
by_kind a b k e = grind (arith, nat_tests)

failed : (k : Bool) (b : Bool) → b ≡ false → (b && k) ≡ false
failed k b e = rw e refl

pub kind_place : (cells : Cells) (byte : ℕ) (kind : Kind) → Rise cells → (i : ℕ) → Some i ≡ position (λ c. c.0 == byte) cells → (d : ℕ × Kind)
    → cell_place cells byte kind ≡ cond (same_kind (get_or cells i d).1 kind) (Some i) None
kind_place cells byte kind up i e d =
    let p = position-Some (λ (c : ℕ × Kind). c.0 == byte) cells i d (sym e) in
    let c = get_or cells i d in
    let here : c.0 ≡ byte = equal_at c.0 byte p.1 in
    only_place (λ c. c.0) byte cells up (λ c. c.0 == byte && same_kind c.1 kind) (λ x ne. unequal x.0 byte (same_kind x.1 kind) ne) i d p.0 here (same_kind c.1 kind) (by_kind c.0 byte (same_kind c.1 kind) here)

pub missing : (b : Bool) (i : ℕ) → None ≡ cond b (Some i) None → b ≡ false
missing true i e = absurd cc
missing false i e = refl

pub past : (a b : ℕ) → nat_lt a b ≡ false → b ≤ a
past a b e = grind (arith, nat_tests)

pub kind_nowhere : (cells : Cells) (byte : ℕ) (kind : Kind) → None ≡ position (λ c. c.0 == byte) cells → cell_place cells byte kind ≡ None
kind_nowhere cells byte kind e =
    let t : ℕ × Kind → Bool = λ c. c.0 == byte in
    let n = position_or_len t cells in
    let far : length cells ≤ n = past n (length cells) (missing (nat_lt n (length cells)) n e) in
    position_none (λ c. c.0 == byte && same_kind c.1 kind) cells (λ k d lt. failed (same_kind (get_or cells k d).1 kind) (t (get_or cells k d)) (fails_before_first t cells k d (omega arith)))

pub some_bytes : (k : Kind) → 1 ≤ kind_size k
some_bytes kind.Char = omega arith
some_bytes kind.UChar = omega arith
some_bytes kind.Short = omega arith
some_bytes kind.UShort = omega arith
some_bytes kind.Int = omega arith
some_bytes kind.UInt = omega arith
some_bytes kind.Long = omega arith
some_bytes kind.ULong = omega arith
some_bytes (kind.Shared n b) = omega arith
some_bytes kind.Lock = omega arith
some_bytes (kind.Private n) = omega arith

-- what lies within a range begins in it
from_on : (cells : Cells) (from size : ℕ) → CellsWithin cells from size → (k : ℕ) (d : ℕ × Kind) → k < length cells → from ≤ (get_or cells k d).0
from_on [] from size h k d lt = absurd (omega arith)
from_on (c ∷ cells) from size h ℕ.zero d lt = h.0
from_on (c ∷ cells) from size h (ℕ.suc k) d lt =
    let r = from_on cells (c.0 + kind_size c.1) size h.2 k d (omega arith) in omega (arith, h.0)

pub rise_within : (cells : Cells) (from size : ℕ) → CellsWithin cells from size → Rise cells
rise_within [] from size h i j d lt l = absurd (omega arith)
rise_within (c ∷ cells) from size h ℕ.zero ℕ.zero d lt l = absurd (omega arith)
rise_within (c ∷ cells) from size h ℕ.zero (ℕ.suc j) d lt l =
    let r = from_on cells (c.0 + kind_size c.1) size h.2 j d (omega arith) in omega (arith, some_bytes c.1)
rise_within (c ∷ cells) from size h (ℕ.suc i) ℕ.zero d lt l = absurd (omega arith)
rise_within (c ∷ cells) from size h (ℕ.suc i) (ℕ.suc j) d lt l = rise_within cells (c.0 + kind_size c.1) size h.2 i j d (omega arith) (omega arith)

pub byte_here : (cells : Cells) (byte : ℕ) → Rise cells → (i : ℕ) (d : ℕ × Kind) → i < length cells → (get_or cells i d).0 ≡ byte → Some i ≡ position (λ c. c.0 == byte) cells
byte_here cells byte up i d lt here =
    sym (only_place (λ c. c.0) byte cells up (λ c. c.0 == byte) (λ x ne. differs x.0 byte ne) i d lt here true (equals (get_or cells i d).0 byte here))

pub kind_other : (cells : Cells) (byte : ℕ) (kind : Kind) → Rise cells → (i : ℕ) → Some i ≡ position (λ c. c.0 == byte) cells → (d : ℕ × Kind)
    → (b : Bool) → b ≡ same_kind (get_or cells i d).1 kind → b ≡ false → None ≡ cell_place cells byte kind
kind_other cells byte kind up i e d b is fails =
    sym (kind_place cells byte kind up i e d ∙ ap (λ b. cond b (Some i) None) (sym is ∙ fails))
