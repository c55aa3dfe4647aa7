-- What has been passed on the way over a thread's own operations.
use Rattle.std.specs.Prelude.{ℕ, ◌≡◌, ◌≤◌, ◌<◌, ◌==◌, Bool, true, ◌&&◌, ◌||◌, List, slice_index_or}
use Rattle.upc_verify_orders.specs.declared.program.Mark.{Mark}

-- One of them is strict, or they are on one place and one is a write.
abbrev pub conflict : Mark → Mark → Bool
conflict a b = (a.strict || b.strict) || ((a.place == b.place) && (a.write || b.write))

-- Two that conflict stand in program order.
abbrev pub InOrder : Mark → Mark → Type 0
InOrder a b = conflict a b ≡ true → a.rank < b.rank

-- One more than the greatest rank so far: of all, of the strict ones, at each place of all and of the writes.
pub record Passing : Type 0 where
  pub all : ℕ
  pub strict : ℕ
  pub any : List ℕ
  pub wrote : List ℕ

-- Where the test holds the number is raised to one more than the rank, if it was less.
pub record Raises (test : Bool) (old new rank : ℕ) : Type 0 where
  pub to : (z : ℕ) → new ≤ z → (old ≤ z) × (test ≡ true → rank < z)
  pub from : (z : ℕ) → old ≤ z → (test ≡ true → rank < z) → new ≤ z

-- So at a place of a list.
pub record RaisesAt (test : Bool) (old new : List ℕ) (place rank : ℕ) : Type 0 where
  pub to :
      (q z : ℕ) → slice_index_or new q 0 ≤ z
      → (slice_index_or old q 0 ≤ z) × (test ≡ true → place ≡ q → rank < z)
  pub from :
      (q z : ℕ) → slice_index_or old q 0 ≤ z → (test ≡ true → place ≡ q → rank < z)
      → slice_index_or new q 0 ≤ z

-- One more is passed.
pub record After (s : Passing) (o : Mark) (r : Passing) : Type 0 where
  pub all : Raises true s.all r.all o.rank
  pub strict : Raises o.strict s.strict r.strict o.rank
  pub any : RaisesAt true s.any r.any o.place o.rank
  pub wrote : RaisesAt o.write s.wrote r.wrote o.place o.rank

-- The operation stands behind all that it conflicts with.
pub record MayFollow (s : Passing) (b : Mark) : Type 0 where
  pub all : b.strict ≡ true → s.all ≤ b.rank
  pub strict : s.strict ≤ b.rank
  pub wrote : slice_index_or s.wrote b.place 0 ≤ b.rank
  pub any : b.write ≡ true → slice_index_or s.any b.place 0 ≤ b.rank

-- Its place has a number, and its rank is not too great.
abbrev pub IsMark : ℕ → Mark → Type 0
IsMark places m = (m.place < places) × (m.rank < 9223372036854775808)
