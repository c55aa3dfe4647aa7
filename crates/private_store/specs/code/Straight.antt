-- The names that stand for the objects of a call one by one.
use Rattle.std.specs.Prelude.{ℕ, ◌+◌, ◌-◌, ◌≡◌, ◌≤◌, ◌<◌, ◌⊎◌, nat_le, List, length, take, drop, reverse, All}
use Rattle.std.specs.Prelude.{Option, Some, None, [], option_map, slice_index_or, slice_set}
use Rattle.std.specs.List.{find, AllPairs}
use Rattle.private_store.specs.declared.frame.Block.{Block}
use Rattle.private_store.specs.declared.frame.Call.{Call}
use Rattle.private_store.specs.declared.marks.Mark.{Mark}
use Rattle.private_store.specs.Live.{Live, Thing, blocks_before, local_number, youngest}
use Rattle.private_store.specs.code.Kept.{IsKept}

-- The number of the object for which the n-th local name stands where these blocks are open.
abbrev pub name_in : ℕ → List Block → Option ℕ
name_in n blocks = option_map (λ b. b.first + (n - b.from)) (find (λ b. nat_le b.from n) (reverse blocks))

-- Where a mark was made, so many names stood for objects one by one, from a place on.
abbrev pub IsStraight : List Thing → List Block → Mark → Type 0
IsStraight objects blocks m =
    (n : ℕ) → n < m.names → (m.base + n < m.objects)
    × ((d : Thing)
    → name_in n (drop m.before (take m.blocks blocks)) ≡ Some (slice_index_or objects (m.base + n) d).number)

-- The mark was made among these objects and blocks.
abbrev pub IsWithin : ℕ → ℕ → Mark → Type 0
IsWithin objects blocks m = (m.objects ≤ objects) × (m.blocks ≤ blocks)

-- Each mark was made among the objects and blocks of those after it, and is right.
pub record AreMarked (objects : List Thing) (blocks : List Block) (marks : List Mark) : Type 0 where
  pub within : All (IsWithin (length objects) (length blocks)) marks
  pub rise : AllPairs (λ x y. IsWithin y.objects y.blocks x) marks
  pub straight : All (IsStraight objects blocks) marks

-- A mark that is made here, where so many names are straight, from this place on.
abbrev pub here : ℕ → ℕ → List Thing → List Block → List Call → Mark
here names base objects blocks calls =
    record {
      names = names;
      base = base;
      before = blocks_before (youngest calls);
      blocks = length blocks;
      objects = length objects;
    }

-- What holds of all fields of a store at any time.
pub record IsStanding (s : Live) (space names base : ℕ) (marks : List Mark) : Type 0 where
  pub kept : IsKept s.objects s.blocks s.next space
  pub marked : AreMarked s.objects s.blocks marks
  pub straight : IsStraight s.objects s.blocks (here names base s.objects s.blocks s.calls)

-- The n-th local name in scope stands for the object at a place.
pub record IsNamed (s : Live) (n at : ℕ) : Type 0 where
  pub there : at < length s.objects
  pub is : (d : Thing) → local_number n s ≡ Some (slice_index_or s.objects at d).number

-- The youngest mark that was made here, with the marks before it; or there is none, and the answer is one of no names.
abbrev pub IsBack : List Mark → List Mark → ℕ → ℕ → ℕ → Mark → Type 0
IsBack before after objects blocks outer m =
    ((after ≡ []) × (m.names ≡ 0))
    ⊎ ((length after < length before) × (take (length after) before ≡ after)
    × (m ≡ slice_index_or before (length after) m)
    × (m.objects ≡ objects) × (m.blocks ≡ blocks) × (m.before ≡ outer))

-- So many names stand for objects one by one in a block of so many objects, which is entered where a mark was made with
-- these names in scope: all of the call, or some that did before.
abbrev pub IsNames : Mark → ℕ → ℕ → ℕ → Type 0
IsNames m from more names =
    (names ≡ 0)
    ⊎ ((m.before ≤ m.blocks)
    × (((names ≤ m.names) × (names ≤ from)) ⊎ ((m.names ≡ from) × (m.objects ≡ m.base + from) × (names ≡ from + more))))

-- The calls, the youngest of which is in so many bodies of controlling upc_foralls.
abbrev pub recounted_calls : Option Call → ℕ → List Call → List Call
recounted_calls None n calls = calls
recounted_calls (Some c) n calls = slice_set calls (length calls - 1) (record c { controls = n })
