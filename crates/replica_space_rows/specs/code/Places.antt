-- The places of members in a thread's list: each has a slot and, where it writes, a stamp in it. A slot has one
-- operation that came to the end of the list, and the writes that have been put before it since (UPC Appendix B).
use Rattle.std.specs.Prelude.{ℕ, ◌≡◌, ◌<◌, ◌==◌, nat_lt, Bool, false, ◌&&◌, ◌||◌, cond, List, [], ◌∷◌, length, map}
use Rattle.std.specs.Prelude.{Option, Some, None, slice_index, slice_index_or}
use Rattle.block_layout.specs.declared.place.Loc.{Loc}
use Rattle.upc_values.specs.Lists.{Has, Each, Pairwise}
use Rattle.replica_space.specs.declared.message.Stamp.{Stamp}
use Rattle.replica_space.specs.Spaces.{is_later}
use Rattle.replica_space_orders.specs.layer.Finding.{Ascend}
use Rattle.replica_space_marks.specs.layer.Marks.{MarksState}
use Rattle.replica_space_rows.specs.declared.member.Member.{Member}
use Rattle.replica_space_rows.specs.declared.member.Written.{Written}
use Rattle.replica_space_rows.specs.declared.slotted.Slotted.{Slotted}

-- The list with one more member, directly before the first that it comes before.
abbrev pub put_by : {X : Type 0} → (X → X → Bool) → X → List X → List X
put_by lt x [] = x ∷ []
put_by lt x (y ∷ ys) = cond (lt x y) (x ∷ y ∷ ys) (y ∷ put_by lt x ys)

-- The list with more members, one after another.
abbrev pub put_all : {X : Type 0} → (X → X → Bool) → List X → List X → List X
put_all lt [] ys = ys
put_all lt (x ∷ xs) ys = put_all lt xs (put_by lt x ys)

-- The stamp that stands for one that is missing.
abbrev pub no_stamp : Stamp
no_stamp = record { clock = 0; thread = 0 }

-- The stamp of a write, if it is one.
abbrev pub stamp_in : Option Written → Stamp
stamp_in (Some w) = w.stamp
stamp_in None = no_stamp

-- The first comes before the second: its slot is lower, or the slots are equal and its stamp is the earlier one.
abbrev pub is_before : Slotted → Slotted → Bool
is_before a b =
    nat_lt a.slot b.slot || ((a.slot == b.slot) && is_later (stamp_in b.member.written) (stamp_in a.member.written))

-- The members in their places, where they have come in this order.
abbrev pub placed_all : List Slotted → List Slotted
placed_all xs = put_all is_before xs []

-- The list of a thread, where its members have come in this order.
abbrev pub members_of : List Slotted → List Member
members_of xs = map (λ x. x.member) (placed_all xs)

-- The stamp of a location's mark.
abbrev pub stamp_at : MarksState → ℕ → Stamp
stamp_at m i = slice_index_or m.stamps i no_stamp

-- One of the marks has this slot, and no earlier stamp.
abbrev pub HasMark : MarksState → ℕ → Stamp → Type 0
HasMark m k s =
    (i : ℕ) × (i < length m.slots) × (slice_index m.slots i ≡ k) × (is_later s (stamp_at m i) ≡ false)

-- This is a write of the location with no later stamp.
abbrev pub IsUpto : Loc → Stamp → Option Written → Type 0
IsUpto l s o = (w : Written) × (o ≡ Some w) × (w.loc ≡ l) × (is_later w.stamp s ≡ false)

-- This member is the operation at the end of its slot that a mark of a location stands for.
pub record IsOwn (l : Loc) (s : Stamp) (k : ℕ) (x : Slotted) : Type 0 where
  pub slot : x.slot ≡ k
  pub writes : x.member.written ≡ Some (record { loc = l; stamp = s })

-- Members in their places, in so many slots, with the marks of the locations that they write.
pub record ArePlaced (xs : List Slotted) (n : ℕ) (marks : Loc → MarksState) : Type 0 where
  pub rises : Pairwise (λ a b. is_before b a ≡ false) xs
  pub below : Each (λ x. x.slot < n) xs
  -- the marks of a location have ascending stamps, and slots that rise
  pub even : (l : Loc) → length (marks l).stamps ≡ length (marks l).slots
  pub ascend : (l : Loc) → Ascend (marks l).stamps
  pub slots :
      (l : Loc) (i j : ℕ) → i < j → j < length (marks l).slots
      → slice_index (marks l).slots i < slice_index (marks l).slots j
  -- the slot of each write is marked
  pub marked :
      (x : Slotted) (w : Written) → Has xs x → x.member.written ≡ Some w → HasMark (marks w.loc) x.slot w.stamp
  -- each mark stands for the last operation of its slot, and all of the slot write the location
  pub owned :
      (l : Loc) (i : ℕ) → i < length (marks l).slots
      → (x : Slotted) × Has xs x × IsOwn l (stamp_at (marks l) i) (slice_index (marks l).slots i) x
  pub alone :
      (l : Loc) (i : ℕ) (x : Slotted) → i < length (marks l).slots → Has xs x
      → x.slot ≡ slice_index (marks l).slots i → IsUpto l (stamp_at (marks l) i) x.member.written
