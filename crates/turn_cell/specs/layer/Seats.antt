-- What clauses say of a cell and of its seats.
use Rattle.std.specs.Prelude.{◌≡◌, ℕ, suc, true, false, List, [], ◌∷◌, Option, Some, None}
use mathlib.Core.List.{IsPrefix}
pub use Rattle.atomic_table.specs.Seated.{TableId}
use Rattle.turn_cell.specs.declared.seat.Seat.{Seat}
use Rattle.turn_cell.specs.declared.cell.TurnCell.{TurnCell}
use Rattle.turn_cell.specs.declared.view.Part.{Part}
use Rattle.turn_cell.specs.declared.view.View.{View}
use Rattle.turn_cell.specs.layer.Members.{of}

module _ {M : Type 0} where
  -- A number with the members that its seat added.
  abbrev pub part : ℕ → List M → Part M
  part n own = record { number = n; own = own }

  -- The first of the numbers, 0 where there is none.
  abbrev pub first_number : List (Part M) → ℕ
  first_number [] = 0
  first_number (p ∷ ps) = p.number

  -- What was added under the first of the numbers, in order.
  abbrev pub first_own : List (Part M) → List M
  first_own [] = []
  first_own (p ∷ ps) = p.own

module _ {M O : Type 0} where
  -- The view of a seat with one number, between two turns.
  abbrev pub seated : Option O → ℕ → List M → List M → View M O
  seated o n own seen =
      record { holds = false; seen = seen; parts = part n own ∷ []; olds = []; opening = o }

module _ {W M O : Type 0} where
  -- Which cell it is.
  abbrev pub id_of : TurnCell W M O → TableId
  id_of c = c.table.shared.table_id

  -- Which cell the seat is of.
  abbrev pub cell_of : Seat W M O → TableId
  cell_of s = s.place.table_id

  -- The seat's number.
  abbrev pub number_of : Seat W M O → ℕ
  number_of s = first_number s.place.me.0.parts

  -- What the seat added, in order.
  abbrev pub own_of : Seat W M O → List M
  own_of s = first_own s.place.me.0.parts

  -- The list that the seat has seen.
  abbrev pub seen_of : Seat W M O → List M
  seen_of s = s.place.me.0.seen

  -- The opening of the seat's cell.
  abbrev pub opening_of : Seat W M O → Option O
  opening_of s = s.place.me.0.opening

  -- It has one number, and what it added is what the list that it has seen has of that number.
  abbrev pub IsSeat : (M → ℕ) → Seat W M O → Type 0
  IsSeat number s = (s.place.me.0.parts ≡ part (number_of s) (own_of s) ∷ []) × (s.place.me.0.olds ≡ [])
      × (own_of s ≡ of number (number_of s) (seen_of s))

  -- It is a seat that holds no turn.
  abbrev pub IsFree : (M → ℕ) → Seat W M O → Type 0
  IsFree number s = IsSeat number s × (s.place.me.0.holds ≡ false) × (s.place.me.1 ≡ [])

  -- It is a seat that holds the turn.
  abbrev pub HasTurn : (M → ℕ) → Seat W M O → Type 0
  HasTurn number s = IsSeat number s × (s.place.me.0.holds ≡ true) × (s.place.me.1 ≡ (0, None) ∷ [])

  -- The two have the same cell, number and opening.
  abbrev pub IsSame : Seat W M O → Seat W M O → Type 0
  IsSame s t = (cell_of t ≡ cell_of s) × (number_of t ≡ number_of s) × (opening_of t ≡ opening_of s)

  -- It is a new seat of the cell z with the number k: it has seen and added nothing.
  abbrev pub IsNew : TableId → O → ℕ → Seat W M O → Type 0
  IsNew z o k s = (cell_of s ≡ z) × (s.place.me ≡ (seated (Some o) k [] [], []))

  -- The seats are new seats of the cell z, with the numbers from k on.
  abbrev pub AreNew : TableId → O → ℕ → List (Seat W M O) → Type 0
  AreNew z o k [] = Unit {0}
  AreNew z o k (s ∷ ss) = IsNew z o k s × AreNew z o (suc k) ss

  -- The seats are of the cell z, have the numbers from k on, and hold no turn.
  abbrev pub AreFree : (M → ℕ) → TableId → ℕ → List (Seat W M O) → Type 0
  AreFree number z k [] = Unit {0}
  AreFree number z k (s ∷ ss) = ((cell_of s ≡ z) × (number_of s ≡ k) × IsFree number s)
      × AreFree number z (suc k) ss

  -- The list begins with what each seat had seen, and has of its number just what it added, in order.
  abbrev pub HasAll : (M → ℕ) → List M → List (Seat W M O) → Type 0
  HasAll number all [] = Unit {0}
  HasAll number all (s ∷ ss) = (IsPrefix (seen_of s) all × (of number (number_of s) all ≡ own_of s))
      × HasAll number all ss

  -- The world that the cell was started with.
  abbrev pub started : TurnCell W M O → W
  started c = c.table.shared.key.world.value

  -- How many seats the cell was started with.
  abbrev pub seats_of : TurnCell W M O → ℕ
  seats_of c = c.table.shared.key.seats
