-- The rule of the turn cell, and what each step on its table tells.
-- The word is twice the length of the list, and 1 more while a seat holds the turn. The slot has the world while no
-- seat holds the turn.
use Rattle.std.specs.Prelude.{◌≡◌, ◌≢◌, ℕ, zero, suc, ◌+◌, ◌*◌, ◌^◌, ◌<◌, Bool, true, false, List, [], ◌∷◌, ◌++◌}
use Rattle.std.specs.Prelude.{map, length, Option, Some, None, take, drop}
use mathlib.Core.Option.{some}
use mathlib.Core.List.{IsPrefix}
use lib.ListN.{get_elem?}
use Rattle.atomic_table.specs.Table.{State, Me, Step}
use Rattle.turn_cell.specs.declared.seat.Seat.{Seat}
use Rattle.turn_cell.specs.declared.view.Part.{Part}
use Rattle.turn_cell.specs.declared.view.View.{View}
use Rattle.turn_cell.specs.layer.Members.{of, Every, longer}
use Rattle.turn_cell.specs.layer.Seats.{part}

-- The numbers from k on, each with no member.
abbrev pub blanks : {M : Type 0} → ℕ → ℕ → List (Part M)
blanks k zero = []
blanks k (suc n) = part k [] ∷ blanks (suc k) n

module _ {M O : Type 0} (number : M → ℕ) (held : Bool) (writer : ℕ) (owner : ℕ → ℕ) (all : List M) (o : O)
    (seats : ℕ) where
  -- What the seat j knows: it has seen a front of the list, has of each of its numbers what the list has, and has seen
  -- the whole list while it holds the turn.
  pub record Fits (j : ℕ) (v : View M O) : Type 0 where
    pub seen : IsPrefix v.seen all
    pub parts : Every (λ p. (p.number < seats) × (owner p.number ≡ j) × (p.own ≡ of number p.number all)
        × (p.own ≡ of number p.number v.seen)) v.parts
    pub olds : Every (λ old. IsPrefix old v.seen) v.olds
    pub holder : v.holds ≡ true → (held ≡ true) × (j ≡ writer) × (v.seen ≡ all)
    pub opened : (x : O) → v.opening ≡ Some x → x ≡ o

module _ {W M O : Type 0} (members : W → List M) (opening : W → O) (number : M → ℕ) (o : O) (seats : ℕ) where
  -- One while the turn is held.
  abbrev pub bit : Bool → ℕ
  bit true = 1
  bit false = 0

  -- The rule: the word counts the list, the slot has the world while no seat holds the turn, one seat at most holds it,
  -- and each number is of one seat, whose view fits the list.
  pub record Turned (s : State (Option W) (View M O)) : Type 0 where
    pub all : List M
    pub held : Bool
    pub writer : ℕ
    pub owner : ℕ → ℕ
    pub words : s.words ≡ (2 * length all + bit held) ∷ []
    pub deep : length s.homes ≡ 1
    pub short : length all < 2 ^ 62
    pub named : Every (λ m. number m < seats) all
    pub home : held ≡ false
        → (w : W) × (s.homes ≡ some (Some w) ∷ []) × (members w ≡ all) × (opening w ≡ o)
    pub taken : held ≡ true → (n : ℕ) × (v : View M O) × (n < seats) × (owner n ≡ writer)
        × (get_elem? s.views writer ≡ some v) × (v.holds ≡ true)
    pub each : (j : ℕ) (v : View M O) → get_elem? s.views j ≡ some v
        → Fits number held writer owner all o seats j v

module _ {M O : Type 0} where
  -- The view of the first seat, while it has the n numbers from k on.
  abbrev pub starting : O → ℕ → ℕ → View M O
  starting o k n = record { holds = false; seen = []; parts = blanks k n; olds = []; opening = Some o }

  -- The view that a join leaves, of which nothing is said.
  abbrev pub spent : View M O
  spent = record { holds = false; seen = []; parts = []; olds = []; opening = None }

module _ {W M O : Type 0} (members : W → List M) (opening : W → O) (number : M → ℕ) where
  -- What a seat knows, with what it has taken out of the slot.
  abbrev Sat : Type 0
  Sat = Me (Option W) (View M O)

  -- The turn was taken, with the world and the whole list.
  abbrev pub Entered : Sat → Sat → Type 0
  Entered m m' = (w : W) × (m' ≡ (record m.0 { holds = true; seen = members w }, (0, Some w) ∷ m.1))
      × IsPrefix m.0.seen (members w) × (length (members w) < 2 ^ 62)
      × ((x : O) → m.0.opening ≡ Some x → opening w ≡ x)
      × Every (λ p. (p.own ≡ of number p.number (members w)) × (p.own ≡ of number p.number m.0.seen)) m.0.parts

  -- The compare-exchange took the turn, or found another word and changed nothing.
  abbrev pub entered : Step (Option W) → Sat → ℕ → Sat → Type 0
  entered st m found m' = (found ≡ st.first → Entered m m') × (found ≢ st.first → m' ≡ m)

module _ {W M O : Type 0} (members : W → List M) (number : M → ℕ) where
  -- The view after the turn in which the world became w.
  abbrev pub left_view : View M O → W → View M O
  left_view v w = record v {
    holds = false;
    seen = members w;
    parts = map (λ p. part p.number (of number p.number (members w))) v.parts;
  }

  -- The turn was left, with this world in the slot.
  abbrev pub left : Step (Option W) → Me (Option W) (View M O) → ℕ → Me (Option W) (View M O) → Type 0
  left st m r m' = (w : W) → m.1 ≡ (0, Some w) ∷ [] → m' ≡ (left_view m.0 w, [])

module _ {M O : Type 0} where
  -- Two views made one, which keeps what both had seen for the next look.
  abbrev pub joined : View M O → View M O → View M O
  joined v w = record v {
    seen = longer v.seen w.seen;
    parts = v.parts ++ w.parts;
    olds = v.seen ∷ w.seen ∷ v.olds;
  }

  -- What a note has seen, with no number.
  abbrev pub note : View M O → View M O
  note v = record v { holds = false; parts = []; olds = [] }

  -- The view without its first number.
  abbrev pub without_first : View M O → View M O
  without_first v = record v { parts = drop 1 v.parts }

  -- The view of a seat that takes the first number.
  abbrev pub first_alone : View M O → View M O
  first_alone v = record v { holds = false; parts = take 1 v.parts; olds = [] }

module _ {W M O : Type 0} where
  -- The seats' views as one, the last one's first.
  abbrev pub collect : View M O → List (Seat W M O) → View M O
  collect v [] = v
  collect v (s ∷ ss) = joined (collect v ss) s.place.me.0

module _ {W M O : Type 0} (number : M → ℕ) where
  -- A look has shown that the lists that were joined are fronts of what is seen.
  abbrev pub met : Step (Option W) → Me (Option W) (View M O) → ℕ → Me (Option W) (View M O) → Type 0
  met st m r m' = (m' ≡ (record m.0 { olds = [] }, m.1)) × Every (λ old. IsPrefix old m.0.seen) m.0.olds
      × Every (λ p. p.own ≡ of number p.number m.0.seen) m.0.parts
