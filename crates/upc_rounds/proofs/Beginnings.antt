-- New seats, and slices that are given back.
use Rattle.std.proofs.Common.{◌≡◌, ℕ, zero, suc, ◌+◌, List, [], ◌∷◌, ◌++◌, length, take, drop, Some, refl, sym, ap, subst, ◌∙◌, append-nil, arith}
use Rattle.turn_cell.specs.declared.seat.Seat.{Seat}
use Rattle.turn_cell.specs.layer.Members.{of}
use Rattle.turn_cell.specs.layer.Seats.{part}
use Rattle.turn_cell.specs.layer.Seats.{TableId, AreNew, IsNew, IsFree, first_number, first_own, number_of, seen_of, opening_of}
use Rattle.upc_values.specs.declared.journal.Entry.{Entry}
use Rattle.upc_values.specs.Openings.{Opening}
use Rattle.upc_values.specs.Lists.{Numbered}
use Rattle.stack_code.specs.layer.Codes.{Codes}
use Rattle.upc_task.specs.layer.Sources.{Outcomes}
use Rattle.upc_rounds_teams.specs.declared.place.Place.{Place}
use Rattle.upc_rounds_teams.specs.layer.Teams.{IsMember, seen_among}

abbrev pub OurSeat : Type 0
OurSeat = Seat (Opening × List Entry) Entry Opening

pub new-at : (z : TableId) (o : Opening) (k : ℕ) (xs : List OurSeat) (s : OurSeat) (ys : List OurSeat) → AreNew z o k (xs ++ s ∷ ys) → IsNew z o (k + length xs) s
new-at z o k [] s ys h = let e : k ≡ k + 0 = omega arith in subst (λ j. IsNew z o j s) e h.0
new-at z o k (x ∷ xs) s ys h = let e : suc k + length xs ≡ k + suc (length xs) = omega arith in subst (λ j. IsNew z o j s) e (new-at z o (suc k) xs s ys h.1)

pub new-free : (z : TableId) (o : Opening) (k : ℕ) (s : OurSeat) → IsNew z o k s → IsFree (λ (e : Entry). e.thread) s
new-free z o k s h = let is = h.1 in (
  (
    subst (λ m. (m.0.parts ≡ part (first_number m.0.parts) (first_own m.0.parts) ∷ [])) (sym is) refl,
    ap (λ m. m.0.olds) is,
    subst (λ m. first_own m.0.parts ≡ of (λ (e : Entry). e.thread) (first_number m.0.parts) m.0.seen) (sym is) refl,
  ),
  ap (λ m. m.0.holds) is,
  ap (λ m. m.1) is,
)

pub new-number : (z : TableId) (o : Opening) (k : ℕ) (s : OurSeat) → IsNew z o k s → number_of s ≡ k
new-number z o k s h = ap (λ m. first_number m.0.parts) h.1

pub new-seen : (z : TableId) (o : Opening) (k : ℕ) (s : OurSeat) → IsNew z o k s → seen_of s ≡ []
new-seen z o k s h = ap (λ m. m.0.seen) h.1

pub new-opening : (z : TableId) (o : Opening) (k : ℕ) (s : OurSeat) → IsNew z o k s → opening_of s ≡ Some o
new-opening z o k s h = ap (λ m. m.0.opening) h.1

-- Members that have seen nothing have among them seen nothing.
pub seen-none : (z : TableId) (o : Opening) (c : Codes) (f : Outcomes) (ks : List Place) → Numbered (IsMember z o c f []) ks → seen_among ks ≡ []
seen-none z o c f [] h = refl
seen-none z o c f (k ∷ ks) h = (h 0 k (omega arith)).seen_is

module _ {A : Type 0} where
  drop-all : (ys xs : List A) → length ys ≡ length xs → drop (length ys) xs ≡ []
  drop-all [] [] h = refl
  drop-all [] (x ∷ xs) h = absurd (omega arith)
  drop-all (y ∷ ys) [] h = absurd (omega arith)
  drop-all (y ∷ ys) (x ∷ xs) h = drop-all ys xs (omega arith)

  take-all : (n : ℕ) (ys : List A) → n ≡ length ys → take n ys ≡ ys
  take-all zero [] h = refl
  take-all (suc n) [] h = absurd (omega arith)
  take-all zero (y ∷ ys) h = absurd (omega arith)
  take-all (suc n) (y ∷ ys) h = ap (λ l. y ∷ l) (take-all n ys (omega arith))

  -- A slice of all of a vector that is given back with as many members
  pub given-back : (n : ℕ) (xs ys : List A) → length ys ≡ length xs → n ≡ length xs → take n (ys ++ drop (length ys) xs) ≡ ys
  given-back n xs ys h e = ap (λ l. take n (ys ++ l)) (drop-all ys xs h) ∙ ap (take n) (append-nil ys) ∙ take-all n ys (e ∙ sym h)
