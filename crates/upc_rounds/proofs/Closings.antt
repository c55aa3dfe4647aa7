-- At the end the list has nothing that the tasks had not seen.
use Rattle.std.proofs.Common.{◌≡◌, ℕ, zero, suc, ◌+◌, ◌<◌, List, [], ◌∷◌, ◌++◌, map, length, sym, ap, subst, ◌∙◌, arith, get_or, append-nil}
use mathlib.Core.List.{IsPrefix}
use Rattle.turn_cell.specs.layer.Members.{of, Every}
use Rattle.turn_cell.specs.layer.Seats.{TableId, AreFree, HasAll, number_of, own_of}
use Rattle.upc_values.specs.declared.journal.Entry.{Entry}
use Rattle.upc_values.specs.Lists.{Numbered}
use Rattle.upc_values.specs.History.{EachBelow}
use Rattle.upc_values.specs.Drain.{entries_of}
use Rattle.upc_rounds_teams.specs.declared.place.Place.{Place}
use Rattle.upc_rounds_teams.specs.layer.Teams.{seat_at, seen_at, IsSeated}
use Rattle.upc_rounds_teams.proofs.Rounding.{whole-seen}
use Rattle.upc_rounds_teams.proofs.Crews.{some-place}

-- Seats that are numbered from k on are free, in order.
pub free-from : (z : TableId) (seen : List Entry) (k : ℕ) (ks : List Place)
    → ((i : ℕ) (d : Place) → i < length ks → IsSeated z seen (k + i) (get_or ks i d)) → AreFree (λ (e : Entry). e.thread) z k (map seat_at ks)
free-from z seen k [] h = tt
free-from z seen k (p ∷ ks) h =
    let a = h 0 p (omega arith) in (
      (a.cell, a.number ∙ omega arith, p.task.free),
      free-from z seen (suc k) ks (λ i d lt. subst (λ j. IsSeated z seen j (get_or ks i d)) (omega arith) (h (suc i) d (omega arith))),
    )

has-at : (all : List Entry) (ks : List Place) (i : ℕ) (d : Place) → i < length ks → HasAll (λ (e : Entry). e.thread) all (map seat_at ks)
    → IsPrefix (seen_at (get_or ks i d)) all × (of (λ (e : Entry). e.thread) (number_of (get_or ks i d).task.seat) all ≡ own_of (get_or ks i d).task.seat)
has-at all [] i d lt h = absurd (omega arith)
has-at all (p ∷ ks) zero d lt h = h.0
has-at all (p ∷ ks) (suc i) d lt h = has-at all ks i d (omega arith) h.1

below-behind : (n : ℕ) (xs ys : List Entry) → Every (λ (e : Entry). e.thread < n) (xs ++ ys) → EachBelow n ys
below-behind n [] [] h = tt
below-behind n [] (y ∷ ys) h = (h.0, below-behind n [] ys h.1)
below-behind n (x ∷ xs) ys h = below-behind n xs ys h.1

-- The whole list is what each seat has seen.
pub team-whole : (z : TableId) (seen all : List Entry) (ks : List Place) → Numbered (IsSeated z seen) ks → 0 < length ks
    → HasAll (λ (e : Entry). e.thread) all (map seat_at ks) → Every (λ (e : Entry). e.thread < length ks) all → all ≡ seen
team-whole z seen all ks t some has named =
    let d = some-place ks 0 some in
    let b : IsPrefix seen all = subst (λ l. IsPrefix l all) (t 0 d some).seen_is (has-at all ks 0 d some has).0 in
    let same : (i : ℕ) → i < length ks → entries_of i (seen ++ b.0) ≡ entries_of i seen = λ i lt.
    let e = some-place ks i lt in let m = t i e lt in let k = get_or ks i e in
    let all-own : of (λ (e : Entry). e.thread) i all ≡ own_of k.task.seat = subst (λ j. of (λ (e : Entry). e.thread) j all ≡ own_of k.task.seat) m.number (has-at all ks i e lt has).1 in
    let seen-own : own_of k.task.seat ≡ of (λ (e : Entry). e.thread) i seen =
    subst (λ j. own_of k.task.seat ≡ of (λ (e : Entry). e.thread) j seen) m.number
    (subst (λ l. own_of k.task.seat ≡ of (λ (e : Entry). e.thread) (number_of k.task.seat) l) m.seen_is k.task.free.0.2) in
    ap (entries_of i) b.1 ∙ all-own ∙ seen-own in
    let none : b.0 ≡ [] = whole-seen (length ks) seen b.0 (below-behind (length ks) seen b.0 (subst (Every (λ (e : Entry). e.thread < length ks)) (sym b.1) named)) same in
    sym b.1 ∙ ap (λ l. seen ++ l) none ∙ append-nil seen
