-- Where objects and their bytes are found.
use Rattle.std.proofs.Common.{◌≡◌, ℕ, ◌+◌, ◌-◌, ◌<◌, ◌≤◌, ◌==◌, ◌/◌, ◌%◌, nat_lt, Bool, true, false, ◌||◌, cond, List, [], ◌∷◌, ◌++◌, length, get_or, take, drop, take-append-drop, Option, Some, None, slice_get, refl, sym, ap, subst, ◌∙◌, arith, eqb-true, eq-eqb, ltb-true}
use Rattle.std.specs.Prelude.{IfSome}
use Rattle.std.specs.List.{find, list_any}
use Rattle.std.proofs.lemmas.Bool.{false_from_ne_true}
use Rattle.std.proofs.lemmas.List.{drop_more}
use Rattle.std.proofs.lemmas.List.Sums.{sum_by-append, sum_by-cons}
use Rattle.std.proofs.lemmas.Option.{slice_get_within, get_or_from_slice_get}
use Rattle.block_layout.specs.declared.place.ObjectRef.{ObjectRef}
use Rattle.block_layout.specs.Pieces.{piece_of, count_below}
use Rattle.block_layout.specs.Pointers.{same_object}
use Rattle.block_layout.proofs.Pointers.{same_object-true}
use Rattle.upc_values.specs.Openings.{Opening, IsOpening, IsDeclared, bytes_of}

-- members are numbered from `from` on
unfoldable pub AreNumbered : ℕ → List ObjectRef → Type 0
AreNumbered from [] = Unit {0}
AreNumbered from (x ∷ xs) = (x.number ≡ from) × AreNumbered (from + 1) xs

numbered-from : (from : ℕ) (xs : List ObjectRef) → ((i : ℕ) (d : ObjectRef) → i < length xs → (get_or xs i d).number ≡ from + i) → AreNumbered from xs
unfolding AreNumbered
numbered-from from [] h = tt
numbered-from from (x ∷ xs) h =
    let first : x.number ≡ from = (let e = h 0 x (omega arith) in omega arith) in
    (first, numbered-from (from + 1) xs (λ i d lt. let e : (get_or xs i d).number ≡ from + ℕ.suc i = h (ℕ.suc i) d (omega arith) in omega arith))

pub find-low : (from n : ℕ) (xs : List ObjectRef) → AreNumbered from xs → n < from → find (λ x. x.number == n) xs ≡ None
unfolding AreNumbered
find-low from n [] h lt = refl
find-low from n (x ∷ xs) h lt =
    let e = h.0 in
    rw (false_from_ne_true (x.number == n) (λ q. let z : x.number ≡ n = eqb-true x.number n q in omega arith))
    (find-low (from + 1) n xs h.1 (omega arith))

find-at : (from i : ℕ) (xs : List ObjectRef) → AreNumbered from xs → find (λ x. x.number == from + i) xs ≡ slice_get xs i
unfolding AreNumbered
find-at from i [] h = refl
find-at from ℕ.zero (x ∷ xs) h =
    let e = h.0 in
    rw (eq-eqb x.number (from + 0) (omega arith)) refl
find-at from (ℕ.suc i) (x ∷ xs) h =
    let e = h.0 in
    let n : from + ℕ.suc i ≡ from + 1 + i = omega arith in
    rw (false_from_ne_true (x.number == from + ℕ.suc i) (λ q. let z : x.number ≡ from + ℕ.suc i = eqb-true x.number (from + ℕ.suc i) q in omega arith))
    (ap (λ m. find (λ x. x.number == m) xs) n ∙ find-at (from + 1) i xs h.1)

pub opening-numbered : (o : Opening) → IsOpening o → AreNumbered 1 o.declared
opening-numbered o v = numbered-from 1 o.declared (λ i d lt. let e = (v.declared i d lt).number in omega arith)

pub find-zero : (o : Opening) → IsOpening o → find (λ x. x.number == 0) o.declared ≡ None
find-zero o v = find-low 1 0 o.declared (opening-numbered o v) (omega arith)

pub find-number : (o : Opening) (n : ℕ) → IsOpening o → (n ≡ 0 → ⊥) → find (λ x. x.number == n) o.declared ≡ slice_get o.declared (n - 1)
find-number o n v some =
    let e : n ≡ 1 + (n - 1) = omega arith in
    ap (λ m. find (λ x. x.number == m) o.declared) e ∙ find-at 1 (n - 1) o.declared (opening-numbered o v)

-- no byte lies on a thread that is none of the run
none-counted : (passes : ℕ → Bool) (n : ℕ) → ((x : ℕ) → passes x ≡ false) → count_below passes n ≡ 0
none-counted passes ℕ.zero h = refl
none-counted passes (ℕ.suc n) h = rw (h n) (none-counted passes n h)

pub piece-past : (x : ObjectRef) (thread threads : ℕ) → 0 < threads → x.home < threads → threads ≤ thread → piece_of x thread threads ≡ 0
piece-past x thread threads some home past =
    go (x.block == 0)
  where
    away : (x.home == thread) ≡ false
    away = false_from_ne_true (x.home == thread) (λ q. let z : x.home ≡ thread = eqb-true x.home thread q in omega arith)

    none : count_below (λ b. b / x.block % threads == thread) x.total ≡ 0
    none = none-counted (λ b. b / x.block % threads == thread) x.total
        (λ b. false_from_ne_true (b / x.block % threads == thread)
        (λ q. let z : b / x.block % threads ≡ thread = eqb-true (b / x.block % threads) thread q in omega arith))

    go : (b : Bool) → cond b (cond (x.home == thread) x.total 0) (count_below (λ b. b / x.block % threads == thread) x.total) ≡ 0
    go true = rw away refl
    go false = none

pub past-none : {X : Type 0} (x : ObjectRef) (thread threads offset : ℕ) (k : Option X) → 0 < threads → x.home < threads → threads ≤ thread → None ≡ cond (nat_lt offset (piece_of x thread threads)) k None
past-none x thread threads offset k some home past =
    let z = piece-past x thread threads some home past in
    let no : nat_lt offset (piece_of x thread threads) ≡ false =
    false_from_ne_true (nat_lt offset (piece_of x thread threads))
    (λ q. let y : offset < piece_of x thread threads = ltb-true offset (piece_of x thread threads) q in omega arith) in
    sym (ap (λ b. cond b k None) no)

-- ---- places

pub place-front : {X : Type 0} (xs ys : List X) (i : ℕ) → i < length xs → slice_get (xs ++ ys) i ≡ slice_get xs i
place-front [] ys i lt = absurd (omega arith)
place-front (x ∷ xs) ys ℕ.zero lt = refl
place-front (x ∷ xs) ys (ℕ.suc i) lt = place-front xs ys i (omega arith)

pub place-behind : {X : Type 0} (xs ys : List X) (i : ℕ) → length xs ≤ i → slice_get (xs ++ ys) i ≡ slice_get ys (i - length xs)
place-behind [] ys i le = ap (slice_get ys) (let e : i ≡ i - 0 = omega arith in e)
place-behind (x ∷ xs) ys ℕ.zero le = absurd (omega arith)
place-behind (x ∷ xs) ys (ℕ.suc i) le =
    place-behind xs ys i (omega arith) ∙ ap (slice_get ys) (let e : i - length xs ≡ ℕ.suc i - ℕ.suc (length xs) = omega arith in e)

-- what holds of each object holds of one that is found
pub declared-at : (o : Opening) (i : ℕ) (x : ObjectRef) → IsOpening o → slice_get o.declared i ≡ Some x → IsDeclared o i x
declared-at o i x v h =
    let lt : i < length o.declared = slice_get_within o.declared i x h in
    subst (IsDeclared o i) (get_or_from_slice_get o.declared i x x h) (v.declared i x lt)

total-below : (xs : List ObjectRef) (i : ℕ) (d : ObjectRef) → i < length xs → (get_or xs i d).total ≤ bytes_of xs
total-below xs i d lt =
    let split : xs ≡ take i xs ++ get_or xs i d ∷ drop (i + 1) xs =
    sym (take-append-drop i xs) ∙ ap (λ l. take i xs ++ l) (drop_more xs i d lt) in
    let sum : bytes_of xs ≡ bytes_of (take i xs) + ((get_or xs i d).total + bytes_of (drop (i + 1) xs)) =
    ap bytes_of split ∙ sum_by-append (λ o. o.total) (take i xs) (get_or xs i d ∷ drop (i + 1) xs)
    ∙ ap (λ n. bytes_of (take i xs) + n) (sum_by-cons (λ o. o.total) (get_or xs i d) (drop (i + 1) xs)) in
    omega arith

-- its size, its block and its home are within the limits
pub found-small : (o : Opening) (i : ℕ) (x : ObjectRef) → IsOpening o → slice_get o.declared i ≡ Some x
    → (x.total ≤ 16777216) × (x.block ≤ 16777216) × (x.home < o.threads)
found-small o i x v h =
    let lt : i < length o.declared = slice_get_within o.declared i x h in
    let d = declared-at o i x v h in
    let t : (get_or o.declared i x).total ≤ bytes_of o.declared = total-below o.declared i x lt in
    let y : x.total ≤ bytes_of o.declared = subst (λ z. z.total ≤ bytes_of o.declared) (get_or_from_slice_get o.declared i x x h) t in
    let b = v.bytes in
    (omega arith, d.block, d.home)

pub found-sizes : (o : Opening) (i : ℕ) (r : Option ObjectRef) → IsOpening o → r ≡ slice_get o.declared i
    → IfSome r (λ x. (x.total ≤ 16777216) × (x.block ≤ 16777216) × (x.home < o.threads))
found-sizes o i (Some x) v e = found-small o i x v (sym e)
found-sizes o i None v e = tt

-- ---- how many objects there may be

many-small : (xs : List ObjectRef) → ((i : ℕ) (d : ObjectRef) → i < length xs → 0 < (get_or xs i d).total) → length xs ≤ bytes_of xs
many-small [] h = omega arith
many-small (x ∷ xs) h =
    let first : 0 < x.total = h 0 x (omega arith) in
    let rest = many-small xs (λ i d lt. h (ℕ.suc i) d (omega arith)) in
    let sum = sum_by-cons (λ (o : ObjectRef). o.total) x xs in
    omega arith

pub many-objects : (o : Opening) → IsOpening o → length o.declared ≤ 16777216
many-objects o v =
    let n = many-small o.declared (λ i d lt. (v.declared i d lt).least) in
    let b = v.bytes in
    omega arith

-- ---- one among them

other-number : (x y : ObjectRef) → (x.number ≡ y.number → ⊥) → same_object x y ≡ false
other-number x y h =
    false_from_ne_true (same_object x y) (λ q. h (ap (λ z. z.number) (same_object-true x y q)))

has-low : (from : ℕ) (x : ObjectRef) (xs : List ObjectRef) → AreNumbered from xs → x.number < from → list_any (same_object x) xs ≡ false
unfolding AreNumbered
has-low from x [] h lt = refl
has-low from x (y ∷ ys) h lt =
    let e = h.0 in
    ap (λ b. b || list_any (same_object x) ys) (other-number x y (λ q. omega arith))
    ∙ has-low (from + 1) x ys h.1 (omega arith)

-- whether a place has this object
abbrev pub is_there : ObjectRef → Option ObjectRef → Bool
is_there x (Some y) = same_object x y
is_there x None = false

or-false : (b : Bool) → (b || false) ≡ b
or-false true = refl
or-false false = refl

has-at : (from i : ℕ) (x : ObjectRef) (xs : List ObjectRef) → AreNumbered from xs → x.number ≡ from + i
    → list_any (same_object x) xs ≡ is_there x (slice_get xs i)
unfolding AreNumbered
has-at from i x [] h e = refl
has-at from ℕ.zero x (y ∷ ys) h e =
    ap (λ b. same_object x y || b) (has-low (from + 1) x ys h.1 (omega arith)) ∙ or-false (same_object x y)
has-at from (ℕ.suc i) x (y ∷ ys) h e =
    let n = h.0 in
    ap (λ b. b || list_any (same_object x) ys) (other-number x y (λ q. omega arith))
    ∙ has-at (from + 1) i x ys h.1 (omega arith)

pub has-zero : (o : Opening) (x : ObjectRef) → IsOpening o → x.number ≡ 0 → list_any (same_object x) o.declared ≡ false
has-zero o x v e = has-low 1 x o.declared (opening-numbered o v) (omega arith)

pub has-number : (o : Opening) (x : ObjectRef) → IsOpening o → (x.number ≡ 0 → ⊥)
    → list_any (same_object x) o.declared ≡ is_there x (slice_get o.declared (x.number - 1))
has-number o x v some = has-at 1 (x.number - 1) x o.declared (opening-numbered o v) (omega arith)

-- ---- those after others

pub numbered-behind : (from : ℕ) (xs ys : List ObjectRef) → AreNumbered from (xs ++ ys) → AreNumbered (length xs + from) ys
unfolding AreNumbered
numbered-behind from [] ys h = subst (λ n. AreNumbered n ys) (let e : from ≡ 0 + from = omega arith in e) h
numbered-behind from (x ∷ xs) ys h =
    subst (λ n. AreNumbered n ys) (let e : length xs + (from + 1) ≡ ℕ.suc (length xs) + from = omega arith in e)
    (numbered-behind (from + 1) xs ys h.1)
