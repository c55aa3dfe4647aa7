-- Records and where their Stalls stand.
use Rattle.std.proofs.Common.{◌≡◌, ℕ, ◌+◌, ◌<◌, ◌≤◌, nat_lt, true, false, List, [], ◌∷◌, ◌++◌, length, Option, Some, None, refl, sym, ap, subst, ◌∙◌, append-nil, append_assoc, arith, inl, inr}
use Rattle.std.specs.Prelude.{◌⊎◌}
use Rattle.std.proofs.lemmas.Bool.{cond_both, false≢true}
use Rattle.std.proofs.lemmas.List.{length-append, length-map}
use Rattle.block_layout.specs.declared.place.Loc.{Loc}
use Rattle.upc_values.specs.declared.scalar.Scalar.{Scalar}
use Rattle.upc_values.specs.declared.action.Action.{Action}
use Rattle.upc_values.specs.declared.action.Action.TheVariants.{Read, Write, Print, Lock, Wait}
use Rattle.upc_values.specs.declared.action.Reply.{Reply}
use Rattle.upc_values.specs.declared.record.Item.{Item}
use Rattle.upc_values.specs.declared.record.Item.TheVariants.{Did, Stall}
use Rattle.upc_values.specs.declared.journal.Entry.{Entry}
use Rattle.upc_values.specs.Lists.{Each}
use Rattle.upc_values.specs.Drain.{Commit, commit_of, Walk, emptied, oldest_out, with_room, passed, put_pending, looked_up, gone, stepped, walked, walked_from, start, pending_value, entry_of, drain}
use Rattle.upc_values.specs.Ends.{is_pause}
use Rattle.upc_values.specs.Records.{last_item, last_from, is_stall}
use Rattle.upc_values.specs.Strands.{may_wait, MayWait, first_is_stall, next_action, StallsStand}
use Rattle.upc_values.proofs.Walks.{stall-pauses}

-- What is left of a list that ends with a member.
pub ends : {X : Type 0} (p x front : List X) (a : X) → p ++ x ≡ front ++ a ∷ []
    → (x ≡ []) ⊎ ((y : List X) × (x ≡ y ++ a ∷ []) × (p ++ y ≡ front))
ends [] x front a is = inr (front, is, refl)
ends {X} (y ∷ p) x [] a is = let none : p ++ x ≡ [] = cc in inl (none-right p x none)
  where
    none-right : (p x : List X) → p ++ x ≡ [] → x ≡ []
    none-right [] x h = h
    none-right (y ∷ p) x h = absurd cc
ends (y ∷ p) x (z ∷ front) a is =
    let head : y ≡ z = cc in let tail : p ++ x ≡ front ++ a ∷ [] = cc in
    elim (ends p x front a tail) [
      | inl n ↦ inl n
      | inr s ↦ inr (s.0, s.1, ap (λ w. w ∷ (p ++ s.0)) head ∙ ap (λ l. z ∷ l) s.2)
    ]

pub last-append : (o : Option Item) (xs ys : List Item) → last_from o (xs ++ ys) ≡ last_from (last_from o xs) ys
last-append o [] ys = refl
last-append o (x ∷ xs) ys = last-append (Some x) xs ys

-- Items at which no thread rests end with one.
last-goes : (x : Item) (xs : List Item) → Each (λ y. is_pause (Some y) ≡ false) (x ∷ xs) → is_pause (last_from (Some x) xs) ≡ false
last-goes x [] h = h.0
last-goes x (y ∷ xs) h = last-goes y xs h.1

-- So where a record ends with a Stall, none of them were added.
pub none-added : (xs ys : List Item) → Each (λ y. is_pause (Some y) ≡ false) ys → is_stall (last_item (xs ++ ys)) ≡ true → ys ≡ []
none-added xs [] h s = refl
none-added xs (y ∷ ys) h s =
    let stall : is_stall (last_from (Some y) ys) ≡ true = ap is_stall (sym (last-append None xs (y ∷ ys))) ∙ s in
    absurd (false≢true (sym (last-goes y ys h) ∙ stall-pauses (last_from (Some y) ys) stall))

-- What a Stall of a record says of the items after it.
pub stalls-at : (w : Option Action) (ahead rest : List Item) → StallsStand w (ahead ++ Stall ∷ rest)
    → (first_is_stall rest ≡ false) × MayWait (next_action w rest) × StallsStand w rest
stalls-at w [] rest h = h
stalls-at w (Did a r ∷ ahead) rest h = stalls-at w ahead rest h
stalls-at w (Stall ∷ ahead) rest h = stalls-at w ahead rest h.2

-- ---- a walk emits more and more

walked-on : (t : ℕ) (w : Walk) (xs ys : List Item) → walked_from t w (xs ++ ys) ≡ walked_from t (walked_from t w xs) ys
walked-on t w [] ys = refl
walked-on t w (x ∷ xs) ys = walked-on t (stepped t w x) xs ys

abbrev AtLeast : Walk → Walk → Type 0
AtLeast w v = length w.emitted ≤ length v.emitted

more-emitted : (w v : Walk) (cs : List Commit) → v.emitted ≡ w.emitted ++ cs → AtLeast w v
more-emitted w v cs is = let n = ap length is ∙ length-append w.emitted cs in omega (arith, n)

same-emitted : (w v : Walk) → v.emitted ≡ w.emitted → AtLeast w v
same-emitted w v is = let n = ap length is in omega (arith, n)

room-longer : (w : Walk) → AtLeast w (with_room w)
room-longer w = cond_both (nat_lt (length w.pending) 64) w (oldest_out w.pending w) (AtLeast w) (λ e. same-emitted w w refl)
    (λ e. oldest w.pending)
  where
    oldest : (cs : List Commit) → AtLeast w (oldest_out cs w)
    oldest [] = same-emitted w w refl
    oldest (c ∷ cs) = more-emitted w (oldest_out (c ∷ cs) w) (c ∷ []) refl

put-longer : (l : Loc) (e : Entry) (f : Option Scalar) (w : Walk) → AtLeast w (put_pending l e f w)
put-longer l e None w = room-longer w
put-longer l e (Some v) w = same-emitted w (put_pending l e (Some v) w) refl

looked-longer : (l : Loc) (e : Entry) (f : Option Scalar) (w : Walk) → AtLeast w (looked_up l e f w)
looked-longer l e None w = more-emitted w (passed e w) (commit_of e ∷ []) refl
looked-longer l e (Some v) w = same-emitted w (looked_up l e (Some v) w) refl

emptied-longer : (w : Walk) → AtLeast w (emptied w)
emptied-longer w = more-emitted w (emptied w) w.pending refl

after-longer : (e : Entry) (w : Walk) → AtLeast w (passed e (emptied w))
after-longer e w =
    let a = emptied-longer w in let b = more-emitted (emptied w) (passed e (emptied w)) (commit_of e ∷ []) refl in omega (arith, a, b)

stepped-longer : (t : ℕ) (w : Walk) (x : Item) → AtLeast w (stepped t w x)
stepped-longer t w Stall = emptied-longer w
stepped-longer t w (Did (Write false l v) r) = put-longer l (entry_of t w.next (Write false l v) r) (pending_value l w.pending) w
stepped-longer t w (Did (Read l false) r) = looked-longer l (entry_of t w.next (Read l false) r) (pending_value l w.pending) w
stepped-longer t w (Did (Print x) r) = more-emitted w (passed (entry_of t w.next (Print x) r) w) (commit_of (entry_of t w.next (Print x) r) ∷ []) refl
stepped-longer t w (Did (Write true l v) r) = after-longer (entry_of t w.next (Write true l v) r) w
stepped-longer t w (Did (Read l true) r) = after-longer (entry_of t w.next (Read l true) r) w
stepped-longer t w (Did a r) = after-longer (entry_of t w.next a r) w

walked-longer : (t : ℕ) (w : Walk) (xs : List Item) → AtLeast w (walked_from t w xs)
walked-longer t w [] = same-emitted w w refl
walked-longer t w (x ∷ xs) =
    let a = stepped-longer t w x in let b = walked-longer t (stepped t w x) xs in omega (arith, a, b)

-- After a Stall what may wait is emitted at once.
waited-emits : (t : ℕ) (w : Walk) (a : Action) (r : Reply) → may_wait a ≡ true
    → length (gone (entry_of t w.next a r) a (emptied w)).emitted ≡ length (emptied w).emitted + 1
waited-emits t w (Lock l) r h = twice t w (Lock l) r
  where
    twice : (t : ℕ) (w : Walk) (a : Action) (r : Reply) → length (passed (entry_of t w.next a r) (emptied (emptied w))).emitted ≡ length (emptied w).emitted + 1
    twice t w a r =
        length-append ((emptied w).emitted ++ []) (commit_of (entry_of t w.next a r) ∷ [])
        ∙ ap (λ l. length l + 1) (append-nil (emptied w).emitted)
waited-emits t w (Wait m) r h = twice t w (Wait m) r
  where
    twice : (t : ℕ) (w : Walk) (a : Action) (r : Reply) → length (passed (entry_of t w.next a r) (emptied (emptied w))).emitted ≡ length (emptied w).emitted + 1
    twice t w a r =
        length-append ((emptied w).emitted ++ []) (commit_of (entry_of t w.next a r) ∷ [])
        ∙ ap (λ l. length l + 1) (append-nil (emptied w).emitted)
waited-emits t w a r h = absurd (false≢true h)

drain-many : (t : ℕ) (xs : List Item) → length (drain t xs) ≡ length (emptied (walked t xs)).emitted
drain-many t xs = length-map (emptied (walked t xs)).emitted (λ c. c.entry)

-- So what comes after a Stall adds to what is emitted.
pub drain-grows : (t : ℕ) (xs : List Item) (a : Action) (r : Reply) (ys : List Item) → may_wait a ≡ true
    → length (drain t xs) < length (drain t (xs ++ Stall ∷ Did a r ∷ ys))
drain-grows t xs a r ys h =
    let w = walked t xs in let v = gone (entry_of t w.next a r) a (emptied w) in
    let whole : walked t (xs ++ Stall ∷ Did a r ∷ ys) ≡ walked_from t v ys = walked-on t start xs (Stall ∷ Did a r ∷ ys) in
    let many : length (drain t (xs ++ Stall ∷ Did a r ∷ ys)) ≡ length (emptied (walked_from t v ys)).emitted =
    drain-many t (xs ++ Stall ∷ Did a r ∷ ys) ∙ ap (λ z. length (emptied z).emitted) whole in
    let one = waited-emits t w a r h in let more = walked-longer t v ys in let last = emptied-longer (walked_from t v ys) in
    let first = drain-many t xs in omega (arith, many, one, more, last, first)

not-after : (t : ℕ) (w : Option Action) (ahead y : List Item) → StallsStand w (ahead ++ Stall ∷ (y ++ Stall ∷ []))
    → drain t ahead ≡ drain t ((ahead ++ Stall ∷ []) ++ y) → ⊥
not-after t w ahead [] s d = false≢true (sym (stalls-at w ahead (Stall ∷ []) s).0)
not-after t w ahead (Stall ∷ y) s d = false≢true (sym (stalls-at w ahead (Stall ∷ (y ++ Stall ∷ [])) s).0)
not-after t w ahead (Did a r ∷ y) s d =
    let may = (stalls-at w ahead (Did a r ∷ (y ++ Stall ∷ [])) s).1 in
    let same : length (drain t ahead) ≡ length (drain t (ahead ++ Stall ∷ Did a r ∷ y)) =
    ap length d ∙ ap (λ l. length (drain t l)) (append_assoc ahead (Stall ∷ []) (Did a r ∷ y)) in
    let more = drain-grows t ahead a r y may in omega (arith, same, more)

-- Two Stalls that emitted as much are one.
pub same-stall : (t : ℕ) (w : Option Action) (ahead rest whole : List Item) → ahead ++ Stall ∷ rest ≡ whole ++ Stall ∷ []
    → StallsStand w (whole ++ Stall ∷ []) → drain t ahead ≡ drain t whole → rest ≡ []
same-stall t w ahead rest whole is s d =
    elim (ends (ahead ++ Stall ∷ []) rest whole Stall (append_assoc ahead (Stall ∷ []) rest ∙ is)) [
      | inl n ↦ n
      | inr e ↦ absurd (not-after t w ahead e.0
          (subst (StallsStand w) (sym is ∙ ap (λ l. ahead ++ Stall ∷ l) e.1) s)
          (d ∙ ap (drain t) (sym e.2)))
    ]
