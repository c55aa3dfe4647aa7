-- A walk emits each action's number once at most.
use Rattle.std.proofs.Common.{◌≡◌, ℕ, ◌+◌, ◌≤◌, ◌==◌, nat_lt, true, false, cond, List, [], ◌∷◌, ◌++◌, length, is_some, Option, Some, None, refl, sym, ap, ◌∙◌, eqb-true, arith}
use Rattle.std.proofs.lemmas.Bool.{cond_both}
use Rattle.block_layout.specs.declared.place.Loc.{Loc}
use Rattle.upc_values.specs.declared.scalar.Scalar.{Scalar}
use Rattle.upc_values.specs.declared.action.Action.{Action}
use Rattle.upc_values.specs.declared.action.Action.TheVariants.{Read, Write, Print}
use Rattle.upc_values.specs.declared.action.Reply.{Reply}
use Rattle.upc_values.specs.declared.record.Item.{Item}
use Rattle.upc_values.specs.declared.record.Item.TheVariants.{Did, Stall}
use Rattle.upc_values.specs.declared.journal.Entry.{Entry}
use Rattle.upc_values.specs.Drain.{Commit, commit_of, Walk, start, emptied, oldest_out, with_room, stored, passed, pending_value, changed, with_read, combined, put_pending, looked_up, stepped, walked_from, drained, entry_of}
use Rattle.upc_values.proofs.Commits.{walk-keeps}

-- how many of the commits have the number
abbrev pub counted : ℕ → List Commit → ℕ
counted n [] = 0
counted n (c ∷ cs) = cond (c.entry.index == n) 1 0 + counted n cs

pub counted-append : (n : ℕ) (xs ys : List Commit) → counted n (xs ++ ys) ≡ counted n xs + counted n ys
counted-append n [] ys = omega arith
counted-append n (x ∷ xs) ys = let h = counted-append n xs ys in omega arith

-- a change that gives the commit a number no later than its own keeps or lowers the other counts
counted-changed : (n m : ℕ) (l : Loc) (f : Commit → Commit) → ((c : Commit) → cond {A = ℕ} ((f c).entry.index == n) 1 0 ≤ cond {A = ℕ} (c.entry.index == n) 1 0 + m) → (cs : List Commit) → counted n (changed l f cs) ≤ counted n cs + m
counted-changed n m l f h [] = omega arith
counted-changed n m l f h (c ∷ cs) =
    cond_both (is_some (pending_value l cs)) (c ∷ changed l f cs) (f c ∷ cs) (λ z. counted n z ≤ counted n (c ∷ cs) + m)
    (λ e. let k = counted-changed n m l f h cs in omega arith) (λ e. let k = h c in omega arith)

-- each number below the next is there once at most, and no other
pub record Numbered (w : Walk) : Type 0 where
  pub once : (n : ℕ) → counted n w.emitted + counted n w.pending ≤ 1
  pub below : (n : ℕ) → w.next ≤ n → counted n w.emitted + counted n w.pending ≡ 0

abbrev total : ℕ → Walk → ℕ
total n w = counted n w.emitted + counted n w.pending

-- a new commit with the next number
new-once : (n m a : ℕ) → a ≤ 1 → (m ≤ n → a ≡ 0) → a + cond (m == n) 1 0 ≤ 1
new-once n m a h k =
    cond_both (m == n) 1 0 (λ z. a + z ≤ 1)
    (λ e. let q : m ≡ n = eqb-true m n e in let z : a ≡ 0 = k (omega arith) in omega arith) (λ e. omega arith)

new-below : (n m a : ℕ) → m + 1 ≤ n → (m ≤ n → a ≡ 0) → a + cond (m == n) 1 0 ≡ 0
new-below n m a h k =
    cond_both (m == n) 1 0 (λ z. a + z ≡ 0) (λ e. let q : m ≡ n = eqb-true m n e in absurd (omega arith))
    (λ e. let z : a ≡ 0 = k (omega arith) in omega arith)

numbered-same : (w w' : Walk) → ((n : ℕ) → total n w' ≤ total n w) → w.next ≤ w'.next → Numbered w → Numbered w'
numbered-same w w' h le s =
    record {
      once = λ n. let e = h n in let b = s.once n in omega arith;
      below = λ n q. let e = h n in let b = s.below n (omega arith) in omega arith;
    }

numbered-new : (w w' : Walk) → ((n : ℕ) → total n w' ≤ total n w + cond {A = ℕ} (w.next == n) 1 0) → w'.next ≡ w.next + 1 → Numbered w → Numbered w'
numbered-new w w' h le s =
    record {
      once = λ n. let a = h n in let b = new-once n w.next (total n w) (s.once n) (s.below n) in omega arith;
      below = λ n q. let a = h n in let b = new-below n w.next (total n w) (omega arith) (s.below n) in omega arith;
    }

numbered-passed : (e : Entry) (w : Walk) → e.index ≡ w.next → Numbered w → Numbered (passed e w)
numbered-passed e w h s =
    numbered-new w (passed e w)
    (λ n.
    let a = counted-append n w.emitted (commit_of e ∷ []) in
    let b : cond {A = ℕ} (e.index == n) 1 0 ≡ cond {A = ℕ} (w.next == n) 1 0 = ap (λ k. cond {A = ℕ} (k == n) 1 0) h in
    omega arith)
    refl s

numbered-stored : (e : Entry) (w : Walk) → e.index ≡ w.next → Numbered w → Numbered (stored e w)
numbered-stored e w h s =
    numbered-new w (stored e w)
    (λ n.
    let a = counted-append n w.pending (commit_of e ∷ []) in
    let b : cond {A = ℕ} (e.index == n) 1 0 ≡ cond {A = ℕ} (w.next == n) 1 0 = ap (λ k. cond {A = ℕ} (k == n) 1 0) h in
    omega arith)
    refl s

numbered-emptied : (w : Walk) → Numbered w → Numbered (emptied w)
numbered-emptied w s =
    numbered-same w (emptied w) (λ n. let a = counted-append n w.emitted w.pending in omega arith) (omega arith) s

numbered-oldest_out : (w : Walk) (cs : List Commit) → cs ≡ w.pending → Numbered w → Numbered (oldest_out cs w)
numbered-oldest_out w [] h s = s
numbered-oldest_out w (c ∷ cs) h s =
    numbered-same w (oldest_out (c ∷ cs) w)
    (λ n. let a = counted-append n w.emitted (c ∷ []) in let b = ap (counted n) h in omega arith) (omega arith) s

numbered-with_room : (w : Walk) → Numbered w → Numbered (with_room w)
numbered-with_room w s =
    cond_both (nat_lt (length w.pending) 64) w (oldest_out w.pending w) Numbered (λ e. s)
    (λ e. numbered-oldest_out w w.pending refl s)

number-oldest_out : (w : Walk) (cs : List Commit) → (oldest_out cs w).next ≡ w.next
number-oldest_out w [] = refl
number-oldest_out w (c ∷ cs) = refl

pub number-with_room : (w : Walk) → (with_room w).next ≡ w.next
number-with_room w =
    cond_both (nat_lt (length w.pending) 64) w (oldest_out w.pending w) (λ z. z.next ≡ w.next) (λ e. refl)
    (λ e. number-oldest_out w w.pending)

numbered-looked_up : (l : Loc) (e : Entry) (o : Option Scalar) (w : Walk) → e.index ≡ w.next → Numbered w → Numbered (looked_up l e o w)
numbered-looked_up l e None w h s = numbered-passed e w h s
numbered-looked_up l e (Some v) w h s =
    numbered-same w (looked_up l e (Some v) w)
    (λ n. let k = counted-changed n 0 l (with_read e) (λ c. omega arith) w.pending in omega arith) (omega arith) s

numbered-put : (l : Loc) (e : Entry) (o : Option Scalar) (w : Walk) → e.index ≡ w.next → Numbered w → Numbered (put_pending l e o w)
numbered-put l e None w h s =
    numbered-stored e (with_room w) (h ∙ sym (number-with_room w)) (numbered-with_room w s)
numbered-put l e (Some v) w h s =
    numbered-new w (put_pending l e (Some v) w)
    (λ n.
    let b : cond {A = ℕ} (e.index == n) 1 0 ≡ cond {A = ℕ} (w.next == n) 1 0 = ap (λ k. cond {A = ℕ} (k == n) 1 0) h in
    let k = counted-changed n (cond {A = ℕ} (e.index == n) 1 0) l (combined e) (λ c. omega arith) w.pending in
    omega arith)
    refl s

numbered-strict : (t : ℕ) (w : Walk) (a : Action) (r : Reply) → Numbered w → Numbered (passed (entry_of t w.next a r) (emptied w))
numbered-strict t w a r s = numbered-passed (entry_of t w.next a r) (emptied w) refl (numbered-emptied w s)

numbered-stepped : (t : ℕ) (w : Walk) (x : Item) → (stepped t w x).agrees ≡ true → Numbered w → Numbered (stepped t w x)
numbered-stepped t w Stall a s = numbered-emptied w s
numbered-stepped t w (Did (Write false l v) r) a s =
    numbered-put l (entry_of t w.next (Write false l v) r) (pending_value l w.pending) w refl s
numbered-stepped t w (Did (Read l false) r) a s =
    numbered-looked_up l (entry_of t w.next (Read l false) r) (pending_value l w.pending) w refl s
numbered-stepped t w (Did (Print x) r) a s = numbered-passed (entry_of t w.next (Print x) r) w refl s
numbered-stepped t w (Did x r) a s = numbered-strict t w x r s

pub numbered-drained : (t : ℕ) (items : List Item) → (drained t items).agrees ≡ true → Numbered (drained t items)
numbered-drained t items a =
    numbered-emptied (walked_from t start items)
    (walk-keeps t Numbered (numbered-stepped t) start items a (record { once = λ n. omega arith; below = λ n h. refl }))
