-- What a walk emits from some item on: only entries that are numbered from there on.
use Rattle.std.proofs.Common.{◌≡◌, ℕ, ◌+◌, ◌≤◌, ◌<◌, nat_lt, false, List, [], ◌∷◌, ◌++◌, length, Option, Some, None, refl, sym, ap, ◌∙◌, append_assoc, arith}
use Rattle.std.proofs.lemmas.Bool.{cond_both}
use Rattle.block_layout.specs.declared.place.Loc.{Loc}
use Rattle.upc_values.specs.declared.scalar.Scalar.{Scalar}
use Rattle.upc_values.specs.declared.action.Action.{Action}
use Rattle.upc_values.specs.declared.action.Action.TheVariants.{Read, Write, Print}
use Rattle.upc_values.specs.declared.action.Reply.{Reply}
use Rattle.upc_values.specs.declared.record.Item.{Item}
use Rattle.upc_values.specs.declared.record.Item.TheVariants.{Did, Stall}
use Rattle.upc_values.specs.declared.journal.Entry.{Entry}
use Rattle.upc_values.specs.Lists.{Each}
use Rattle.upc_values.specs.Drain.{Commit, commit_of, Walk, start, emptied, oldest_out, with_room, stored, passed, pending_value, with_read, combined, put_pending, looked_up, stepped, walked_from, walked, entry_of}
use Rattle.upc_values.specs.Records.{actions_of}
use Rattle.upc_values.proofs.Membership.{each-append, each-weaker}
use Rattle.upc_values.proofs.Growth.{each-changed}
use Rattle.upc_values.proofs.Numbering.{number-with_room}

-- numbered from n on
abbrev pub IsFrom : ℕ → Commit → Type 0
IsFrom n c = n ≤ c.entry.index

-- numbered below n
abbrev pub IsUnder : ℕ → Commit → Type 0
IsUnder n c = c.entry.index < n

-- of a walk these were emitted before, and all else is numbered from n on
pub record Since (n : ℕ) (before : List Commit) (w : Walk) : Type 0 where
  pub more : List Commit
  pub is : w.emitted ≡ before ++ more
  pub emitted : Each (IsFrom n) more
  pub pending : Each (IsFrom n) w.pending
  pub next : n ≤ w.next

since-passed : (n : ℕ) (b : List Commit) (e : Entry) (w : Walk) → e.index ≡ w.next → Since n b w → Since n b (passed e w)
since-passed n b e w q s =
    let k = s.next in
    record {
      more = s.more ++ commit_of e ∷ [];
      is = ap (λ l. l ++ commit_of e ∷ []) s.is ∙ append_assoc b s.more (commit_of e ∷ []);
      emitted = each-append (IsFrom n) s.more (commit_of e ∷ []) s.emitted (omega arith, tt);
      pending = s.pending;
      next = omega arith;
    }

since-emptied : (n : ℕ) (b : List Commit) (w : Walk) → Since n b w → Since n b (emptied w)
since-emptied n b w s =
    record {
      more = s.more ++ w.pending;
      is = ap (λ l. l ++ w.pending) s.is ∙ append_assoc b s.more w.pending;
      emitted = each-append (IsFrom n) s.more w.pending s.emitted s.pending;
      pending = tt;
      next = s.next;
    }

since-oldest_out : (n : ℕ) (b : List Commit) (w : Walk) (cs : List Commit) → Each (IsFrom n) cs → Since n b w → Since n b (oldest_out cs w)
since-oldest_out n b w [] h s = s
since-oldest_out n b w (c ∷ cs) h s =
    record {
      more = s.more ++ c ∷ [];
      is = ap (λ l. l ++ c ∷ []) s.is ∙ append_assoc b s.more (c ∷ []);
      emitted = each-append (IsFrom n) s.more (c ∷ []) s.emitted (h.0, tt);
      pending = h.1;
      next = s.next;
    }

since-with_room : (n : ℕ) (b : List Commit) (w : Walk) → Since n b w → Since n b (with_room w)
since-with_room n b w s =
    cond_both (nat_lt (length w.pending) 64) w (oldest_out w.pending w) (Since n b) (λ e. s)
    (λ e. since-oldest_out n b w w.pending s.pending s)

since-stored : (n : ℕ) (b : List Commit) (e : Entry) (w : Walk) → e.index ≡ w.next → Since n b w → Since n b (stored e w)
since-stored n b e w q s =
    let k = s.next in
    record {
      more = s.more;
      is = s.is;
      emitted = s.emitted;
      pending = each-append (IsFrom n) w.pending (commit_of e ∷ []) s.pending (omega arith, tt);
      next = omega arith;
    }

since-looked_up : (n : ℕ) (b : List Commit) (l : Loc) (e : Entry) (o : Option Scalar) (w : Walk) → pending_value l w.pending ≡ o
    → e.index ≡ w.next → Since n b w → Since n b (looked_up l e o w)
since-looked_up n b l e None w v q s = since-passed n b e w q s
since-looked_up n b l e (Some u) w v q s =
    let k = s.next in
    record {
      more = s.more;
      is = s.is;
      emitted = s.emitted;
      pending =
          each-changed l (with_read e) (IsFrom n) (IsFrom n) (λ c h. h) (λ c x y h. h) w.pending u v s.pending;
      next = omega arith;
    }

since-put : (n : ℕ) (b : List Commit) (l : Loc) (e : Entry) (o : Option Scalar) (w : Walk) → pending_value l w.pending ≡ o
    → e.index ≡ w.next → Since n b w → Since n b (put_pending l e o w)
since-put n b l e None w v q s =
    since-stored n b e (with_room w) (q ∙ sym (number-with_room w)) (since-with_room n b w s)
since-put n b l e (Some u) w v q s =
    let k = s.next in
    let at : n ≤ e.index = omega arith in
    record {
      more = s.more;
      is = s.is;
      emitted = s.emitted;
      pending =
          each-changed l (combined e) (IsFrom n) (IsFrom n) (λ c h. h) (λ c x y h. at) w.pending u v s.pending;
      next = omega arith;
    }

pub since-stepped : (t n : ℕ) (b : List Commit) (w : Walk) (x : Item) → Since n b w → Since n b (stepped t w x)
since-stepped t n b w Stall s = since-emptied n b w s
since-stepped t n b w (Did (Write false l v) r) s =
    since-put n b l (entry_of t w.next (Write false l v) r) (pending_value l w.pending) w refl refl s
since-stepped t n b w (Did (Read l false) r) s =
    since-looked_up n b l (entry_of t w.next (Read l false) r) (pending_value l w.pending) w refl refl s
since-stepped t n b w (Did (Print x) r) s = since-passed n b (entry_of t w.next (Print x) r) w refl s
since-stepped t n b w (Did a r) s =
    since-passed n b (entry_of t w.next a r) (emptied w) refl (since-emptied n b w s)

pub since-walked : (t n : ℕ) (b : List Commit) (w : Walk) (xs : List Item) → Since n b w → Since n b (walked_from t w xs)
since-walked t n b w [] s = s
since-walked t n b w (x ∷ xs) s = since-walked t n b (stepped t w x) xs (since-stepped t n b w x s)

-- all that a walk has emitted or keeps is numbered below the next action
pub record Under (w : Walk) : Type 0 where
  pub emitted : Each (IsUnder w.next) w.emitted
  pub pending : Each (IsUnder w.next) w.pending

wider : (n m : ℕ) (cs : List Commit) → n ≤ m → Each (IsUnder n) cs → Each (IsUnder m) cs
wider n m cs le h = each-weaker (IsUnder n) (IsUnder m) (λ c k. omega arith) cs h

under-passed : (e : Entry) (w : Walk) → e.index ≡ w.next → Under w → Under (passed e w)
under-passed e w q s =
    record {
      emitted =
          each-append (IsUnder (w.next + 1)) w.emitted (commit_of e ∷ [])
          (wider w.next (w.next + 1) w.emitted (omega arith) s.emitted) (omega arith, tt);
      pending = wider w.next (w.next + 1) w.pending (omega arith) s.pending;
    }

under-emptied : (w : Walk) → Under w → Under (emptied w)
under-emptied w s =
    record { emitted = each-append (IsUnder w.next) w.emitted w.pending s.emitted s.pending; pending = tt }

under-oldest_out : (w : Walk) (cs : List Commit) → Each (IsUnder w.next) cs → Under w → Under (oldest_out cs w)
under-oldest_out w [] h s = s
under-oldest_out w (c ∷ cs) h s =
    record { emitted = each-append (IsUnder w.next) w.emitted (c ∷ []) s.emitted (h.0, tt); pending = h.1 }

under-with_room : (w : Walk) → Under w → Under (with_room w)
under-with_room w s =
    cond_both (nat_lt (length w.pending) 64) w (oldest_out w.pending w) Under (λ e. s)
    (λ e. under-oldest_out w w.pending s.pending s)

under-stored : (e : Entry) (w : Walk) → e.index ≡ w.next → Under w → Under (stored e w)
under-stored e w q s =
    record {
      emitted = wider w.next (w.next + 1) w.emitted (omega arith) s.emitted;
      pending =
          each-append (IsUnder (w.next + 1)) w.pending (commit_of e ∷ [])
          (wider w.next (w.next + 1) w.pending (omega arith) s.pending) (omega arith, tt);
    }

under-looked_up : (l : Loc) (e : Entry) (o : Option Scalar) (w : Walk) → pending_value l w.pending ≡ o → e.index ≡ w.next
    → Under w → Under (looked_up l e o w)
under-looked_up l e None w v q s = under-passed e w q s
under-looked_up l e (Some u) w v q s =
    record {
      emitted = wider w.next (w.next + 1) w.emitted (omega arith) s.emitted;
      pending =
          each-changed l (with_read e) (IsUnder w.next) (IsUnder (w.next + 1)) (λ c h. omega arith) (λ c x y h. omega arith)
          w.pending u v s.pending;
    }

under-put : (l : Loc) (e : Entry) (o : Option Scalar) (w : Walk) → pending_value l w.pending ≡ o → e.index ≡ w.next
    → Under w → Under (put_pending l e o w)
under-put l e None w v q s = under-stored e (with_room w) (q ∙ sym (number-with_room w)) (under-with_room w s)
under-put l e (Some u) w v q s =
    record {
      emitted = wider w.next (w.next + 1) w.emitted (omega arith) s.emitted;
      pending =
          each-changed l (combined e) (IsUnder w.next) (IsUnder (w.next + 1)) (λ c h. omega arith) (λ c x y h. omega arith)
          w.pending u v s.pending;
    }

under-stepped : (t : ℕ) (w : Walk) (x : Item) → Under w → Under (stepped t w x)
under-stepped t w Stall s = under-emptied w s
under-stepped t w (Did (Write false l v) r) s =
    under-put l (entry_of t w.next (Write false l v) r) (pending_value l w.pending) w refl refl s
under-stepped t w (Did (Read l false) r) s =
    under-looked_up l (entry_of t w.next (Read l false) r) (pending_value l w.pending) w refl refl s
under-stepped t w (Did (Print x) r) s = under-passed (entry_of t w.next (Print x) r) w refl s
under-stepped t w (Did a r) s = under-passed (entry_of t w.next a r) (emptied w) refl (under-emptied w s)

under-from : (t : ℕ) (w : Walk) (xs : List Item) → Under w → Under (walked_from t w xs)
under-from t w [] s = s
under-from t w (x ∷ xs) s = under-from t (stepped t w x) xs (under-stepped t w x s)

pub under-walked : (t : ℕ) (xs : List Item) → Under (walked t xs)
under-walked t xs = under-from t start xs (record { emitted = tt; pending = tt })

-- the number of the next action is how many actions there were
next-put : (l : Loc) (e : Entry) (o : Option Scalar) (w : Walk) → (put_pending l e o w).next ≡ w.next + 1
next-put l e None w = ap (λ n. n + 1) (number-with_room w)
next-put l e (Some v) w = refl

next-looked_up : (l : Loc) (e : Entry) (o : Option Scalar) (w : Walk) → (looked_up l e o w).next ≡ w.next + 1
next-looked_up l e None w = refl
next-looked_up l e (Some v) w = refl

next-did : (t : ℕ) (w : Walk) (a : Action) (r : Reply) → (stepped t w (Did a r)).next ≡ w.next + 1
next-did t w (Write false l v) r = next-put l (entry_of t w.next (Write false l v) r) (pending_value l w.pending) w
next-did t w (Read l false) r = next-looked_up l (entry_of t w.next (Read l false) r) (pending_value l w.pending) w
next-did t w (Print x) r = refl
next-did t w a r = refl

next-from : (t : ℕ) (w : Walk) (xs : List Item) → (walked_from t w xs).next ≡ w.next + length (actions_of xs)
next-from t w [] = omega arith
next-from t w (Stall ∷ xs) = next-from t (emptied w) xs
next-from t w (Did a r ∷ xs) =
    let one = next-did t w a r in
    let rest = next-from t (stepped t w (Did a r)) xs in
    omega arith

pub next-walked : (t : ℕ) (xs : List Item) → (walked t xs).next ≡ length (actions_of xs)
next-walked t xs = let h = next-from t start xs in omega arith
