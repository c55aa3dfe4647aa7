-- No two pending writes of a walk have one location.
use Rattle.std.proofs.Common.{◌≡◌, ℕ, ◌+◌, ◌≤◌, nat_lt, Bool, true, false, cond, List, [], ◌∷◌, ◌++◌, length, is_some, Option, Some, None, refl, sym, ap, ◌∙◌, subst, arith}
use Rattle.std.proofs.lemmas.Bool.{cond_both, false≢true}
use Rattle.block_layout.specs.declared.place.Loc.{Loc}
use Rattle.upc_values.specs.declared.scalar.Scalar.{Scalar}
use Rattle.upc_values.specs.declared.action.Action.{Action}
use Rattle.upc_values.specs.declared.action.Action.TheVariants.{Read, Write, Print}
use Rattle.upc_values.specs.declared.action.Reply.{Reply}
use Rattle.upc_values.specs.declared.record.Item.{Item}
use Rattle.upc_values.specs.declared.record.Item.TheVariants.{Did, Stall}
use Rattle.upc_values.specs.declared.journal.Entry.{Entry}
use Rattle.upc_values.specs.Scalars.{same_loc}
use Rattle.upc_values.specs.Drain.{Commit, commit_of, entries_in, Walk, start, entry_of, oldest_out, with_room, stored, written, or_else, last_written, pending_value, changed, combined, put_pending, looked_up, stepped, walked_from}
use Rattle.upc_values.proofs.Sameness.{same_loc-true, same_loc-itself}
use Rattle.upc_values.specs.code.Apart.{writers, AreApart, PendingApart}
use Rattle.upc_values.proofs.Drained.{read-entries}

few : (b : Bool) → cond {A = ℕ} b 1 0 ≤ 1
few true = omega arith
few false = omega arith

writers-push : (l : Loc) (cs : List Commit) (c : Commit) → writers l (entries_in (cs ++ c ∷ [])) ≡ writers l (entries_in cs) + cond {A = ℕ} (is_some (written l c.entry.action)) 1 0
writers-push l [] c = omega arith
writers-push l (x ∷ cs) c = let h = writers-push l cs c in omega arith

or_none : (a b : Option Scalar) → or_else a b ≡ None → (a ≡ None) × (b ≡ None)
or_none (Some v) b h = cc
or_none None b h = (refl, h)

writers-none : (l : Loc) (es : List Entry) → last_written l es ≡ None → writers l es ≡ 0
writers-none l [] h = refl
writers-none l (e ∷ es) h =
    let k = or_none (last_written l es) (written l e.action) h in
    let rest = writers-none l es k.0 in
    let here : cond {A = ℕ} (is_some (written l e.action)) 1 0 ≡ 0 = ap (λ o. cond {A = ℕ} (is_some o) 1 0) k.1 in
    omega arith

some-cond : (b : Bool) (v : Scalar) → is_some (cond b (Some v) None) ≡ b
some-cond true v = refl
some-cond false v = refl

-- an action that writes l writes just the locations that are l
written-at : (a : Action) (l k : Loc) → is_some (written l a) ≡ true → is_some (written k a) ≡ same_loc l k
written-at (Write s m v) l k h =
    let e : m ≡ l = same_loc-true m l (sym (some-cond (same_loc m l) v) ∙ h) in
    some-cond (same_loc m k) v ∙ ap (λ z. same_loc z k) e
written-at a l k h = absurd (false≢true h)

writers-combined : (k l : Loc) (e : Entry) → is_some (written l e.action) ≡ true → (cs : List Commit) (v : Scalar) → pending_value l cs ≡ Some v → writers k (entries_in (changed l (combined e) cs)) ≡ writers k (entries_in cs)
writers-combined k l e w [] v h = cc
writers-combined k l e w (c ∷ cs) v h =
    let P : Option Scalar → Type 0 =
    λ o. pending_value l cs ≡ o → or_else o (written l c.entry.action) ≡ Some v →
    writers k (entries_in (cond (is_some o) (c ∷ changed l (combined e) cs) (combined e c ∷ cs))) ≡ writers k (entries_in (c ∷ cs)) in
    let go : (o : Option Scalar) → P o = λ o. elim o as P [
      | Some u ↦ λ q r. (let n = writers-combined k l e w cs u q in omega arith)
      | None ↦ λ q r.
          let same : is_some (written k e.action) ≡ is_some (written k c.entry.action) =
          written-at e.action l k w ∙ sym (written-at c.entry.action l k (ap is_some r)) in
          ap (λ b. cond {A = ℕ} b 1 0 + writers k (entries_in cs)) same
    ] in
    go (pending_value l cs) refl h

abbrev pending_writers : Loc → Walk → ℕ
pending_writers l w = writers l (entries_in w.pending)

abbrev Apart : Walk → Type 0
Apart w = AreApart (entries_in w.pending)

-- room leaves fewer
fewer-out : (l : Loc) (cs : List Commit) (w : Walk) → cs ≡ w.pending → pending_writers l (oldest_out cs w) ≤ pending_writers l w
fewer-out l [] w h = omega arith
fewer-out l (c ∷ cs) w h = let n = ap (λ z. writers l (entries_in z)) h in omega arith

fewer-room : (l : Loc) (w : Walk) → pending_writers l (with_room w) ≤ pending_writers l w
fewer-room l w =
    cond_both (nat_lt (length w.pending) 64) w (oldest_out w.pending w) (λ z. pending_writers l z ≤ pending_writers l w) (λ e. omega arith)
    (λ e. fewer-out l w.pending w refl)

apart-stored : (l : Loc) (v : Scalar) (t n : ℕ) (r : Reply) (w : Walk) → pending_value l w.pending ≡ None → Apart w → Apart (stored (entry_of t n (Write false l v) r) (with_room w))
apart-stored l v t n r w none h = λ k.
    let e : Entry = entry_of t n (Write false l v) r in
    let push = writers-push k (with_room w).pending (commit_of e) in
    let room = fewer-room k w in
    let old = h k in
    let G : Bool → Type 0 = λ b. is_some (written k e.action) ≡ b → writers k (entries_in ((with_room w).pending ++ commit_of e ∷ [])) ≤ 1 in
    let go : (b : Bool) → G b = λ b. elim b as G [
      | true ↦ λ q.
          let is : l ≡ k = same_loc-true l k (sym (some-cond (same_loc l k) v) ∙ q) in
          let zero : pending_writers k w ≡ 0 = subst (λ z. pending_writers z w ≡ 0) is (writers-none l (entries_in w.pending) none) in
          let f = few (is_some (written k e.action)) in
          omega arith
      | false ↦ λ q.
          let zero : cond {A = ℕ} (is_some (written k e.action)) 1 0 ≡ 0 = ap (λ b. cond {A = ℕ} b 1 0) q in
          omega arith
    ] in
    go (is_some (written k e.action)) refl

apart-put : (l : Loc) (v : Scalar) (t n : ℕ) (r : Reply) (o : Option Scalar) (w : Walk) → pending_value l w.pending ≡ o → Apart w → Apart (put_pending l (entry_of t n (Write false l v) r) o w)
apart-put l v t n r None w q h = apart-stored l v t n r w q h
apart-put l v t n r (Some u) w q h = λ k.
    let e : Entry = entry_of t n (Write false l v) r in
    let own : is_some (written l e.action) ≡ true = some-cond (same_loc l l) v ∙ same_loc-itself l in
    let same = writers-combined k l e own w.pending u q in
    let old = h k in
    omega arith

apart-looked_up : (l : Loc) (e : Entry) (o : Option Scalar) (w : Walk) → Apart w → Apart (looked_up l e o w)
apart-looked_up l e None w h = h
apart-looked_up l e (Some v) w h = subst AreApart (sym (read-entries l e w.pending)) h

apart-none : AreApart []
apart-none = λ l. omega arith

apart-stepped : (t : ℕ) (w : Walk) (x : Item) → Apart w → Apart (stepped t w x)
apart-stepped t w Stall h = apart-none
apart-stepped t w (Did (Write false l v) r) h = apart-put l v t w.next r (pending_value l w.pending) w refl h
apart-stepped t w (Did (Read l false) r) h = apart-looked_up l (entry_of t w.next (Read l false) r) (pending_value l w.pending) w h
apart-stepped t w (Did (Print x) r) h = h
apart-stepped t w (Did a r) h = apart-none

apart-walked_from : (t : ℕ) (w : Walk) (items : List Item) → Apart w → Apart (walked_from t w items)
apart-walked_from t w [] h = h
apart-walked_from t w (x ∷ xs) h = apart-walked_from t (stepped t w x) xs (apart-stepped t w x h)

pub pending-apart : PendingApart
pending-apart t items = apart-walked_from t start items apart-none
