-- Each step of a walk puts the item's accesses into the list of the thread's operations, and what stands after them
-- there does not conflict with them.
use Rattle.std.proofs.Common.{◌≡◌, ℕ, nat_lt, ◌&&◌, ◌||◌, Bool, true, false, cond, List, [], ◌∷◌, ◌++◌, length, is_some, flat_map, Option, Some, None, refl, sym, ap, ◌∙◌, subst, append_assoc, append-nil}
use Rattle.std.proofs.lemmas.Bool.{cond_both}
use Rattle.std.proofs.lemmas.List.Concat.{flat_map-append}
use Rattle.block_layout.specs.declared.place.Loc.{Loc}
use Rattle.upc_values.specs.declared.scalar.Scalar.{Scalar}
use Rattle.upc_values.specs.declared.action.Action.{Action}
use Rattle.upc_values.specs.declared.action.Action.TheVariants.{Read, Write, Print}
use Rattle.upc_values.specs.declared.action.Reply.{Reply}
use Rattle.upc_values.specs.declared.action.Reply.TheVariants.{Done, Value, Flag, Refused}
use Rattle.upc_values.specs.declared.record.Item.{Item}
use Rattle.upc_values.specs.declared.record.Item.TheVariants.{Did, Stall}
use Rattle.upc_values.specs.declared.journal.Entry.{Entry}
use Rattle.upc_values.specs.Scalars.{same_loc}
use Rattle.upc_values.specs.Operations.{Cell, Operation, accesses_of, accesses}
use Rattle.upc_values.specs.Drain.{Commit, commit_of, Walk, emptied, oldest_out, with_room, stored, passed, pending_value, changed, with_read, combined, put_pending, looked_up, stepped, or_else, written, entry_of}
use Rattle.upc_values.specs.Lists.{Each}
use Rattle.upc_values.specs.Consistent.{same_place, conflict}
use Rattle.upc_values.proofs.Sameness.{same_loc-true, same_loc-other}
use Rattle.upc_values.proofs.Membership.{each-append, each-weaker}

-- the operations of commits, end to end
abbrev pub ops : List Commit → List Operation
ops cs = flat_map (λ c. c.operations) cs

abbrev pub all_ops : Walk → List Operation
all_ops w = ops w.emitted ++ ops w.pending

-- new is old with more put in, and what stands after that does not conflict with it
pub record Grows (old more new : List Operation) : Type 0 where
  pub front : List Operation
  pub back : List Operation
  pub was : old ≡ front ++ back
  pub is : new ≡ front ++ (more ++ back)
  pub apart : Each (λ a. Each (λ b. conflict a b ≡ false) back) more

-- a relaxed operation on another cell
abbrev pub Elsewhere : Loc → Operation → Type 0
Elsewhere l o = (o.strict ≡ false) × (k : Loc) × (o.place ≡ Cell k) × (same_loc k l ≡ false)

-- a pending commit: a relaxed write, and relaxed operations on its cell
pub record IsPending (c : Commit) : Type 0 where
  pub loc : Loc
  pub value : Scalar
  pub is : c.entry.action ≡ Write false loc value
  pub here : Each (λ o. (o.strict ≡ false) × (o.place ≡ Cell loc)) c.operations

or_none : (a b : Option Scalar) → or_else a b ≡ None → (a ≡ None) × (b ≡ None)
or_none (Some v) b h = cc
or_none None b h = (refl, h)

cond-none : (b : Bool) (v : Scalar) → cond b (Some v) None ≡ None → b ≡ false
cond-none true v h = cc
cond-none false v h = refl

elsewhere : (l : Loc) (c : Commit) → IsPending c → written l c.entry.action ≡ None → Each (Elsewhere l) c.operations
elsewhere l c p h =
    let k : same_loc p.loc l ≡ false = cond-none (same_loc p.loc l) p.value (sym (ap (written l) p.is) ∙ h) in
    each-weaker (λ o. (o.strict ≡ false) × (o.place ≡ Cell p.loc)) (Elsewhere l) (λ o q. (q.0, p.loc, q.1, k)) c.operations p.here

-- where no pending write has the cell, all pending operations are elsewhere
pub all-elsewhere : (l : Loc) (cs : List Commit) → Each IsPending cs → pending_value l cs ≡ None → Each (Elsewhere l) (ops cs)
all-elsewhere l [] p h = tt
all-elsewhere l (c ∷ cs) p h =
    let k = or_none (pending_value l cs) (written l c.entry.action) h in
    each-append (Elsewhere l) c.operations (ops cs) (elsewhere l c p.0 k.1) (all-elsewhere l cs p.1 k.0)

-- where more joins the pending write of the cell
pub record Splits (l : Loc) (f : Commit → Commit) (more : List Operation) (cs : List Commit) : Type 0 where
  pub front : List Operation
  pub back : List Operation
  pub was : ops cs ≡ front ++ back
  pub is : ops (changed l f cs) ≡ front ++ (more ++ back)
  pub behind : Each (Elsewhere l) back

pub splits : (l : Loc) (f : Commit → Commit) (more : List Operation) → ((c : Commit) → (f c).operations ≡ c.operations ++ more) → (v : Scalar) (cs : List Commit) → Each IsPending cs → pending_value l cs ≡ Some v → Splits l f more cs
splits l f more fm v [] p h = cc
splits l f more fm v (c ∷ cs) p h =
    let P : Option Scalar → Type 0 = λ o. pending_value l cs ≡ o → Splits l f more (c ∷ cs) in
    let go : (o : Option Scalar) → P o =
    λ o. elim o as P [
      | Some u ↦ λ q.
          let s = splits l f more fm u cs p.1 q in
          record {
            front = c.operations ++ s.front;
            back = s.back;
            was = ap (λ z. c.operations ++ z) s.was ∙ sym (append_assoc c.operations s.front s.back);
            is =
                ap (λ o. ops (cond (is_some o) (c ∷ changed l f cs) (f c ∷ cs))) q
                ∙ ap (λ z. c.operations ++ z) s.is ∙ sym (append_assoc c.operations s.front (more ++ s.back));
            behind = s.behind;
          }
      | None ↦ λ q.
          record {
            front = c.operations;
            back = ops cs;
            was = refl;
            is =
                ap (λ o. ops (cond (is_some o) (c ∷ changed l f cs) (f c ∷ cs))) q
                ∙ ap (λ z. z ++ ops cs) (fm c) ∙ append_assoc c.operations more (ops cs);
            behind = all-elsewhere l cs p.1 q;
          }
    ] in
    go (pending_value l cs) refl

abbrev pub IsHere : Loc → Operation → Type 0
IsHere l o = (o.strict ≡ false) × (o.place ≡ Cell l)

cond-some : (b : Bool) (v u : Scalar) → cond b (Some v) None ≡ Some u → b ≡ true
cond-some true v u h = refl
cond-some false v u h = cc

-- the commit is one of that cell
pub same-cell : (l : Loc) (v : Scalar) (c : Commit) (p : IsPending c) → written l c.entry.action ≡ Some v → p.loc ≡ l
same-cell l v c p k = same_loc-true p.loc l (cond-some (same_loc p.loc l) p.value v (sym (ap (written l) p.is) ∙ k))

-- what holds of each commit holds after a change that keeps it
pub each-changed : (l : Loc) (f : Commit → Commit) (P Q : Commit → Type 0) → ((c : Commit) → P c → Q c) → ((c : Commit) (v : Scalar) → written l c.entry.action ≡ Some v → P c → Q (f c)) → (cs : List Commit) (v : Scalar) → pending_value l cs ≡ Some v → Each P cs → Each Q (changed l f cs)
each-changed l f P Q g k [] v e h = tt
each-changed l f P Q g k (c ∷ cs) v e h =
    let R : Option Scalar → Type 0 =
    λ o. pending_value l cs ≡ o → or_else o (written l c.entry.action) ≡ Some v →
    Each Q (cond (is_some o) (c ∷ changed l f cs) (f c ∷ cs)) in
    let go : (o : Option Scalar) → R o =
    λ o. elim o as R [
      | Some u ↦ λ q r. (g c h.0, each-changed l f P Q g k cs u q h.1)
      | None ↦ λ q r. (k c v r h.0, each-weaker P Q g cs h.1)
    ] in
    go (pending_value l cs) refl e

pub read-pending : (l : Loc) (e : Entry) → Each (IsHere l) (accesses e) → (c : Commit) (v : Scalar) → written l c.entry.action ≡ Some v → IsPending c → IsPending (with_read e c)
read-pending l e r c v w p =
    record {
      loc = p.loc;
      value = p.value;
      is = p.is;
      here =
          each-append (IsHere p.loc) c.operations (accesses e) p.here (subst (λ z. Each (IsHere z) (accesses e)) (sym (same-cell l v c p w)) r);
    }

pub write-pending : (l : Loc) (u : Scalar) (e : Entry) → e.action ≡ Write false l u → Each (IsHere l) (accesses e) → (c : Commit) (v : Scalar) → written l c.entry.action ≡ Some v → IsPending c → IsPending (combined e c)
write-pending l u e a r c v w p =
    record {
      loc = l;
      value = u;
      is = a;
      here =
          each-append (IsHere l) c.operations (accesses e) (subst (λ z. Each (IsHere z) c.operations) (same-cell l v c p w) p.here) r;
    }

-- an operation at a cell, relaxed, and one elsewhere do not conflict
no-conflict : (l : Loc) (a b : Operation) → IsHere l a → Elsewhere l b → conflict a b ≡ false
no-conflict l a b h e =
    let one : (a.strict || b.strict) ≡ false = ap (λ z. z || b.strict) h.0 ∙ e.0 in
    let two : same_loc l e.1 ≡ false = same_loc-other l e.1 e.3 in
    let three : same_place a.place b.place ≡ false = ap (λ z. same_place z b.place) h.1 ∙ ap (same_place (Cell l)) e.2 ∙ two in
    ap (λ z. z || (same_place a.place b.place && (a.write || b.write))) one ∙ ap (λ z. z && (a.write || b.write)) three

apart-here : (l : Loc) (more back : List Operation) → Each (IsHere l) more → Each (Elsewhere l) back → Each (λ a. Each (λ b. conflict a b ≡ false) back) more
apart-here l more back h e =
    each-weaker (IsHere l) (λ a. Each (λ b. conflict a b ≡ false) back)
    (λ a k. each-weaker (Elsewhere l) (λ b. conflict a b ≡ false) (λ b q. no-conflict l a b k q) back e) more h

apart-none : (more : List Operation) → Each (λ a. Each (λ b. conflict a b ≡ false) []) more
apart-none [] = tt
apart-none (x ∷ more) = (tt, apart-none more)

pub relaxed-reads : (t n : ℕ) (l : Loc) (r : Reply) → Each (IsHere l) (accesses_of t n (Read l false) r)
relaxed-reads t n l (Value v) = ((refl, refl), tt)
relaxed-reads t n l Done = tt
relaxed-reads t n l (Flag b) = tt
relaxed-reads t n l (Refused c) = tt

pub relaxed-write : (t n : ℕ) (l : Loc) (v : Scalar) (r : Reply) → Each (IsHere l) (accesses_of t n (Write false l v) r)
relaxed-write t n l v (Value u) = ((refl, refl), tt)
relaxed-write t n l v Done = ((refl, refl), tt)
relaxed-write t n l v (Flag b) = ((refl, refl), tt)
relaxed-write t n l v (Refused c) = tt

no-prints : (t n : ℕ) (x : List ℕ) (r : Reply) → accesses_of t n (Print x) r ≡ []
no-prints t n x (Value u) = refl
no-prints t n x Done = refl
no-prints t n x (Flag b) = refl
no-prints t n x (Refused c) = refl

ops-push : (cs : List Commit) (e : Entry) → ops (cs ++ commit_of e ∷ []) ≡ ops cs ++ accesses e
ops-push cs e =
    flat_map-append (λ c. c.operations) cs (commit_of e ∷ []) ∙ ap (λ z. ops cs ++ z) (append-nil (accesses e))

grows-passed : (e : Entry) (w : Walk) → Each (λ a. Each (λ b. conflict a b ≡ false) (ops w.pending)) (accesses e) → Grows (all_ops w) (accesses e) (all_ops (passed e w))
grows-passed e w h =
    record {
      front = ops w.emitted;
      back = ops w.pending;
      was = refl;
      is = ap (λ z. z ++ ops w.pending) (ops-push w.emitted e) ∙ append_assoc (ops w.emitted) (accesses e) (ops w.pending);
      apart = h;
    }

grows-stored : (e : Entry) (w : Walk) → Grows (all_ops w) (accesses e) (all_ops (stored e w))
grows-stored e w =
    record {
      front = all_ops w;
      back = [];
      was = sym (append-nil (all_ops w));
      is =
          ap (λ z. ops w.emitted ++ z) (ops-push w.pending e) ∙ sym (append_assoc (ops w.emitted) (ops w.pending) (accesses e))
          ∙ ap (λ z. all_ops w ++ z) (sym (append-nil (accesses e)));
      apart = apart-none (accesses e);
    }

pub ops-emptied : (w : Walk) → all_ops (emptied w) ≡ all_ops w
ops-emptied w = append-nil (ops (w.emitted ++ w.pending)) ∙ flat_map-append (λ c. c.operations) w.emitted w.pending

ops-oldest_out : (w : Walk) (cs : List Commit) → cs ≡ w.pending → all_ops (oldest_out cs w) ≡ all_ops w
ops-oldest_out w [] h = refl
ops-oldest_out w (c ∷ cs) h =
    ap (λ z. z ++ ops cs) (flat_map-append (λ c. c.operations) w.emitted (c ∷ []))
    ∙ ap (λ z. (ops w.emitted ++ z) ++ ops cs) (append-nil c.operations)
    ∙ append_assoc (ops w.emitted) c.operations (ops cs) ∙ ap (λ z. ops w.emitted ++ ops z) h

ops-with_room : (w : Walk) → all_ops (with_room w) ≡ all_ops w
ops-with_room w =
    cond_both (nat_lt (length w.pending) 64) w (oldest_out w.pending w) (λ z. all_ops z ≡ all_ops w) (λ e. refl)
    (λ e. ops-oldest_out w w.pending refl)

grows-changed : (l : Loc) (f : Commit → Commit) (more : List Operation) → ((c : Commit) → (f c).operations ≡ c.operations ++ more) → (w : Walk) → Each IsPending w.pending → (v : Scalar) → pending_value l w.pending ≡ Some v → Each (IsHere l) more → (w' : Walk) → all_ops w' ≡ ops w.emitted ++ ops (changed l f w.pending) → Grows (all_ops w) more (all_ops w')
grows-changed l f more fm w p v h m w' q =
    let s = splits l f more fm v w.pending p h in
    record {
      front = ops w.emitted ++ s.front;
      back = s.back;
      was = ap (λ z. ops w.emitted ++ z) s.was ∙ sym (append_assoc (ops w.emitted) s.front s.back);
      is = q ∙ ap (λ z. ops w.emitted ++ z) s.is ∙ sym (append_assoc (ops w.emitted) s.front (more ++ s.back));
      apart = apart-here l more s.back m s.behind;
    }

grows-looked_up : (l : Loc) (t n : ℕ) (r : Reply) (w : Walk) → Each IsPending w.pending → (o : Option Scalar) → pending_value l w.pending ≡ o → Grows (all_ops w) (accesses_of t n (Read l false) r) (all_ops (looked_up l (entry_of t n (Read l false) r) o w))
grows-looked_up l t n r w p None h =
    grows-passed (entry_of t n (Read l false) r) w
    (apart-here l (accesses_of t n (Read l false) r) (ops w.pending) (relaxed-reads t n l r) (all-elsewhere l w.pending p h))
grows-looked_up l t n r w p (Some v) h =
    let e = entry_of t n (Read l false) r in
    grows-changed l (with_read e) (accesses e) (λ c. refl) w p v h (relaxed-reads t n l r) (looked_up l e (Some v) w) refl

grows-put : (l : Loc) (u : Scalar) (t n : ℕ) (r : Reply) (w : Walk) → Each IsPending w.pending → (o : Option Scalar) → pending_value l w.pending ≡ o → Grows (all_ops w) (accesses_of t n (Write false l u) r) (all_ops (put_pending l (entry_of t n (Write false l u) r) o w))
grows-put l u t n r w p None h =
    subst (λ z. Grows z (accesses_of t n (Write false l u) r) (all_ops (stored (entry_of t n (Write false l u) r) (with_room w))))
    (ops-with_room w) (grows-stored (entry_of t n (Write false l u) r) (with_room w))
grows-put l u t n r w p (Some v) h =
    let e = entry_of t n (Write false l u) r in
    grows-changed l (combined e) (accesses e) (λ c. refl) w p v h (relaxed-write t n l u r) (put_pending l e (Some v) w) refl

-- the accesses of an item that is the next
abbrev pub item_ops : ℕ → ℕ → Item → List Operation
item_ops t n Stall = []
item_ops t n (Did a r) = accesses_of t n a r

grows-strict : (t : ℕ) (w : Walk) (a : Action) (r : Reply) → Grows (all_ops w) (accesses_of t w.next a r) (all_ops (passed (entry_of t w.next a r) (emptied w)))
grows-strict t w a r =
    subst (λ z. Grows z (accesses_of t w.next a r) (all_ops (passed (entry_of t w.next a r) (emptied w)))) (ops-emptied w)
    (grows-passed (entry_of t w.next a r) (emptied w) (apart-none (accesses_of t w.next a r)))

pub grows-stepped : (t : ℕ) (w : Walk) (x : Item) → Each IsPending w.pending → Grows (all_ops w) (item_ops t w.next x) (all_ops (stepped t w x))
grows-stepped t w Stall p =
    record { front = all_ops w; back = []; was = sym (append-nil (all_ops w)); is = ops-emptied w ∙ sym (append-nil (all_ops w)); apart = tt }
grows-stepped t w (Did (Write false l v) r) p = grows-put l v t w.next r w p (pending_value l w.pending) refl
grows-stepped t w (Did (Read l false) r) p = grows-looked_up l t w.next r w p (pending_value l w.pending) refl
grows-stepped t w (Did (Print x) r) p =
    grows-passed (entry_of t w.next (Print x) r) w
    (subst (Each (λ a. Each (λ b. conflict a b ≡ false) (ops w.pending))) (sym (no-prints t w.next x r)) tt)
grows-stepped t w (Did x r) p = grows-strict t w x r

pending-oldest_out : (w : Walk) (cs : List Commit) → Each IsPending cs → Each IsPending w.pending → Each IsPending (oldest_out cs w).pending
pending-oldest_out w [] h p = p
pending-oldest_out w (c ∷ cs) h p = h.1

pending-with_room : (w : Walk) → Each IsPending w.pending → Each IsPending (with_room w).pending
pending-with_room w p =
    cond_both (nat_lt (length w.pending) 64) w (oldest_out w.pending w) (λ z. Each IsPending z.pending) (λ e. p)
    (λ e. pending-oldest_out w w.pending p p)

pending-looked_up : (l : Loc) (t n : ℕ) (r : Reply) (w : Walk) → Each IsPending w.pending → (o : Option Scalar) → pending_value l w.pending ≡ o → Each IsPending (looked_up l (entry_of t n (Read l false) r) o w).pending
pending-looked_up l t n r w p None h = p
pending-looked_up l t n r w p (Some v) h =
    let e = entry_of t n (Read l false) r in
    each-changed l (with_read e) IsPending IsPending (λ c q. q) (read-pending l e (relaxed-reads t n l r)) w.pending v h p

pending-put : (l : Loc) (u : Scalar) (t n : ℕ) (r : Reply) (w : Walk) → Each IsPending w.pending → (o : Option Scalar) → pending_value l w.pending ≡ o → Each IsPending (put_pending l (entry_of t n (Write false l u) r) o w).pending
pending-put l u t n r w p None h =
    each-append IsPending (with_room w).pending (commit_of (entry_of t n (Write false l u) r) ∷ []) (pending-with_room w p)
    (record { loc = l; value = u; is = refl; here = relaxed-write t n l u r }, tt)
pending-put l u t n r w p (Some v) h =
    let e = entry_of t n (Write false l u) r in
    each-changed l (combined e) IsPending IsPending (λ c q. q) (write-pending l u e refl (relaxed-write t n l u r)) w.pending v h p

pub pending-stepped : (t : ℕ) (w : Walk) (x : Item) → Each IsPending w.pending → Each IsPending (stepped t w x).pending
pending-stepped t w Stall p = tt
pending-stepped t w (Did (Write false l v) r) p = pending-put l v t w.next r w p (pending_value l w.pending) refl
pending-stepped t w (Did (Read l false) r) p = pending-looked_up l t w.next r w p (pending_value l w.pending) refl
pending-stepped t w (Did (Print x) r) p = p
pending-stepped t w (Did x r) p = tt
