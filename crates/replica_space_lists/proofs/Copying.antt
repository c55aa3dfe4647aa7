-- A thread's copy has the last writes of its list.
use Rattle.std.proofs.Common.{◌≡◌, ℕ, ◌<◌, ◌≤◌, ◌&&◌, Bool, true, false, cond, List, [], ◌∷◌, ◌++◌, Option, Some, None, refl, sym, ap, ◌∙◌, subst, inl, inr, arith}
use Rattle.std.proofs.lemmas.Bool.{false≢true, cond-false}
use Rattle.block_layout.specs.declared.place.Loc.{Loc}
use Rattle.upc_values.specs.declared.scalar.Scalar.{Scalar}
use Rattle.upc_values.specs.Scalars.{same_loc, zero, value_or}
use Rattle.upc_values.specs.Drain.{or_else}
use Rattle.upc_values.specs.Lists.{Has, Pairwise}
use Rattle.upc_values.specs.Operations.{Cell, Sync, write_at}
use Rattle.upc_values.specs.Consistent.{last_write}
use Rattle.upc_values.proofs.Membership.{has-cases, precedes-has, pairs-from}
use Rattle.upc_values.proofs.Values.{last_write-append}
use Rattle.replica_space.specs.declared.message.Message.{Message}
use Rattle.replica_space.specs.Spaces.{Space, is_later, with_message, with_mail}
use Rattle.replica_space.specs.ReplicaOrders.{Placed, placed, is_write_of, operations}
use Rattle.replica_space_lists.specs.layer.Keeping.{StandByStamps, told_or, last_told, told}
use Rattle.replica_space_lists.proofs.Stamps.{lower-upto}
use Rattle.replica_space_lists.proofs.Putting.{one_told, last_told-append, pairs-join, Puts, has-was, stamps-put, told-put}
use Rattle.replica_space_lists.proofs.Splitting.{operations-append, IsRelaxed}

abbrev pub IsZero : Option Scalar → Type 0
IsZero o = value_or o zero ≡ zero

pub record Copied (n t base : ℕ) (s : Space) (list : List Placed) : Type 0 where
  pub high : (l : Loc) (x : Placed) → Has list x → is_write_of l x ≡ true → x.stamp.clock ≤ s.clock t
  pub floor : (u : ℕ) → u < n → base ≤ s.clock u
  pub stamps : Pairwise StandByStamps list
  pub last : (l : Loc) → told (s.copy t l) ≡ last_told l list
  pub sync : IsZero (last_write Sync (operations list))

-- the write of a message, strict or relaxed
abbrev pub written : Message → Bool → Placed
written m strict = placed m.stamp (write_at m.stamp.thread m.index (Cell m.loc) strict m.value)

none-told : (l : Loc) (xs : List Placed) → ((x : Placed) → Has xs x → is_write_of l x ≡ false) → last_told l xs ≡ None
none-told l [] h = refl
none-told l (x ∷ xs) h =
    ap (λ z. told_or z (one_told l x)) (none-told l xs (λ y w. h y (inr w)))
    ∙ cond-false (is_write_of l x) (Some (record { stamp = x.stamp; value = x.operation.value })) None (h x (inl refl))

module _ (n t base : ℕ) (s : Space) (list : List Placed) (h : Copied n t base s list) (top : ℕ) (next : Space)
    (floor : (u : ℕ) → u < n → top ≤ next.clock u) (grows : s.clock t ≤ next.clock t) where
  -- the list stays, and so does the copy
  pub copied-same : ((l : Loc) → next.copy t l ≡ s.copy t l) → Copied n t top next list
  copied-same same = record {
    high = λ l x w e. let a = h.high l x w e in omega arith;
    floor = floor;
    stamps = h.stamps;
    last = λ l. ap told (same l) ∙ h.last l;
    sync = h.sync;
  }

  -- members that write no location
  pub copied-quiet : (new : List Placed) → ((l : Loc) (x : Placed) → Has new x → is_write_of l x ≡ false)
      → ((o : Option Scalar) → IsZero o → IsZero (or_else (last_write Sync (operations new)) o))
      → ((l : Loc) → next.copy t l ≡ s.copy t l) → Copied n t top next (list ++ new)
  copied-quiet new none zeros same = record {
    high = λ l x w e. elim (has-cases list new x w) [
      | inl o ↦ let a = h.high l x o e in omega arith
      | inr o ↦ absurd (false≢true (sym (none l x o) ∙ e))
    ];
    floor = floor;
    stamps = pairs-join StandByStamps list new h.stamps
        (pairs-from StandByStamps new (λ a b p l e f. absurd (false≢true (sym (none l a (precedes-has new a b p).0) ∙ e))))
        (λ a b p q l e f. absurd (false≢true (sym (none l b q) ∙ f)));
    last = λ l. ap told (same l) ∙ h.last l ∙ sym (last_told-append l list new ∙ ap (λ z. told_or z (last_told l list)) (none-told l new (none l)));
    sync = subst IsZero (sym (ap (last_write Sync) (operations-append list new) ∙ last_write-append Sync (operations list) (operations new))) (zeros (last_write Sync (operations list)) h.sync);
  }

  -- a new write of a location, with a greater clock
  pub copied-write : (m : Message) (strict : Bool) → s.clock t < m.stamp.clock → m.stamp.clock ≤ next.clock t
      → ((l : Loc) → next.copy t l ≡ with_message m l (s.copy t l))
      → Copied n t top next (list ++ written m strict ∷ [])
  copied-write m strict over under is = record {
    high = λ l x w e. elim (has-cases list (written m strict ∷ []) x w) [
      | inl o ↦ let a = h.high l x o e in omega arith
      | inr o ↦ elim o [ inl q ↦ subst (λ (z : Placed). z.stamp.clock ≤ next.clock t) q under | inr z ↦ absurd z ]
    ];
    floor = floor;
    stamps = pairs-join StandByStamps list (written m strict ∷ []) h.stamps (tt, tt)
        (λ a b p q l e f.
        elim q [
          | inl i ↦ subst (λ (z : Placed). is_later a.stamp z.stamp ≡ false) i (lower-upto a.stamp m.stamp (let x = h.high l a p e in omega arith))
          | inr z ↦ absurd z
        ]);
    last = λ l. ap told (is l) ∙ agrees l (same_loc m.loc l) refl ∙ sym (last_told-append l list (written m strict ∷ []));
    sync = subst IsZero (sym (ap (last_write Sync) (operations-append list (written m strict ∷ [])) ∙ last_write-append Sync (operations list) (operations (written m strict ∷ [])))) h.sync;
  }
    where
      agrees : (l : Loc) (b : Bool) → same_loc m.loc l ≡ b → told (with_message m l (s.copy t l)) ≡ told_or (last_told l (written m strict ∷ [])) (last_told l list)
      agrees l true e =
          ap (λ b. told (cond b (Some m) (s.copy t l))) e
          ∙ sym (ap (λ b. told_or (told_or None (cond (true && b) (Some (record { stamp = m.stamp; value = m.value })) None)) (last_told l list)) e)
      agrees l false e =
          ap (λ b. told (cond b (Some m) (s.copy t l))) e ∙ h.last l
          ∙ sym (ap (λ b. told_or (told_or None (cond (true && b) (Some (record { stamp = m.stamp; value = m.value })) None)) (last_told l list)) e)

  -- a message comes
  pub copied-put : (m : Message) (new : List Placed) (p : Puts m IsRelaxed list new) → m.stamp.clock ≤ next.clock t
      → last_write Sync (operations new) ≡ last_write Sync (operations list)
      → ((l : Loc) → next.copy t l ≡ with_mail m l (s.copy t l)) → Copied n t top next new
  copied-put m new p under syncs is = record {
    high = λ l x w e. elim (has-was m IsRelaxed list new p x w) [
      | inl q ↦ subst (λ (z : Placed). z.stamp.clock ≤ next.clock t) q under
      | inr o ↦ let a = h.high l x o e in omega arith
    ];
    floor = floor;
    stamps = stamps-put m IsRelaxed list new p h.stamps;
    last = λ l. ap told (is l) ∙ told-put m IsRelaxed list new p h.stamps l (s.copy t l) (h.last l);
    sync = subst IsZero (sym syncs) h.sync;
  }
