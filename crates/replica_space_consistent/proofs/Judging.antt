-- The orders of every run are consistent.
use Rattle.std.proofs.Common.{◌≡◌, ◌≢◌, ℕ, ◌<◌, ◌==◌, ◌||◌, true, List, [], ◌∷◌, ◌++◌, length, refl, sym, ap, ◌∙◌, subst, inl, inr, eq-eqb}
use Rattle.std.proofs.lemmas.Bool.{cases_order, or_left}
use Rattle.block_layout.specs.declared.place.Loc.{Loc}
use Rattle.upc_values.specs.declared.scalar.Scalar.{Scalar}
use Rattle.upc_values.specs.Drain.{entries_of}
use Rattle.upc_values.specs.Lists.{Has, Pairwise}
use Rattle.upc_values.specs.Openings.{Opening}
use Rattle.upc_values.specs.Operations.{Operation, access, accesses_of, operations_by}
use Rattle.upc_values.specs.Orders.{is_shown, rank, name_of}
use Rattle.upc_values.specs.Consistent.{begins, IsOrderOf, IsConsistent, KeepsProgram}
use Rattle.upc_values.proofs.Consistency.{or_turn}
use Rattle.upc_values.proofs.Membership.{each-has, has-cases, has-filter, filter-has, pairs-from, pairs-weaker, precedes-total}
use Rattle.upc_verify_orders.specs.Strict.{StrictBy, As_listed, As_written, Through}
use Rattle.upc_verify_orders.proofs.Below.{by-thread}
use Rattle.upc_verify_orders.proofs.Reaching.{StrictOf, same-name}
use Rattle.upc_verify_orders.proofs.Rising.{not-itself}
use Rattle.replica_space.specs.declared.event.Event.{Event}
use Rattle.replica_space.specs.declared.event.Deed.{Deed}
use Rattle.replica_space.specs.declared.event.Deed.TheVariants.{Did, Delivered}
use Rattle.replica_space.specs.Events.{history_in}
use Rattle.replica_space.specs.Runs.{IsReplicaRun, IsReplicaRunFrom}
use Rattle.replica_space.specs.ReplicaOrders.{Placed, operations, operations_in, listed_after, with_all_mail, replica_order, replica_strict_list}
use Rattle.replica_space_lists.proofs.Putting.{operations-has}
use Rattle.replica_space_lists.proofs.Running.{kept}
use Rattle.replica_space_consistent.specs.Consistent.{IsIn, OrdersAreConsistent}
use Rattle.replica_space_consistent.proofs.Ending.{Whole, ended}
use Rattle.replica_space_consistent.proofs.Leading.{Before, pairs-operation, one-member, StrictPairs, strict-pairs, agrees}

-- ---- the threads of the operations

below : (o : Opening) (before es : List Event) → IsReplicaRunFrom o before es → (x : Operation) → Has (operations_in es) x → x.thread < o.threads
below o before [] r x h = absurd h
below o before (e ∷ es) r x h = go e.deed h (λ w. below o (before ++ e ∷ []) es r.2 x w)
  where
    go : (d : Deed) → Has (operations_in (record { by = e.by; deed = d } ∷ es)) x → (Has (operations_in es) x → x.thread < o.threads) → x.thread < o.threads
    go (Did i a y) w rest =
        elim (has-cases (accesses_of e.by i a y) (operations_in es) x w) [
          | inl k ↦ subst (λ z. z < o.threads) (sym (each-has (λ z. z.thread ≡ e.by) (operations_by e.by i (access a y)) (by-thread e.by i (access a y)) x k)) r.0
          | inr k ↦ rest k
        ]
    go (Delivered to from) w rest = rest w

-- ---- a run

module _ (o : Opening) (es : List Event) (run : IsReplicaRun o es) where
  abbrev n : ℕ
  n = o.threads

  abbrev ops : List Operation
  ops = operations_in es

  abbrev initial : Loc → Scalar
  initial = begins o (history_in es)

  abbrev list : ℕ → List Placed
  list t = with_all_mail n ((listed_after n es).space.mail t) ((listed_after n es).lists t)

  whole-list : (t : ℕ) → t < n → Whole t initial ops (list t)
  whole-list t lt =
      let k = (kept o es run).threads t lt in
      ended n t k.base initial ops (λ u. length (entries_of u (history_in es))) ((listed_after n es).space.mail t) ((listed_after n es).lists t) k.splits k.names

  pairs : (t : ℕ) → t < n → Pairwise (Before t) (operations (list t))
  pairs t lt = pairs-operation t (list t) (whole-list t lt).order

  of : (t : ℕ) (lt : t < n) (x : Operation) → Has (operations (list t)) x → IsIn es x × (is_shown t x ≡ true)
  of t lt x w =
      let k = operations-has (list t) x w in
      subst (λ z. IsIn es z × (is_shown t z ≡ true)) k.is ((whole-list t lt).of k.member k.has)

  own : (x : Operation) → IsIn es x → Has (operations (list x.thread)) x
  own x w =
      (whole-list x.thread (below o [] es run x w)).has x w
      (or_left (x.thread == x.thread) (x.write || x.strict) (eq-eqb x.thread x.thread refl))

  one : (a b : Operation) → IsIn es a → IsIn es b → name_of a ≡ name_of b → a ≡ b
  one a b x y e =
      one-member a.thread (operations (list a.thread)) (pairs a.thread (below o [] es run a x)) a b (own a x)
      (subst (λ t. Has (operations (list t)) b) (sym (ap (λ z. z.thread) e)) (own b y)) e

  -- ---- the strict list

  abbrev strict : List Operation
  strict = replica_strict_list es

  pairs-by : (t : ℕ) → t < n → StrictPairs strict
  pairs-by t lt = subst StrictPairs (whole-list t lt).strict (strict-pairs t (operations (list t)) (pairs t lt))

  strict-so : StrictPairs strict
  strict-so = go es refl run
    where
      go : (fs : List Event) → es ≡ fs → IsReplicaRunFrom o [] fs → StrictPairs strict
      go [] e r = subst (λ (l : List Event). StrictPairs (replica_strict_list l)) (sym e) (record { once = tt; kept = tt })
      go (f ∷ fs) e r = pairs-by f.by r.0

  whole : IsOrderOf (StrictOf (IsIn es)) strict
  whole = record {
    has = λ x w. has-filter (λ z. z.strict) ops x w.1 w.0;
    only = λ x w. filter-has (λ z. z.strict) ops x w;
    once = strict-so.once;
  }

  consistent : IsConsistent initial n (IsIn es) (StrictBy (IsIn es) strict) (replica_order n es)
  consistent = record {
    irreflexive = not-itself (IsIn es) strict whole strict-so.kept;
    transitive = λ a b c p q. Through a b c p q;
    total = λ t lt.
        record {
          has = λ x w. (whole-list t lt).has x w.0 w.1;
          only = of t lt;
          once = pairs-weaker (Before t) (λ a b. name_of a ≢ name_of b) (λ a b k. k.0) (operations (list t)) (pairs t lt);
        };
    relates_strict = λ a b x y ne s t.
        elim (precedes-total strict a b ne (whole.has a (x, s)) (whole.has b (y, t))) [
          | inl p ↦ inl (As_listed a b p)
          | inr p ↦ inr (As_listed b a p)
        ];
    relates_program = λ a b x y ne e s.
        elim (cases_order (rank a) (rank b)) [
          | inl r ↦ absurd (ne (one a b x y (same-name a b e r)))
          | inr q ↦ elim q [
            | inl h ↦ inl (As_written a b x y (e, s, h))
            | inr h ↦ inr (As_written b a y x (sym e, or_turn a.strict b.strict s, h))
          ]
        ];
    values = λ t lt. (whole-list t lt).reads;
    program = λ t lt.
        pairs-weaker (Before t) (KeepsProgram t) (λ a b k x y c. k.1 (x ∙ sym y) (inl x)) (operations (list t)) (pairs t lt);
    agrees = λ t lt.
        pairs-from (λ a b. StrictBy (IsIn es) strict b a → ⊥) (operations (list t))
        (λ a b p c.
        agrees (IsIn es) strict whole strict-so.kept one t (operations (list t)) (pairs t lt) (whole-list t lt).strict (λ x w. (of t lt x w).0) a b p c);
  }

pub are-consistent : OrdersAreConsistent
are-consistent o es run = record { whole = whole o es run; consistent = consistent o es run }
