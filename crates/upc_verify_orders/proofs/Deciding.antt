-- Given orders hold just where the walks find that they do.
use Rattle.std.proofs.Common.{◌≡◌, ◌≢◌, Option, Some, None, ℕ, ◌<◌, ◌≤◌, true, List, [], length, map, refl, sym, ap, ◌∙◌, subst, inl, inr, ◌⊎◌, arith}
use Rattle.std.specs.Prelude.{MatchOption}
use Rattle.std.proofs.lemmas.Bool.{cases_order, cases_lt}
use Rattle.block_layout.specs.declared.place.Loc.{Loc}
use Rattle.upc_values.specs.declared.scalar.Scalar.{Scalar}
use Rattle.upc_values.specs.declared.journal.Journal.{Journal}
use Rattle.upc_values.specs.declared.order.Op.{Op}
use Rattle.upc_values.specs.declared.order.Orders.{Orders}
use Rattle.upc_values.specs.Lists.{Each, Has, Pairwise}
use Rattle.upc_values.specs.Operations.{Operation}
use Rattle.upc_values.specs.Orders.{IsOf, rank, name_of, is_shown}
use Rattle.upc_values.specs.Consistent.{IsOrderOf, ReadsLast, KeepsProgram}
use Rattle.upc_values.proofs.Membership.{each-from, pairs-at, pairs-from, precedes-has, precedes-total}
use Rattle.upc_values.proofs.Consistency.{or_turn}
use Rattle.upc_verify_orders.specs.Strict.{StrictBy, As_listed, As_written, Through}
use Rattle.upc_verify_orders.specs.Given.{GivenStrict, GivenOrder, OrderHolds, OrdersHold, OrderBreaks, AreConsistentOrders, OrdersAreConsistent, names_at}
use Rattle.upc_verify_orders.specs.code.Below.{operations_below}
use Rattle.upc_verify_orders.specs.code.Found.{taken}
use Rattle.upc_verify_orders.specs.code.Orders.{IsStrictFound, IsOrderFound, FirstBroken}
use Rattle.upc_verify_orders.specs.layer.Reach.{MayPrecede, InThread}
use Rattle.upc_verify_orders.specs.code.Tables as names
use Rattle.upc_verify_orders.proofs.Below.{all-below, below-only}
use Rattle.upc_verify_orders.proofs.Sorted.{below-sorted, one-name}
use Rattle.upc_verify_orders.proofs.Taken.{at-of, same-named}
use Rattle.upc_verify_orders.proofs.Lists.{pairs-so, pairs-back}
use Rattle.upc_verify_orders.proofs.Named.{walked-so}
use Rattle.upc_verify_orders.proofs.Reaching.{StrictOf, same-name, goes-on, exact}
use Rattle.upc_verify_orders.proofs.Rising.{not-itself, kept-of}

-- an order of one set is one of another with the same members
order-in : (S T : Operation → Type 0) → ((o : Operation) → S o → T o) → ((o : Operation) → T o → S o) → (list : List Operation) → IsOrderOf S list → IsOrderOf T list
order-in S T f g list h = record { has = λ o m. h.has o (g o m); only = λ o m. f o (h.only o m); once = h.once }

module _ (j : Journal) where
  abbrev operations : List Operation
  operations = operations_below j j.threads

  inside : (o : Operation) → IsOf j o → Has operations o
  inside o m = (all-below j o).1 m

  outside : (o : Operation) → Has operations o → IsOf j o
  outside o m = (all-below j o).0 m

  pub one : (a b : Operation) → IsOf j a → IsOf j b → name_of a ≡ name_of b → a ≡ b
  one a b x y e = one-name operations (below-sorted j j.threads) a b (inside a x) (inside b y) e

  to-set : (P : Operation → Type 0) (list : List Operation) → IsOrderOf (λ o. Has operations o × P o) list → IsOrderOf (λ o. IsOf j o × P o) list
  to-set P list h = order-in (λ o. Has operations o × P o) (λ o. IsOf j o × P o) (λ o m. (outside o m.0, m.1)) (λ o m. (inside o m.0, m.1)) list h

  from-set : (P : Operation → Type 0) (list : List Operation) → IsOrderOf (λ o. IsOf j o × P o) list → IsOrderOf (λ o. Has operations o × P o) list
  from-set P list h = order-in (λ o. IsOf j o × P o) (λ o. Has operations o × P o) (λ o m. (inside o m.0, m.1)) (λ o m. (outside o m.0, m.1)) list h

  members : (P : Operation → Type 0) (list : List Operation) → IsOrderOf (λ o. IsOf j o × P o) list → Each (Has operations) list
  members P list h = each-from (Has operations) list (λ o m. inside o (h.only o m).0)

  module _ (orders : Orders) where
    -- the strict list
    pub strict-from : IsStrictFound operations orders.strict → GivenStrict j orders
    strict-from f =
        let list = taken operations f.at in
        let whole : IsOrderOf (StrictOf (IsOf j)) list = to-set (λ o. o.strict ≡ true) list f.found.whole in
        let kept = pairs-so list (subst (Pairwise names.InThread) (sym f.found.found.named) f.kept) in
        record {
          list = list;
          named = f.found.found.named;
          whole = whole;
          irreflexive = not-itself (IsOf j) list whole kept;
        }

    pub strict-to : GivenStrict j orders → IsStrictFound operations orders.strict
    strict-to s =
        let k = at-of operations s.list (members (λ o. o.strict ≡ true) s.list s.whole) in
        record {
          at = k.0;
          found =
              record {
                found = record { within = k.1; named = ap (map name_of) k.2 ∙ s.named };
                whole = subst (IsOrderOf (λ o. Has operations o × (o.strict ≡ true))) (sym k.2) (from-set (λ o. o.strict ≡ true) s.list s.whole);
              };
          kept = subst (Pairwise names.InThread) s.named (pairs-back s.list (kept-of (IsOf j) s.list s.whole s.irreflexive));
        }

    module _ (initial : Loc → Scalar) (t : ℕ) (s : GivenStrict j orders) where
      abbrev Agrees : Operation → Operation → Type 0
      Agrees a b = StrictBy (IsOf j) s.list b a → ⊥

      kept : Pairwise InThread s.list
      kept = kept-of (IsOf j) s.list s.whole s.irreflexive

      -- the walk by names says what the strict order says
      agrees-so : (list : List Operation) → Pairwise (MayPrecede s.list) list → Pairwise Agrees list
      agrees-so list h =
          pairs-from Agrees list
          (λ a b p c.
          let g = goes-on (IsOf j) s.list s.whole kept b a c in
          let w = pairs-at (MayPrecede s.list) list h a b p in
          absurd (omega (arith, g, w)))

      agrees-back : (list : List Operation) → IsOrderOf (λ o. IsOf j o × (is_shown t o ≡ true)) list → Pairwise Agrees list → Pairwise (MayPrecede s.list) list
      agrees-back list total h =
          pairs-from (MayPrecede s.list) list
          (λ a b p.
          let m = precedes-has list a b p in
          (exact (IsOf j) s.list s.whole kept one a b (total.only a m.0).0 (total.only b m.1).0
          (λ e. pairs-at (λ c d. name_of c ≢ name_of d) list total.once a b p (ap name_of e))).1
          (pairs-at Agrees list h a b p))

      by-names : (list : List Operation) (order : List Op) → map name_of list ≡ order
          → (Pairwise (λ a b. names.reached orders.strict a ≤ names.reaches orders.strict b) order → Pairwise (MayPrecede s.list) list)
          × (Pairwise (MayPrecede s.list) list → Pairwise (λ a b. names.reached orders.strict a ≤ names.reaches orders.strict b) order)
      by-names list order e =
          walked-so s.list orders.strict list order s.named e

      pub order-from : IsOrderFound initial operations orders.strict t (names_at orders t) → GivenOrder initial j orders s.list t
      order-from f =
          let list = taken operations f.at in
          record {
            order = list;
            named = f.found.found.named;
            total = to-set (λ o. is_shown t o ≡ true) list f.found.whole;
            values = f.values;
            program = f.program;
            agrees = agrees-so list ((by-names list (names_at orders t) f.found.found.named).0 f.walked);
          }

      pub order-to : GivenOrder initial j orders s.list t → IsOrderFound initial operations orders.strict t (names_at orders t)
      order-to g =
          let k = at-of operations g.order (members (λ o. is_shown t o ≡ true) g.order g.total) in
          record {
            at = k.0;
            found =
                record {
                  found = record { within = k.1; named = ap (map name_of) k.2 ∙ g.named };
                  whole = subst (IsOrderOf (λ o. Has operations o × (is_shown t o ≡ true))) (sym k.2) (from-set (λ o. is_shown t o ≡ true) g.order g.total);
                };
            values = subst (ReadsLast initial) (sym k.2) g.values;
            program = subst (Pairwise (KeepsProgram t)) (sym k.2) g.program;
            walked = (by-names g.order (names_at orders t) g.named).1 (agrees-back g.order g.total g.agrees);
          }

    -- thread by thread
    module _ (initial : Loc → Scalar) where
      pub holds-from : IsStrictFound operations orders.strict → (t : ℕ) → IsOrderFound initial operations orders.strict t (names_at orders t) → OrderHolds initial j orders t
      holds-from f t h = (λ e. strict-from f, λ s. order-from initial t s h)

      pub holds-to : IsStrictFound operations orders.strict → (t : ℕ) → OrderHolds initial j orders t → IsOrderFound initial operations orders.strict t (names_at orders t)
      holds-to f t h = let s = strict-from f in order-to initial t s (h.1 s)

      pub breaks-first : 0 < j.threads → (IsStrictFound operations orders.strict → ⊥) → OrderBreaks initial j orders 0
      breaks-first some not =
          record {
            within = some;
            fails = λ h. not (strict-to (h.0 refl));
            before = λ u lt. absurd (omega arith);
          }

      pub breaks-at : length orders.threads ≡ j.threads → IsStrictFound operations orders.strict → (t : ℕ) → FirstBroken initial operations orders.strict orders.threads t → OrderBreaks initial j orders t
      breaks-at many f t b =
          record {
            within = subst (λ n. t < n) many b.within;
            fails = λ h. b.fails (holds-to f t h);
            before = λ u lt. holds-from f u (b.before u lt);
          }

      pub all-hold : length orders.threads ≡ j.threads → IsStrictFound operations orders.strict
          → ((t : ℕ) → t < length orders.threads → IsOrderFound initial operations orders.strict t (names_at orders t)) → OrdersHold initial j orders
      all-hold many f h = λ t lt. holds-from f t (h t (subst (λ n. t < n) (sym many) lt))

      -- what the walks over the thread orders answer is the verdict
      pub judged : (broken : Option ℕ) → length orders.threads ≡ j.threads → IsStrictFound operations orders.strict
          → MatchOption broken ((t : ℕ) → t < length orders.threads → IsOrderFound initial operations orders.strict t (names_at orders t))
          (FirstBroken initial operations orders.strict orders.threads)
          → MatchOption broken (OrdersHold initial j orders) (OrderBreaks initial j orders)
      judged None many f h = all-hold many f h
      judged (Some t) many f h = breaks-at many f t h

-- the operations are of the journal's threads
pub each-below : (j : Journal) (n : ℕ) → Each (λ o. o.thread < n) (operations_below j n)
each-below j n = each-from (λ o. o.thread < n) (operations_below j n) (λ o m. (below-only j n o m).0)

-- all together they are consistent
module _ (initial : Loc → Scalar) (j : Journal) (orders : Orders) where
  module _ (some : 0 < j.threads) (holds : OrdersHold initial j orders) where
    list : GivenStrict j orders
    list = (holds 0 some).0 refl

    chosen : (t : ℕ) → (t < j.threads) ⊎ (j.threads ≤ t) → List Operation
    chosen t (inl lt) = ((holds t lt).1 list).order
    chosen t (inr k) = []

    abbrev order : ℕ → List Operation
    order t = chosen t (cases_lt t j.threads)

    chosen-so : (P : List Operation → Type 0) (t : ℕ) → t < j.threads → ((lt : t < j.threads) → P ((holds t lt).1 list).order) → (k : (t < j.threads) ⊎ (j.threads ≤ t)) → P (chosen t k)
    unfolding chosen
    chosen-so P t lt h (inl k) = h k
    chosen-so P t lt h (inr k) = absurd (omega arith)

    consistent-from : AreConsistentOrders initial j orders
    consistent-from =
        record {
          strict = list.list;
          strict_names = list.named;
          order = order;
          order_names = λ t lt. chosen-so (λ l. map name_of l ≡ names_at orders t) t lt (λ k. ((holds t k).1 list).named) (cases_lt t j.threads);
          whole = list.whole;
          consistent =
              record {
                irreflexive = list.irreflexive;
                transitive = λ a b c p q. Through a b c p q;
                total = λ t lt. chosen-so (IsOrderOf (λ o. IsOf j o × (is_shown t o ≡ true))) t lt (λ k. ((holds t k).1 list).total) (cases_lt t j.threads);
                relates_strict = λ a b x y n s t.
                    elim (precedes-total list.list a b n (list.whole.has a (x, s)) (list.whole.has b (y, t))) [
                      | inl p ↦ inl (As_listed a b p)
                      | inr p ↦ inr (As_listed b a p)
                    ];
                relates_program = λ a b x y n e s.
                    elim (cases_order (rank a) (rank b)) [
                      | inl r ↦ absurd (n (one j a b x y (same-name a b e r)))
                      | inr q ↦ elim q [
                        | inl h ↦ inl (As_written a b x y (e, s, h))
                        | inr h ↦ inr (As_written b a y x (sym e, or_turn a.strict b.strict s, h))
                      ]
                    ];
                values = λ t lt. chosen-so (ReadsLast initial) t lt (λ k. ((holds t k).1 list).values) (cases_lt t j.threads);
                program = λ t lt. chosen-so (Pairwise (KeepsProgram t)) t lt (λ k. ((holds t k).1 list).program) (cases_lt t j.threads);
                agrees = λ t lt. chosen-so (Pairwise (λ a b. StrictBy (IsOf j) list.list b a → ⊥)) t lt (λ k. ((holds t k).1 list).agrees) (cases_lt t j.threads);
              };
        }

  module _ (c : AreConsistentOrders initial j orders) where
    consistent-strict : GivenStrict j orders
    consistent-strict =
        record {
          list = c.strict;
          named = c.strict_names;
          whole = c.whole;
          irreflexive = c.consistent.irreflexive;
        }

    consistent-to : OrdersHold initial j orders
    consistent-to = λ t lt. (
      λ e. consistent-strict,
      λ s.
          let same : c.strict ≡ s.list =
          same-named name_of (IsOf j) (one j) c.strict s.list (each-from (IsOf j) c.strict (λ o m. (c.whole.only o m).0))
          (each-from (IsOf j) s.list (λ o m. (s.whole.only o m).0)) (c.strict_names ∙ sym s.named) in
          record {
            order = c.order t;
            named = c.order_names t lt;
            total = c.consistent.total t lt;
            values = c.consistent.values t lt;
            program = c.consistent.program t lt;
            agrees = subst (λ (l : List Operation). Pairwise (λ a b. StrictBy (IsOf j) l b a → ⊥) (c.order t)) same (c.consistent.agrees t lt);
          },
    )

pub are-consistent : OrdersAreConsistent
are-consistent initial j orders some = (consistent-from initial j orders some, consistent-to initial j orders)
