-- The parts of a verdict, one after another.
use Rattle.std.proofs.Common.{◌≡◌, ℕ, zero, suc, ◌+◌, ◌<◌, List, Option, Some, None, MatchOption, refl, sym, ap, ◌∙◌, subst, inl, inr, arith}
use Rattle.std.proofs.lemmas.Bool.{cases_lt}
use Rattle.upc_values.specs.declared.journal.Entry.{Entry}
use Rattle.upc_values.specs.declared.journal.Journal.{Journal}
use Rattle.upc_values.specs.declared.order.Orders.{Orders}
use Rattle.upc_values.specs.History.{EachBelow}
use Rattle.upc_values.specs.Openings.{Opening}
use Rattle.upc_values.specs.Orders.{record_of}
use Rattle.upc_values.specs.Outcomes.{Outcome, wanted}
use Rattle.upc_values.specs.Strands.{Conforms, StallsStand}
use Rattle.upc_values.specs.Consistent.{begins}
use Rattle.thread_steps.specs.layer.Fronts.{IsInTurn}
use Rattle.upc_verify_parts.specs.Parts.{strand_of, HasShape, Drains, HistoryHolds, FailsFirst, HoldsOfEach}
use Rattle.upc_verify_history.specs.layer.Turns.{AreInTurn}
use Rattle.upc_verify_orders.specs.Given.{OrderHolds, OrdersHold, OrderBreaks}
use Rattle.upc_verify_judge.specs.declared.meant.Meant.{Meant}
use Rattle.upc_verify_judge.specs.layer.Meanings.{outcome_in}
use Rattle.upc_verify_judge.specs.Verdicts.{Case, Part, shape, strands, entries, history, stalls, ends, orders, number, Holds, AllHold, Breaks}
use Rattle.upc_verify_judge.specs.code.Judging.{case_in, HoldBelow, AreJudged}
use Rattle.upc_verify_judge.proofs.Turns.{acts, drain-in_turn, turns-all}

-- the part with a number
part_at : ℕ → Part
part_at zero = shape
part_at (suc zero) = strands
part_at (suc (suc zero)) = entries
part_at (suc (suc (suc zero))) = history
part_at (suc (suc (suc (suc zero)))) = stalls
part_at (suc (suc (suc (suc (suc zero))))) = ends
part_at n = orders

at-number : (p : Part) → part_at (number p) ≡ p
unfolding part_at
at-number shape = refl
at-number strands = refl
at-number entries = refl
at-number history = refl
at-number stalls = refl
at-number ends = refl
at-number orders = refl

one-number : (p q : Part) → number p ≡ number q → p ≡ q
one-number p q e = sym (at-number p) ∙ ap part_at e ∙ at-number q

few : (p : Part) → number p < 7
few shape = omega arith
few strands = omega arith
few entries = omega arith
few history = omega arith
few stalls = omega arith
few ends = omega arith
few orders = omega arith

module _ (c : Case) where
  abbrev Below : ℕ → Type 0
  Below k = HoldBelow c k

  -- What is found of a part.
  abbrev pub Found : Part → Option ℕ → Type 0
  Found p r = MatchOption r (HoldsOfEach c.opening.threads (Holds c p)) (FailsFirst c.opening.threads (Holds c p))

  pub next : (p : Part) → Below (number p) → HoldsOfEach c.opening.threads (Holds c p) → Below (number p + 1)
  next p b h q u lt l =
      elim (cases_lt (number q) (number p)) [
        | inl under ↦ b q u lt under
        | inr over ↦
            let e : number p ≡ number q = omega arith in
            subst (λ z. Holds c z u) (one-number p q e) (h u lt)
      ]

  pub breaks : (p : Part) (t : ℕ) → Below (number p) → FailsFirst c.opening.threads (Holds c p) t → Breaks c p t
  breaks p t b f = record {
    within = f.within;
    fails = f.fails;
    before = λ q u lt o.
        elim o [ inl l ↦ b q u lt l | inr e ↦ subst (λ z. Holds c z u) (sym e.0) (f.before u e.1) ];
  }

  pub passed : (p : Part) (r : Option ℕ) → r ≡ None → Below (number p) → Found p r → Below (number p + 1)
  passed p r e b f = next p b (subst (Found p) e f)

  pub stopped : (p : Part) (t : ℕ) (r : Option ℕ) → r ≡ Some t → Below (number p) → Found p r → Breaks c p t
  stopped p t r e b f = breaks p t b (subst (Found p) e f)

  pub all-hold : Below 7 → AllHold c
  all-hold b p t lt = b p t lt (few p)

  -- nothing is below the first
  none-below : Below 0
  none-below q u lt l = absurd (omega arith)

  pub shaped : HasShape c.opening.threads c.journal c.orders → Below 1
  shaped h = next shape none-below (λ u lt e. h)

  pub misshapen : 0 < c.opening.threads → (HasShape c.opening.threads c.journal c.orders → ⊥) → Breaks c shape 0
  misshapen some not = breaks shape 0 none-below (record {
    within = some;
    fails = λ h. not (h refl);
    before = λ u lt. absurd (omega arith);
  })

  -- the history holds or not
  pub lawful : Below 3 → HistoryHolds c.opening c.journal.history → Below 4
  lawful b h = next history b (λ u lt e. h)

  pub unlawful : 0 < c.opening.threads → Below 3 → (HistoryHolds c.opening c.journal.history → ⊥) → Breaks c history 0
  unlawful some b not = breaks history 0 b (record {
    within = some;
    fails = λ h. not (h refl);
    before = λ u lt. absurd (omega arith);
  })

-- ---- what is judged, as the program has it

-- a fact of each of so many threads, or of the first that fails
pub sized : (n m : ℕ) (P : ℕ → Type 0) (r : Option ℕ) → n ≡ m → MatchOption r (HoldsOfEach n P) (FailsFirst n P)
    → MatchOption r (HoldsOfEach m P) (FailsFirst m P)
sized n m P r e h = subst (λ k. MatchOption r (HoldsOfEach k P) (FailsFirst k P)) e h

-- one part more
pub judged-more : (o : Opening) (j : Journal) (given : Orders) (meant : List Meant) (k m : ℕ) → AreJudged o j given meant k
    → HoldBelow (case_in o j given meant) m → AreJudged o j given meant m
judged-more o j given meant k m h b = record { some = h.some; shape = h.shape; many = h.many; turns = h.turns; parts = b }

module _ (o : Opening) (j : Journal) (given : Orders) (meant : List Meant) (k : ℕ) (h : AreJudged o j given meant k) where
  -- where the strands are what their sources come to, their Stalls stand where they may
  pub stalls-stand : 1 < k → HoldsOfEach j.threads (λ t. StallsStand (wanted (outcome_in meant t).«end») (record_of j t))
  stalls-stand lt t within = (h.parts strands t (subst (λ n. t < n) h.shape.threads within) lt).stalls

  -- where the entries are what the records emit, the history is in turn
  pub in-turn : 2 < k → AreInTurn j.history
  in-turn lt =
      turns-all o.threads j.history ((h.parts entries 0 h.some lt).below refl)
      (λ t within.
      let c : Conforms (outcome_in meant t) (strand_of j t) = h.parts strands t within (omega arith) in
      subst (λ l. IsInTurn (acts l)) (sym (h.parts entries t within lt).drains.entries)
      (drain-in_turn t (record_of j t) (subst IsInTurn c.actions (h.turns t within))))

  pub drains-each : 2 < k → HoldsOfEach j.threads (Drains j)
  drains-each lt t within = (h.parts entries t (subst (λ n. t < n) h.shape.threads within) lt).drains

  pub each-below : 2 < k → EachBelow o.threads j.history
  each-below lt = (h.parts entries 0 h.some lt).below refl

-- what is found of the orders
module _ (o : Opening) (seen : List Entry) (j : Journal) (given : Orders) (f : ℕ → Outcome) (e : seen ≡ j.history)
    (many : j.threads ≡ o.threads) where
  abbrev OrderAt : List Entry → ℕ → Type 0
  OrderAt es t = OrderHolds (begins o es) j given t

  pub ordered : (r : Option ℕ)
      → MatchOption r (OrdersHold (begins o seen) j given) (OrderBreaks (begins o seen) j given)
      → Found (record { opening = o; outcome = f; journal = j; orders = given }) orders r
  ordered None h = λ t lt. subst (λ l. OrderAt l t) e (h t (subst (λ n. t < n) (sym many) lt))
  ordered (Some t) b = record {
    within = subst (λ n. t < n) many b.within;
    fails = λ p. b.fails (subst (λ l. OrderAt l t) (sym e) p);
    before = λ u lt. subst (λ l. OrderAt l u) e (b.before u lt);
  }
