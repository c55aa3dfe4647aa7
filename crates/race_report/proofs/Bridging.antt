-- What comes before another does so in its thread, or over strict operations.
use Rattle.std.proofs.Common.{◌≡◌, ◌<◌, ◌⊎◌, true, refl, sym, ◌∙◌, subst, inl, inr, arith}
use Rattle.upc_values.specs.declared.journal.Entry.{Entry}
use Rattle.upc_values.specs.declared.journal.Journal.{Journal}
use Rattle.upc_values.specs.Lists.{Has, Precedes}
use Rattle.upc_values.specs.Operations.{Operation, accesses}
use Rattle.upc_values.specs.Orders.{IsOf, rank, strict_list}
use Rattle.upc_values.proofs.Membership.{precedes-trans, Distinct}
use Rattle.race_report.specs.Reach.{Releases, ComesBefore, As_written, Across, Through}

-- in one thread, in program order
abbrev pub Written : Operation → Operation → Type 0
Written a b = (a.thread ≡ b.thread) × (rank a < rank b)

abbrev pub AtOrBefore : Operation → Operation → Type 0
AtOrBefore a b = (a ≡ b) ⊎ Written a b

-- a strict operation of the journal
abbrev pub IsStrict : Journal → Operation → Type 0
IsStrict j o = IsOf j o × (o.strict ≡ true)

-- from the one thread to the other over two strict operations, of which the first stands before the second
pub record Bridge (j : Journal) (a b : Operation) : Type 0 where
  pub start : Operation
  pub finish : Operation
  pub start_is : IsStrict j start
  pub finish_is : IsStrict j finish
  pub first : AtOrBefore a start
  pub last : AtOrBefore finish b
  pub goes : Precedes (strict_list j) start finish

abbrev pub Way : Journal → Operation → Operation → Type 0
Way j a b = Written a b ⊎ Bridge j a b

-- what lets another go on stands before it, both strict
abbrev pub Crosses : Journal → Type 0
Crosses j =
    (e f : Entry) (a b : Operation) → Releases j.history e f → Has (accesses e) a → Has (accesses f) b
    → IsStrict j a × IsStrict j b × Precedes (strict_list j) a b

-- the strict list keeps program order
abbrev pub KeepsStrict : Journal → Type 0
KeepsStrict j = (a b : Operation) → IsStrict j a → IsStrict j b → Written a b → Precedes (strict_list j) a b

module _ (j : Journal) (distinct : Distinct (strict_list j)) (crosses : Crosses j) (keeps : KeepsStrict j) where
  on : (a b s : Operation) → Written a b → AtOrBefore b s → Written a s
  on a b s w (inl e) = subst (Written a) e w
  on a b s w (inr v) =
      let x : rank a < rank b = w.1 in
      let y : rank b < rank s = v.1 in
      (w.0 ∙ v.0, omega arith)

  off : (t a b : Operation) → AtOrBefore t a → Written a b → Written t b
  off t a b (inl e) w = subst (λ z. Written z b) (sym e) w
  off t a b (inr v) w =
      let x : rank t < rank a = v.1 in
      let y : rank a < rank b = w.1 in
      (v.0 ∙ w.0, omega arith)

  -- from one bridge to the next
  meet : (t b s : Operation) → AtOrBefore t b → AtOrBefore b s → AtOrBefore t s
  meet t b s (inl e) q = subst (λ z. AtOrBefore z s) (sym e) q
  meet t b s (inr w) q = inr (on t b s w q)

  joined : (a b c : Operation) → Way j a b → Way j b c → Way j a c
  joined a b c (inl v) (inl w) = inl (on a b c v (inr w))
  joined a b c (inl v) (inr k) = inr (record {
    start = k.start;
    finish = k.finish;
    start_is = k.start_is;
    finish_is = k.finish_is;
    first = inr (on a b k.start v k.first);
    last = k.last;
    goes = k.goes;
  })
  joined a b c (inr k) (inl w) = inr (record {
    start = k.start;
    finish = k.finish;
    start_is = k.start_is;
    finish_is = k.finish_is;
    first = k.first;
    last = inr (off k.finish b c k.last w);
    goes = k.goes;
  })
  joined a b c (inr k) (inr l) =
      inr (record {
        start = k.start;
        finish = l.finish;
        start_is = k.start_is;
        finish_is = l.finish_is;
        first = k.first;
        last = l.last;
        goes =
            elim (meet k.finish b l.start k.last l.first) [
              | inl e ↦ precedes-trans (strict_list j) distinct k.start k.finish l.finish k.goes (subst (λ z. Precedes (strict_list j) z l.finish) (sym e) l.goes)
              | inr w ↦
                  precedes-trans (strict_list j) distinct k.start k.finish l.finish k.goes
                  (precedes-trans (strict_list j) distinct k.finish l.start l.finish (keeps k.finish l.start k.finish_is l.start_is w) l.goes)
            ];
      })

  pub bridged : (a b : Operation) → ComesBefore j a b → Way j a b
  bridged _ _ (As_written a b x y e r) = inl (e, r)
  bridged _ _ (Across e f a b l h k) =
      let c = crosses e f a b l h k in
      inr (record { start = a; finish = b; start_is = c.0; finish_is = c.1; first = inl refl; last = inl refl; goes = c.2 })
  bridged _ _ (Through a b c p q) = joined a b c (bridged a b p) (bridged b c q)
