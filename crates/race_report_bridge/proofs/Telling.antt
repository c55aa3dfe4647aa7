-- The clocks tell what comes before what.
use Rattle.std.proofs.Common.{◌≡◌, ◌≢◌, ◌<◌, ◌||◌, true, sym, ap, subst, inl, inr}
use Rattle.std.proofs.lemmas.Bool.{or_left, or_right}
use Rattle.upc_values.specs.declared.journal.Journal.{Journal}
use Rattle.upc_values.specs.Lists.{Precedes}
use Rattle.upc_values.specs.Operations.{Operation}
use Rattle.upc_values.specs.Orders.{IsOf, rank, global_order, strict_list}
use Rattle.upc_values.proofs.Membership.{pairs-from, pairs-at, precedes-trans, precedes-filter, filter-precedes, Distinct}
use Rattle.race_report.specs.Reach.{ComesBefore}
use Rattle.race_report.specs.Serial.{IsRun}
use Rattle.upc_values.proofs.Consistency.{global-distinct, written-precedes}
use Rattle.race_report.proofs.Bridging.{Written, AtOrBefore, IsStrict, Way, Bridge, KeepsStrict, bridged}
use Rattle.race_report.proofs.Crossing.{crosses}
use Rattle.race_report_bridge.specs.layer.Telling.{ClocksTell, ComesForward}
use Rattle.race_report_clocks.proofs.Splits.{At}
use Rattle.race_report_clocks.proofs.Holding.{all-held}
use Rattle.race_report_bridge.proofs.Knowing.{knows-comes, comes-knows}

pub all-tell : ClocksTell
all-tell j front rest e x y l run is of cell hy n =
    let at : At j.history front e = record { rest = rest; is = is } in
    let held = all-held x.thread x.index front e in (
      λ c. held.1 (comes-knows j run.follows run.waits x y c front e at hy n),
      λ b. knows-comes j run.follows run.waits x of l cell front e (held.0 b) at y hy n,
    )

module _ (j : Journal) (run : IsRun j) where
  strict-distinct : Distinct (strict_list j)
  strict-distinct =
      pairs-from (λ a b. a ≢ b) (strict_list j)
      (λ a b p. pairs-at (λ a b. a ≢ b) (global_order j) (global-distinct j run.follows) a b (filter-precedes (λ o. o.strict) (global_order j) a b p))

  strict-keeps : KeepsStrict j
  strict-keeps a b s t w =
      precedes-filter (λ o. o.strict) (global_order j) a b s.1 t.1
      (written-precedes j run.follows a b s.0 t.0 w.0 (or_left a.strict b.strict s.1) w.1)

  onto : (a b c : Operation) → IsOf j b → IsOf j c → (b.strict || c.strict) ≡ true → Precedes (global_order j) a b → AtOrBefore b c → Precedes (global_order j) a c
  onto a b c x y s p (inl e) = subst (λ z. Precedes (global_order j) a z) e p
  onto a b c x y s p (inr w) =
      precedes-trans (global_order j) (global-distinct j run.follows) a b c p (written-precedes j run.follows b c x y w.0 s w.1)

  through : (a b c : Operation) → IsOf j a → IsOf j b → (a.strict || b.strict) ≡ true → AtOrBefore a b → Precedes (global_order j) b c → Precedes (global_order j) a c
  through a b c x y s (inl e) p = subst (λ z. Precedes (global_order j) z c) (sym e) p
  through a b c x y s (inr w) p =
      precedes-trans (global_order j) (global-distinct j run.follows) a b c (written-precedes j run.follows a b x y w.0 s w.1) p

  over-bridge : (a b : Operation) → IsOf j a → IsOf j b → Bridge j a b → Precedes (global_order j) a b
  over-bridge a b x y k =
      through a k.start b x k.start_is.0 (or_right a.strict k.start.strict k.start_is.1) k.first
      (onto k.start k.finish b k.finish_is.0 y (or_left k.finish.strict b.strict k.finish_is.1)
      (filter-precedes (λ o. o.strict) (global_order j) k.start k.finish k.goes) k.last)

  way-bridge : (a b : Operation) → (a.thread ≢ b.thread) → Way j a b → Bridge j a b
  way-bridge a b n (inl w) = absurd (n w.0)
  way-bridge a b n (inr k) = k

pub all-forward : ComesForward
all-forward j a b run x y n c =
    over-bridge j run a b x y
    (way-bridge j run a b n (bridged j (strict-distinct j run) (crosses j run.follows run.waits) (strict-keeps j run) a b c))
