-- Waits follow notifies in every legal history.
use Rattle.std.proofs.Common.{◌≡◌, ℕ, ◌<◌, nat_lt, Bool, true, false, cond, List, Some, None, slice_get, refl, sym, subst, arith}
use Rattle.std.proofs.Common.{inl, inr}
use Rattle.std.proofs.lemmas.Bool.{false≢true, ltb-true, cases_eq, and_parts}
use Rattle.block_layout.specs.declared.run_error.TheConstants.{BARRIER_MISMATCH}
use Rattle.upc_values.specs.declared.action.Action.{Action}
use Rattle.upc_values.specs.declared.action.Action.TheVariants.{Wait}
use Rattle.upc_values.specs.declared.action.Reply.{Reply}
use Rattle.upc_values.specs.declared.action.Reply.TheVariants.{Done, Refused}
use Rattle.upc_values.specs.declared.journal.Entry.{Entry}
use Rattle.upc_values.specs.Openings.{Opening}
use Rattle.upc_values.specs.History.{each_thread, is_wait, notifies, waits, marks, agrees_with, all_notified, reply, IsLegal}
use Rattle.upc_values.specs.Waits.{WaitsFollow}
use Rattle.upc_values.proofs.Legality.{legal-at}

some-true : (b : Bool) (q r : Reply) → cond b (Some q) None ≡ Some r → b ≡ true
some-true true q r h = refl
some-true false q r h = cc

-- all of the first n have notified: each has
pub all_notified-each : (n p : ℕ) (es : List Entry) → all_notified n p es ≡ true → (u : ℕ) → u < n → p < notifies u es
all_notified-each ℕ.zero p es h u b = absurd (omega arith)
all_notified-each (ℕ.suc n) p es h u b =
    let last : p < notifies n es = ltb-true p (notifies n es) (and_parts (nat_lt p (notifies n es)) (all_notified n p es) h).0 in
    elim (cases_eq u n) [
      | inl e ↦ subst (λ v. p < notifies v es) (sym e) last
      | inr ne ↦ all_notified-each n p es (and_parts (nat_lt p (notifies n es)) (all_notified n p es) h).1 u (omega arith)
    ]

wait-lawful : (o : Opening) (before : List Entry) (t : ℕ) (a : Action) (r : Reply) → is_wait a ≡ true
    → reply o before t a ≡ Some r → (u : ℕ) → u < o.threads → waits t before < notifies u before
wait-lawful o before t (Wait m) r w h u b =
    all_notified-each o.threads (waits t before) before
    (some-true (all_notified o.threads (waits t before) before)
    (cond (each_thread o.threads (λ u. agrees_with m (slice_get (marks u before) (waits t before)))) Done (Refused BARRIER_MISMATCH)) r h) u b
wait-lawful o before t a r w h u b = absurd (false≢true w)

-- the p-th wait of each thread stands after the p-th notify of all threads
pub legal-waits_follow : (o : Opening) (history : List Entry) → IsLegal o history → WaitsFollow o.threads history
legal-waits_follow o history h front rest e is w u b =
    wait-lawful o front e.thread e.action e.reply w (legal-at o front rest e (subst (IsLegal o) is h)) u b
