-- A Lock or a Wait that is not well formed has a reply: it is of a lock that is not made, which nobody holds.
use Rattle.std.proofs.Common.{◌≡◌, ℕ, ◌<◌, ◌==◌, nat_lt, nat_le, true, false, ◌&&◌, cond, List, [], ◌∷◌, ◌++◌, filter, Some, None, is_some, refl, ap, ◌∙◌, inl, inr, arith, ne_eqb}
use Rattle.std.specs.List.{last_or}
use Rattle.std.proofs.lemmas.Bool.{and_parts, cases_lt, cond_both, false≢true, ltb-true, lt-ltb, le-leb}
use Rattle.block_layout.specs.declared.run_error.TheConstants.{LOCK_FREED}
use Rattle.upc_values.specs.declared.action.Action.{Action}
use Rattle.upc_values.specs.declared.action.Action.TheVariants as act
use Rattle.upc_values.specs.declared.action.Reply.{Reply}
use Rattle.upc_values.specs.declared.action.Reply.TheVariants.{Done, Flag, Refused}
use Rattle.upc_values.specs.declared.journal.Entry.{Entry}
use Rattle.upc_values.specs.Openings.{Opening}
use Rattle.upc_values.specs.History.{locks, turns, left_with, holder, is_freed, lock_reply, reply}
use Rattle.upc_values.specs.Formed.{is_lock, IsWellFormed, AreWellFormedFrom, AreWellFormed}
use Rattle.upc_values.specs.Strands.{may_wait}
use Rattle.memory_history.proofs.Unmade.{unmade-fresh}

-- a lock that is made is not lock 0
made-some : (es : List Entry) (k : ℕ) → is_lock es k ≡ true → (k == 0) ≡ false
made-some es k h =
    let some : 0 < k = ltb-true 0 k (and_parts (nat_lt 0 k) (nat_le k (locks es)) h).0 in
    ne_eqb k 0 (λ q. omega arith)

no-turn : (o : Opening) (es : List Entry) (a : Action) (r : Reply) → IsWellFormed o es a → turns 0 a r ≡ false
no-turn o es (act.Lock k) Done f = made-some es k f
no-turn o es (act.Attempt k) (Flag true) f = made-some es k f
no-turn o es (act.Unlock k) Done f = made-some es k f
no-turn o es a r f = refl

none-turn : (o : Opening) (before es : List Entry) → AreWellFormedFrom o before es
    → filter (λ e. turns 0 e.action e.reply) es ≡ []
none-turn o before [] f = refl
none-turn o before (e ∷ es) f =
    let rest = filter (λ x. turns 0 x.action x.reply) es in
    ap (λ b. cond b (e ∷ rest) rest) (no-turn o before e.action e.reply f.0) ∙ none-turn o (before ++ e ∷ []) es f.1

-- nobody holds a lock that is not made
free-lock : (o : Opening) (es : List Entry) (l : ℕ) → AreWellFormed o es → (is_lock es l ≡ true → ⊥) → holder l es ≡ None
free-lock o es ℕ.zero f n = ap (λ z. left_with (last_or None z)) (none-turn o [] es f)
free-lock o es (ℕ.suc l) f n =
    elim (cases_lt (locks es) (ℕ.suc l)) [
      | inl lt ↦ ap (λ s. s.holder) (unmade-fresh o (ℕ.suc l) es f lt)
      | inr le ↦ absurd (n (ap (λ b. b && nat_le (ℕ.suc l) (locks es)) (lt-ltb 0 (ℕ.suc l) (omega arith)) ∙ le-leb (ℕ.suc l) (locks es) le))
    ]

lock-replies : (o : Opening) (es : List Entry) (t l : ℕ) → holder l es ≡ None
    → is_some (reply o es t (act.Lock l)) ≡ true
lock-replies o es t l h =
    cond_both (is_freed o l es) (Some (Refused LOCK_FREED)) (lock_reply t (holder l es)) (λ z. is_some z ≡ true)
    (λ e. refl) (λ e. ap (λ z. is_some (lock_reply t z)) h)

pub unformed-replies : (o : Opening) (es : List Entry) (t : ℕ) (a : Action) → AreWellFormed o es → may_wait a ≡ true
    → (IsWellFormed o es a → ⊥) → is_some (reply o es t a) ≡ true
unformed-replies o es t (act.Lock l) f w n = lock-replies o es t l (free-lock o es l f n)
unformed-replies o es t (act.Wait m) f w n = absurd (n refl)
unformed-replies o es t a f w n = absurd (false≢true w)
