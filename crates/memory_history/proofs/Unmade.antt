-- Nothing has become of a lock that is not made yet.
use Rattle.std.proofs.Common.{◌≡◌, ℕ, ◌+◌, ◌<◌, ◌≤◌, ◌==◌, nat_lt, nat_le, Bool, true, false, not, cond, ◌&&◌, ◌||◌, inl, inr, List, [], ◌∷◌, ◌++◌, length, filter, None, refl, sym, ap, subst, ◌∙◌, append_assoc, arith, length-append, ne_eqb, leb-true, is_none}
use Rattle.std.specs.List.{last_or}
use mathlib.Core.Bool.{and-true}
use Rattle.std.proofs.lemmas.Bool.{and_parts, cases_lt, false≢true}
use Rattle.upc_values.specs.declared.scalar.Scalar.{Scalar}
use Rattle.upc_values.specs.declared.action.Action.{Action}
use Rattle.upc_values.specs.declared.action.Action.TheVariants as act
use Rattle.upc_values.specs.declared.action.Reply.{Reply}
use Rattle.upc_values.specs.declared.action.Reply.TheVariants.{Done, Flag}
use Rattle.upc_values.specs.declared.journal.Entry.{Entry}
use Rattle.upc_values.specs.Calls.{Call, Other, Frees_lock, call_of}
use Rattle.upc_values.specs.Openings.{Opening}
use Rattle.upc_values.specs.History.{picked, picked_from, makes_lock, leader, meets, asked, led, locks, gives_up, is_given_up, turns, left_with, is_meet, all_met, is_freed}
use Rattle.upc_values.specs.Formed.{is_lock, may_call, IsWellFormed, AreWellFormedFrom, AreWellFormed}
use Rattle.upc_values.proofs.Beginnings.{picked-append}
use Rattle.sync_objects.specs.layer.Locks.{fresh, lock_after}
use Rattle.memory_history.proofs.Freeing.{any_from, any-next, any-same, gives}

-- a lock after those that are made is none of them
other-lock : (es : List Entry) (k l : ℕ) → locks es < l → nat_le k (locks es) ≡ true → (k == l) ≡ false
other-lock es k l lt h = let few = leb-true k (locks es) h in ne_eqb k l (λ q. omega arith)

made-lock : (es : List Entry) (k l : ℕ) → locks es < l → is_lock es k ≡ true → (k == l) ≡ false
made-lock es k l lt h = other-lock es k l lt (and_parts (nat_lt 0 k) (nat_le k (locks es)) h).1

no-turn : (o : Opening) (es : List Entry) (l : ℕ) (a : Action) (r : Reply) → locks es < l → IsWellFormed o es a → turns l a r ≡ false
no-turn o es l (act.Lock k) Done lt f = made-lock es k l lt f
no-turn o es l (act.Attempt k) (Flag true) lt f = made-lock es k l lt f
no-turn o es l (act.Unlock k) Done lt f = made-lock es k l lt f
no-turn o es l a r lt f = refl

gift-call : (o : Opening) (es : List Entry) (l c : ℕ) (args : List Scalar) (call : Call) (r : Reply) → locks es < l → may_call o es call ≡ true → gives_up l (act.Meet c args) call r ≡ false
gift-call o es l c args (Frees_lock k) Done lt f = other-lock es k l lt f
gift-call o es l c args call r lt f = refl

-- a well-formed entry gives up no lock that is not made
no-gift : (o : Opening) (es : List Entry) (l : ℕ) (b : Bool) (a : Action) (r : Reply) → locks es < l → IsWellFormed o es a → gives_up l a (cond b (asked a) Other) r ≡ false
no-gift o es l true (act.LockFree k) Done lt f = made-lock es k l lt f
no-gift o es l true (act.Meet c args) r lt f = gift-call o es l c args (call_of c args) r lt f
no-gift o es l true a r lt f = refl
no-gift o es l false (act.LockFree k) Done lt f = made-lock es k l lt f
no-gift o es l false a r lt f = refl

fewer-front : (l : ℕ) (before more : List Entry) → locks (before ++ more) < l → locks before < l
fewer-front l before more h =
    let test : List Entry → Entry → Bool = λ b e. makes_lock e.action (led b e) in
    let k : locks (before ++ more) ≡ locks before + length (picked_from test before more) =
    ap length (picked-append test [] before more) ∙ length-append (picked test before) (picked_from test before more) in
    omega arith

-- the same for all entries of a history
none-turn : (o : Opening) (l : ℕ) (before es : List Entry) → AreWellFormedFrom o before es → locks (before ++ es) < l
    → filter (λ e. turns l e.action e.reply) es ≡ []
none-turn o l before [] f lt = refl
none-turn o l before (e ∷ es) f lt =
    let rest = filter (λ x. turns l x.action x.reply) es in
    ap (λ b. cond b (e ∷ rest) rest) (no-turn o before l e.action e.reply (fewer-front l before (e ∷ es) lt) f.0)
    ∙ none-turn o l (before ++ e ∷ []) es f.1 (subst (λ z. locks z < l) (sym (append_assoc before (e ∷ []) es)) lt)

-- a test that wants the lock given up
none-given : (o : Opening) (l : ℕ) (more : List Entry → Entry → Bool) (before es : List Entry) → AreWellFormedFrom o before es
    → locks (before ++ es) < l → any_from (λ b e. gives l b e && more b e) before es ≡ false
none-given o l more before [] f lt = refl
none-given o l more before (e ∷ es) f lt =
    let test : List Entry → Entry → Bool = λ b x. gives l b x && more b x in
    any-next test before es e
    ∙ ap (λ b. (b && more before e) || any_from test (before ++ e ∷ []) es)
    (no-gift o before l (is_none (leader (length (meets e.thread before)) before)) e.action e.reply (fewer-front l before (e ∷ es) lt) f.0)
    ∙ none-given o l more (before ++ e ∷ []) es f.1 (subst (λ z. locks z < l) (sym (append_assoc before (e ∷ []) es)) lt)

-- nothing has become of it
pub unmade-fresh : (o : Opening) (l : ℕ) (es : List Entry) → AreWellFormed o es → locks es < l → lock_after o es l ≡ fresh
unmade-fresh o l es f lt =
    let given : is_given_up l es ≡ false =
    any-same (gives l) (λ b e. gives l b e && true) (λ b e. sym (and-true (gives l b e))) [] es
    ∙ none-given o l (λ b e. true) [] es f lt in
    let freed : is_freed o l es ≡ false =
    none-given o l (λ b e. not (is_meet e.action) || all_met o (length (meets e.thread b)) es) [] es f lt in
    ap (λ h. record { holder = left_with (last_or None h); given_up = is_given_up l es; freed = is_freed o l es }) (none-turn o l [] es f lt)
    ∙ ap (λ g. record { holder = None; given_up = g; freed = is_freed o l es }) given
    ∙ ap (λ g. record { holder = None; given_up = false; freed = g }) freed

-- what is given up is made
pub given_up-made : (o : Opening) (l : ℕ) (es : List Entry) → AreWellFormed o es → is_given_up l es ≡ true → l ≤ locks es
given_up-made o l es f h =
    elim (cases_lt (locks es) l) [
      | inl lt ↦ absurd (false≢true (sym (ap (λ s. s.given_up) (unmade-fresh o l es f lt)) ∙ h))
      | inr le ↦ le
    ]
