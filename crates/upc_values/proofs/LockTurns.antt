-- Locks exclude in every legal history.
use Rattle.std.proofs.Common.{◌≡◌, ℕ, Bool, true, false, cond, List, [], ◌∷◌, ◌++◌, Option, Some, None, is_none, ◌==◌, ◌⊎◌, T, refl, sym, ◌∙◌, ap, subst, inl, inr, append_assoc}
use Rattle.std.specs.List.{filter, last_or}
use Rattle.std.proofs.lemmas.Bool.{false≢true}
use lib.Dec.{eqb→eq}
use Rattle.block_layout.specs.declared.run_error.TheConstants.{LOCK_AGAIN, LOCK_NOT_HELD, LOCK_FREED}
use Rattle.upc_values.specs.declared.action.Action.{Action}
use Rattle.upc_values.specs.declared.action.Action.TheVariants as act
use Rattle.upc_values.specs.declared.action.Reply.{Reply}
use Rattle.upc_values.specs.declared.action.Reply.TheVariants.{Done, Flag, Refused}
use Rattle.upc_values.specs.declared.journal.Entry.{Entry}
use Rattle.upc_values.specs.Lists.{Has}
use Rattle.upc_values.specs.Openings.{Opening}
use Rattle.upc_values.specs.History.{holder, left_with, turns, is_unlock, is_freed, lock_reply, unlock_reply, reply, IsLegal}
use Rattle.upc_values.specs.Locks.{takes, lets_go, IsUnlockOf, LocksExclude}
use Rattle.upc_values.proofs.Legality.{legal-at}

-- The last that passes, with one more at the end.
last-more : {X : Type 0} (p : X → Bool) (o : Option X) (xs : List X) (x : X)
    → last_or o (filter p (xs ++ x ∷ [])) ≡ cond (p x) (Some x) (last_or o (filter p xs))
last-more p o [] x = elim (p x) as (λ b. last_or o (cond b (x ∷ []) []) ≡ cond b (Some x) o) [ true ↦ refl | false ↦ refl ]
last-more p o (y ∷ xs) x =
    elim (p y) as (λ b. last_or o (cond b (y ∷ filter p (xs ++ x ∷ [])) (filter p (xs ++ x ∷ [])))
    ≡ cond (p x) (Some x) (last_or o (cond b (y ∷ filter p xs) (filter p xs)))) [
      | true ↦ last-more p (Some y) xs x
      | false ↦ last-more p o xs x
    ]

-- The holder after one more entry: left as it was by an entry that neither takes the lock nor lets it go.
holder-more : (l : ℕ) (es : List Entry) (e : Entry)
    → holder l (es ++ e ∷ []) ≡ cond (turns l e.action e.reply) (left_with (Some e)) (holder l es)
holder-more l es e =
    ap left_with (last-more (λ f. turns l f.action f.reply) None es e)
    ∙ (elim (turns l e.action e.reply)
    as (λ b. left_with (cond b (Some e) (last_or None (filter (λ f. turns l f.action f.reply) es)))
    ≡ cond b (left_with (Some e)) (holder l es)) [ true ↦ refl | false ↦ refl ])

-- An entry that takes a lock takes it or lets it go, and is no Unlock.
takes-turns : (l : ℕ) (a : Action) (r : Reply) → takes l a r ≡ true → (turns l a r ≡ true) × (is_unlock a ≡ false)
takes-turns l (act.Lock k) Done h = (h, refl)
takes-turns l (act.Attempt k) (Flag true) h = (h, refl)
takes-turns l a r h = absurd (false≢true h)

-- One that takes it or lets it go does one of the two.
turns-either : (l : ℕ) (a : Action) (r : Reply) → turns l a r ≡ true → (takes l a r ≡ true) ⊎ (lets_go l a r ≡ true)
turns-either l (act.Lock k) Done h = inl h
turns-either l (act.Attempt k) (Flag true) h = inl h
turns-either l (act.Unlock k) Done h = inr h
turns-either l a r h = absurd (false≢true h)

-- Once a lock is taken, the thread that took it is its holder.
holder-taken : (l : ℕ) (es : List Entry) (e : Entry) → takes l e.action e.reply ≡ true
    → holder l (es ++ e ∷ []) ≡ Some e.thread
holder-taken l es e h =
    let t = takes-turns l e.action e.reply h in
    holder-more l es e ∙ ap (λ b. cond b (left_with (Some e)) (holder l es)) t.0
    ∙ ap (λ b. cond b None (Some e.thread)) t.1

-- A lock that is taken was held by nobody.
free-lock : (freed : Bool) (t : ℕ) (o : Option ℕ)
    → cond freed (Some (Refused LOCK_FREED)) (lock_reply t o) ≡ Some Done → o ≡ None
free-lock true t o h = absurd cc
free-lock false t None h = refl
free-lock false t (Some u) h =
    let P : Bool → Type 0 = λ b. cond b (Some (Refused LOCK_AGAIN)) None ≡ Some Done in
    let no : (b : Bool) → P b → ⊥ = λ b. elim b as (λ b. P b → ⊥) [ true ↦ λ p. cc | false ↦ λ p. cc ] in
    absurd (no (t == u) h)

free-attempt : (freed : Bool) (o : Option ℕ)
    → cond freed (Refused LOCK_FREED) (Flag (is_none o)) ≡ Flag true → o ≡ None
free-attempt true o h = absurd cc
free-attempt false None h = refl
free-attempt false (Some u) h = absurd cc

-- A test holds or does not.
bool-cases : (b : Bool) → (b ≡ true) ⊎ (b ≡ false)
bool-cases true = inl refl
bool-cases false = inr refl

-- Two numbers that pass the test are one.
same-number : (a b : ℕ) → (a == b) ≡ true → a ≡ b
same-number a b h = eqb→eq a b (subst T (sym h) tt)

taken-lawful : (o : Opening) (es : List Entry) (t l : ℕ) (a : Action) (r : Reply) → takes l a r ≡ true
    → reply o es t a ≡ Some r → holder l es ≡ None
taken-lawful o es t l (act.Lock k) Done h w =
    subst (λ n. holder n es ≡ None) (same-number k l h) (free-lock (is_freed o k es) t (holder k es) w)
taken-lawful o es t l (act.Attempt k) (Flag true) h w =
    subst (λ n. holder n es ≡ None) (same-number k l h) (free-attempt (is_freed o k es) (holder k es) (cc))
taken-lawful o es t l a r h w = absurd (false≢true h)

-- A lock that is let go was held by the thread that lets it go.
own-unlock : (freed : Bool) (t u : ℕ)
    → cond freed (Refused LOCK_FREED) (cond (t == u) Done (Refused LOCK_NOT_HELD)) ≡ Done → (t == u) ≡ true
own-unlock true t u h = absurd cc
own-unlock false t u h =
    let P : Bool → Type 0 = λ b. cond b Done (Refused LOCK_NOT_HELD) ≡ Done → b ≡ true in
    let each : (b : Bool) → P b = λ b. elim b as P [ true ↦ λ p. refl | false ↦ λ p. cc ] in
    each (t == u) h

let_go-lawful : (o : Opening) (es : List Entry) (t u l : ℕ) (a : Action) (r : Reply) → lets_go l a r ≡ true
    → reply o es t a ≡ Some r → holder l es ≡ Some u → t ≡ u
let_go-lawful o es t u l (act.Unlock k) Done h w held =
    let held_k : holder k es ≡ Some u = subst (λ n. holder n es ≡ Some u) (sym (same-number k l h)) held in
    let answer : cond (is_freed o k es) (Refused LOCK_FREED) (unlock_reply t (holder k es)) ≡ Done = cc in
    let known : cond (is_freed o k es) (Refused LOCK_FREED) (unlock_reply t (Some u)) ≡ Done =
    subst (λ x. cond (is_freed o k es) (Refused LOCK_FREED) (unlock_reply t x) ≡ Done) held_k answer in
    same-number t u (own-unlock (is_freed o k es) t u known)
let_go-lawful o es t u l a r h w held = absurd (false≢true h)

-- While a thread holds the lock, the next that takes it stands after an Unlock by that thread.
between : (o : Opening) (t l : ℕ) (es middle rest : List Entry) (second : Entry)
    → holder l es ≡ Some t → IsLegal o (es ++ (middle ++ second ∷ rest)) → takes l second.action second.reply ≡ true
    → (e : Entry) × Has middle e × IsUnlockOf t l e
between o t l es [] rest second held legal takes_it =
    let none = taken-lawful o es second.thread l second.action second.reply takes_it (legal-at o es rest second legal) in
    absurd cc
between o t l es (m ∷ middle) rest second held legal takes_it =
    let lawful = legal-at o es (middle ++ second ∷ rest) m legal in
    let legal_more : IsLegal o ((es ++ m ∷ []) ++ (middle ++ second ∷ rest)) =
    subst (IsLegal o) (sym (append_assoc es (m ∷ []) (middle ++ second ∷ rest))) legal in
    let more : (holder l (es ++ m ∷ []) ≡ Some t) → (e : Entry) × Has (m ∷ middle) e × IsUnlockOf t l e =
    λ h. let found = between o t l (es ++ m ∷ []) middle rest second h legal_more takes_it in
    (found.0, inr found.1, found.2) in
    elim (bool-cases (turns l m.action m.reply)) [
      | inr passes ↦ more (holder-more l es m ∙ ap (λ b. cond b (left_with (Some m)) (holder l es)) passes ∙ held)
      | inl turned ↦ elim (turns-either l m.action m.reply turned) [
        | inl taken ↦ let none = taken-lawful o es m.thread l m.action m.reply taken lawful in absurd cc
        | inr let_go ↦
            (m, inl refl, record { thread = let_go-lawful o es m.thread t l m.action m.reply let_go lawful held; unlocks = let_go })
      ]
    ]

-- Between two acquisitions of one lock stands an Unlock by the first holder.
pub legal-locks_exclude : (o : Opening) (history : List Entry) → IsLegal o history → LocksExclude history
legal-locks_exclude o history legal l front middle rest first second is takes_first takes_second =
    let split : history ≡ (front ++ first ∷ []) ++ (middle ++ second ∷ rest) =
    is ∙ append_assoc front (first ∷ middle) (second ∷ rest)
    ∙ sym (append_assoc front (first ∷ []) (middle ++ second ∷ rest)) in
    between o first.thread l (front ++ first ∷ []) middle rest second (holder-taken l front first takes_first)
    (subst (IsLegal o) split legal) takes_second
