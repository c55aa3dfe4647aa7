-- What holds of each legal history, shown one entry after another; what is in lists made of others.
use Rattle.std.proofs.Common.{◌≡◌, ℕ, Bool, true, false, List, [], ◌∷◌, ◌++◌, Option, Some, None, refl, sym, ap, subst, ◌∙◌, ◌⊎◌, inl, inr, append_assoc, append-nil}
use Rattle.std.specs.List.{list_any, filter_map, cons_option}
use Rattle.std.proofs.lemmas.Bool.{cond_both, false≢true, or_cases, or_left, or_right, false_from_ne_true}
use Rattle.upc_values.specs.declared.journal.Entry.{Entry}
use Rattle.upc_values.specs.Lists.{Has}
use Rattle.upc_values.specs.Openings.{Opening}
use Rattle.upc_values.specs.History.{picked_from, Lead, is_meet_of, leader_from, leader, reply, IsLegalFrom, IsLegal}
use Rattle.upc_values.specs.Formed.{IsWellFormed, AreWellFormedFrom, AreWellFormed}
use Rattle.upc_values.proofs.Legality.{legal-push, formed-push}

-- one more entry that may be asked for and has the lawful reply keeps P
abbrev pub Keeps : Opening → (List Entry → Type 0) → Type 0
Keeps o P =
    (before : List Entry) (e : Entry) → IsLegal o before → AreWellFormed o before → IsWellFormed o before e.action
    → reply o before e.thread e.action ≡ Some e.reply → P before → P (before ++ e ∷ [])

stepwise : (o : Opening) (P : List Entry → Type 0) → Keeps o P → (before es : List Entry) → IsLegal o before
    → AreWellFormed o before → P before → IsLegalFrom o before es → AreWellFormedFrom o before es → P (before ++ es)
stepwise o P step before [] l f p m g = subst P (sym (append-nil before)) p
stepwise o P step before (e ∷ es) l f p m g =
    subst P (append_assoc before (e ∷ []) es)
    (stepwise o P step (before ++ e ∷ []) es (legal-push o before e.thread e.index e.action e.reply l m.0)
    (formed-push o before e.thread e.index e.action e.reply f g.0) (step before e l f g.0 m.0 p) m.1 g.1)

-- what the empty history has and each such entry keeps, each legal history of well-formed entries has
pub by_entries : (o : Opening) (P : List Entry → Type 0) → P [] → Keeps o P → (es : List Entry) → IsLegal o es
    → AreWellFormed o es → P es
by_entries o P none step es l f = stepwise o P step [] es tt tt none l f

-- ---- what is picked

-- an entry that is picked passes, seen with some entries before it, and is one of the history
pub picked-has : (test : List Entry → Entry → Bool) (before es : List Entry) (x : Entry)
    → Has (picked_from test before es) x → Has es x × (b : List Entry) × (test b x ≡ true)
picked-has test before [] x h = absurd h
picked-has test before (e ∷ es) x h =
    cond_both (test before e) (e ∷ picked_from test (before ++ e ∷ []) es) (picked_from test (before ++ e ∷ []) es)
    (λ z. Has z x → Has (e ∷ es) x × (b : List Entry) × (test b x ≡ true))
    (λ t k. elim k [
      | inl q ↦ (inl q, before, subst (λ y. test before y ≡ true) q t)
      | inr m ↦ let r = picked-has test (before ++ e ∷ []) es x m in (inr r.0, r.1, r.2)
    ])
    (λ t k. let r = picked-has test (before ++ e ∷ []) es x k in (inr r.0, r.1, r.2)) h

-- ---- membership

module _ {X : Type 0} where
  pub has-single : (x y : X) → Has (x ∷ []) y → x ≡ y
  has-single x y (inl e) = e
  has-single x y (inr h) = absurd h

  pub list_any-has : (test : X → Bool) (xs : List X) → list_any test xs ≡ true → (x : X) × Has xs x × (test x ≡ true)
  list_any-has test [] h = absurd (false≢true h)
  list_any-has test (y ∷ ys) h =
      elim (or_cases (test y) (list_any test ys) h) [
        | inl t ↦ (y, inl refl, t)
        | inr t ↦ let r = list_any-has test ys t in (r.0, inr r.1, r.2)
      ]

  pub has-list_any : (test : X → Bool) (xs : List X) (x : X) → Has xs x → test x ≡ true → list_any test xs ≡ true
  has-list_any test [] x h t = absurd h
  has-list_any test (y ∷ ys) x (inl e) t = or_left (test y) (list_any test ys) (subst (λ z. test z ≡ true) (sym e) t)
  has-list_any test (y ∷ ys) x (inr h) t = or_right (test y) (list_any test ys) (has-list_any test ys x h t)

  cons-has : (o : Option X) (xs : List X) (x : X) → Has (cons_option o xs) x → (o ≡ Some x) ⊎ Has xs x
  cons-has None xs x h = inr h
  cons-has (Some y) xs x (inl e) = inl (ap Some e)
  cons-has (Some y) xs x (inr h) = inr h

  has-cons : (o : Option X) (xs : List X) (x : X) → (o ≡ Some x) ⊎ Has xs x → Has (cons_option o xs) x
  has-cons None xs x (inl e) = absurd cc
  has-cons None xs x (inr h) = h
  has-cons (Some y) xs x (inl e) = let same : y ≡ x = cc in inl same
  has-cons (Some y) xs x (inr h) = inr h

pub has-filter_map : {X Y : Type 0} (f : X → Option Y) (xs : List X) (x : X) (y : Y) → Has xs x → f x ≡ Some y
    → Has (filter_map f xs) y
has-filter_map f [] x y h e = absurd h
has-filter_map f (z ∷ xs) x y (inl q) e = has-cons (f z) (filter_map f xs) y (inl (ap f q ∙ e))
has-filter_map f (z ∷ xs) x y (inr h) e = has-cons (f z) (filter_map f xs) y (inr (has-filter_map f xs x y h e))

pub filter_map-has : {X Y : Type 0} (f : X → Option Y) (xs : List X) (y : Y) → Has (filter_map f xs) y
    → (x : X) × Has xs x × (f x ≡ Some y)
filter_map-has f [] y h = absurd h
filter_map-has f (z ∷ xs) y h =
    elim (cons-has (f z) (filter_map f xs) y h) [
      | inl e ↦ (z, inl refl, e)
      | inr m ↦ let r = filter_map-has f xs y m in (r.0, inr r.1, r.2)
    ]

-- two tests that are true together are the same
pub both-true : (a b : Bool) → (a ≡ true → b ≡ true) → (b ≡ true → a ≡ true) → a ≡ b
both-true true b f g = sym (f refl)
both-true false b f g = sym (false_from_ne_true b (λ t. false≢true (g t)))

-- ---- leaders

leader-leads : (j : ℕ) (before es : List Entry) (w : Lead) → leader_from j before es ≡ Some w → Has es w.entry
leader-leads j before [] w e = absurd cc
leader-leads j before (x ∷ es) w e =
    let first : Lead = record { before = before; entry = x } in
    cond_both (is_meet_of j before x) (Some first) (leader_from j (before ++ x ∷ []) es)
    (λ z. z ≡ Some w → Has (x ∷ es) w.entry)
    (λ t q. let same : first ≡ w = cc in inl (ap (λ (z : Lead). z.entry) same))
    (λ t q. inr (leader-leads j (before ++ x ∷ []) es w q)) e

-- a leader is one of the entries
pub leader-has : (j : ℕ) (es : List Entry) (w : Lead) → leader j es ≡ Some w → Has es w.entry
leader-has j es w e = leader-leads j [] es w e
