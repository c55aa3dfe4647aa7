-- A list of what runs show is right for one run more.
use Rattle.std.proofs.Common.{◌≡◌, ◌+◌, ℕ, true, false, List, [], ◌∷◌, ◌++◌, length, map, nat_lt, cond, refl, sym, ap, ◌∙◌, inl, inr, arith, true≢false}
use Rattle.std.specs.List.{sum_by}
use Rattle.std.proofs.lemmas.Bool.{cond_both, cond-true, cond-false, false_from_ne_true}
use Rattle.std.proofs.lemmas.List.{length_push}
use Rattle.std.proofs.lemmas.List.Sums.{sum_by-cons, sum_by_push}
use Rattle.upc_values.specs.Lists.{Each, Has, Pairwise}
use Rattle.upc_values.proofs.Lists.{each-push, each-grow}
use Rattle.upc_values.proofs.Membership.{has-left, has-right}
use Rattle.outcomes.specs.Tally.{Shown, Trial, Listed, IsGivenBy, IsTally, is_same, shows, how_many}
use Rattle.outcomes.specs.code.Added.{added, merged}
use Rattle.outcomes.proofs.Sameness.{same-is, same-itself, differs-from}

abbrev shown_of : Listed → Shown
shown_of l = l.shown

abbrev Differ : Listed → Listed → Type 0
Differ a b = is_same a.shown b.shown ≡ false

abbrev IsCounted : List Trial → Listed → Type 0
IsCounted trials l = l.count ≡ how_many trials l.shown

module _ (trials : List Trial) (t : Trial) where
  abbrev more : List Trial
  more = trials ++ t ∷ []

  abbrev s : Shown
  s = shows t

  abbrev new : Listed
  new = record { count = 1; picks = t.picks; shown = s }

  -- what holds of each thing shown, and of this one, holds with it
  each-added : (P : Shown → Type 0) (list : List Listed) → Each (λ l. P l.shown) list → P s
      → Each (λ l. P l.shown) (added new list)
  each-added P [] h p = (p, tt)
  each-added P (l ∷ list) h p =
      cond_both (is_same l.shown s) (merged new l ∷ list) (l ∷ added new list) (Each (λ l. P l.shown))
      (λ _. (h.0, h.1)) (λ _. (h.0, each-added P list h.1 p))

  distinct-added : (list : List Listed) → Pairwise Differ list → Pairwise Differ (added new list)
  distinct-added [] h = (tt, tt)
  distinct-added (l ∷ list) h =
      cond_both (is_same l.shown s) (merged new l ∷ list) (l ∷ added new list) (Pairwise Differ) (λ _. (h.0, h.1))
      (λ differs. (each-added (λ x. is_same l.shown x ≡ false) list h.0 differs, distinct-added list h.1))

  given-more : (l : Listed) → IsGivenBy trials l → IsGivenBy more l
  given-more l h = record {
    trial = h.trial;
    among = has-left trials (t ∷ []) h.trial h.among;
    picks = h.picks;
    shown = h.shown;
  }

  given-now : (l : Listed) → t.picks ≡ l.picks → s ≡ l.shown → IsGivenBy more l
  given-now l picks shown = record {
    trial = t;
    among = has-right trials (t ∷ []) t (inl refl);
    picks = picks;
    shown = shown;
  }

  given-merged : (l : Listed) → is_same l.shown s ≡ true → IsGivenBy trials l → IsGivenBy more (merged new l)
  given-merged l same h =
      cond_both (nat_lt (length t.picks) (length l.picks)) t.picks l.picks
      (λ p. IsGivenBy more (record { count = l.count + 1; picks = p; shown = l.shown }))
      (λ _. given-now (record { count = l.count + 1; picks = t.picks; shown = l.shown }) refl
      (sym (same-is l.shown s same)))
      (λ _. record {
        trial = h.trial;
        among = has-left trials (t ∷ []) h.trial h.among;
        picks = h.picks;
        shown = h.shown;
      })

  given-added : (list : List Listed) → Each (IsGivenBy trials) list → Each (IsGivenBy more) (added new list)
  given-added [] h = (given-now new refl refl, tt)
  given-added (l ∷ list) h =
      cond_both (is_same l.shown s) (merged new l ∷ list) (l ∷ added new list) (Each (IsGivenBy more))
      (λ same. (given-merged l same h.0, each-grow (IsGivenBy trials) (IsGivenBy more) list given-more h.1))
      (λ _. (given-more l h.0, given-added list h.1))

  how-many-more : (x : Shown) → how_many more x ≡ how_many trials x + cond (is_same x s) 1 0
  how-many-more x = sum_by_push (λ u. cond (is_same x (shows u)) 1 0) trials t

  counted-same : (x : Shown) → is_same x s ≡ true → how_many more x ≡ how_many trials x + 1
  counted-same x same = how-many-more x ∙ ap (λ n. how_many trials x + n) (cond-true (is_same x s) 1 0 same)

  counted-differs : (x : Shown) → is_same x s ≡ false → how_many more x ≡ how_many trials x
  counted-differs x differs =
      how-many-more x ∙ ap (λ n. how_many trials x + n) (cond-false (is_same x s) 1 0 differs) ∙ omega arith

  -- no other member's count changes
  counts-kept : (x : Shown) (list : List Listed) → is_same x s ≡ true → Each (λ l. is_same x l.shown ≡ false) list
      → Each (IsCounted trials) list → Each (IsCounted more) list
  counts-kept x [] same differs h = tt
  counts-kept x (l ∷ list) same differs h =
      (h.0 ∙ sym (counted-differs l.shown (differs-from x s l.shown same differs.0)), counts-kept x list same differs.1 h.1)

  counts-added : (list : List Listed) → Pairwise Differ list → Each (IsCounted trials) list
      → (Each (λ l. is_same l.shown s ≡ false) list → how_many trials s ≡ 0) → Each (IsCounted more) (added new list)
  counts-added [] d h none =
      let now = counted-same s (same-itself s) in
      let before = none tt in
      (omega arith, tt)
  counts-added (l ∷ list) d h none =
      cond_both (is_same l.shown s) (merged new l ∷ list) (l ∷ added new list) (Each (IsCounted more))
      (λ same. (ap (λ n. n + 1) h.0 ∙ sym (counted-same l.shown same), counts-kept l.shown list same d.0 h.1))
      (λ differs. (h.0 ∙ sym (counted-differs l.shown differs), counts-added list d.1 h.1 (λ rest. none (differs, rest))))

  has-added : (list : List Listed) (x : Shown) → Has (map shown_of list) x → Has (map shown_of (added new list)) x
  has-added [] x h = absurd h
  has-added (l ∷ list) x h =
      cond_both (is_same l.shown s) (merged new l ∷ list) (l ∷ added new list) (λ k. Has (map shown_of k) x)
      (λ _. h) (λ _. elim h [ inl e ↦ inl e | inr m ↦ inr (has-added list x m) ])

  has-new : (list : List Listed) → Has (map shown_of (added new list)) s
  has-new [] = inl refl
  has-new (l ∷ list) =
      cond_both (is_same l.shown s) (merged new l ∷ list) (l ∷ added new list) (λ k. Has (map shown_of k) s)
      (λ same. inl (same-is l.shown s same)) (λ _. inr (has-new list))

  sum-added : (list : List Listed) → sum_by (λ l. l.count) (added new list) ≡ sum_by (λ l. l.count) list + 1
  sum-added [] = refl
  sum-added (l ∷ list) =
      let f : Listed → ℕ = λ l. l.count in
      let old = sum_by-cons f l list in
      let one = sum_by-cons f (merged new l) list in
      let two = sum_by-cons f l (added new list) in
      let rest = sum-added list in
      cond_both (is_same l.shown s) (merged new l ∷ list) (l ∷ added new list)
      (λ k. sum_by f k ≡ sum_by f (l ∷ list) + 1) (λ _. omega arith) (λ _. omega arith)

  -- what no member shows, no run has shown
  none-shown : (list : List Listed) (x : Shown) → Has (map shown_of list) x → Each (λ l. is_same l.shown s ≡ false) list
      → is_same s x ≡ false
  none-shown [] x m differs = absurd m
  none-shown (l ∷ list) x (inl e) differs =
      false_from_ne_true (is_same s x) (λ h.
      let same : l.shown ≡ s = e ∙ sym (same-is s x h) in
      true≢false (sym (same-itself s) ∙ ap (λ y. is_same y s) (sym same) ∙ differs.0))
  none-shown (l ∷ list) x (inr m) differs = none-shown list x m differs.1

  abbrev one : Trial → ℕ
  one u = cond (is_same s (shows u)) 1 0

  none-counted : (some : List Trial) (list : List Listed) → Each (λ u. Has (map shown_of list) (shows u)) some
      → Each (λ l. is_same l.shown s ≡ false) list → how_many some s ≡ 0
  none-counted [] list h differs = refl
  none-counted (u ∷ some) list h differs =
      let first : one u ≡ 0 = cond-false {A = ℕ} (is_same s (shows u)) 1 0 (none-shown list (shows u) h.0 differs) in
      let rest : how_many some s ≡ 0 = none-counted some list h.1 differs in
      let all : how_many (u ∷ some) s ≡ one u + how_many some s = sum_by-cons one u some in
      omega arith

  pub tally-more : (list : List Listed) → IsTally trials list → IsTally more (added new list)
  tally-more list h = record {
    distinct = distinct-added list h.distinct;
    given = given-added list h.given;
    counts = counts-added list h.distinct h.counts (none-counted trials list h.complete);
    complete =
        each-push (λ u. Has (map shown_of (added new list)) (shows u)) trials t
        (each-grow (λ u. Has (map shown_of list) (shows u)) (λ u. Has (map shown_of (added new list)) (shows u)) trials
        (λ u m. has-added list (shows u) m) h.complete)
        (has-new list);
    sum = sum-added list ∙ ap (λ n. n + 1) h.sum ∙ sym (length_push trials t);
  }

pub tally-none : IsTally [] []
tally-none = record { distinct = tt; given = tt; counts = tt; complete = tt; sum = refl }
