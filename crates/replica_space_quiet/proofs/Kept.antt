-- What lists of entries keep without the reads and writes.
use Rattle.std.proofs.Common.{◌≡◌, ℕ, zero, suc, Bool, true, false, not, ◌&&◌, cond, List, [], ◌∷◌, ◌++◌, length, filter, Option, None, refl, sym, ap, ◌∙◌, inl, inr}
use Rattle.std.specs.List.{filter_map, cons_option, count_by}
use Rattle.std.proofs.lemmas.Bool.{cases_Bool, cond-false}
use Rattle.std.proofs.lemmas.List.{append-nil}
use Rattle.std.proofs.lemmas.List.Sums.{length-filter}
use Rattle.upc_values.specs.declared.journal.Entry.{Entry}
use Rattle.upc_values.specs.History.{picked_from, each_thread}
use Rattle.replica_space_quiet.specs.layer.Loud.{is_access, loud}

-- the entry is a read or a write
abbrev pub access : Entry → Bool
access e = is_access e.action

pub loud-skips : (e : Entry) (es : List Entry) → access e ≡ true → loud (e ∷ es) ≡ loud es
loud-skips e es h = ap (λ b. cond (not b) (e ∷ loud es) (loud es)) h

pub loud-takes : (e : Entry) (es : List Entry) → access e ≡ false → loud (e ∷ es) ≡ e ∷ loud es
loud-takes e es h = ap (λ b. cond (not b) (e ∷ loud es) (loud es)) h

pub loud-append : (xs ys : List Entry) → loud (xs ++ ys) ≡ loud xs ++ loud ys
loud-append [] ys = refl
loud-append (e ∷ xs) ys =
    elim (cases_Bool (access e)) [
      | inl h ↦ loud-skips e (xs ++ ys) h ∙ loud-append xs ys ∙ sym (ap (λ l. l ++ loud ys) (loud-skips e xs h))
      | inr h ↦
          loud-takes e (xs ++ ys) h ∙ ap (λ l. e ∷ l) (loud-append xs ys)
          ∙ sym (ap (λ l. l ++ loud ys) (loud-takes e xs h))
    ]

pub loud-after-access : (xs : List Entry) (e : Entry) → access e ≡ true → loud (xs ++ e ∷ []) ≡ loud xs
loud-after-access xs e h = loud-append xs (e ∷ []) ∙ ap (λ l. loud xs ++ l) (loud-skips e [] h) ∙ append-nil (loud xs)

pub loud-after-other : (xs : List Entry) (e : Entry) → access e ≡ false → loud (xs ++ e ∷ []) ≡ loud xs ++ e ∷ []
loud-after-other xs e h = loud-append xs (e ∷ []) ∙ ap (λ l. loud xs ++ l) (loud-takes e [] h)

-- ---- filters and counts that take no read and no write

pub filter-loud : (p : Entry → Bool) → ((e : Entry) → access e ≡ true → p e ≡ false) → (es : List Entry)
    → filter p (loud es) ≡ filter p es
filter-loud p q [] = refl
filter-loud p q (e ∷ es) =
    elim (cases_Bool (access e)) [
      | inl h ↦
          ap (filter p) (loud-skips e es h) ∙ filter-loud p q es
          ∙ sym (cond-false (p e) (e ∷ filter p es) (filter p es) (q e h))
      | inr h ↦ ap (filter p) (loud-takes e es h) ∙ ap (λ l. cond (p e) (e ∷ l) l) (filter-loud p q es)
    ]

pub filters-loud : (p r : Entry → Bool) → ((e : Entry) → access e ≡ true → p e ≡ false) → (es : List Entry)
    → filter p (filter r (loud es)) ≡ filter p (filter r es)
filters-loud p r q [] = refl
filters-loud p r q (e ∷ es) =
    elim (cases_Bool (access e)) [
      | inl h ↦
          ap (λ l. filter p (filter r l)) (loud-skips e es h) ∙ filters-loud p r q es ∙ sym (dropped (r e) (q e h))
      | inr h ↦ ap (λ l. filter p (filter r l)) (loud-takes e es h) ∙ kept (r e) (filters-loud p r q es)
    ]
  where
    dropped : (b : Bool) → p e ≡ false → filter p (cond b (e ∷ filter r es) (filter r es)) ≡ filter p (filter r es)
    dropped true k = cond-false (p e) (e ∷ filter p (filter r es)) (filter p (filter r es)) k
    dropped false k = refl

    kept : (b : Bool) → filter p (filter r (loud es)) ≡ filter p (filter r es)
        → filter p (cond b (e ∷ filter r (loud es)) (filter r (loud es))) ≡ filter p (cond b (e ∷ filter r es) (filter r es))
    kept true k = ap (λ l. cond (p e) (e ∷ l) l) k
    kept false k = k

pub maps-loud : {X : Type 0} (f : Entry → Option X) (r : Entry → Bool) → ((e : Entry) → access e ≡ true → f e ≡ None) → (es : List Entry)
    → filter_map f (filter r (loud es)) ≡ filter_map f (filter r es)
maps-loud {X} f r q [] = refl
maps-loud {X} f r q (e ∷ es) =
    elim (cases_Bool (access e)) [
      | inl h ↦
          ap (λ l. filter_map f (filter r l)) (loud-skips e es h) ∙ maps-loud f r q es ∙ sym (dropped (r e) (q e h))
      | inr h ↦ ap (λ l. filter_map f (filter r l)) (loud-takes e es h) ∙ kept (r e) (maps-loud f r q es)
    ]
  where
    dropped : (b : Bool) → f e ≡ None → filter_map f (cond b (e ∷ filter r es) (filter r es)) ≡ filter_map f (filter r es)
    dropped true k = ap (λ x. cons_option x (filter_map f (filter r es))) k
    dropped false k = refl

    kept : (b : Bool) → filter_map f (filter r (loud es)) ≡ filter_map f (filter r es)
        → filter_map f (cond b (e ∷ filter r (loud es)) (filter r (loud es))) ≡ filter_map f (cond b (e ∷ filter r es) (filter r es))
    kept true k = ap (cons_option (f e)) k
    kept false k = k

pub counts-loud : (p : Entry → Bool) → ((e : Entry) → access e ≡ true → p e ≡ false) → (es : List Entry)
    → count_by p (loud es) ≡ count_by p es
counts-loud p q es = sym (length-filter p (loud es)) ∙ ap length (filter-loud p q es) ∙ length-filter p es

-- ---- what tests pick that see what comes before

-- the test takes no read and no write, and does not see any before an entry
pub record IsDeaf (test : List Entry → Entry → Bool) : Type 0 where
  pub skips : (before : List Entry) (e : Entry) → access e ≡ true → test before e ≡ false
  pub same : (before : List Entry) (e : Entry) → test (loud before) e ≡ test before e

pub picked-loud : (test : List Entry → Entry → Bool) → IsDeaf test → (before es : List Entry)
    → picked_from test (loud before) (loud es) ≡ picked_from test before es
picked-loud test d before [] = refl
picked-loud test d before (e ∷ es) =
    elim (cases_Bool (access e)) [
      | inl h ↦
          ap (picked_from test (loud before)) (loud-skips e es h)
          ∙ ap (λ b. picked_from test b (loud es)) (sym (loud-after-access before e h))
          ∙ picked-loud test d (before ++ e ∷ []) es
          ∙ sym (cond-false (test before e) (e ∷ picked_from test (before ++ e ∷ []) es) (picked_from test (before ++ e ∷ []) es) (d.skips before e h))
      | inr h ↦
          ap (picked_from test (loud before)) (loud-takes e es h)
          ∙ ap (λ l. cond (test (loud before) e) (e ∷ l) l)
          (ap (λ b. picked_from test b (loud es)) (sym (loud-after-other before e h)) ∙ picked-loud test d (before ++ e ∷ []) es)
          ∙ ap (λ b. cond b (e ∷ picked_from test (before ++ e ∷ []) es) (picked_from test (before ++ e ∷ []) es)) (d.same before e)
    ]

pub picked-same : (test other : List Entry → Entry → Bool) → ((b : List Entry) (e : Entry) → test b e ≡ other b e) → (before es : List Entry)
    → picked_from test before es ≡ picked_from other before es
picked-same test other h before [] = refl
picked-same test other h before (e ∷ es) =
    ap (λ b. cond b (e ∷ picked_from test (before ++ e ∷ []) es) (picked_from test (before ++ e ∷ []) es)) (h before e)
    ∙ ap (λ l. cond (other before e) (e ∷ l) l) (picked-same test other h (before ++ e ∷ []) es)

pub each_thread-same : (n : ℕ) (f g : ℕ → Bool) → ((u : ℕ) → f u ≡ g u) → each_thread n f ≡ each_thread n g
each_thread-same zero f g h = refl
each_thread-same (suc n) f g h = ap (λ b. b && each_thread n f) (h n) ∙ ap (λ b. g n && b) (each_thread-same n f g h)
