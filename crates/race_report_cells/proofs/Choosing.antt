-- The operation with which a new one races.
use Rattle.std.proofs.Common.{◌≡◌, ◌<◌, ◌≤◌, ◌==◌, nat_lt, Bool, true, false, ◌&&◌, ◌||◌, cond, List, [], ◌∷◌, ◌++◌, Option, Some, None, ◌⊎◌, refl, sym, ap, ◌∙◌, subst, inl, inr, eq-eqb, eqb-true, arith}
use Rattle.std.proofs.lemmas.Bool.{cases_Bool, cases_lt, false≢true, and_from, and_parts, or_left, or_right, ltb-true, lt-ltb}
use Rattle.upc_values.specs.Lists.{Has}
use Rattle.upc_values.proofs.Membership.{has-left, has-right, has-cases}
use Rattle.order_builder.specs.declared.names.Named.{Named}
use Rattle.race_report_cells.specs.code.Lasts.{is_before, chosen, IsFirst, IsFound}

module _ (test : Named → Bool) where
  -- the members with one more
  members : (P : Named → Type 0) (xs : List Named) (x : Named) → ((n : Named) → Has xs n → P n) → P x → (n : Named) → Has (xs ++ x ∷ []) n → P n
  members P xs x old new n h =
      elim (has-cases xs (x ∷ []) n h) [
        | inl m ↦ old n m
        | inr (inl e) ↦ subst P e new
        | inr (inr k) ↦ absurd k
      ]

  -- one that does not pass changes nothing
  skipped : (xs : List Named) (x : Named) (o : Option Named) → test x ≡ false → IsFound test xs o → IsFound test (xs ++ x ∷ []) o
  skipped xs x None f h = members (λ n. test n ≡ false) xs x h f
  skipped xs x (Some a) f h =
      record {
        has = has-left xs (x ∷ []) a h.has;
        race = h.race;
        lowest = members (λ n. test n ≡ true → a.name.thread ≤ n.name.thread) xs x h.lowest
            (λ t. absurd (false≢true (sym f ∙ t)));
        last = members (λ n. test n ≡ true → n.name.thread ≡ a.name.thread → n.name.index ≤ a.name.index) xs x h.last
            (λ t e. absurd (false≢true (sym f ∙ t)));
      }

  -- the first that passes
  started : (xs : List Named) (x : Named) → test x ≡ true → IsFound test xs None → IsFirst test (xs ++ x ∷ []) x
  started xs x t h =
      record {
        has = has-right xs (x ∷ []) x (inl refl);
        race = t;
        lowest = members (λ n. test n ≡ true → x.name.thread ≤ n.name.thread) xs x
            (λ n m k. absurd (false≢true (sym (h n m) ∙ k))) (λ k. omega arith);
        last = members (λ n. test n ≡ true → n.name.thread ≡ x.name.thread → n.name.index ≤ x.name.index) xs x
            (λ n m k e. absurd (false≢true (sym (h n m) ∙ k))) (λ k e. omega arith);
      }

  before-cases : (x a : Named) → is_before x (Some a) ≡ true → (x.name.thread < a.name.thread) ⊎ ((x.name.thread ≡ a.name.thread) × (a.name.index < x.name.index))
  before-cases x a t =
      elim (cases_Bool (nat_lt x.name.thread a.name.thread)) [
        | inl l ↦ inl (ltb-true x.name.thread a.name.thread l)
        | inr f ↦
            let q : ((x.name.thread == a.name.thread) && nat_lt a.name.index x.name.index) ≡ true =
            sym (ap (λ z. z || ((x.name.thread == a.name.thread) && nat_lt a.name.index x.name.index)) f) ∙ t in
            let p = and_parts (x.name.thread == a.name.thread) (nat_lt a.name.index x.name.index) q in
            inr (eqb-true x.name.thread a.name.thread p.0, ltb-true a.name.index x.name.index p.1)
      ]

  -- a better one
  bettered : (xs : List Named) (x a : Named) → test x ≡ true → is_before x (Some a) ≡ true → IsFirst test xs a → IsFirst test (xs ++ x ∷ []) x
  bettered xs x a t b h =
      let c = before-cases x a b in
      let under : x.name.thread ≤ a.name.thread =
      elim c [ inl l ↦ let k : x.name.thread < a.name.thread = l in omega arith | inr q ↦ let k : x.name.thread ≡ a.name.thread = q.0 in omega arith ] in
      record {
        has = has-right xs (x ∷ []) x (inl refl);
        race = t;
        lowest = members (λ n. test n ≡ true → x.name.thread ≤ n.name.thread) xs x
            (λ n m k. let l : a.name.thread ≤ n.name.thread = h.lowest n m k in omega arith) (λ k. omega arith);
        last = members (λ n. test n ≡ true → n.name.thread ≡ x.name.thread → n.name.index ≤ x.name.index) xs x
            (λ n m k e.
            let l : a.name.thread ≤ n.name.thread = h.lowest n m k in
            elim c [
              | inl u ↦ let v : x.name.thread < a.name.thread = u in absurd (omega arith)
              | inr q ↦
                  let i : n.name.index ≤ a.name.index = h.last n m k (e ∙ q.0) in
                  let v : a.name.index < x.name.index = q.1 in
                  omega arith
            ])
            (λ k e. omega arith);
      }

  before-low : (x a : Named) → x.name.thread < a.name.thread → is_before x (Some a) ≡ true
  before-low x a l =
      or_left (nat_lt x.name.thread a.name.thread) ((x.name.thread == a.name.thread) && nat_lt a.name.index x.name.index)
      (lt-ltb x.name.thread a.name.thread l)

  before-late : (x a : Named) → x.name.thread ≡ a.name.thread → a.name.index < x.name.index → is_before x (Some a) ≡ true
  before-late x a e l =
      or_right (nat_lt x.name.thread a.name.thread) ((x.name.thread == a.name.thread) && nat_lt a.name.index x.name.index)
      (and_from (x.name.thread == a.name.thread) (nat_lt a.name.index x.name.index) (eq-eqb x.name.thread a.name.thread e)
      (lt-ltb a.name.index x.name.index l))

  -- one that is no better
  stayed : (xs : List Named) (x a : Named) → is_before x (Some a) ≡ false → IsFirst test xs a → IsFirst test (xs ++ x ∷ []) a
  stayed xs x a b h =
      record {
        has = has-left xs (x ∷ []) a h.has;
        race = h.race;
        lowest = members (λ n. test n ≡ true → a.name.thread ≤ n.name.thread) xs x h.lowest
            (λ t. elim (cases_lt x.name.thread a.name.thread) [
              | inl l ↦ absurd (false≢true (sym b ∙ before-low x a l))
              | inr g ↦ g
            ]);
        last = members (λ n. test n ≡ true → n.name.thread ≡ a.name.thread → n.name.index ≤ a.name.index) xs x h.last
            (λ t e. elim (cases_lt a.name.index x.name.index) [
              | inl l ↦ absurd (false≢true (sym b ∙ before-late x a e l))
              | inr g ↦ g
            ]);
      }

  passed : (xs : List Named) (x : Named) (o : Option Named) → test x ≡ true → (b : Bool) → is_before x o ≡ b → IsFound test xs o → IsFound test (xs ++ x ∷ []) (cond b (Some x) o)
  passed xs x None t true q h = started xs x t h
  passed xs x None t false q h = absurd (false≢true (sym q))
  passed xs x (Some a) t true q h = bettered xs x a t q h
  passed xs x (Some a) t false q h = stayed xs x a q h

  decided : (xs : List Named) (x : Named) (o : Option Named) (b : Bool) → test x ≡ b → IsFound test xs o → IsFound test (xs ++ x ∷ []) (cond (b && is_before x o) (Some x) o)
  decided xs x o true t h = passed xs x o t (is_before x o) refl h
  decided xs x o false t h = skipped xs x o t h

  -- one more operation
  pub found-more : (xs : List Named) (x : Named) (o : Option Named) → IsFound test xs o → IsFound test (xs ++ x ∷ []) (chosen test o x)
  found-more xs x o h = decided xs x o (test x) refl h
