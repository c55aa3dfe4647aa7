-- Which entries of a thread a history has up to the last of the p-th notifies.
use Rattle.std.proofs.Common.{◌≡◌, ℕ, zero, suc, ◌+◌, ◌<◌, ◌≤◌, ◌==◌, nat_lt, ◌&&◌, Bool, true, false, List, [], ◌∷◌}
use Rattle.std.proofs.Common.{◌++◌, length, refl, sym, ap, ◌∙◌, subst, inl, inr, append_assoc, arith, eqb-true}
use Rattle.std.proofs.lemmas.Bool.{cond-true, cond-false, false≢true, lt-ltb, and_from, cases_lt, cases_eq}
use Rattle.std.proofs.lemmas.List.{length-append}
use Rattle.std.proofs.lemmas.List.Elements.{filter-append}
use Rattle.upc_values.specs.declared.journal.Entry.{Entry}
use Rattle.upc_values.specs.Drain.{entries_of}
use Rattle.upc_values.specs.History.{is_notify, is_wait, notifies, waits, all_notified}
use Rattle.upc_values.specs.Waits.{WaitsFollow}
use Rattle.upc_values.specs.Together.{EndsNotified}
use Rattle.upc_values.proofs.Waits.{all_notified-each}
use Rattle.collective_laws_histories.proofs.Lists.{head_or, tail_of, longer, count-append, count-filter}
use Rattle.collective_laws_histories.proofs.Syncing.{many}

pub notifies-own : (u : ℕ) (es : List Entry) → notifies u es ≡ many is_notify (entries_of u es)
notifies-own u es = count-filter (λ e. e.thread == u) (λ e. is_notify e.action) es

pub waits-own : (u : ℕ) (es : List Entry) → waits u es ≡ many is_wait (entries_of u es)
waits-own u es = count-filter (λ e. e.thread == u) (λ e. is_wait e.action) es

pub own-append : (u : ℕ) (xs ys : List Entry) → entries_of u (xs ++ ys) ≡ entries_of u xs ++ entries_of u ys
own-append u xs ys = filter-append (λ e. e.thread == u) xs ys

notifies-append : (u : ℕ) (xs ys : List Entry) → notifies u (xs ++ ys) ≡ notifies u xs + notifies u ys
notifies-append u xs ys = count-append (λ e. (e.thread == u) && is_notify e.action) xs ys

each-all_notified : (n p : ℕ) (es : List Entry) → ((u : ℕ) → u < n → p < notifies u es) → all_notified n p es ≡ true
each-all_notified zero p es h = refl
each-all_notified (suc n) p es h =
    and_from (nat_lt p (notifies n es)) (all_notified n p es) (lt-ltb p (notifies n es) (h n (omega arith)))
    (each-all_notified n p es (λ u lt. h u (omega arith)))

pub notified-more : (n p : ℕ) (xs ys : List Entry) → all_notified n p xs ≡ true → all_notified n p (xs ++ ys) ≡ true
notified-more n p xs ys h =
    each-all_notified n p (xs ++ ys) (λ u lt.
    let a = all_notified-each n p xs h u lt in
    let b = notifies-append u xs ys in
    omega arith)

pub notified-less : (n p q : ℕ) (xs : List Entry) → q ≤ p → all_notified n p xs ≡ true → all_notified n q xs ≡ true
notified-less n p q xs le h =
    each-all_notified n q xs (λ u lt. let a = all_notified-each n p xs h u lt in omega arith)

-- An entry of a thread in a history, and the thread's entries before it.
pub record Parts (u : ℕ) (es x : List Entry) (e : Entry) : Type 0 where
  pub front : List Entry
  pub back : List Entry
  pub is : es ≡ front ++ e ∷ back
  pub own : entries_of u front ≡ x
  pub thread : e.thread ≡ u

own-yes : (u : ℕ) (z : Entry) (es : List Entry) → (z.thread == u) ≡ true → entries_of u (z ∷ es) ≡ z ∷ entries_of u es
own-yes u z es h = cond-true (z.thread == u) (z ∷ entries_of u es) (entries_of u es) h

own-no : (u : ℕ) (z : Entry) (es : List Entry) → (z.thread == u) ≡ false → entries_of u (z ∷ es) ≡ entries_of u es
own-no u z es h = cond-false (z.thread == u) (z ∷ entries_of u es) (entries_of u es) h

nothing-is : (x : List Entry) (e : Entry) (y : List Entry) → [] ≡ x ++ e ∷ y → ⊥
nothing-is [] e y q = cc
nothing-is (z ∷ x) e y q = cc

pub parts-of : (u : ℕ) (es x : List Entry) (e : Entry) (y : List Entry) → entries_of u es ≡ x ++ e ∷ y → Parts u es x e
parts-of u [] x e y h = absurd (nothing-is x e y h)
parts-of u (z ∷ es) x e y h = by_test (z.thread == u) refl x h (λ x1 h1. parts-of u es x1 e y h1)
  where
    by_test : (b : Bool) → (z.thread == u) ≡ b → (x : List Entry) → entries_of u (z ∷ es) ≡ x ++ e ∷ y
        → ((x1 : List Entry) → entries_of u es ≡ x1 ++ e ∷ y → Parts u es x1 e) → Parts u (z ∷ es) x e
    by_test false q x h rec =
        let r = rec x (sym (own-no u z es q) ∙ h) in
        record {
          front = z ∷ r.front;
          back = r.back;
          is = ap (λ l. z ∷ l) r.is;
          own = own-no u z r.front q ∙ r.own;
          thread = r.thread;
        }
    by_test true q [] h rec =
        let k : z ∷ entries_of u es ≡ e ∷ y = sym (own-yes u z es q) ∙ h in
        let same : z ≡ e = ap (head_or z) k in
        record {
          front = [];
          back = es;
          is = ap (λ l. l ∷ es) same;
          own = refl;
          thread = ap (λ l. l.thread) (sym same) ∙ eqb-true z.thread u q;
        }
    by_test true q (x0 ∷ x) h rec =
        let k : z ∷ entries_of u es ≡ x0 ∷ (x ++ e ∷ y) = sym (own-yes u z es q) ∙ h in
        let same : z ≡ x0 = ap (head_or z) k in
        let r = rec x (ap tail_of k) in
        record {
          front = z ∷ r.front;
          back = r.back;
          is = ap (λ l. z ∷ l) r.is;
          own = own-yes u z r.front q ∙ ap (λ l. z ∷ l) r.own ∙ ap (λ l. l ∷ x) same;
          thread = r.thread;
        }

-- ---- up to the last of the p-th notifies

module _ (n p : ℕ) (front history : List Entry) (ends : EndsNotified n p front history)
    (follow : WaitsFollow n history) (u : ℕ) (below : u < n) (x y : List Entry) (notify wait : Entry)
    (own : entries_of u history ≡ x ++ notify ∷ wait ∷ y) (notifies_is : is_notify notify.action ≡ true)
    (waits_is : is_wait wait.action ≡ true) (notified : many is_notify x ≡ p)
    (waited : many is_wait (x ++ notify ∷ []) ≡ p) where
  abbrev mine : List Entry
  mine = entries_of u front

  both : mine ++ entries_of u ends.rest ≡ x ++ notify ∷ wait ∷ y
  both = sym (own-append u front ends.rest) ∙ ap (entries_of u) (sym ends.history_is) ∙ own

  -- It has the p-th notify of the thread.
  not_short : length mine ≤ length x → ⊥
  not_short le =
      let r = longer mine (entries_of u ends.rest) x (notify ∷ wait ∷ y) both le in
      let a = all_notified-each n p front ends.all u below in
      let b = notifies-own u front in
      let c = ap (many is_notify) r.1 ∙ count-append (λ e. is_notify e.action) mine r.0 in
      omega arith

  -- The wait would follow the p-th notifies of all threads.
  not_long : (m : List Entry) → mine ≡ (x ++ notify ∷ []) ++ wait ∷ m → ⊥
  not_long m e =
      let k = parts-of u front (x ++ notify ∷ []) wait m e in
      let h : history ≡ k.front ++ wait ∷ (k.back ++ ends.rest) =
      ends.history_is ∙ ap (λ l. l ++ ends.rest) k.is ∙ append_assoc k.front (wait ∷ k.back) ends.rest in
      let w : waits u k.front ≡ p = waits-own u k.front ∙ ap (many is_wait) k.own ∙ waited in
      let t = k.thread in
      let all : all_notified n p k.front ≡ true =
      each-all_notified n p k.front (λ v lt.
      let f = follow k.front (k.back ++ ends.rest) wait h waits_is v lt in
      let s : waits wait.thread k.front ≡ waits u k.front = ap (λ z. waits z k.front) t in
      omega arith) in
      let split : k.front ++ wait ∷ k.back ≡ ends.before ++ ends.last ∷ [] = sym k.is ∙ ends.front_is in
      let a = ap length split in
      let b = length-append k.front (wait ∷ k.back) in
      let c = length-append ends.before (ends.last ∷ []) in
      let r = longer k.front (wait ∷ k.back) ends.before (ends.last ∷ []) split (omega arith) in
      let more = subst (λ z. all_notified n p z ≡ true) (sym r.1) (notified-more n p k.front r.0 all) in
      false≢true (sym ends.not_before ∙ more)

  -- A history up to the last of the p-th notifies has a thread's entries up to its own p-th notify.
  pub ends-at : mine ≡ x ++ notify ∷ []
  ends-at =
      elim (cases_lt (length x) (length mine)) [
        | inr le ↦ absurd (not_short le)
        | inl lt ↦
            elim (cases_eq (length mine) (length x + 1)) [
              | inl e ↦
                  let r = longer x (notify ∷ wait ∷ y) mine (entries_of u ends.rest) (sym both) (omega arith) in
                  let l = ap length r.1 ∙ length-append x r.0 in
                  r.1 ∙ ap (λ z. x ++ z) (first_one r.0 (omega arith) r.2)
              | inr ne ↦
                  let k = length-append x (notify ∷ wait ∷ []) in
                  let q : (x ++ notify ∷ wait ∷ []) ++ y ≡ mine ++ entries_of u ends.rest =
                  append_assoc x (notify ∷ wait ∷ []) y ∙ sym both in
                  let r = longer (x ++ notify ∷ wait ∷ []) y mine (entries_of u ends.rest) q (omega arith) in
                  absurd (not_long r.0
                  (r.1 ∙ append_assoc x (notify ∷ wait ∷ []) r.0 ∙ sym (append_assoc x (notify ∷ []) (wait ∷ r.0))))
            ]
      ]
    where
      first_one : (m : List Entry) → length m ≡ 1 → notify ∷ wait ∷ y ≡ m ++ entries_of u ends.rest → m ≡ notify ∷ []
      first_one [] l e = absurd (omega arith)
      first_one (c ∷ []) l e = ap (λ z. z ∷ []) (sym (ap (head_or c) e))
      first_one (c ∷ d ∷ m) l e = absurd (omega arith)
