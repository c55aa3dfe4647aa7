-- The orders that are answered are UPC consistent.
use Rattle.std.proofs.Common.{◌≡◌, ◌≢◌, ℕ, ◌<◌, ◌==◌, ◌||◌, true, List, [], ◌∷◌, flat_map, refl, sym, eq-eqb, arith}
use Rattle.std.proofs.lemmas.Bool.{or_left, or_right}
use Rattle.std.proofs.lemmas.List.FromFn.{length-map-range_with_len, get_or-map-range_with_len}
use Rattle.upc_values.specs.declared.journal.Entry.{Entry}
use Rattle.upc_values.specs.declared.journal.Journal.{Journal}
use Rattle.upc_values.specs.Lists.{Each, Has, Precedes}
use Rattle.upc_values.specs.Operations.{Operation}
use Rattle.upc_values.specs.Orders.{IsOf, name_of, placed, global_order, strict_list, is_shown, thread_order, StrictOrder, As_placed}
use Rattle.upc_values.specs.Consistent.{FollowsBuffers, IsOrderOf, IsConsistent, begins}
use Rattle.upc_values.proofs.Membership.{has-filter, filter-has, pairs-at, pairs-from, precedes-has, precedes-filter, filter-precedes}
use Rattle.upc_values.proofs.SoundOrders.{sound-follows}
use Rattle.upc_values.proofs.Consistency.{all-consistent}
use Rattle.order_builder.specs.Named.{thread_names, LegalAreConsistent, SoundAreConsistent}

own-shown : (o : Operation) → is_shown o.thread o ≡ true
own-shown o = or_left (o.thread == o.thread) (o.write || o.strict) (eq-eqb o.thread o.thread refl)

strict-shown : (t : ℕ) (o : Operation) → o.strict ≡ true → is_shown t o ≡ true
strict-shown t o h = or_right (o.thread == t) (o.write || o.strict) (or_right o.write o.strict h)

-- where there is an operation there is a thread
some-thread : (n : ℕ) (g : Entry → List Operation) (es : List Entry) (o : Operation) → Each (λ e. e.thread < n) es → Has (flat_map g es) o → 0 < n
some-thread n g [] o b h = absurd h
some-thread n g (e ∷ es) o b h = let lt : e.thread < n = b.0 in omega arith

strict-whole : (j : Journal) (initial : _) → FollowsBuffers j → IsConsistent initial j.threads (IsOf j) (StrictOrder j) (thread_order j) → IsOrderOf (λ o. IsOf j o × (o.strict ≡ true)) (strict_list j)
strict-whole j initial f k =
    let test = λ (o : Operation). o.strict in
    record {
      has = λ o m.
          has-filter test (global_order j) o m.1
          (filter-has (is_shown o.thread) (global_order j) o ((k.total o.thread m.0.0).has o (m.0, own-shown o))).0;
      only = λ o m.
          let h = filter-has test (global_order j) o m in
          let lt : 0 < j.threads = some-thread j.threads (placed j) j.history o f.below h.0 in
          (((k.total 0 lt).only o (has-filter (is_shown 0) (global_order j) o (strict-shown 0 o h.1) h.0)).0, h.1);
      once =
          pairs-from (λ a b. name_of a ≢ name_of b) (strict_list j)
          (λ a b p.
          let m = precedes-has (strict_list j) a b p in
          let x = filter-has test (global_order j) a m.0 in
          let y = filter-has test (global_order j) b m.1 in
          let lt : 0 < j.threads = some-thread j.threads (placed j) j.history a f.below x.0 in
          pairs-at (λ a b. name_of a ≢ name_of b) (thread_order j 0) (k.total 0 lt).once a b
          (precedes-filter (is_shown 0) (global_order j) a b (strict-shown 0 a x.1) (strict-shown 0 b y.1) (filter-precedes test (global_order j) a b p)));
    }

strict-kept : (j : Journal) (a b : Operation) → Precedes (strict_list j) a b → StrictOrder j a b
strict-kept j a b p =
    let test = λ (o : Operation). o.strict in
    let m = precedes-has (strict_list j) a b p in
    As_placed a b (filter-has test (global_order j) a m.0).1 (filter-has test (global_order j) b m.1).1
    (filter-precedes test (global_order j) a b p)

pub legal-consistent : LegalAreConsistent
legal-consistent j o f legal =
    let k = all-consistent j o f legal in
    record {
      strict = strict_list j;
      strict_names = refl;
      whole = strict-whole j (begins o j.history) f k;
      keeps = strict-kept j;
      threads = thread_order j;
      many = length-map-range_with_len (thread_names j) 0 j.threads;
      thread_names = λ t lt. sym (get_or-map-range_with_len (thread_names j) 0 j.threads t t [] lt (omega arith));
      consistent = k;
    }

pub sound-consistent : SoundAreConsistent
sound-consistent o outcome j s = legal-consistent j o (sound-follows o outcome j s) s.legal
