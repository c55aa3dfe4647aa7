-- The first fault, in the words of the rules.
use Rattle.std.proofs.Common.{◌≡◌, ℕ, ◌<◌, ◌≤◌, List, [], ◌∷◌, refl, sym, ap, ◌∙◌, Option, Some, None, Bool, true}
use Rattle.std.proofs.Common.{false, IsTrue, ◌⊎◌, inl, inr, arith, lit<}
use Rattle.typing_rules.specs.Attributes.{Facts}
use Rattle.typing_rules.specs.Nodes.{Node}
use Rattle.typing_rules.specs.Rules.{Verdict, table, or_above, lowest_in, lowest, Breaks}
use Rattle.upc_text.specs.declared.place.Place.{Place}
use Rattle.typing_rules.specs.Faults.{Seen, Fault, fault_by, or_later, first_fault, Meets, AllMeet, IsFirst}

abbrev Ascending : ℕ → List Verdict → Type 0
Ascending b [] = Unit {0}
Ascending b (v ∷ vs) = (b < v.rule) × Ascending v.rule vs

table_ascends : (φ : Facts) (x : Node) → Ascending 0 (table φ x)
table_ascends φ x = (
  lit< tt,
  (
    lit< tt,
    (
      lit< tt,
      (
        lit< tt,
        (
          lit< tt,
          (
            lit< tt,
            (
              lit< tt,
              (
                lit< tt,
                (
                  lit< tt,
                  (
                    lit< tt,
                    (
                      lit< tt,
                      (
                        lit< tt,
                        (
                          lit< tt,
                          (
                            lit< tt,
                            (
                              lit< tt,
                              (
                                lit< tt,
                                (
                                  lit< tt,
                                  (
                                    lit< tt,
                                    (
                                      lit< tt,
                                      (
                                        lit< tt,
                                        (
                                          lit< tt,
                                          (
                                            lit< tt,
                                            (
                                              lit< tt,
                                              (
                                                lit< tt,
                                                (
                                                  lit< tt,
                                                  (
                                                    lit< tt,
                                                    (
                                                      lit< tt,
                                                      (lit< tt, (lit< tt, (lit< tt, (lit< tt, (lit< tt, tt {0}))))),
                                                    ),
                                                  ),
                                                ),
                                              ),
                                            ),
                                          ),
                                        ),
                                      ),
                                    ),
                                  ),
                                ),
                              ),
                            ),
                          ),
                        ),
                      ),
                    ),
                  ),
                ),
              ),
            ),
          ),
        ),
      ),
    ),
  ),
)

further : (b n m : ℕ) → b < n → n < m → b < m
further b n m h k = omega arith

here : (b n m : ℕ) → b < n → m ≡ n → b < m
here b n m h e = omega arith

above : (b : ℕ) (vs : List Verdict) (m : ℕ) → Ascending b vs → Breaks m vs → b < m
above b [] m up h = absurd h
above b (v ∷ vs) m up (inl e) = here b v.rule m up.0 e.0
above b (v ∷ vs) m up (inr r) = further b v.rule m up.0 (above v.rule vs m up.1 r)

true_breaks : (n m : ℕ) (broken : Bool) (rest : Option ℕ) (More : Type 0) → (rest ≡ Some m → More) →
    or_above n broken rest ≡ Some m → ((m ≡ n) × IsTrue broken) ⊎ More
true_breaks n m true rest More more h = let e : m ≡ n = cc in inl (e, refl)
true_breaks n m false rest More more h = inr (more h)

found_breaks : (vs : List Verdict) (m : ℕ) → lowest_in vs ≡ Some m → Breaks m vs
found_breaks [] m h = absurd cc
found_breaks (v ∷ vs) m h = true_breaks v.rule m v.broken (lowest_in vs) (Breaks m vs) (found_breaks vs m) h

at_least : (n m : ℕ) → n < m → n ≤ m
at_least n m h = omega arith

same_least : (n m k : ℕ) → m ≡ n → k ≡ n → m ≤ k
same_least n m k e f = omega arith

least_by : (n m k : ℕ) (broken : Bool) (vs : List Verdict) → Ascending n vs →
    (lowest_in vs ≡ Some m → Breaks k vs → m ≤ k) → or_above n broken (lowest_in vs) ≡ Some m →
    ((k ≡ n) × IsTrue broken) ⊎ Breaks k vs → m ≤ k
least_by n m k true vs up more h (inl e) = let f : m ≡ n = cc in same_least n m k f e.0
least_by n m k true vs up more h (inr r) = let f : m ≡ n = cc in rw f (at_least n k (above n vs k up r))
least_by n m k false vs up more h (inl e) = let g : false ≡ true = e.1 in absurd cc
least_by n m k false vs up more h (inr r) = more h r

least : (b : ℕ) (vs : List Verdict) (m k : ℕ) → Ascending b vs → lowest_in vs ≡ Some m → Breaks k vs → m ≤ k
least b [] m k up h r = absurd r
least b (v ∷ vs) m k up h r = least_by v.rule m k v.broken vs up.1 (λ g s. least v.rule vs m k up.1 g s) h r

none_by : (n k : ℕ) (broken : Bool) (rest : Option ℕ) (More : Type 0) → (rest ≡ None → More → ⊥) →
    or_above n broken rest ≡ None → ((k ≡ n) × IsTrue broken) ⊎ More → ⊥
none_by n k true rest More more h r = absurd cc
none_by n k false rest More more h (inl e) = let g : false ≡ true = e.1 in absurd cc
none_by n k false rest More more h (inr r) = more h r

none : (vs : List Verdict) (k : ℕ) → lowest_in vs ≡ None → Breaks k vs → ⊥
none [] k h r = r
none (v ∷ vs) k h r = none_by v.rule k v.broken (lowest_in vs) (Breaks k vs) (none vs k) h r

abbrev rule_in : Option Fault → ℕ
rule_in None = 0
rule_in (Some f) = f.rule

abbrev place_in : Option Fault → Option Place
place_in None = None
place_in (Some f) = Some f.at

some_place : (p q : Place) → Some p ≡ Some q → p ≡ q
some_place p q e = cc

pub meets : (x : Seen) → lowest x.facts x.node ≡ None → Meets x
meets x h = record { none = λ k r. none (table x.facts x.node) k h r }

quiet_by : (m : Option ℕ) (at : Place) (rest : Option Fault) → or_later (fault_by m at) rest ≡ None → (m ≡ None)
    × (rest ≡ None)
quiet_by None at rest h = (refl, h)
quiet_by (Some n) at rest h = absurd cc

-- where there is no first fault, each node meets every rule
pub all_meet : (xs : List Seen) → first_fault xs ≡ None → AllMeet xs
all_meet [] h = tt {0}
all_meet (x ∷ xs) h =
    let q = quiet_by (lowest x.facts x.node) x.at (first_fault xs) h in
    (meets x q.0, all_meet xs q.1)

prepend : (x : Seen) (xs : List Seen) (f : Fault) → Meets x → IsFirst xs f → IsFirst (x ∷ xs) f
prepend x xs f m i = record {
  before = x ∷ i.before;
  x = i.x;
  later = i.later;
  splits = ap (λ l. x ∷ l) i.splits;
  earlier = (m, i.earlier);
  place = i.place;
  breaks = i.breaks;
  least = i.least;
}

first_by : (x : Seen) (xs : List Seen) (f : Fault) (m : Option ℕ) → lowest x.facts x.node ≡ m →
    (first_fault xs ≡ Some f → IsFirst xs f) → or_later (fault_by m x.at) (first_fault xs) ≡ Some f →
    IsFirst (x ∷ xs) f
first_by x xs f None e more h = prepend x xs f (meets x e) (more h)
first_by x xs f (Some n) e more h =
    let r : n ≡ f.rule = ap rule_in h in
    let p : x.at ≡ f.at = some_place x.at f.at (ap place_in h) in
    let g : lowest_in (table x.facts x.node) ≡ Some f.rule = e ∙ ap Some r in
    record {
      before = [];
      x = x;
      later = xs;
      splits = refl;
      earlier = tt {0};
      place = sym p;
      breaks = found_breaks (table x.facts x.node) f.rule g;
      least = λ k s. least 0 (table x.facts x.node) f.rule k (table_ascends x.facts x.node) g s;
    }

-- the first fault is that of the first node, in finishing order, that breaks a rule
pub is_first : (xs : List Seen) (f : Fault) → first_fault xs ≡ Some f → IsFirst xs f
is_first [] f h = absurd cc
is_first (x ∷ xs) f h = first_by x xs f (lowest x.facts x.node) refl (is_first xs f) h
