-- Operations by their numbers and by their names.
use Rattle.std.proofs.Common.{◌≡◌, ◌≢◌, ℕ, ◌+◌, ◌<◌, ◌≤◌, Bool, true, false, List, [], ◌∷◌, ◌++◌, length, get_or, take, map, refl, sym, ap, ◌∙◌, subst, inl, inr, arith}
use Rattle.std.proofs.lemmas.List.{take_more, length-map, get_or-map}
use Rattle.std.proofs.lemmas.Bool.{cases_order}
use Rattle.upc_values.specs.declared.order.Op.{Op}
use Rattle.upc_values.specs.Lists.{Each, Has, Pairwise}
use Rattle.upc_values.specs.Operations.{Operation}
use Rattle.upc_values.specs.Orders.{name_of}
use Rattle.upc_values.specs.Consistent.{IsOrderOf}
use Rattle.upc_values.proofs.Lists.{each-push, each-at}
use Rattle.upc_values.proofs.Membership.{each-has, each-from}
use Rattle.upc_verify_orders.specs.declared.part.Part.{Part}
use Rattle.upc_verify_orders.specs.layer.Parts.{is_in, IsPartOf}
use Rattle.upc_verify_orders.specs.code.Found.{IsBefore, AreSorted, AreWithin, AreFound, AreApart, IsMarked, HasNoOrder, taken, nothing}
use Rattle.upc_verify_orders.proofs.Sorted.{before-not, pairs-get, one-name, one-number}

-- a member by its number, and the number of a member
pub has-get : {X : Type 0} (xs : List X) (i : ℕ) (d : X) → i < length xs → Has xs (get_or xs i d)
has-get [] i d lt = absurd (omega arith)
has-get (x ∷ xs) ℕ.zero d lt = inl refl
has-get (x ∷ xs) (ℕ.suc i) d lt = inr (has-get xs i d (omega arith))

pub number-of : {X : Type 0} (xs : List X) (x : X) → Has xs x → (i : ℕ) × (i < length xs) × ((d : X) → get_or xs i d ≡ x)
number-of [] x h = absurd h
number-of (y ∷ xs) x (inl e) = (0, omega arith, λ d. e)
number-of (y ∷ xs) x (inr m) = let k = number-of xs x m in (ℕ.suc k.0, (let lt : k.0 < length xs = k.1 in omega arith), λ d. k.2 d)

pub each-get : {X : Type 0} (P : X → Type 0) (xs : List X) (d : X) → ((i : ℕ) → i < length xs → P (get_or xs i d)) → Each P xs
each-get P xs d h =
    each-from P xs (λ x m. let k = number-of xs x m in subst P (k.2 d) (h k.0 k.1))

-- a name that none has, by where it would stand
pub none-named : (operations : List Operation) (name : Op) (count : ℕ) → AreSorted operations
    → ((i : ℕ) (d : Operation) → i < count → IsBefore (get_or operations i d) name)
    → ((i : ℕ) (d : Operation) → count ≤ i → i < length operations → IsBefore (get_or operations i d) name → ⊥)
    → (count < length operations → name_of (get_or operations count nothing) ≡ name → ⊥)
    → Each (λ o. name_of o ≢ name) operations
none-named operations name count sorted less more here =
    each-get (λ o. name_of o ≢ name) operations nothing
    (λ i lt e.
    elim (cases_order i count) [
      | inl q ↦ here (omega arith) (ap (λ k. name_of (get_or operations k nothing)) (sym q) ∙ e)
      | inr k ↦ elim k [
        | inl under ↦
            before-not (get_or operations i nothing)
            (subst (IsBefore (get_or operations i nothing)) (sym e) (less i nothing under))
        | inr over ↦
            more count nothing (omega arith) (omega arith)
            (subst (IsBefore (get_or operations count nothing)) e
            (pairs-get (λ a b. IsBefore a (name_of b)) operations sorted count i nothing nothing over lt))
      ]
    ])

pub take-whole : {X : Type 0} (xs : List X) (i : ℕ) → length xs ≤ i → take i xs ≡ xs
take-whole [] ℕ.zero h = refl
take-whole [] (ℕ.suc i) h = refl
take-whole (x ∷ xs) ℕ.zero h = absurd (omega arith)
take-whole (x ∷ xs) (ℕ.suc i) h = ap (λ l. x ∷ l) (take-whole xs i (omega arith))

-- one more name is found
named-more : (operations : List Operation) (at : List ℕ) (k : ℕ) → map name_of (taken operations (at ++ k ∷ [])) ≡ map name_of (taken operations at) ++ name_of (get_or operations k nothing) ∷ []
named-more operations [] k = refl
named-more operations (i ∷ at) k = ap (λ l. name_of (get_or operations i nothing) ∷ l) (named-more operations at k)

pub found-more : (operations : List Operation) (names : List Op) (i : ℕ) (d : Op) (at new : List ℕ) (k : ℕ) → i < length names → AreFound operations (take i names) at
    → k < length operations → name_of (get_or operations k nothing) ≡ get_or names i d → new ≡ at ++ k ∷ [] → AreFound operations (take (i + 1) names) new
found-more operations names i d at new k lt h within e is =
    record {
      within =
          subst (AreWithin operations) (sym is) (each-push (λ n. n < length operations) at k h.within within);
      named =
          ap (λ l. map name_of (taken operations l)) is ∙ named-more operations at k
          ∙ ap (λ l. l ++ name_of (get_or operations k nothing) ∷ []) h.named
          ∙ ap (λ n. take i names ++ n ∷ []) e ∙ sym (take_more names i d lt);
    }

-- the member at a place of a list, by what a function gives there
picked : {A B : Type 0} (f : A → B) (S : A → Type 0) (xs : List A) (i : ℕ) (d : B) → i < length (map f xs) → Each S xs → (x : A) × S x × (f x ≡ get_or (map f xs) i d)
picked f S [] i d lt h = absurd (omega arith)
picked f S (x ∷ xs) ℕ.zero d lt h = (x, h.0, refl)
picked f S (x ∷ xs) (ℕ.suc i) d lt h = picked f S xs i d (omega arith) h.1

-- a name that none has is in no list
pub absent : (operations : List Operation) (names : List Op) (list : List Operation) (i : ℕ) (name : Op) → i < length names → name ≡ get_or names i name
    → map name_of list ≡ names → Each (Has operations) list → Each (λ o. name_of o ≢ name) operations → ⊥
absent operations names list i name lt is e h none =
    let k = picked name_of (Has operations) list i name (subst (λ l. i < length l) (sym e) lt) h in
    each-has (λ o. name_of o ≢ name) operations none k.0 k.1 (k.2 ∙ ap (λ l. get_or l i name) e ∙ sym is)

-- lists of the set with the same names are the same
pub same-named : {A B : Type 0} (f : A → B) (S : A → Type 0) → ((a b : A) → S a → S b → f a ≡ f b → a ≡ b) → (xs ys : List A) → Each S xs → Each S ys → map f xs ≡ map f ys → xs ≡ ys
same-named f S one [] [] h k e = refl
same-named f S one [] (y ∷ ys) h k e = cc
same-named f S one (x ∷ xs) [] h k e = cc
same-named f S one (x ∷ xs) (y ∷ ys) h k e =
    let p : f x ≡ f y = cc in
    let q : map f xs ≡ map f ys = cc in
    let head = one x y h.0 k.0 p in
    let tail = same-named f S one xs ys h.1 k.1 q in
    ap (λ z. z ∷ xs) head ∙ ap (λ l. y ∷ l) tail

-- the numbers of a list's members
pub at-of : (operations list : List Operation) → Each (Has operations) list → (at : List ℕ) × AreWithin operations at × (taken operations at ≡ list)
at-of operations [] h = ([], tt, refl)
at-of operations (o ∷ os) h =
    let k = number-of operations o h.0 in
    let r = at-of operations os h.1 in (
      k.0 ∷ r.0,
      (k.1, r.1),
      ap (λ z. z ∷ taken operations r.0) (k.2 nothing) ∙ ap (λ l. o ∷ l) r.2,
    )

pub has-taken : (operations : List Operation) (at : List ℕ) (i : ℕ) → Has at i → Has (taken operations at) (get_or operations i nothing)
has-taken operations [] i h = absurd h
has-taken operations (k ∷ at) i (inl e) = inl (ap (λ n. get_or operations n nothing) e)
has-taken operations (k ∷ at) i (inr m) = inr (has-taken operations at i m)

pub taken-has : (operations : List Operation) (at : List ℕ) (o : Operation) → Has (taken operations at) o → (i : ℕ) × Has at i × (get_or operations i nothing ≡ o)
taken-has operations [] o h = absurd h
taken-has operations (k ∷ at) o (inl e) = (k, inl refl, e)
taken-has operations (k ∷ at) o (inr m) = let r = taken-has operations at o m in (r.0, inr r.1, r.2)

pub taken-inside : (operations : List Operation) (at : List ℕ) → AreWithin operations at → Each (Has operations) (taken operations at)
taken-inside operations [] h = tt
taken-inside operations (k ∷ at) h = (has-get operations k nothing h.0, taken-inside operations at h.1)

pub each-taken : (P : Operation → Type 0) (operations : List Operation) (at : List ℕ) → Each (λ i. P (get_or operations i nothing)) at → Each P (taken operations at)
each-taken P operations [] h = tt
each-taken P operations (k ∷ at) h = (h.0, each-taken P operations at h.1)

pub taken-each : (P : Operation → Type 0) (operations : List Operation) (at : List ℕ) → Each P (taken operations at) → Each (λ i. P (get_or operations i nothing)) at
taken-each P operations [] h = tt
taken-each P operations (k ∷ at) h = (h.0, taken-each P operations at h.1)

-- names differ just where numbers do
each-apart : (operations : List Operation) (k : ℕ) (at : List ℕ) → Each (λ b. name_of (get_or operations k nothing) ≢ name_of b) (taken operations at) → Each (λ j. k ≢ j) at
each-apart operations k [] h = tt
each-apart operations k (j ∷ at) h = (λ e. h.0 (ap (λ n. name_of (get_or operations n nothing)) e), each-apart operations k at h.1)

pub apart-of : (operations : List Operation) (at : List ℕ) → Pairwise (λ a b. name_of a ≢ name_of b) (taken operations at) → AreApart at
apart-of operations [] h = tt
apart-of operations (k ∷ at) h = (each-apart operations k at h.0, apart-of operations at h.1)

each-once : (operations : List Operation) → AreSorted operations → (k : ℕ) → k < length operations → (at : List ℕ) → AreWithin operations at → Each (λ j. k ≢ j) at → Each (λ b. name_of (get_or operations k nothing) ≢ name_of b) (taken operations at)
each-once operations sorted k lt [] w h = tt
each-once operations sorted k lt (j ∷ at) w h =
    (λ e. h.0 (one-number operations sorted k j nothing lt w.0 e), each-once operations sorted k lt at w.1 h.1)

pub once-of : (operations : List Operation) → AreSorted operations → (at : List ℕ) → AreWithin operations at → AreApart at → Pairwise (λ a b. name_of a ≢ name_of b) (taken operations at)
once-of operations sorted [] w h = tt
once-of operations sorted (k ∷ at) w h = (each-once operations sorted k w.0 at w.1 h.0, once-of operations sorted at w.1 h.1)

module _ (part : Part) (operations : List Operation) (sorted : AreSorted operations) (names : List Op) where
  -- names that are not found name no order
  pub none-found : ((list : List Operation) → map name_of list ≡ names → Each (Has operations) list → ⊥) → HasNoOrder part operations names
  none-found not = λ list e whole. not list e (each-from (Has operations) list (λ o m. (whole.only o m).0))

  module _ (at : List ℕ) (found : AreFound operations names at) where
    -- an order with these names is of these operations
    is-taken : (list : List Operation) → map name_of list ≡ names → IsOrderOf (IsPartOf part operations) list → IsOrderOf (IsPartOf part operations) (taken operations at)
    is-taken list e whole =
        subst (IsOrderOf (IsPartOf part operations))
        (same-named name_of (Has operations) (one-name operations sorted) list (taken operations at)
        (each-from (Has operations) list (λ o m. (whole.only o m).0)) (taken-inside operations at found.within)
        (e ∙ sym found.named)) whole

    pub none-twice : (AreApart at → ⊥) → HasNoOrder part operations names
    none-twice not = λ list e whole. not (apart-of operations at (is-taken list e whole).once)

    pub none-other : (Each (λ i. is_in part (get_or operations i nothing) ≡ true) at → ⊥) → HasNoOrder part operations names
    none-other not = λ list e whole.
        let w = is-taken list e whole in
        not (taken-each (λ o. is_in part o ≡ true) operations at
        (each-from (λ o. is_in part o ≡ true) (taken operations at) (λ o m. (w.only o m).1)))

    module _ (marks : List Bool) (marked : IsMarked (length operations) at marks) where
      abbrev pub AllMarked : Type 0
      AllMarked = (i : ℕ) → i < length operations → is_in part (get_or operations i nothing) ≡ true → get_or marks i false ≡ true

      pub none-missing : (AllMarked → ⊥) → HasNoOrder part operations names
      none-missing not = λ list e whole.
          let w = is-taken list e whole in
          not (λ i lt t.
          let m = w.has (get_or operations i nothing) (has-get operations i nothing lt, t) in
          let k = taken-has operations at (get_or operations i nothing) m in
          let same : k.0 ≡ i = one-number operations sorted k.0 i nothing (each-has (λ n. n < length operations) at found.within k.0 k.1) lt (ap name_of k.2) in
          marked.has i (subst (Has at) same k.1))

      pub whole-from : Each (λ i. is_in part (get_or operations i nothing) ≡ true) at → AllMarked → IsOrderOf (IsPartOf part operations) (taken operations at)
      whole-from only all =
          record {
            has = λ o h.
                let k = number-of operations o h.0 in
                let e : get_or operations k.0 nothing ≡ o = k.2 nothing in
                let t : is_in part (get_or operations k.0 nothing) ≡ true = ap (is_in part) e ∙ h.1 in
                subst (Has (taken operations at)) e (has-taken operations at k.0 (marked.only k.0 (all k.0 k.1 t)));
            only = λ o m. (
              each-has (Has operations) (taken operations at) (taken-inside operations at found.within) o m,
              each-has (λ x. is_in part x ≡ true) (taken operations at) (each-taken (λ x. is_in part x ≡ true) operations at only) o m,
            );
            once = once-of operations sorted at found.within marked.apart;
          }

-- names of operations of so many threads
pub names-below : (operations : List Operation) (names : List Op) (at : List ℕ) (n : ℕ) → AreFound operations names at → Each (λ o. o.thread < n) operations → Each (λ m. m.thread < n) names
names-below operations names at n found below =
    subst (Each (λ m. m.thread < n)) found.named (go at found.within)
  where
    go : (at : List ℕ) → AreWithin operations at → Each (λ m. m.thread < n) (map name_of (taken operations at))
    go [] h = tt
    go (k ∷ at) h = (each-at (λ o. o.thread < n) operations k nothing below h.0, go at h.1)

-- the operations with the same names are the same
pub same-taken : (operations : List Operation) → AreSorted operations → (names : List Op) (a b : List ℕ) → AreFound operations names a → AreFound operations names b → taken operations a ≡ taken operations b
same-taken operations sorted names a b x y =
    same-named name_of (Has operations) (one-name operations sorted) (taken operations a) (taken operations b)
    (taken-inside operations a x.within) (taken-inside operations b y.within) (x.named ∙ sym y.named)

-- the operation with a name, by the name's number
pub found-many : (operations : List Operation) (names : List Op) (at : List ℕ) → AreFound operations names at → length at ≡ length names
found-many operations names at h = sym (length-map at (λ i. get_or operations i nothing)) ∙ sym (length-map (taken operations at) name_of) ∙ ap length h.named

pub found-at : (operations : List Operation) (names : List Op) (at : List ℕ) (i : ℕ) (d : ℕ) (e : Op) → AreFound operations names at → i < length names → name_of (get_or operations (get_or at i d) nothing) ≡ get_or names i e
found-at operations names at i d e h lt =
    let many = found-many operations names at h in
    let within : i < length (taken operations at) = omega (arith, many, length-map at (λ k. get_or operations k nothing)) in
    sym (ap name_of (get_or-map (λ k. get_or operations k nothing) at i d nothing (omega (arith, many))))
    ∙ sym (get_or-map name_of (taken operations at) i nothing e within)
    ∙ ap (λ l. get_or l i e) h.named

pub found-within : (operations : List Operation) (names : List Op) (at : List ℕ) (i : ℕ) (d : ℕ) → AreFound operations names at → i < length names → get_or at i d < length operations
found-within operations names at i d h lt =
    each-at (λ k. k < length operations) at i d h.within (let many = found-many operations names at h in omega (arith, many))
