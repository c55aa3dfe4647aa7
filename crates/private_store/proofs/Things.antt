-- Which live object has a number, and what an access reaches and changes.
use Rattle.std.proofs.Common.{◌≡◌, ◌≢◌, ℕ, ◌<◌, ◌≤◌, ℤ, pos, Bool, true, false, ◌==◌, nat_lt, cond, if◌then◌else◌, List, [], ◌∷◌, length, map, get_or, set, slice_set, slice_get, Option, Some, None, option_map, Result, Ok, Err, refl, sym, ap, ◌∙◌, arith}
use Rattle.std.specs.List.{position, position_or_len}
use Rattle.std.proofs.lemmas.Bool.Decides.{nat_tests}
use Rattle.std.proofs.lemmas.List.{get_or_default}
use Rattle.std.proofs.lemmas.List.Folds.{find_at}
use Rattle.std.proofs.lemmas.List.Quantifiers.{position-Some}
use Rattle.std.proofs.lemmas.Option.{slice_get-get_or, slice_get_past}
use Rattle.block_layout.specs.declared.kind.Kind.{Kind}
use Rattle.block_layout.specs.declared.place.LocalPtr.{LocalPtr}
use Rattle.block_layout.specs.declared.place.LocalPtr.TheVariants as local
use Rattle.block_layout.specs.declared.run_error.TheConstants.{PRIVATE_RANGE}
use Rattle.upc_values.specs.declared.scalar.Value.{Value}
use Rattle.upc_values.specs.Shapes.{blank_value}
use Rattle.block_layout.specs.declared.kind.Shape.{Shape}
use Rattle.private_store.specs.Live.{Live, Thing, thing}
use Rattle.private_store.specs.Cells.{cell_in, reached, loaded, stored}
use Rattle.private_store.specs.code.Kept.{AreNumbered, IsPlace, Reaches}
use Rattle.private_store.proofs.Searches.{differs, equals, only_place}

some_is : (b : Bool) (n i : ℕ) → Some i ≡ cond b (Some n) None → n ≡ i
some_is true n i e = cc
some_is false n i e = absurd cc

none_is : (b : Bool) (n : ℕ) → None ≡ cond b (Some n) None → b ≡ false
none_is true n e = absurd cc
none_is false n e = refl

past : (a b : ℕ) → nat_lt a b ≡ false → b ≤ a
past a b e = grind (arith, nat_tests)

pub no_thing : (number : ℕ) (things : List Thing) → None ≡ position (λ x. x.number == number) things → thing number things ≡ None
no_thing number things e =
    let t : Thing → Bool = λ x. x.number == number in
    let n = position_or_len t things in
    find_at t things ∙ slice_get_past things n (past n (length things) (none_is (nat_lt n (length things)) n e))

pub a_thing : (number : ℕ) (things : List Thing) (i : ℕ) (x : Thing) → Some i ≡ position (λ y. y.number == number) things → x ≡ get_or things i x
    → thing number things ≡ Some x
a_thing number things i x e is =
    let t : Thing → Bool = λ y. y.number == number in
    let n = position_or_len t things in
    let lt = (position-Some t things i x (sym e)).0 in
    find_at t things ∙ ap (slice_get things) (some_is (nat_lt n (length things)) n i e) ∙ slice_get-get_or things i x lt ∙ ap Some (sym is)

pub thing_here : (things : List Thing) (number : ℕ) → AreNumbered things → (i n : ℕ) → i < length things
    → ((d : Thing) → n ≡ (get_or things i d).number) → n ≡ number → Some i ≡ position (λ y. y.number == number) things
thing_here [] number up i n lt at here = absurd (omega arith)
thing_here (x ∷ xs) number up i n lt at here =
    let there : (get_or (x ∷ xs) i x).number ≡ number = sym (at x) ∙ here in
    sym (only_place (λ (y : Thing). y.number) number (x ∷ xs) up (λ y. y.number == number) (λ y ne. differs y.number number ne)
    i x lt there true (equals (get_or (x ∷ xs) i x).number number there))

-- the object at the place that a search found
found_thing : (number : ℕ) (things : List Thing) (i : ℕ) (d : Thing) → Some i ≡ position (λ y. y.number == number) things
    → thing number things ≡ Some (get_or things i d)
found_thing number things i d e =
    let lt = (position-Some (λ (y : Thing). y.number == number) things i d (sym e)).0 in
    a_thing number things i (get_or things i d) e (get_or_default things i d (get_or things i d) lt)

pub shape_found : (number : ℕ) (things : List Thing) (i : ℕ) (s : Shape) → Some i ≡ position (λ y. y.number == number) things
    → ((d : Thing) → s ≡ (get_or things i d).shape) → Some s ≡ option_map (λ x. x.shape) (thing number things)
shape_found number [] i s e is = absurd cc
shape_found number (x ∷ xs) i s e is =
    let shaped : Option Thing → Option Shape = λ o. option_map (λ y. y.shape) o in
    ap (λ t. shape_some t) (is x) ∙ ap shaped (sym (found_thing number (x ∷ xs) i x e))
  where
    shape_some : Shape → Option Shape
    shape_some t = Some t

-- ---- what an access reaches

pub reached_none : (things : List Thing) (number : ℕ) (offset : ℤ) (k : Kind) → None ≡ position (λ y. y.number == number) things
    → reached (local.Private number offset) k things ≡ Err PRIVATE_RANGE
reached_none things number offset k e = rw (no_thing number things e) refl

pub reached_err : (things : List Thing) (number : ℕ) (offset : ℤ) (k : Kind) (i code : ℕ) → Some i ≡ position (λ y. y.number == number) things
    → ((d : Thing) → cell_in (Some (get_or things i d)) offset k ≡ Err code) → reached (local.Private number offset) k things ≡ Err code
reached_err [] number offset k i code e out = absurd cc
reached_err (x ∷ xs) number offset k i code e out = rw (found_thing number (x ∷ xs) i x e) (out x)

pub reached_ok : (things : List Thing) (number : ℕ) (offset : ℤ) (k : Kind) (i place : ℕ) → Some i ≡ position (λ y. y.number == number) things
    → ((d : Thing) → IsPlace (get_or things i d) offset k (Ok place)) → Reaches things (local.Private number offset) k (i, place)
reached_ok [] number offset k i place e at = absurd cc
reached_ok (x ∷ xs) number offset k i place e at =
    record {
      there = (position-Some (λ (y : Thing). y.number == number) (x ∷ xs) i x (sym e)).0;
      cell = λ d. (at d).0;
      is = λ d. rw (found_thing number (x ∷ xs) i d e) (at d).1;
    }

-- ---- what a write changes

if_true : {X : Type 0} (b : Bool) (x y : X) → b ≡ true → (if b then x else y) ≡ x
if_true b x y e = rw e refl

if_false : {X : Type 0} (b : Bool) (x y : X) → b ≡ false → (if b then x else y) ≡ y
if_false b x y e = rw e refl

tail : (y : Thing) (ys : List Thing) → AreNumbered (y ∷ ys) → AreNumbered ys
tail y ys up i j d lt l = up (ℕ.suc i) (ℕ.suc j) d (omega arith) (omega arith)

others : (n : ℕ) (z : Thing) (ys : List Thing) → ((k : ℕ) (d : Thing) → k < length ys → n < (get_or ys k d).number)
    → map (λ y. if y.number == n then z else y) ys ≡ ys
others n z [] above = refl
others n z (y ∷ ys) above =
    let here : y.number ≢ n = (let a = above 0 y (omega arith) in λ e. omega arith) in
    let head = if_false (y.number == n) z y (differs y.number n here) in
    let rest = others n z ys (λ k d lt. above (ℕ.suc k) d (omega arith)) in
    ap (λ h. h ∷ map (λ y. if y.number == n then z else y) ys) head ∙ ap (λ t. y ∷ t) rest

pub put_is : (things : List Thing) (i : ℕ) (x z : Thing) → AreNumbered things → i < length things → x ≡ get_or things i x
    → map (λ y. if y.number == x.number then z else y) things ≡ set things i z
put_is [] i x z up lt is = absurd (omega arith)
put_is (y ∷ ys) ℕ.zero x z up lt is =
    let same : y.number ≡ x.number = ap (λ t. t.number) (sym is) in
    let head = if_true (y.number == x.number) z y (equals y.number x.number same) in
    let rest = others x.number z ys (λ k d l. (let a = up 0 (ℕ.suc k) d (omega arith) (omega arith) in omega arith)) in
    ap (λ h. h ∷ map (λ y. if y.number == x.number then z else y) ys) head ∙ ap (λ t. z ∷ t) rest
put_is (y ∷ ys) (ℕ.suc i) x z up lt is =
    let a = up 0 (ℕ.suc i) x (omega arith) lt in
    let same : x.number ≡ (get_or ys i x).number = ap (λ t. t.number) is in
    let here : y.number ≢ x.number = (λ e. omega arith) in
    let head = if_false (y.number == x.number) z y (differs y.number x.number here) in
    ap (λ h. h ∷ map (λ y. if y.number == x.number then z else y) ys) head ∙ ap (λ t. y ∷ t) (put_is ys i x z (tail y ys up) (omega arith) is)

pub stored_is : (p : LocalPtr) (k : Kind) (v : Value) (s : Live) (at : ℕ × ℕ) (os : List Thing) → AreNumbered s.objects → Reaches s.objects p k at
    → ((d : Thing) → let x = get_or s.objects at.0 d in os ≡ set s.objects at.0 (record x { values = slice_set x.values at.1 v }))
    → stored p k v s ≡ Ok (record s { objects = os })
stored_is p k v s at os up r is = by s.objects refl
  where
    by : (things : List Thing) → things ≡ s.objects → stored p k v s ≡ Ok (record s { objects = os })
    by [] e = absurd (let h = ap length e in omega (arith, r.there))
    by (d ∷ ds) e =
        let x = get_or s.objects at.0 d in
        let seen : List Thing → Result Live ℕ = λ os. Ok (record s { objects = os }) in
        rw (r.is d) (ap seen (put_is s.objects at.0 x (record x { values = slice_set x.values at.1 v }) up r.there (get_or_default s.objects at.0 d x r.there) ∙ sym (is d)))

pub loaded_is : (p : LocalPtr) (k : Kind) (s : Live) (at : ℕ × ℕ) (v : Value) → Reaches s.objects p k at
    → ((d : Thing) (e : Value) → v ≡ get_or (get_or s.objects at.0 d).values at.1 e) → Ok v ≡ loaded p k s
loaded_is p k s at v r is = by s.objects refl
  where
    by : (things : List Thing) → things ≡ s.objects → Ok v ≡ loaded p k s
    by [] e = absurd (let h = ap length e in omega (arith, r.there))
    by (d ∷ ds) e = rw (r.is d) (ap (λ u. ok u) (is d (blank_value k)))
      where
        ok : Value → Result Value ℕ
        ok u = Ok u

-- ---- the first byte of the object at a place

module _ (s : Live) (up : AreNumbered s.objects) (at : ℕ) (lt : at < length s.objects) (k : Kind) where
  at_place : (d : Thing) → Some at ≡ position (λ y. y.number == (get_or s.objects at d).number) s.objects
  at_place d =
      thing_here s.objects (get_or s.objects at d).number up at (get_or s.objects at d).number lt
      (λ e. ap (λ (y : Thing). y.number) (get_or_default s.objects at d e lt)) refl

  refused_at : (code : ℕ) → ((d : Thing) → cell_in (Some (get_or s.objects at d)) (pos 0) k ≡ Err code)
      → (d : Thing) → reached (local.Private (get_or s.objects at d).number (pos 0)) k s.objects ≡ Err code
  refused_at code out d = reached_err s.objects (get_or s.objects at d).number (pos 0) k at code (at_place d) out

  reaches_at : (place : ℕ) → ((d : Thing) → IsPlace (get_or s.objects at d) (pos 0) k (Ok place))
      → (d : Thing) → Reaches s.objects (local.Private (get_or s.objects at d).number (pos 0)) k (at, place)
  reaches_at place is d = reached_ok s.objects (get_or s.objects at d).number (pos 0) k at place (at_place d) is

  pub unloaded_at : (code : ℕ) → ((d : Thing) → cell_in (Some (get_or s.objects at d)) (pos 0) k ≡ Err code)
      → (d : Thing) → Err code ≡ loaded (local.Private (get_or s.objects at d).number (pos 0)) k s
  unloaded_at code out d = rw (refused_at code out d) refl

  pub loaded_at : (place : ℕ) (v : Value) → ((d : Thing) → IsPlace (get_or s.objects at d) (pos 0) k (Ok place))
      → ((d : Thing) (e : Value) → v ≡ get_or (get_or s.objects at d).values place e)
      → (d : Thing) → Ok v ≡ loaded (local.Private (get_or s.objects at d).number (pos 0)) k s
  loaded_at place v is value d = loaded_is (local.Private (get_or s.objects at d).number (pos 0)) k s (at, place) v (reaches_at place is d) value

  pub unstored_at : (code : ℕ) (v : Value) → ((d : Thing) → cell_in (Some (get_or s.objects at d)) (pos 0) k ≡ Err code)
      → (d : Thing) → stored (local.Private (get_or s.objects at d).number (pos 0)) k v s ≡ Err code
  unstored_at code v out d = rw (refused_at code out d) refl

  pub stored_at : (place : ℕ) (v : Value) (os : List Thing) → ((d : Thing) → IsPlace (get_or s.objects at d) (pos 0) k (Ok place))
      → ((d : Thing) → let x = get_or s.objects at d in os ≡ set s.objects at (record x { values = slice_set x.values place v }))
      → (d : Thing) → stored (local.Private (get_or s.objects at d).number (pos 0)) k v s ≡ Ok (record s { objects = os })
  stored_at place v os is written d =
      stored_is (local.Private (get_or s.objects at d).number (pos 0)) k v s (at, place) os up (reaches_at place is d) written

pub ruleset finding_things = (no_thing, a_thing)
