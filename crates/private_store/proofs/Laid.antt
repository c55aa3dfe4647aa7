-- How the values of all objects lie in one list: more at its end, fewer, and another one.
use Rattle.std.proofs.Common.{◌≡◌, ◌≢◌, ◌⊎◌, inl, inr, ℕ, ◌+◌, ◌-◌, ◌<◌, ◌≤◌, ◌==◌, true, not, cond, nat_lt, List, [], ◌∷◌, ◌++◌, length, get_or, set, take, drop, map, All, Some, None, refl, sym, subst, ap, ◌∙◌, arith, length-append}
use Rattle.std.specs.List.{AllPairs, position, position_or_len, sum_by}
use Rattle.std.proofs.lemmas.Bool.{cases_eq, cases_lt}
use Rattle.std.proofs.lemmas.List.Quantifiers.{all_pairs_push}
use Rattle.std.proofs.lemmas.List.{drop-take, take-take, take_all, take-map, take_at, take-set-le, drop-set-lt, drop-set-add, drop_at, get_or-drop, get_or-map, get_or-take, get_or_read, get_or_append_left, get_or-append_right, length-map, length-set, length-take, map-append, map-set, take_rest}
use Rattle.std.proofs.lemmas.List.Sums.{sum_by-cons, sum_by-take-drop}
use Rattle.std.proofs.lemmas.List.Elements.{All-take}
use Rattle.block_layout.specs.declared.kind.Kind.{Kind}
use Rattle.block_layout.specs.declared.kind.Shape.{Shape}
use Rattle.block_layout.specs.Shapes.{IsShape}
use Rattle.upc_values.specs.declared.scalar.Value.{Value}
use Rattle.upc_values.specs.Shapes.{value_fits, blank_value}
use Rattle.private_store.specs.declared.object.Form.{Form}
use Rattle.private_store.specs.declared.object.Form.TheVariants.{Row, Listed}
use Rattle.private_store.specs.declared.object.Object.{Object}
use Rattle.private_store.specs.declared.row_shapes.Known.{Known}
use Rattle.private_store.specs.declared.held.Held.{Held}
use Rattle.private_store.specs.code.Held.{held_value, held_values}
use Rattle.private_store.specs.Live.{Thing, blank_thing, thing_bytes}
use Rattle.private_store.specs.code.Kept.{AreNumbered, CellIs, IsFilled}
use Rattle.private_store.specs.code.Laid.{AreLaid, AreRows, IsForm, IsLaid, IsLent, IsSound, form_shape, part, row_shape, thing_of, things_of}
use Rattle.private_store.proofs.Objects.{blank_filled, filled_length, filled_set}
use Rattle.private_store.proofs.RowCells.{row_length}

abbrev pub Values : Type 0
Values = List Value

abbrev pub Objects : Type 0
Objects = List Object

abbrev seen : Object → Values → Thing
seen o vs = record { number = o.number; shape = form_shape o.form o.count; values = vs }

-- ---- parts of a list

pub same_part : (first count m : ℕ) (a b : Values) → first + count ≤ m → take m a ≡ take m b → part first count a ≡ part first count b
same_part first count m a b le e =
    sym (drop-take first count a)
    ∙ ap (drop first) (sym (take-take (first + count) m a le) ∙ ap (take (first + count)) e ∙ take-take (first + count) m b le)
    ∙ drop-take first count b

take_set_in : (c p : ℕ) (xs : Values) (v : Value) → p < c → take c (set xs p v) ≡ set (take c xs) p v
take_set_in ℕ.zero p xs v lt = absurd (omega arith)
take_set_in (ℕ.suc c) p [] v lt = refl
take_set_in (ℕ.suc c) ℕ.zero (x ∷ xs) v lt = refl
take_set_in (ℕ.suc c) (ℕ.suc p) (x ∷ xs) v lt = ap (λ l. x ∷ l) (take_set_in c p xs v (omega arith))

part_set_in : (first count p : ℕ) (vs : Values) (v : Value) → p < count → part first count (set vs (first + p) v) ≡ set (part first count vs) p v
part_set_in first count p vs v lt = ap (take count) (drop-set-add first vs p v) ∙ take_set_in count p (drop first vs) v lt

part_set_out : (first count i : ℕ) (vs : Values) (v : Value) → (i < first) ⊎ (first + count ≤ i) → part first count (set vs i v) ≡ part first count vs
part_set_out first count i vs v (inl lt) = ap (take count) (drop-set-lt first vs i v lt)
part_set_out first count i vs v (inr le) =
    same_part first count (first + count) (set vs i v) vs (omega arith) (take-set-le (first + count) vs i v le)

part_new : (a more : Values) (n m : ℕ) → n ≡ length a → m ≡ length more → part n m (a ++ more) ≡ more
part_new a more n m e l = ap (take m) (drop_at a more n (sym e)) ∙ take_all m more (omega arith)

-- ---- what objects are

pub thing_at : (vs : Values) (objects : Objects) (k : ℕ) (o : Object) (d : Thing) → k < length objects → o ≡ get_or objects k o
    → get_or (things_of vs objects) k d ≡ thing_of vs o
thing_at vs objects k o d lt is = get_or-map (thing_of vs) objects k o d lt ∙ ap (thing_of vs) (sym is)

pub in_list : (vs : Values) (objects : Objects) (k : ℕ) → k < length (things_of vs objects) → k < length objects
in_list vs objects k lt = let l = length-map objects (thing_of vs) in omega arith

-- a cell of an object has its place among its values
pub inside : (vs : Values) (known : List Known) (o : Object) (place : ℕ) (kind : Kind) → IsLaid vs known o
    → CellIs (form_shape o.form o.count).cells place kind → place < o.count
inside vs known o place kind laid cell =
    let t = length-take o.count (drop o.first vs) in
    let long = filled_length (form_shape o.form o.count) (part o.first o.count vs) laid.filled in
    omega (arith, cell.there)

pub laid_at : (objects : Objects) (vs : Values) (known : List Known) (at : ℕ) (o : Object) → AreLaid objects vs known → at < length objects
    → o ≡ get_or objects at o → IsLaid vs known o
laid_at objects vs known at o laid lt is = subst (IsLaid vs known) (sym is) (laid.laid at o lt)

pub cell_at : (objects : Objects) (vs : Values) (at place : ℕ) (kind : Kind) (o : Object) → at < length objects → o ≡ get_or objects at o
    → ((d : Thing) → CellIs (get_or (things_of vs objects) at d).shape.cells place kind) → CellIs (form_shape o.form o.count).cells place kind
cell_at objects vs at place kind o lt is cell =
    subst (λ (x : Thing). CellIs x.shape.cells place kind) (thing_at vs objects at o (thing_of vs o) lt is) (cell (thing_of vs o))

part_at : (first count place : ℕ) (vs : Values) (e : Value) → place < count → get_or (part first count vs) place e ≡ get_or vs (first + place) e
part_at first count place vs e lt = get_or-take count (drop first vs) place e lt ∙ get_or-drop first vs place e

pub value_at : (held : List Held) (objects : Objects) (at place : ℕ) (o : Object) (h : Held) → at < length objects → o ≡ get_or objects at o
    → place < o.count → o.first + place < length held → h ≡ get_or held (o.first + place) h
    → (d : Thing) (e : Value) → held_value h ≡ get_or (get_or (things_of (held_values held) objects) at d).values place e
value_at held objects at place o h lt is here within was d e =
    ap held_value was ∙ sym (get_or-map held_value held (o.first + place) h e within)
    ∙ sym (part_at o.first o.count place (held_values held) e here)
    ∙ ap (λ (x : Thing). get_or x.values place e) (sym (thing_at (held_values held) objects at o d lt is))

abbrev LieBelow : ℕ → Objects → Type 0
LieBelow m objects = All (λ (o : Object). o.first + o.count ≤ m) objects

same_things : (objects : Objects) (m : ℕ) (a b : Values) → LieBelow m objects → take m a ≡ take m b → things_of a objects ≡ things_of b objects
same_things [] m a b h e = refl
same_things (o ∷ os) m a b h e =
    ap (λ vs. seen o vs ∷ things_of a os) (same_part o.first o.count m a b (h 0 o (omega arith)) e)
    ∙ ap (λ l. thing_of b o ∷ l) (same_things os m a b (λ k d lt. h (ℕ.suc k) d (omega arith)) e)

same_laid : (o : Object) (m : ℕ) (a b : Values) (before known : List Known) → IsLaid a before o → o.first + o.count ≤ m → m ≤ length b
    → take m a ≡ take m b → take (length before) known ≡ before → IsLaid b known o
same_laid o m a b before known laid le within e kept =
    record {
      sound = laid.sound;
      lent = lends o.form laid.lent;
      within = omega arith;
      filled = subst (IsFilled (form_shape o.form o.count)) (same_part o.first o.count m a b le e) laid.filled;
    }
  where
    here : (place : ℕ) (d : Known) → place < length before → get_or known place d ≡ get_or before place d
    here place d lt = sym (get_or-take (length before) known place d lt) ∙ ap (λ l. get_or l place d) kept

    lends : (form : Form) → IsLent form before (form_shape o.form o.count) → IsLent form known (form_shape o.form o.count)
    lends (Row kind place) lent =
        record {
          there = (let l = length-take (length before) known in let t = ap length kept in omega (arith, lent.there));
          is = λ d. ap (λ (r : Known). r.shape) (here place d lent.there) ∙ lent.is d;
        }
    lends (Listed own cells) lent = lent

-- ---- more values

longer : (a b : Values) → take (length a) b ≡ a → length a ≤ length b
longer a b e = let l = length-take (length a) b in let t = ap length e in omega arith

same_front : (a b : Values) → take (length a) b ≡ a → take (length a) a ≡ take (length a) b
same_front a b e = take_all (length a) a (omega arith) ∙ sym e

low : (objects : Objects) (a : Values) (known : List Known) → AreLaid objects a known → LieBelow (length a) objects
low objects a known laid k d lt = (laid.laid k d lt).within

module _ (objects : Objects) (a b : Values) (before known : List Known) (laid : AreLaid objects a before) (more : take (length a) b ≡ a) where
  pub things_grown : things_of b objects ≡ things_of a objects
  things_grown = sym (same_things objects (length a) a b (low objects a before laid) (same_front a b more))

  all_grown : take (length before) known ≡ before → All (IsLaid b known) objects
  all_grown kept k d lt =
      same_laid (get_or objects k d) (length a) a b before known (laid.laid k d lt) (low objects a before laid k d lt) (longer a b more) (same_front a b more) kept

  pub laid_grown : take (length before) known ≡ before → AreRows known → AreLaid objects b known
  laid_grown kept rows = record { apart = laid.apart; laid = all_grown kept; rows = rows }

-- ---- a new object

shape_is : (form : Form) (count : ℕ) (shape : Shape) → IsForm form shape → count ≡ length shape.cells → form_shape form count ≡ shape
shape_is (Row kind place) count shape row e =
    ap (row_shape kind) (e ∙ ap (λ (s : Shape). length s.cells) row ∙ row_length kind 0 _) ∙ sym row
shape_is (Listed own cells) count shape h e = h.0

module _ (objects : Objects) (a blanks : Values) (before known : List Known) (o : Object) (shape : Shape) (laid : AreLaid objects a before)
    (is_shape : IsShape shape) (form : IsForm o.form shape) (first : o.first ≡ length a) (count : o.count ≡ length shape.cells)
    (size : o.size ≡ shape.size) (blank : blanks ≡ map (λ (c : ℕ × Kind). blank_value c.1) shape.cells) where
  own : Shape
  own = form_shape o.form o.count

  same : form_shape o.form o.count ≡ shape
  same = shape_is o.form o.count shape form count

  many : o.count ≡ length blanks
  many = count ∙ sym (ap length blank ∙ length-map shape.cells (λ (c : ℕ × Kind). blank_value c.1))

  values : part o.first o.count (a ++ blanks) ≡ blanks
  values = part_new a blanks o.first o.count first many

  front : take (length a) (a ++ blanks) ≡ a
  front = take_at a blanks (length a) refl

  pub things_more : things_of (a ++ blanks) (objects ++ o ∷ []) ≡ things_of a objects ++ blank_thing o.number shape ∷ []
  things_more =
      map-append (thing_of (a ++ blanks)) objects (o ∷ [])
      ∙ ap (λ l. l ++ thing_of (a ++ blanks) o ∷ []) (things_grown objects a (a ++ blanks) before before laid front)
      ∙ ap (λ s. things_of a objects ++ record { number = o.number; shape = s; values = part o.first o.count (a ++ blanks) } ∷ []) same
      ∙ ap (λ vs. things_of a objects ++ record { number = o.number; shape = shape; values = vs } ∷ []) (values ∙ blank)

  newest : IsLent o.form known shape → IsLaid (a ++ blanks) known o
  newest lent =
      record {
        sound = record {
          is_shape = subst IsShape (sym same) is_shape;
          size = size ∙ ap (λ (s : Shape). s.size) (sym same);
          form = subst (IsForm o.form) (sym same) form;
        };
        lent = subst (IsLent o.form known) (sym same) lent;
        within = (let l = length-append a blanks in omega (arith, many));
        filled = subst (λ vs. IsFilled (form_shape o.form o.count) vs) (sym (values ∙ blank)) (subst (λ s. IsFilled s (map (λ (c : ℕ × Kind). blank_value c.1) shape.cells)) (sym same) (blank_filled shape is_shape));
      }

  abbrev Where : ℕ → Object → Type 0
  Where k d =
      ((k < length objects) × (get_or (objects ++ o ∷ []) k d ≡ get_or objects k d))
      ⊎ ((length objects ≡ k) × (get_or (objects ++ o ∷ []) k d ≡ o))

  placed : (k : ℕ) (d : Object) → k < length (objects ++ o ∷ []) → Where k d
  placed k d lt =
      let l = length-append objects (o ∷ []) in
      elim (cases_lt k (length objects)) [
        | inl b ↦ inl (b, get_or_append_left objects (o ∷ []) d k b)
        | inr g ↦ inr (omega arith, get_or-append_right objects (o ∷ []) (length objects) k d refl g ∙ ap (λ i. get_or (o ∷ []) i d) (let e : k - length objects ≡ 0 = omega arith in e))
      ]

  pub laid_more : take (length before) known ≡ before → AreRows known → IsLent o.form known shape → AreLaid (objects ++ o ∷ []) (a ++ blanks) known
  laid_more kept rows lent = record { apart = apart; laid = all; rows = rows }
    where
      apart : AllPairs (λ (x y : Object). x.first + x.count ≤ y.first) (objects ++ o ∷ [])
      apart = all_pairs_push (λ (x y : Object). x.first + x.count ≤ y.first) objects o laid.apart (λ k d lt. (let h = low objects a before laid k d lt in omega arith))

      all : All (IsLaid (a ++ blanks) known) (objects ++ o ∷ [])
      all k d lt =
          elim (placed k d lt) [
            | inl x ↦ subst (IsLaid (a ++ blanks) known) (sym x.1) (all_grown objects a (a ++ blanks) before known laid front kept k d x.0)
            | inr x ↦ subst (IsLaid (a ++ blanks) known) (sym x.1) (newest lent)
          ]

-- ---- fewer objects

module _ (objects : Objects) (vs : Values) (known : List Known) (laid : AreLaid objects vs known) (n : ℕ) (o : Object) (lt : n < length objects)
    (is : o ≡ get_or objects n o) where
  below : LieBelow o.first (take n objects)
  below k d l =
      let t = length-take n objects in
      let h = laid.apart k n d (omega arith) lt in
      let e : get_or (take n objects) k d ≡ get_or objects k d = get_or-take n objects k d (omega arith) in
      rw e (subst (λ (y : Object). (get_or objects k d).first + (get_or objects k d).count ≤ y.first) (ended d) h)
    where
      ended : (d : Object) → get_or objects n d ≡ o
      ended d = sym (get_or_read objects n o lt is d)

  front_same : take o.first vs ≡ take o.first (take o.first vs)
  front_same = sym (take-take o.first o.first vs (omega arith))

  pub things_taken : things_of (take o.first vs) (take n objects) ≡ take n (things_of vs objects)
  things_taken = sym (same_things (take n objects) o.first vs (take o.first vs) below front_same) ∙ sym (take-map (thing_of vs) n objects)

  pub laid_taken : AreLaid (take n objects) (take o.first vs) known
  laid_taken = record { apart = apart; laid = all; rows = laid.rows }
    where
      apart : AllPairs (λ (x y : Object). x.first + x.count ≤ y.first) (take n objects)
      apart i j d l m =
          let t = length-take n objects in
          let h = laid.apart i j d l (omega arith) in
          rw (get_or-take n objects i d (omega arith), get_or-take n objects j d (omega arith)) h

      all : All (IsLaid (take o.first vs) known) (take n objects)
      all k d l =
          let t = length-take n objects in
          let e : get_or (take n objects) k d ≡ get_or objects k d = get_or-take n objects k d (omega arith) in
          let le : (get_or objects k d).first + (get_or objects k d).count ≤ o.first = subst (λ (y : Object). y.first + y.count ≤ o.first) e (below k d l) in
          let w = (laid.laid n o lt).within in
          let f = ap (λ (y : Object). y.first) is in
          let h = length-take o.first vs in
          subst (IsLaid (take o.first vs) known) (sym e)
          (same_laid (get_or objects k d) o.first vs (take o.first vs) known known (laid.laid k d (omega arith)) le (omega arith) front_same (take_all (length known) known (omega arith)))

-- ---- another value

module _ (vs : Values) (v : Value) where
  set_below : (os : Objects) (i : ℕ) → ((k : ℕ) (d : Object) → k < length os → i < (get_or os k d).first) → things_of (set vs i v) os ≡ things_of vs os
  set_below [] i above = refl
  set_below (y ∷ ys) i above =
      ap (λ l. seen y l ∷ things_of (set vs i v) ys) (part_set_out y.first y.count i vs v (inl (above 0 y (omega arith))))
      ∙ ap (λ l. thing_of vs y ∷ l) (set_below ys i (λ k d lt. above (ℕ.suc k) d (omega arith)))

pub things_set : (objects : Objects) (vs : Values) (v : Value) (at place : ℕ) (o : Object) → AllPairs (λ (x y : Object). x.first + x.count ≤ y.first) objects
    → at < length objects → o ≡ get_or objects at o → place < o.count
    → things_of (set vs (o.first + place) v) objects ≡ set (things_of vs objects) at (record (thing_of vs o) { values = set (part o.first o.count vs) place v })
things_set [] vs v at place o apart lt is here = absurd (omega arith)
things_set (y ∷ ys) vs v ℕ.zero place o apart lt is here =
    ap (λ (z : Object). thing_of (set vs (o.first + place) v) z ∷ things_of (set vs (o.first + place) v) ys) (sym is)
    ∙ ap (λ l. seen o l ∷ things_of (set vs (o.first + place) v) ys) (part_set_in o.first o.count place vs v here)
    ∙ ap (λ l. seen o (set (part o.first o.count vs) place v) ∷ l) (set_below vs v ys (o.first + place) (λ k d l. (let h = apart 0 (ℕ.suc k) d (omega arith) (omega arith) in let f = ap (λ (z : Object). z.first + z.count) is in omega arith)))
things_set (y ∷ ys) vs v (ℕ.suc at) place o apart lt is here =
    let h : y.first + y.count ≤ (get_or ys at o).first = apart 0 (ℕ.suc at) o (omega arith) lt in
    let f : o.first ≡ (get_or ys at o).first = ap (λ (z : Object). z.first) is in
    ap (λ l. seen y l ∷ things_of (set vs (o.first + place) v) ys) (part_set_out y.first y.count (o.first + place) vs v (inr (omega arith)))
    ∙ ap (λ l. thing_of vs y ∷ l) (things_set ys vs v at place o (λ i j d l m. apart (ℕ.suc i) (ℕ.suc j) d (omega arith) (omega arith)) (omega arith) is here)

pub laid_set : (objects : Objects) (vs : Values) (known : List Known) (v : Value) (at place : ℕ) (o : Object) (kind : Kind) → AreLaid objects vs known
    → at < length objects → o ≡ get_or objects at o → CellIs (form_shape o.form o.count).cells place kind → value_fits v kind ≡ true
    → AreLaid objects (set vs (o.first + place) v) known
laid_set objects vs known v at place o kind laid lt is cell fits =
    record { apart = laid.apart; laid = all; rows = laid.rows }
  where
    changed : IsLaid vs known o → place < o.count → IsLaid (set vs (o.first + place) v) known o
    changed h within =
        record {
          sound = h.sound;
          lent = h.lent;
          within = (let l = length-set vs (o.first + place) v in omega (arith, h.within));
          filled = subst (IsFilled (form_shape o.form o.count)) (sym (part_set_in o.first o.count place vs v within))
              (filled_set (form_shape o.form o.count) (part o.first o.count vs) place kind v h.filled cell fits);
        }

    other : (k : ℕ) (d : Object) → k < length objects → k ≢ at → place < o.count → IsLaid (set vs (o.first + place) v) known (get_or objects k d)
    other k d l ne within =
        let x = get_or objects k d in
        let h = laid.laid k d l in
        let here : o ≡ get_or objects at d = get_or_read objects at o lt is d in
        let first = ap (λ (y : Object). y.first) here in
        let count = ap (λ (y : Object). y.count) here in
        let out : (o.first + place < x.first) ⊎ (x.first + x.count ≤ o.first + place) =
        elim (cases_lt k at) [
          | inl a ↦ inr (let b = laid.apart k at d a lt in omega arith)
          | inr a ↦ inl (let b = laid.apart at k d (omega arith) l in omega arith)
        ] in
        record {
          sound = h.sound;
          lent = h.lent;
          within = (let l = length-set vs (o.first + place) v in omega (arith, h.within));
          filled = subst (IsFilled (form_shape x.form x.count)) (sym (part_set_out x.first x.count (o.first + place) vs v out)) h.filled;
        }

    all : All (IsLaid (set vs (o.first + place) v) known) objects
    all k d l =
        let here = laid_at objects vs known at o laid lt is in
        let within = inside vs known o place kind here cell in
        elim (cases_eq k at) [
          | inl e ↦ (
              let same : o ≡ get_or objects k d = get_or_read objects at o lt is d ∙ ap (λ j. get_or objects j d) (sym e) in
              subst (IsLaid (set vs (o.first + place) v) known) same (changed here within))
          | inr ne ↦ other k d l ne within
        ]

-- ---- searches and sums

pub position_things : (vs : Values) (objects : Objects) (n : ℕ) → position (λ (o : Object). o.number == n) objects ≡ position (λ (x : Thing). x.number == n) (things_of vs objects)
position_things vs objects n =
    ap (λ m. cond (nat_lt m (length objects)) (Some m) None) (first objects)
    ∙ ap (λ l. cond (nat_lt (position_or_len (λ (x : Thing). x.number == n) (things_of vs objects)) l) (Some (position_or_len (λ (x : Thing). x.number == n) (things_of vs objects))) None) (sym (length-map objects (thing_of vs)))
  where
    first : (os : Objects) → position_or_len (λ (o : Object). o.number == n) os ≡ position_or_len (λ (x : Thing). x.number == n) (things_of vs os)
    first [] = refl
    first (o ∷ os) = ap (λ m. cond (not (o.number == n)) (1 + m) 0) (first os)

pub numbers_rise : (vs : Values) (objects : Objects) → AreNumbered (things_of vs objects) → AllPairs (λ (x y : Object). x.number < y.number) objects
numbers_rise vs objects up i j d lt l =
    let a = ap (λ (x : Thing). x.number) (get_or-map (thing_of vs) objects i d (thing_of vs d) (omega arith)) in
    let b = ap (λ (x : Thing). x.number) (get_or-map (thing_of vs) objects j d (thing_of vs d) l) in
    let m = length-map objects (thing_of vs) in
    let h = up i j (thing_of vs d) lt (omega arith) in omega arith

pub bytes_are : (vs : Values) (objects : Objects) → All IsSound objects → sum_by (λ (o : Object). o.size) objects ≡ thing_bytes (things_of vs objects)
bytes_are vs [] h = refl
bytes_are vs (o ∷ os) h =
    let a = sum_by-cons (λ (x : Object). x.size) o os in
    let b = sum_by-cons (λ (x : Thing). x.shape.size) (thing_of vs o) (things_of vs os) in
    let r = bytes_are vs os (λ k d lt. h (ℕ.suc k) d (omega arith)) in
    let s = (h 0 o (omega arith)).size in omega arith

pub ended : (vs : Values) (objects : Objects) (n : ℕ) → All IsSound objects
    → thing_bytes (take n (things_of vs objects)) + sum_by (λ (o : Object). o.size) (take (length objects - n) (drop n objects)) ≡ thing_bytes (things_of vs objects)
ended vs objects n h =
    let a = sum_by-take-drop (λ (o : Object). o.size) objects n in
    let b = ap (sum_by (λ (o : Object). o.size)) (take_rest objects n) in
    let c = bytes_are vs objects h in
    let d = bytes_are vs (take n objects) (All-take IsSound n objects h) in
    let e = ap thing_bytes (take-map (thing_of vs) n objects) in omega arith

pub sounds : (objects : Objects) (vs : Values) (known : List Known) → AreLaid objects vs known → All IsSound objects
sounds objects vs known laid k d lt = (laid.laid k d lt).sound

-- ---- values in memory

pub held_taken : (n : ℕ) (held : List Held) → held_values (take n held) ≡ take n (held_values held)
held_taken n held = sym (take-map held_value n held)

pub held_set : (held : List Held) (i : ℕ) (h : Held) (v : Value) → held_value h ≡ v → held_values (set held i h) ≡ set (held_values held) i v
held_set held i h v e = map-set held_value held i h ∙ ap (set (held_values held) i) e

pub front_held : (before : List Held) (b : Values) → take (length before) b ≡ held_values before → take (length (held_values before)) b ≡ held_values before
front_held before b e = ap (λ n. take n b) (length-map before held_value) ∙ e
