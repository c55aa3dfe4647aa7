-- Reads that keep their values where a list is ordered anew.
use Rattle.std.proofs.Common.{◌≡◌, ◌≢◌, ◌↔◌, Bool, true, false, ◌&&◌, ◌||◌, cond, List, [], ◌∷◌, ◌++◌, Option, Some, None, refl, sym, ap, ◌∙◌, subst, inl, inr, ◌⊎◌, append_assoc, append-nil}
use Rattle.std.proofs.lemmas.Bool.{cases_Bool, false≢true, and_from, and_parts, or_left, or_right, cond-true, cond-false}
use Rattle.block_layout.specs.declared.place.Loc.{Loc}
use Rattle.upc_values.specs.declared.scalar.Scalar.{Scalar}
use Rattle.upc_values.specs.Scalars.{value_or}
use Rattle.upc_values.specs.Lists.{Has, Precedes}
use Rattle.upc_values.specs.Drain.{or_else}
use Rattle.upc_values.specs.Operations.{Operation, Place, Cell, Sync}
use Rattle.upc_values.specs.Consistent.{same_place, last_write, initial_at, ReadsLastFrom, ReadsLast}
use Rattle.upc_values.proofs.Sameness.{same_loc-true, same_loc-itself}
use Rattle.upc_values.proofs.Membership.{precedes-has, precedes-total, precedes-trans, precedes-strict, has-left, has-right, each-has, Distinct}

-- two operations are on one place, and one is a write
abbrev pub meets : Operation → Operation → Bool
meets a b = same_place a.place b.place && (a.write || b.write)

-- a write on the place
abbrev writes : Place → Operation → Bool
writes p o = o.write && same_place o.place p

-- places
place-is : (p q : Place) → same_place p q ≡ true → p ≡ q
place-is (Cell l) (Cell k) h = ap Cell (same_loc-true l k h)
place-is (Cell l) Sync h = absurd (false≢true h)
place-is Sync (Cell k) h = absurd (false≢true h)
place-is Sync Sync h = refl

place-itself : (p : Place) → same_place p p ≡ true
place-itself (Cell l) = same_loc-itself l
place-itself Sync = refl

turn : (p q : Place) → same_place p q ≡ true → same_place q p ≡ true
turn p q h = subst (λ z. same_place z p ≡ true) (place-is p q h) (place-itself p)

join : (p q r : Place) → same_place p r ≡ true → same_place q r ≡ true → same_place p q ≡ true
join p q r h g = subst (λ z. same_place p z ≡ true) (place-is p r h ∙ sym (place-is q r g)) (place-itself p)

none≢some : (v : Scalar) → ◌≡◌ {A = Option Scalar} None (Some v) → ⊥
none≢some v e = absurd cc

-- the write that the list has last on the place
record Last (p : Place) (os : List Operation) (v : Scalar) : Type 0 where
  write : Operation
  has : Has os write
  is : writes p write ≡ true
  value : write.value ≡ v
  last : (o : Operation) → Has os o → writes p o ≡ true → (o ≡ write) ⊎ Precedes os o write

parts-none : (a b : Option Scalar) → or_else a b ≡ None → (a ≡ None) × (b ≡ None)
parts-none None b e = (refl, e)
parts-none (Some v) b e = absurd (none≢some v (sym e))

none-of : (p : Place) (os : List Operation) → last_write p os ≡ None → (o : Operation) → Has os o → writes p o ≡ true → ⊥
none-of p [] e o h w = h
none-of p (x ∷ os) e o (inl q) w =
    let k = parts-none (last_write p os) (cond (writes p x) (Some x.value) None) e in
    none≢some x.value (sym k.1 ∙ cond-true (writes p x) (Some x.value) None (ap (writes p) q ∙ w))
none-of p (x ∷ os) e o (inr m) w = none-of p os (parts-none (last_write p os) (cond (writes p x) (Some x.value) None) e).0 o m w

head-of : (p : Place) (x : Operation) (os : List Operation) (v : Scalar) → last_write p os ≡ None → cond (writes p x) (Some x.value) None ≡ Some v → Last p (x ∷ os) v
head-of p x os v none e =
    elim (cases_Bool (writes p x)) [
      | inl t ↦
          let some : ◌≡◌ {A = Option Scalar} (Some x.value) (Some v) = sym (cond-true (writes p x) (Some x.value) None t) ∙ e in
          record {
            write = x;
            has = inl refl;
            is = t;
            value = cc;
            last = λ o h w. elim h [ inl q ↦ inl (sym q) | inr m ↦ absurd (none-of p os none o m w) ];
          }
      | inr f ↦ absurd (none≢some v (sym (cond-false (writes p x) (Some x.value) None f) ∙ e))
    ]

further : (p : Place) (x : Operation) (os : List Operation) (v : Scalar) → Last p os v → Last p (x ∷ os) v
further p x os v k =
    record {
      write = k.write;
      has = inr k.has;
      is = k.is;
      value = k.value;
      last = λ o h w. elim h [
        | inl q ↦ inr (inl (q, k.has))
        | inr m ↦ elim (k.last o m w) [ inl e ↦ inl e | inr b ↦ inr (inr b) ]
      ];
    }

last-of : (p : Place) (os : List Operation) (v : Scalar) → last_write p os ≡ Some v → Last p os v
last-of p [] v e = absurd (none≢some v e)
last-of p (x ∷ os) v e = go (last_write p os) refl e (λ u k. last-of p os u k)
  where
    go : (u : Option Scalar) → last_write p os ≡ u → or_else (last_write p os) (cond (writes p x) (Some x.value) None) ≡ Some v → ((z : Scalar) → last_write p os ≡ Some z → Last p os z) → Last p (x ∷ os) v
    go None q e rec = head-of p x os v q (sym (ap (λ z. or_else z (cond (writes p x) (Some x.value) None)) q) ∙ e)
    go (Some z) q e rec =
        let same : ◌≡◌ {A = Option Scalar} (Some z) (Some v) = sym (ap (λ z. or_else z (cond (writes p x) (Some x.value) None)) q) ∙ e in
        further p x os v (rec v (q ∙ same))

-- what a read has where it stands
reads-at : (initial : Loc → Scalar) (before front : List Operation) (r : Operation) (rest : List Operation) → ReadsLastFrom initial before (front ++ r ∷ rest) → r.write ≡ false
    → r.value ≡ value_or (last_write r.place (before ++ front)) (initial_at initial r.place)
reads-at initial before [] r rest h w = subst (λ z. r.value ≡ value_or (last_write r.place z) (initial_at initial r.place)) (sym (append-nil before)) (h.0 w)
reads-at initial before (x ∷ front) r rest h w =
    subst (λ z. r.value ≡ value_or (last_write r.place z) (initial_at initial r.place)) (append_assoc before (x ∷ []) front) (reads-at initial (before ++ x ∷ []) front r rest h.1 w)

-- and where it has it everywhere
reads-from : (initial : Loc → Scalar) (before os : List Operation)
    → ((front : List Operation) (r : Operation) (rest : List Operation) → os ≡ front ++ r ∷ rest → r.write ≡ false → r.value ≡ value_or (last_write r.place (before ++ front)) (initial_at initial r.place))
    → ReadsLastFrom initial before os
reads-from initial before [] h = tt
reads-from initial before (o ∷ os) h = (
  λ w. subst (λ z. o.value ≡ value_or (last_write o.place z) (initial_at initial o.place)) (append-nil before) (h [] o os refl w),
  reads-from initial (before ++ o ∷ []) os
      (λ front r rest e w. subst (λ z. r.value ≡ value_or (last_write r.place z) (initial_at initial r.place)) (sym (append_assoc before (o ∷ []) front)) (h (o ∷ front) r rest (ap (λ z. o ∷ z) e) w)),
)

-- members before another stand in front of it
pub front-precedes : {X : Type 0} (front : List X) (r : X) (rest : List X) (o : X) → Has front o → Precedes (front ++ r ∷ rest) o r
front-precedes [] r rest o h = absurd h
front-precedes (x ∷ front) r rest o (inl e) = inl (e, has-right front (r ∷ rest) r (inl refl))
front-precedes (x ∷ front) r rest o (inr h) = inr (front-precedes front r rest o h)

precedes-front : (front : List Operation) (r : Operation) (rest : List Operation) (o : Operation) → Distinct (front ++ r ∷ rest) → Precedes (front ++ r ∷ rest) o r → Has front o
precedes-front [] r rest o d (inl q) = absurd (each-has (λ z. r ≢ z) rest d.0 r q.1 refl)
precedes-front [] r rest o d (inr q) = absurd (each-has (λ z. r ≢ z) rest d.0 r (precedes-has rest o r q).1 refl)
precedes-front (x ∷ front) r rest o d (inl q) = inl q.0
precedes-front (x ∷ front) r rest o d (inr q) = inr (precedes-front front r rest o d.1 q)

precedes-left : (xs ys : List Operation) (a b : Operation) → Precedes xs a b → Precedes (xs ++ ys) a b
precedes-left [] ys a b p = absurd p
precedes-left (x ∷ xs) ys a b (inl q) = inl (q.0, has-left xs ys b q.1)
precedes-left (x ∷ xs) ys a b (inr q) = inr (precedes-left xs ys a b q)

record Cut (xs : List Operation) (r : Operation) : Type 0 where
  front : List Operation
  rest : List Operation
  is : xs ≡ front ++ r ∷ rest

cut : (xs : List Operation) (r : Operation) → Has xs r → Cut xs r
cut [] r h = absurd h
cut (x ∷ xs) r (inl e) = record { front = []; rest = xs; is = ap (λ z. z ∷ xs) e }
cut (x ∷ xs) r (inr m) =
    let k = cut xs r m in
    record { front = x ∷ k.front; rest = k.rest; is = ap (λ z. x ∷ z) k.is }

module _ (xs ys : List Operation) (same : (o : Operation) → Has xs o ↔ Has ys o) (dx : Distinct xs) (dy : Distinct ys) (alike : (a b : Operation) → meets a b ≡ true → Precedes xs a b → Precedes ys a b) where
  -- and so the other way round
  turned : (a b : Operation) → meets a b ≡ true → meets b a ≡ true → (a ≢ b) → Precedes ys a b → Precedes xs a b
  turned a b m n ne p =
      let h = precedes-has ys a b p in
      elim (precedes-total xs a b ne ((same a).1 h.0) ((same b).1 h.1)) [
        | inl q ↦ q
        | inr q ↦ absurd (precedes-strict ys dy a (precedes-trans ys dy a b a p (alike b a n q)))
      ]

  module _ (r : Operation) (read : r.write ≡ false) (f g f' g' : List Operation) (ex : xs ≡ f ++ r ∷ g) (ey : ys ≡ f' ++ r ∷ g') where
    w-r : (w : Operation) → writes r.place w ≡ true → meets w r ≡ true
    w-r w h = let k = and_parts w.write (same_place w.place r.place) h in and_from (same_place w.place r.place) (w.write || r.write) k.1 (or_left w.write r.write k.0)

    differ : (w : Operation) → writes r.place w ≡ true → (w ≢ r)
    differ w h e = false≢true (sym read ∙ sym (ap (λ z. z.write) e) ∙ (and_parts w.write (same_place w.place r.place) h).0)

    r-w : (w : Operation) → writes r.place w ≡ true → meets r w ≡ true
    r-w w h =
        let k = and_parts w.write (same_place w.place r.place) h in
        and_from (same_place r.place w.place) (r.write || w.write) (turn w.place r.place k.1) (or_right r.write w.write k.0)

    into : (w : Operation) → writes r.place w ≡ true → Has f w → Has f' w
    into w h m =
        precedes-front f' r g' w (subst Distinct ey dy)
        (subst (λ l. Precedes l w r) ey (alike w r (w-r w h) (subst (λ l. Precedes l w r) (sym ex) (front-precedes f r g w m))))

    back : (w : Operation) → writes r.place w ≡ true → Has f' w → Has f w
    back w h m =
        precedes-front f r g w (subst Distinct ex dx)
        (subst (λ l. Precedes l w r) ex (turned w r (w-r w h) (r-w w h) (differ w h) (subst (λ l. Precedes l w r) (sym ey) (front-precedes f' r g' w m))))

    one-last : (u v : Scalar) → Last r.place f u → Last r.place f' v → u ≡ v
    one-last u v k l =
        let x : (l.write ≡ k.write) ⊎ Precedes f l.write k.write = k.last l.write (back l.write l.is l.has) l.is in
        let y : (k.write ≡ l.write) ⊎ Precedes f' k.write l.write = l.last k.write (into k.write k.is k.has) k.is in
        let same-write : k.write ≡ l.write = elim x [
          | inl e ↦ sym e
          | inr p ↦ elim y [
            | inl e ↦ e
            | inr q ↦
                let a : Precedes ys l.write k.write = alike l.write k.write (w-w l.write k.write l.is k.is) (subst (λ z. Precedes z l.write k.write) (sym ex) (precedes-left f (r ∷ g) l.write k.write p)) in
                let b : Precedes ys k.write l.write = subst (λ z. Precedes z k.write l.write) (sym ey) (precedes-left f' (r ∷ g') k.write l.write q) in
                absurd (precedes-strict ys dy l.write (precedes-trans ys dy l.write k.write l.write a b))
          ]
        ] in
        sym k.value ∙ ap (λ z. z.value) same-write ∙ l.value
      where
        w-w : (a b : Operation) → writes r.place a ≡ true → writes r.place b ≡ true → meets a b ≡ true
        w-w a b h k =
            let x = and_parts a.write (same_place a.place r.place) h in
            let y = and_parts b.write (same_place b.place r.place) k in
            and_from (same_place a.place b.place) (a.write || b.write) (join a.place b.place r.place x.1 y.1) (or_left a.write b.write x.0)

    same-last : (u v : Option Scalar) → last_write r.place f ≡ u → last_write r.place f' ≡ v → u ≡ v
    same-last None None e h = refl
    same-last (Some u) (Some v) e h = ap (λ z. Some z) (one-last u v (last-of r.place f u e) (last-of r.place f' v h))
    same-last (Some u) None e h =
        let k = last-of r.place f u e in
        absurd (none-of r.place f' h k.write (into k.write k.is k.has) k.is)
    same-last None (Some v) e h =
        let k = last-of r.place f' v h in
        absurd (none-of r.place f e k.write (back k.write k.is k.has) k.is)

-- Two lists of the same operations, each once, of which the first reads right and holds each pair on one place with a
-- write as the second does: the second reads right too.
pub reads-moved : (initial : Loc → Scalar) (xs ys : List Operation) → ((o : Operation) → Has xs o ↔ Has ys o) → Distinct xs → Distinct ys
    → ((a b : Operation) → meets a b ≡ true → Precedes xs a b → Precedes ys a b) → ReadsLast initial xs → ReadsLast initial ys
reads-moved initial xs ys same dx dy alike h =
    reads-from initial [] ys
    (λ f' r g' ey w.
    let m : Has ys r = subst (λ l. Has l r) (sym ey) (has-right f' (r ∷ g') r (inl refl)) in
    let c = cut xs r ((same r).1 m) in
    let v = reads-at initial [] c.front r c.rest (subst (ReadsLastFrom initial []) c.is h) w in
    v ∙ ap (λ z. value_or z (initial_at initial r.place))
    (same-last xs ys same dx dy alike r w c.front c.rest f' g' c.is ey (last_write r.place c.front) (last_write r.place f') refl refl))
