-- A list with one more write in its place.
use Rattle.std.proofs.Common.{◌≡◌, Bool, true, false, not, ◌&&◌, cond, List, [], ◌∷◌, ◌++◌, Option, Some, None, refl, sym, ap, ◌∙◌, subst, inl, inr, ◌⊎◌, append_assoc, true≢false}
use Rattle.std.proofs.lemmas.Bool.{cases_Bool, false≢true, cond-true, cond-false, cond_both, and_parts, and_from, and_cases}
use Rattle.block_layout.specs.declared.place.Loc.{Loc}
use Rattle.upc_values.specs.declared.scalar.Scalar.{Scalar}
use Rattle.upc_values.specs.Scalars.{same_loc, value_or}
use Rattle.upc_values.specs.Drain.{or_else}
use Rattle.upc_values.specs.Lists.{Has, Each, Pairwise}
use Rattle.upc_values.specs.Operations.{Operation, Place, Cell, Sync}
use Rattle.upc_values.specs.Consistent.{same_place, last_write, initial_at, ReadsLastFrom}
use Rattle.upc_values.proofs.Membership.{has-left, has-right, has-cases, each-has, each-from, each-append, pairs-insert}
use Rattle.upc_values.proofs.Values.{last_write-append}
use Rattle.upc_values.proofs.Sameness.{same_loc-true, same_loc-itself}
use Rattle.replica_space.specs.declared.message.Stamp.{Stamp}
use Rattle.replica_space.specs.declared.message.Message.{Message}
use Rattle.replica_space.specs.Spaces.{is_later, is_behind, with_mail}
use Rattle.replica_space.specs.ReplicaOrders.{Placed, write_of, is_write_of, is_after, with_write, operations}
use Rattle.replica_space_lists.specs.layer.Keeping.{StandByStamps, Told, told_or, last_told, told}
use Rattle.replica_space_lists.proofs.Stamps.{upto-trans, upto-self, later-upto}

-- ---- operations of members

pub has-operations : (xs : List Placed) (x : Placed) → Has xs x → Has (operations xs) x.operation
has-operations [] x h = absurd h
has-operations (y ∷ ys) x (inl e) = inl (ap (λ z. z.operation) e)
has-operations (y ∷ ys) x (inr h) = inr (has-operations ys x h)

pub record MemberOf (xs : List Placed) (o : Operation) : Type 0 where
  pub member : Placed
  pub has : Has xs member
  pub is : member.operation ≡ o

pub operations-has : (xs : List Placed) (o : Operation) → Has (operations xs) o → MemberOf xs o
operations-has [] o h = absurd h
operations-has (y ∷ ys) o (inl e) = record { member = y; has = inl refl; is = e }
operations-has (y ∷ ys) o (inr h) = let k = operations-has ys o h in record { member = k.member; has = inr k.has; is = k.is }

pub pairs-right : {X : Type 0} (R : X → X → Type 0) (xs ys : List X) → Pairwise R (xs ++ ys) → Pairwise R ys
pairs-right R [] ys h = h
pairs-right R (x ∷ xs) ys h = pairs-right R xs ys h.1

pub pairs-join : {X : Type 0} (R : X → X → Type 0) (xs ys : List X) → Pairwise R xs → Pairwise R ys → ((a b : X) → Has xs a → Has ys b → R a b) → Pairwise R (xs ++ ys)
pairs-join R [] ys h k c = k
pairs-join R (x ∷ xs) ys h k c =
    (each-append (R x) xs ys h.0 (each-from (R x) ys (λ b w. c x b (inl refl) w)), pairs-join R xs ys h.1 k (λ a b v w. c a b (inr v) w))

-- ---- the last write of a location

pub told_or-none : (o : Option Told) → told_or o None ≡ o
told_or-none (Some x) = refl
told_or-none None = refl

told_or-assoc : (a b c : Option Told) → told_or (told_or a b) c ≡ told_or a (told_or b c)
told_or-assoc (Some x) b c = refl
told_or-assoc None b c = refl

-- what one member tells
abbrev pub one_told : Loc → Placed → Option Told
one_told l x = cond (is_write_of l x) (Some (record { stamp = x.stamp; value = x.operation.value })) None

pub last_told-append : (l : Loc) (xs ys : List Placed) → last_told l (xs ++ ys) ≡ told_or (last_told l ys) (last_told l xs)
last_told-append l [] ys = sym (told_or-none (last_told l ys))
last_told-append l (x ∷ xs) ys = ap (λ z. told_or z (one_told l x)) (last_told-append l xs ys) ∙ told_or-assoc (last_told l ys) (last_told l xs) (one_told l x)

-- what holds of the stamps of all writes of a location holds of the last one's
pub last-so : (P : Stamp → Type 0) (l : Loc) (xs : List Placed) → ((x : Placed) → Has xs x → is_write_of l x ≡ true → P x.stamp) → (z : Told) → last_told l xs ≡ Some z → P z.stamp
last-so P l [] h z e = absurd cc
last-so P l (x ∷ xs) h z e = go (last_told l xs) refl (λ q. last-so P l xs (λ v w. h v (inr w)) z q) e
  where
    go : (o : Option Told) → last_told l xs ≡ o → (last_told l xs ≡ Some z → P z.stamp) → told_or o (one_told l x) ≡ Some z → P z.stamp
    go (Some y) q rest e = rest (q ∙ e)
    go None q rest e =
        cond_both (is_write_of l x) (Some (record { stamp = x.stamp; value = x.operation.value })) None (λ o. o ≡ Some z → P z.stamp)
        (λ t f.
        let x-is : Told = record { stamp = x.stamp; value = x.operation.value } in
        let i : x-is ≡ z = cc in
        subst (λ (k : Told). P k.stamp) i (h x (inl refl) t))
        (λ t f. absurd cc) e

-- the value alone
abbrev pub value_told : Option Told → Option Scalar
value_told (Some x) = Some x.value
value_told None = None

pub last-value : (l : Loc) (xs : List Placed) → last_write (Cell l) (operations xs) ≡ value_told (last_told l xs)
last-value l [] = refl
last-value l (x ∷ xs) =
    ap (λ z. or_else z (cond (is_write_of l x) (Some x.operation.value) None)) (last-value l xs) ∙ go (last_told l xs) (is_write_of l x)
  where
    go : (a : Option Told) (b : Bool) → or_else (value_told a) (cond b (Some x.operation.value) None) ≡ value_told (told_or a (cond b (Some (record { stamp = x.stamp; value = x.operation.value })) None))
    go (Some y) b = refl
    go None true = refl
    go None false = refl

pub place-is : (p : Place) (l : Loc) → same_place p (Cell l) ≡ true → p ≡ Cell l
place-is (Cell k) l h = ap Cell (same_loc-true k l h)
place-is Sync l h = absurd (false≢true h)

-- ---- reads that stand after other operations with the same last writes

pub reads-same : (initial : Loc → Scalar) (before kept os : List Operation) → ((p : Place) → last_write p kept ≡ last_write p before) → ReadsLastFrom initial before os → ReadsLastFrom initial kept os
reads-same initial before kept [] same h = tt
reads-same initial before kept (o ∷ os) same h = (
  λ w. h.0 w ∙ ap (λ z. value_or z (initial_at initial o.place)) (sym (same o.place)),
  reads-same initial (before ++ o ∷ []) (kept ++ o ∷ []) os
      (λ p. last_write-append p kept (o ∷ []) ∙ ap (or_else (last_write p (o ∷ []))) (same p) ∙ sym (last_write-append p before (o ∷ []))) h.1,
)

module _ (m : Message) where
  -- the rest of a list begins with a later write of the location, if with anything
  abbrev pub StartsLater : List Placed → Type 0
  StartsLater [] = Unit {0}
  StartsLater (y ∷ ys) = is_after m y ≡ true

  -- the write of the message is put into the list; P holds of each member that follows it
  pub record Puts (P : Placed → Type 0) (list new : List Placed) : Type 0 where
    pub before : List Placed
    pub after : List Placed
    pub was : list ≡ before ++ after
    pub is : new ≡ before ++ write_of m ∷ after
    pub lower : Each (λ x. is_after m x ≡ false) before
    pub next : StartsLater after
    pub rest : Each P after

  pub cut : (P : Placed → Type 0) (xs : List Placed) → Each P xs → Puts P xs (with_write m xs)
  cut P [] h = record { before = []; after = []; was = refl; is = refl; lower = tt; next = tt; rest = tt }
  cut P (x ∷ xs) h =
      elim (cases_Bool (is_after m x)) [
        | inl t ↦
            record {
              before = [];
              after = x ∷ xs;
              was = refl;
              is = cond-true (is_after m x) (write_of m ∷ x ∷ xs) (x ∷ with_write m xs) t;
              lower = tt;
              next = t;
              rest = h;
            }
        | inr f ↦
            let k = cut P xs h.1 in
            record {
              before = x ∷ k.before;
              after = k.after;
              was = ap (λ l. x ∷ l) k.was;
              is = cond-false (is_after m x) (write_of m ∷ x ∷ xs) (x ∷ with_write m xs) f ∙ ap (λ l. x ∷ l) k.is;
              lower = (f, k.lower);
              next = k.next;
              rest = k.rest;
            }
      ]

  -- it goes past a front without later writes
  pub past : (front back : List Placed) → Each (λ x. is_after m x ≡ false) front → with_write m (front ++ back) ≡ front ++ with_write m back
  past [] back h = refl
  past (x ∷ front) back h =
      cond-false (is_after m x) (write_of m ∷ x ∷ (front ++ back)) (x ∷ with_write m (front ++ back)) h.0 ∙ ap (λ l. x ∷ l) (past front back h.1)

  pub prefixed : (P : Placed → Type 0) (front back new : List Placed) → Each (λ x. is_after m x ≡ false) front → Puts P back new → Puts P (front ++ back) (front ++ new)
  prefixed P front back new h k =
      record {
        before = front ++ k.before;
        after = k.after;
        was = ap (λ l. front ++ l) k.was ∙ sym (append_assoc front k.before k.after);
        is = ap (λ l. front ++ l) k.is ∙ sym (append_assoc front k.before (write_of m ∷ k.after));
        lower = each-append (λ x. is_after m x ≡ false) front k.before h k.lower;
        next = k.next;
        rest = k.rest;
      }

  module _ (P : Placed → Type 0) (list new : List Placed) (p : Puts P list new) where
    pub has-was : (x : Placed) → Has new x → (write_of m ≡ x) ⊎ Has list x
    has-was x h =
        elim (has-cases p.before (write_of m ∷ p.after) x (subst (λ l. Has l x) p.is h)) [
          | inl k ↦ inr (subst (λ l. Has l x) (sym p.was) (has-left p.before p.after x k))
          | inr k ↦ elim k [
            | inl e ↦ inl e
            | inr w ↦ inr (subst (λ l. Has l x) (sym p.was) (has-right p.before p.after x w))
          ]
        ]

    pub has-new : (x : Placed) → Has list x → Has new x
    has-new x h =
        elim (has-cases p.before p.after x (subst (λ l. Has l x) p.was h)) [
          | inl k ↦ subst (λ l. Has l x) (sym p.is) (has-left p.before (write_of m ∷ p.after) x k)
          | inr k ↦ subst (λ l. Has l x) (sym p.is) (has-right p.before (write_of m ∷ p.after) x (inr k))
        ]

    pub has-put : Has new (write_of m)
    has-put = subst (λ l. Has l (write_of m)) (sym p.is) (has-right p.before (write_of m ∷ p.after) (write_of m) (inl refl))

    pub pairs-put : (R : Placed → Placed → Type 0) → Pairwise R list → ((x : Placed) → Has p.before x → R x (write_of m)) → ((x : Placed) → Has p.after x → R (write_of m) x) → Pairwise R new
    pairs-put R h a b =
        subst (Pairwise R) (sym p.is)
        (pairs-insert R p.before (write_of m ∷ []) p.after (subst (Pairwise R) p.was h) (tt, tt)
        (each-from (λ x. Each (R x) (write_of m ∷ [])) p.before (λ x w. (a x w, tt)))
        (each-from (R (write_of m)) p.after b, tt))

    pub before-was : (x : Placed) → Has p.before x → Has list x
    before-was x h = subst (λ l. Has l x) (sym p.was) (has-left p.before p.after x h)

    -- ---- stamps

    lower-is : (x : Placed) → Has p.before x → is_write_of m.loc x ≡ true → is_later x.stamp m.stamp ≡ false
    lower-is x h t =
        elim (and_cases (is_write_of m.loc x) (is_later x.stamp m.stamp) (each-has (λ z. is_after m z ≡ false) p.before p.lower x h)) [
          | inl f ↦ absurd (false≢true (sym f ∙ t))
          | inr f ↦ f
        ]

    loc-is : (l : Loc) → is_write_of l (write_of m) ≡ true → m.loc ≡ l
    loc-is l h = same_loc-true m.loc l h

    from-first : (after : List Placed) → StartsLater after → Pairwise StandByStamps after → (x : Placed) → Has after x → is_write_of m.loc x ≡ true → is_later m.stamp x.stamp ≡ false
    from-first [] s h x w t = absurd w
    from-first (y ∷ ys) s h x (inl e) t =
        subst (λ (z : Placed). is_later m.stamp z.stamp ≡ false) e
        (later-upto y.stamp m.stamp (and_parts (is_write_of m.loc y) (is_later y.stamp m.stamp) s).1)
    from-first (y ∷ ys) s h x (inr w) t =
        let q = and_parts (is_write_of m.loc y) (is_later y.stamp m.stamp) s in
        upto-trans m.stamp y.stamp x.stamp (later-upto y.stamp m.stamp q.1) (each-has (StandByStamps y) ys h.0 x w m.loc q.0 t)

    pub stamps-put : Pairwise StandByStamps list → Pairwise StandByStamps new
    stamps-put h =
        pairs-put StandByStamps h
        (λ x w l s t. lower-is x w (subst (λ z. is_write_of z x ≡ true) (sym (loc-is l t)) s))
        (λ x w l s t.
        from-first p.after p.next (pairs-right StandByStamps p.before p.after (subst (Pairwise StandByStamps) p.was h)) x w
        (subst (λ z. is_write_of z x ≡ true) (sym (loc-is l s)) t))

    -- ---- reads

    pub reads-put : (initial : Loc → Scalar) (b : List Operation) → ReadsLastFrom initial b (operations list) → ReadsLastFrom initial b (operations new)
    reads-put initial b h =
        subst (λ l. ReadsLastFrom initial b (operations l)) (sym p.is)
        (go b p.before p.after p.next (subst (λ l. ReadsLastFrom initial b (operations l)) p.was h))
      where
        hidden : (b : List Operation) (y : Placed) → is_after m y ≡ true → (q : Place)
            → last_write q ((b ++ (write_of m).operation ∷ []) ++ y.operation ∷ []) ≡ last_write q (b ++ y.operation ∷ [])
        hidden b y s q =
            let k = and_parts (is_write_of m.loc y) (is_later y.stamp m.stamp) s in
            let f = and_parts y.operation.write (same_place y.operation.place (Cell m.loc)) k.0 in
            let e = place-is y.operation.place m.loc f.1 in
            last_write-append q (b ++ (write_of m).operation ∷ []) (y.operation ∷ [])
            ∙ ap (or_else (last_write q (y.operation ∷ []))) (last_write-append q b ((write_of m).operation ∷ []))
            ∙ over y.operation.write y.operation.place f.0 e (same_place (Cell m.loc) q) refl
            ∙ sym (last_write-append q b (y.operation ∷ []))
          where
            over : (w : Bool) (pl : Place) → w ≡ true → pl ≡ Cell m.loc → (c : Bool) → same_place (Cell m.loc) q ≡ c
                → or_else (or_else None (cond (w && same_place pl q) (Some y.operation.value) None)) (or_else (last_write q ((write_of m).operation ∷ [])) (last_write q b))
                ≡ or_else (or_else None (cond (w && same_place pl q) (Some y.operation.value) None)) (last_write q b)
            over w pl wt e true c =
                let z : (w && same_place pl q) ≡ true = and_from w (same_place pl q) wt (ap (λ z. same_place z q) e ∙ c) in
                ap (λ t. or_else (or_else None (cond t (Some y.operation.value) None)) (or_else (last_write q ((write_of m).operation ∷ [])) (last_write q b))) z
                ∙ sym (ap (λ t. or_else (or_else None (cond t (Some y.operation.value) None)) (last_write q b)) z)
            over w pl wt e false c =
                ap (λ t. or_else (or_else None (cond (w && same_place pl q) (Some y.operation.value) None)) (or_else (or_else None (cond (true && t) (Some m.value) None)) (last_write q b))) c

        go : (b : List Operation) (before after : List Placed) → StartsLater after → ReadsLastFrom initial b (operations (before ++ after)) → ReadsLastFrom initial b (operations (before ++ write_of m ∷ after))
        go b [] [] s h = (λ w. absurd (true≢false w), tt)
        go b [] (y ∷ ys) s h = (
          λ w. absurd (true≢false w),
          (
            λ w. absurd (true≢false (sym (and_parts y.operation.write (same_place y.operation.place (Cell m.loc)) (and_parts (is_write_of m.loc y) (is_later y.stamp m.stamp) s).0).0 ∙ w)),
            reads-same initial (b ++ y.operation ∷ []) ((b ++ (write_of m).operation ∷ []) ++ y.operation ∷ []) (operations ys) (hidden b y s) h.1,
          ),
        )
        go b (x ∷ before) after s h = (h.0, go (b ++ x.operation ∷ []) before after s h.1)

    -- ---- the last write of each location, and the copy

    record Behind (xs : List Placed) (y : Placed) : Type 0 where
      last : Told
      is : last_told m.loc xs ≡ Some last
      upto : is_later y.stamp last.stamp ≡ false

    last-behind : (y : Placed) (ys : List Placed) → is_write_of m.loc y ≡ true → Each (StandByStamps y) ys → Behind (y ∷ ys) y
    last-behind y ys t h = go (last_told m.loc ys) refl
      where
        go : (o : Option Told) → last_told m.loc ys ≡ o → Behind (y ∷ ys) y
        go (Some z) q =
            record {
              last = z;
              is = ap (λ o. told_or o (one_told m.loc y)) q;
              upto = last-so (λ k. is_later y.stamp k ≡ false) m.loc ys (λ x w s. each-has (StandByStamps y) ys h x w m.loc t s) z q;
            }
        go None q =
            record {
              last = record { stamp = y.stamp; value = y.operation.value };
              is = ap (λ o. told_or o (one_told m.loc y)) q ∙ cond-true (is_write_of m.loc y) (Some (record { stamp = y.stamp; value = y.operation.value })) None t;
              upto = upto-self y.stamp;
            }

    abbrev own : Option Told
    own = Some (record { stamp = m.stamp; value = m.value })

    told-new : (l : Loc) → last_told l new ≡ told_or (told_or (last_told l p.after) (one_told l (write_of m))) (last_told l p.before)
    told-new l = ap (last_told l) p.is ∙ last_told-append l p.before (write_of m ∷ p.after)

    told-was : (l : Loc) → last_told l list ≡ told_or (last_told l p.after) (last_told l p.before)
    told-was l = ap (last_told l) p.was ∙ last_told-append l p.before p.after

    -- elsewhere nothing changes
    other : (l : Loc) → same_loc m.loc l ≡ false → last_told l new ≡ last_told l list
    other l f =
        told-new l
        ∙ ap (λ z. told_or z (last_told l p.before)) (ap (told_or (last_told l p.after)) (ap (λ b. cond b own None) f) ∙ told_or-none (last_told l p.after))
        ∙ sym (told-was l)

    told-behind : (c : Option Message) (z : Told) → told c ≡ Some z → is_behind m c ≡ is_later z.stamp m.stamp
    told-behind (Some k) z e =
        let k-is : Told = record { stamp = k.stamp; value = k.value } in
        let i : k-is ≡ z = cc in
        ap (λ (q : Told). is_later q.stamp m.stamp) i
    told-behind None z e = absurd cc

    -- at the message's location the copy and the list agree again
    here : Pairwise StandByStamps list → (c : Option Message) → told c ≡ last_told m.loc list → told (cond (true && not (is_behind m c)) (Some m) c) ≡ last_told m.loc new
    here h c e = go p.after p.next refl (pairs-right StandByStamps p.before p.after (subst (Pairwise StandByStamps) p.was h))
      where
        go : (after : List Placed) → StartsLater after → p.after ≡ after → Pairwise StandByStamps after → told (cond (true && not (is_behind m c)) (Some m) c) ≡ last_told m.loc new
        go [] s q k =
            let b : last_told m.loc list ≡ last_told m.loc p.before = told-was m.loc ∙ ap (λ a. told_or (last_told m.loc a) (last_told m.loc p.before)) q in
            let f : is_behind m c ≡ false = quiet c (e ∙ b) in
            ap (λ b. told (cond (true && not b) (Some m) c)) f
            ∙ sym (told-new m.loc ∙ ap (λ a. told_or (told_or (last_told m.loc a) (one_told m.loc (write_of m))) (last_told m.loc p.before)) q
            ∙ ap (λ b. told_or (told_or None (cond b own None)) (last_told m.loc p.before)) (same_loc-itself m.loc))
          where
            quiet : (c : Option Message) → told c ≡ last_told m.loc p.before → is_behind m c ≡ false
            quiet (Some k) e = last-so (λ z. is_later z m.stamp ≡ false) m.loc p.before lower-is (record { stamp = k.stamp; value = k.value }) (sym e)
            quiet None e = refl
        go (y ∷ ys) s q k =
            let w = and_parts (is_write_of m.loc y) (is_later y.stamp m.stamp) s in
            let l = last-behind y ys w.0 k.0 in
            let was : last_told m.loc list ≡ Some l.last =
            told-was m.loc ∙ ap (λ a. told_or (last_told m.loc a) (last_told m.loc p.before)) q ∙ ap (λ o. told_or o (last_told m.loc p.before)) l.is in
            let is : last_told m.loc new ≡ Some l.last =
            told-new m.loc ∙ ap (λ a. told_or (told_or (last_told m.loc a) (one_told m.loc (write_of m))) (last_told m.loc p.before)) q
            ∙ ap (λ o. told_or (told_or o (one_told m.loc (write_of m))) (last_told m.loc p.before)) l.is in
            let later : is_later l.last.stamp m.stamp ≡ true = true_unless (is_later l.last.stamp m.stamp)
            (λ f. true≢false (sym w.1 ∙ upto-trans y.stamp l.last.stamp m.stamp l.upto f)) in
            ap (λ b. told (cond (true && not b) (Some m) c)) (told-behind c l.last (e ∙ was) ∙ later) ∙ e ∙ was ∙ sym is
          where
            true_unless : (b : Bool) → (b ≡ false → ⊥) → b ≡ true
            true_unless true h = refl
            true_unless false h = absurd (h refl)

    pub told-put : Pairwise StandByStamps list → (l : Loc) (c : Option Message) → told c ≡ last_told l list → told (with_mail m l c) ≡ last_told l new
    told-put h l c e =
        elim (cases_Bool (same_loc m.loc l)) [
          | inl t ↦
              let q = same_loc-true m.loc l t in
              ap (λ b. told (cond (b && not (is_behind m c)) (Some m) c)) t
              ∙ subst (λ k. told c ≡ last_told k list → told (cond (true && not (is_behind m c)) (Some m) c) ≡ last_told k new) q (here h c) e
          | inr f ↦ ap (λ b. told (cond (b && not (is_behind m c)) (Some m) c)) f ∙ e ∙ sym (other l f)
        ]
