-- Lists cut at a member.
use Rattle.std.proofs.Common.{◌≡◌, List, [], ◌∷◌, ◌++◌, ◌⊎◌, refl, sym, ap, ◌∙◌, subst, inl, inr, append_assoc}
use Rattle.upc_values.specs.Lists.{Has, Precedes}
use Rattle.upc_values.proofs.Membership.{has-right}

module _ {X : Type 0} where
  -- the member stands in the list right after these
  pub record At (xs front : List X) (x : X) : Type 0 where
    pub rest : List X
    pub is : xs ≡ front ++ x ∷ rest

  pub no-cut : (front rest : List X) (x : X) → [] ≡ front ++ x ∷ rest → ⊥
  no-cut [] rest x e = absurd cc
  no-cut (y ∷ front) rest x e = absurd cc

  pub at-more : (xs ys front : List X) (x : X) → At xs front x → At (xs ++ ys) front x
  at-more xs ys front x a =
      record { rest = a.rest ++ ys; is = ap (λ z. z ++ ys) a.is ∙ append_assoc front (x ∷ a.rest) ys }

  pub at-end : (xs : List X) (x : X) → At (xs ++ x ∷ []) xs x
  at-end xs x = record { rest = []; is = refl }

  -- in a list with one more, it is that one or stands before it
  pub at-cases : (xs : List X) (x : X) (front : List X) (d : X) (rest : List X) → xs ++ x ∷ [] ≡ front ++ d ∷ rest
      → ((xs ≡ front) × (x ≡ d)) ⊎ At xs front d
  at-cases [] x [] d rest e = inl (refl, cc)
  at-cases [] x (y ∷ front) d rest e = let k : [] ≡ front ++ d ∷ rest = cc in absurd (no-cut front rest d k)
  at-cases (y ∷ xs) x [] d rest e = let k : y ≡ d = cc in inr (record { rest = xs; is = ap (λ z. z ∷ xs) k })
  at-cases (y ∷ xs) x (z ∷ front) d rest e =
      let k : y ≡ z = cc in
      let t : xs ++ x ∷ [] ≡ front ++ d ∷ rest = cc in
      elim (at-cases xs x front d rest t) [
        | inl p ↦ inl (ap (λ w. y ∷ w) p.0 ∙ ap (λ w. w ∷ front) k, p.1)
        | inr a ↦ inr (record { rest = a.rest; is = ap (λ w. y ∷ w) a.is ∙ ap (λ w. w ∷ (front ++ d ∷ a.rest)) k })
      ]

  -- a member of the front
  pub at-inner : (xs front : List X) (e : X) (f : List X) (d : X) → At xs front e → At front f d → At xs f d
  at-inner xs front e f d a b =
      record {
        rest = b.rest ++ e ∷ a.rest;
        is = a.is ∙ ap (λ z. z ++ e ∷ a.rest) b.is ∙ append_assoc f (d ∷ b.rest) (e ∷ a.rest);
      }

  -- two members: one place, or one stands in front of the other
  pub order : (f : List X) (d : X) (r g : List X) (e : X) (s : List X) → f ++ d ∷ r ≡ g ++ e ∷ s
      → ((f ≡ g) × (d ≡ e)) ⊎ (At g f d ⊎ At f g e)
  order [] d r [] e s h = inl (refl, cc)
  order [] d r (y ∷ g) e s h =
      let k : y ≡ d = cc in inr (inl (record { rest = g; is = ap (λ z. z ∷ g) k }))
  order (x ∷ f) d r [] e s h =
      let k : x ≡ e = cc in inr (inr (record { rest = f; is = ap (λ z. z ∷ f) k }))
  order (x ∷ f) d r (y ∷ g) e s h =
      let k : x ≡ y = cc in
      let t : f ++ d ∷ r ≡ g ++ e ∷ s = cc in
      elim (order f d r g e s t) [
        | inl p ↦ inl (ap (λ w. x ∷ w) p.0 ∙ ap (λ w. w ∷ g) k, p.1)
        | inr q ↦ elim q [
          | inl a ↦ inr (inl (record { rest = a.rest; is = ap (λ w. y ∷ w) a.is ∙ ap (λ w. w ∷ (f ++ d ∷ a.rest)) (sym k) }))
          | inr a ↦ inr (inr (record { rest = a.rest; is = ap (λ w. x ∷ w) a.is ∙ ap (λ w. w ∷ (g ++ e ∷ a.rest)) k }))
        ]
      ]

  pub places : (xs f : List X) (d : X) (g : List X) (e : X) → At xs f d → At xs g e
      → ((f ≡ g) × (d ≡ e)) ⊎ (At g f d ⊎ At f g e)
  places xs f d g e a b = order f d a.rest g e b.rest (sym a.is ∙ b.is)

  pub at-has : (xs front : List X) (x : X) → At xs front x → Has xs x
  at-has xs front x a = subst (λ l. Has l x) (sym a.is) (has-right front (x ∷ a.rest) x (inl refl))

  front-precedes : (front : List X) (r : X) (rest : List X) (o : X) → Has front o → Precedes (front ++ r ∷ rest) o r
  front-precedes [] r rest o h = absurd h
  front-precedes (x ∷ front) r rest o (inl e) = inl (e, has-right front (r ∷ rest) r (inl refl))
  front-precedes (x ∷ front) r rest o (inr h) = inr (front-precedes front r rest o h)

  pub at-precedes : (xs f : List X) (d : X) (g : List X) (e : X) → At xs g e → At g f d → Precedes xs d e
  at-precedes xs f d g e b a =
      subst (λ l. Precedes l d e) (sym b.is) (front-precedes g e b.rest d (at-has g f d a))

  -- where one precedes another, both have their places
  pub record Cut (xs : List X) (a b : X) : Type 0 where
    pub before : List X
    pub front : List X
    pub second : At xs before b
    pub first : At before front a

  cut-has : (xs : List X) (x : X) → Has xs x → (front : List X) × At xs front x
  cut-has [] x h = absurd h
  cut-has (y ∷ xs) x (inl e) = ([], record { rest = xs; is = ap (λ z. z ∷ xs) e })
  cut-has (y ∷ xs) x (inr h) =
      let k = cut-has xs x h in
      (y ∷ k.0, record { rest = k.1.rest; is = ap (λ z. y ∷ z) k.1.is })

  pub cut : (xs : List X) (a b : X) → Precedes xs a b → Cut xs a b
  cut [] a b p = absurd p
  cut (x ∷ xs) a b (inl q) =
      let k = cut-has xs b q.1 in
      record {
        before = x ∷ k.0;
        front = [];
        second = record { rest = k.1.rest; is = ap (λ z. x ∷ z) k.1.is };
        first = record { rest = k.0; is = ap (λ z. z ∷ k.0) q.0 };
      }
  cut (x ∷ xs) a b (inr p) =
      let k = cut xs a b p in
      record {
        before = x ∷ k.before;
        front = x ∷ k.front;
        second = record { rest = k.second.rest; is = ap (λ z. x ∷ z) k.second.is };
        first = record { rest = k.first.rest; is = ap (λ z. x ∷ z) k.first.is };
      }
