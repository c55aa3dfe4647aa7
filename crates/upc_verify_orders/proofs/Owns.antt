-- What may follow what has been passed.
use Rattle.std.proofs.Common.{◌≡◌, ◌↔◌, ℕ, ◌+◌, ◌<◌, ◌≤◌, ◌==◌, Bool, true, false, ◌&&◌, ◌||◌, List, [], ◌∷◌, length, get_or, set, drop, refl, sym, ap, ◌∙◌, subst, inl, inr, arith, eq-eqb, eqb-true}
use Rattle.std.proofs.lemmas.Bool.{cases_Bool, cases_eq, false≢true, or_left, or_right, and_from, and_parts}
use Rattle.std.proofs.lemmas.List.{drop_more, get_or-set_same, get_or-set_other}
use Rattle.upc_values.specs.Lists.{Each, Pairwise}
use Rattle.upc_verify_orders.specs.declared.program.Mark.{Mark}
use Rattle.upc_verify_orders.specs.code.Program.{conflict, InOrder, Passing, Raises, RaisesAt, After, MayFollow}

or-rest : (x y : Bool) → x ≡ false → (x || y) ≡ true → y ≡ true
or-rest true y e h = absurd (false≢true (sym e))
or-rest false y e h = h

-- a number is raised or stays
pub raises-up : (test : Bool) (old rank : ℕ) → test ≡ true → old < rank + 1 → Raises test old (rank + 1) rank
raises-up test old rank t lt = record { to = λ z h. (omega arith, λ q. omega arith); from = λ z h k. let w = k t in omega arith }

pub raises-stays : (test : Bool) (old rank : ℕ) → (test ≡ true → rank < old) → Raises test old old rank
raises-stays test old rank f = record { to = λ z h. (h, λ q. let w = f q in omega arith); from = λ z h k. h }

pub raises-at : (test : Bool) (old : List ℕ) (place rank new : ℕ) → place < length old → Raises test (get_or old place 0) new rank → RaisesAt test old (set old place new) place rank
raises-at test old place rank new within r =
    record {
      to = λ q z h. elim (cases_eq q place) [
        | inl e ↦
            let same : get_or (set old place new) q 0 ≡ new = ap (λ k. get_or (set old place new) k 0) e ∙ get_or-set_same old place new 0 within in
            let w = r.to z (subst (λ v. v ≤ z) same h) in
            (subst (λ k. get_or old k 0 ≤ z) (sym e) w.0, λ t p. w.1 t)
        | inr n ↦ (subst (λ v. v ≤ z) (get_or-set_other old place q new 0 n) h, λ t p. absurd (n (sym p)))
      ];
      from = λ q z h k. elim (cases_eq q place) [
        | inl e ↦
            let same : get_or (set old place new) q 0 ≡ new = ap (λ k. get_or (set old place new) k 0) e ∙ get_or-set_same old place new 0 within in
            subst (λ v. v ≤ z) (sym same) (r.from z (subst (λ k. get_or old k 0 ≤ z) e h) (λ t. k t (sym e)))
        | inr n ↦ subst (λ v. v ≤ z) (sym (get_or-set_other old place q new 0 n)) h
      ];
    }

module _ (s : Passing) (o : Mark) (r : Passing) (a : After s o r) where
  pub out : (b : Mark) → MayFollow r b → MayFollow s b × InOrder o b
  out b f =
      let st = a.strict.to b.rank f.strict in
      let wr = a.wrote.to b.place b.rank f.wrote in (
        record {
          all = λ t. (a.all.to b.rank (f.all t)).0;
          strict = st.0;
          wrote = wr.0;
          any = λ t. (a.any.to b.place b.rank (f.any t)).0;
        },
        λ c. elim (cases_Bool (o.strict || b.strict)) [
          | inl t ↦ elim (cases_Bool o.strict) [
            | inl u ↦ st.1 u
            | inr n ↦ (a.all.to b.rank (f.all (or-rest o.strict b.strict n t))).1 refl
          ]
          | inr n ↦
              let k = and_parts (o.place == b.place) (o.write || b.write) (or-rest (o.strict || b.strict) ((o.place == b.place) && (o.write || b.write)) n c) in
              let p = eqb-true o.place b.place k.0 in
              elim (cases_Bool o.write) [
                | inl u ↦ wr.1 u p
                | inr m ↦ (a.any.to b.place b.rank (f.any (or-rest o.write b.write m k.1))).1 refl p
              ]
        ],
      )

  at-place : (b : Mark) → o.place ≡ b.place → (o.write || b.write) ≡ true → conflict o b ≡ true
  at-place b p w = or_right (o.strict || b.strict) ((o.place == b.place) && (o.write || b.write)) (and_from (o.place == b.place) (o.write || b.write) (eq-eqb o.place b.place p) w)

  pub into : (b : Mark) → MayFollow s b → InOrder o b → MayFollow r b
  into b f k =
      record {
        all = λ t. a.all.from b.rank (f.all t) (λ q. k (or_left (o.strict || b.strict) ((o.place == b.place) && (o.write || b.write)) (or_right o.strict b.strict t)));
        strict = a.strict.from b.rank f.strict (λ t. k (or_left (o.strict || b.strict) ((o.place == b.place) && (o.write || b.write)) (or_left o.strict b.strict t)));
        wrote = a.wrote.from b.place b.rank f.wrote (λ t p. k (at-place b p (or_left o.write b.write t)));
        any = λ t. a.any.from b.place b.rank (f.any t) (λ q p. k (at-place b p (or_right o.write b.write t)));
      }

  pub all-out : (os : List Mark) → Each (MayFollow r) os → Each (MayFollow s) os × Each (InOrder o) os
  all-out [] h = (tt, tt)
  all-out (b ∷ os) h =
      let x = out b h.0 in
      let y = all-out os h.1 in
      ((x.0, y.0), (x.1, y.1))

  pub all-into : (os : List Mark) → Each (MayFollow s) os → Each (InOrder o) os → Each (MayFollow r) os
  all-into [] h k = tt
  all-into (b ∷ os) h k = (into b h.0 k.0, all-into os h.1 k.1)

abbrev pub Keeps : Passing → List Mark → Type 0
Keeps s os = Each (MayFollow s) os × Pairwise InOrder os

pub own-step : (s r : Passing) (marks : List Mark) (P : Type 0) (i : ℕ) (d : Mark) → i < length marks → After s (get_or marks i d) r → MayFollow s (get_or marks i d) → (Keeps s (drop i marks) ↔ P) → (Keeps r (drop (i + 1) marks) ↔ P)
own-step s r marks P i d lt a f inv =
    let o = get_or marks i d in
    let rest = drop (i + 1) marks in
    let cut : drop i marks ≡ o ∷ rest = drop_more marks i d lt in (
      λ k. let x = all-out s o r a rest k.0 in inv.0 (subst (Keeps s) (sym cut) ((f, x.0), (x.1, k.1))),
      λ p. let y = subst (Keeps s) cut (inv.1 p) in (all-into s o r a rest y.0.1 y.1.0, y.1.1),
    )

pub own-stops : (s : Passing) (marks : List Mark) (P : Type 0) (i : ℕ) (d : Mark) → i < length marks → (MayFollow s (get_or marks i d) → ⊥) → (Keeps s (drop i marks) ↔ P) → P → ⊥
own-stops s marks P i d lt fails inv p =
    let y = subst (Keeps s) (drop_more marks i d lt) (inv.1 p) in
    fails y.0.0

pub own-starts : (s : Passing) (os : List Mark) → s.all ≡ 0 → s.strict ≡ 0 → ((t : ℕ) → get_or s.any t 0 ≡ 0) → ((t : ℕ) → get_or s.wrote t 0 ≡ 0) → Each (MayFollow s) os
own-starts s [] a b c d = tt
own-starts s (o ∷ os) a b c d = (
  record { all = λ t. omega (arith, a); strict = omega (arith, b); wrote = omega (arith, d o.place); any = λ t. omega (arith, c o.place) },
  own-starts s os a b c d,
)
