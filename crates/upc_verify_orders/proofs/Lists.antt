-- A list that keeps program order, by what stands behind each thread's last member.
use Rattle.std.proofs.Common.{◌≡◌, ◌≢◌, ◌↔◌, ℕ, ◌+◌, ◌<◌, ◌≤◌, Bool, IsTrue, List, [], ◌∷◌, length, get_or, set, drop, map, sym, ap, ◌∙◌, subst, inl, inr, arith}
use Rattle.std.proofs.lemmas.Bool.{cases_eq}
use Rattle.std.proofs.lemmas.List.{drop_more, get_or-set_same, get_or-set_other}
use Rattle.upc_values.specs.declared.order.Op.{Op}
use Rattle.upc_values.specs.Lists.{Each, Pairwise}
use Rattle.upc_values.specs.Operations.{Operation}
use Rattle.upc_values.specs.Orders.{name_of}
use Rattle.upc_verify_orders.specs.layer.Reach as operations
use Rattle.upc_verify_orders.specs.code.Tables.{op_rank, InThread}

-- each member stands at or behind what its thread has come to
abbrev pub Behind : List ℕ → List Op → Type 0
Behind last os = Each (λ n. get_or last n.thread 0 ≤ op_rank n) os

abbrev pub Keeps : List ℕ → List Op → Type 0
Keeps last os = Behind last os × Pairwise InThread os

module _ (last : List ℕ) (o : Op) (within : o.thread < length last) where
  abbrev next : List ℕ
  next = set last o.thread (op_rank o + 1)

  here : get_or next o.thread 0 ≡ op_rank o + 1
  here = get_or-set_same last o.thread (op_rank o + 1) 0 within

  other : (t : ℕ) → (t ≢ o.thread) → get_or next t 0 ≡ get_or last t 0
  other t n = get_or-set_other last o.thread t (op_rank o + 1) 0 n

  out : (os : List Op) → get_or last o.thread 0 ≤ op_rank o → Behind next os → Behind last os × Each (InThread o) os
  out [] h k = (tt, tt)
  out (p ∷ os) h k =
      let rest = out os h k.1 in
      let now : get_or next p.thread 0 ≤ op_rank p = k.0 in
      elim (cases_eq p.thread o.thread) [
        | inl e ↦
            let v : get_or next p.thread 0 ≡ op_rank o + 1 = ap (λ t. get_or next t 0) e ∙ here in
            let w : get_or last p.thread 0 ≡ get_or last o.thread 0 = ap (λ t. get_or last t 0) e in
            ((omega (arith, v, w, h, now), rest.0), ((λ q. omega (arith, v, now)), rest.1))
        | inr n ↦
            let v = other p.thread n in
            ((omega (arith, v, now), rest.0), ((λ q. absurd (n (sym q))), rest.1))
      ]

  into : (os : List Op) → Behind last os → Each (InThread o) os → Behind next os
  into [] h k = tt
  into (p ∷ os) h k =
      let rest = into os h.1 k.1 in
      let old : get_or last p.thread 0 ≤ op_rank p = h.0 in
      elim (cases_eq p.thread o.thread) [
        | inl e ↦
            let v : get_or next p.thread 0 ≡ op_rank o + 1 = ap (λ t. get_or next t 0) e ∙ here in
            let w : op_rank o < op_rank p = k.0 (sym e) in
            (omega (arith, v, w), rest)
        | inr n ↦
            let v = other p.thread n in
            (omega (arith, v, old), rest)
      ]

pub list-step : (last last' : List ℕ) (strict : List Op) (P : Type 0) (i : ℕ) (d : Op) → i < length strict → (get_or strict i d).thread < length last
    → last' ≡ set last (get_or strict i d).thread (op_rank (get_or strict i d) + 1) → get_or last (get_or strict i d).thread 0 ≤ op_rank (get_or strict i d)
    → (Keeps last (drop i strict) ↔ P) → (Keeps last' (drop (i + 1) strict) ↔ P)
list-step last last' strict P i d lt within is h inv =
    let o = get_or strict i d in
    let rest = drop (i + 1) strict in
    let cut : drop i strict ≡ o ∷ rest = drop_more strict i d lt in (
      λ k. let x = out last o within rest h (subst (λ l. Behind l rest) is k.0) in inv.0 (subst (Keeps last) (sym cut) ((h, x.0), (x.1, k.1))),
      λ p. let y = subst (Keeps last) cut (inv.1 p) in (subst (λ l. Behind l rest) (sym is) (into last o within rest y.0.1 y.1.0), y.1.1),
    )

pub list-stops : (last : List ℕ) (strict : List Op) (P : Type 0) (i : ℕ) (d : Op) → i < length strict → op_rank (get_or strict i d) < get_or last (get_or strict i d).thread 0
    → (Keeps last (drop i strict) ↔ P) → P → ⊥
list-stops last strict P i d lt h inv p =
    let y = subst (Keeps last) (drop_more strict i d lt) (inv.1 p) in
    let z : get_or last (get_or strict i d).thread 0 ≤ op_rank (get_or strict i d) = y.0.0 in
    omega (arith, z, h)

-- nothing has been passed yet
pub list-starts : (last : List ℕ) (os : List Op) → ((t : ℕ) → get_or last t 0 ≡ 0) → Behind last os
list-starts last [] h = tt
list-starts last (o ∷ os) h = (omega (arith, h o.thread), list-starts last os h)

-- by operations
each-so : (a : Operation) (os : List Operation) → Each (InThread (name_of a)) (map name_of os) → Each (operations.InThread a) os
each-so a [] h = tt
each-so a (o ∷ os) h = (h.0, each-so a os h.1)

each-back : (a : Operation) (os : List Operation) → Each (operations.InThread a) os → Each (InThread (name_of a)) (map name_of os)
each-back a [] h = tt
each-back a (o ∷ os) h = (h.0, each-back a os h.1)

pub pairs-so : (os : List Operation) → Pairwise InThread (map name_of os) → Pairwise operations.InThread os
pairs-so [] h = tt
pairs-so (o ∷ os) h = (each-so o os h.0, pairs-so os h.1)

pub pairs-back : (os : List Operation) → Pairwise operations.InThread os → Pairwise InThread (map name_of os)
pairs-back [] h = tt
pairs-back (o ∷ os) h = (each-back o os h.0, pairs-back os h.1)

pub list-operations : (b : Bool) (strict : List Op) (s : List Operation) → map name_of s ≡ strict → (IsTrue b ↔ Pairwise InThread strict) → (IsTrue b ↔ Pairwise operations.InThread s)
list-operations b strict s e h =
    let k : IsTrue b ↔ Pairwise InThread (map name_of s) = subst (λ (l : List Op). IsTrue b ↔ Pairwise InThread l) (sym e) h in
    (λ t. pairs-so s (k.0 t), λ p. k.1 (pairs-back s p))
