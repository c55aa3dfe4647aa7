-- The place of the youngest pending write of a location, and the write that stands in its place.
use Rattle.std.proofs.Common.{◌≡◌, ℕ, suc, ◌+◌, ◌-◌, ◌<◌, ◌≤◌, ◌==◌, Bool, true, false, cond, List, [], ◌∷◌, ◌++◌, length, take, get_or, set, slice_get, Option, Some, None, is_some, All, true≢false, refl, sym, ap, subst, ◌∙◌, arith}
use Rattle.std.specs.Option.{option_or}
use Rattle.std.proofs.lemmas.Bool.{cond-true, cond-false}
use Rattle.std.proofs.lemmas.List.{take_more, length-take-le}
use Rattle.block_layout.specs.declared.place.Loc.{Loc}
use Rattle.upc_values.specs.Scalars.{same_loc}
use Rattle.upc_values.proofs.Sameness.{same_loc-true}
use Rattle.write_buffer.specs.declared.pending.Pending.{Pending}
use Rattle.write_buffer.specs.layer.Buffer.{youngest, replaced, after_first, last_place}
use Rattle.write_buffer.specs.code.Counts.{place_of, counted, IsCounted}

last_place-push : (l : Loc) (p : Pending) (ps : List Pending) → last_place l (ps ++ p ∷ []) ≡ cond (same_loc p.loc l) (Some (length ps)) (last_place l ps)
last_place-push l p [] =
    let P : Bool → Type 0 = λ b. after_first None b ≡ cond b (Some 0) None in
    elim (same_loc p.loc l) as P [ true ↦ refl | false ↦ refl ]
last_place-push l p (x ∷ ps) =
    let P : Bool → Type 0 =
    λ b. after_first (cond b (Some (length ps)) (last_place l ps)) (same_loc x.loc l) ≡ cond b (Some (length (x ∷ ps))) (last_place l (x ∷ ps)) in
    ap (λ o. after_first o (same_loc x.loc l)) (last_place-push l p ps)
    ∙ elim (same_loc p.loc l) as P [ true ↦ ap Some (omega arith) | false ↦ refl ]

-- one more write, looking back
last_place-back : (l : Loc) (ps : List Pending) (n : ℕ) (p : Pending) → 0 < n → n ≤ length ps → p ≡ get_or ps (n - 1) p
    → last_place l (take n ps) ≡ cond (same_loc p.loc l) (Some (n - 1)) (last_place l (take (n - 1) ps))
last_place-back l ps n p some within is =
    let le : n - 1 ≤ length ps = omega arith in
    ap (λ m. last_place l (take m ps)) (let e : n ≡ n - 1 + 1 = omega arith in e)
    ∙ ap (last_place l) (take_more ps (n - 1) p (omega arith))
    ∙ last_place-push l (get_or ps (n - 1) p) (take (n - 1) ps)
    ∙ ap (λ k. cond (same_loc (get_or ps (n - 1) p).loc l) (Some k) (last_place l (take (n - 1) ps))) (length-take-le (n - 1) ps le)
    ∙ ap (λ q. cond (same_loc q.loc l) (Some (n - 1)) (last_place l (take (n - 1) ps))) (sym is)

-- it has the location
pub last_place-found : (l : Loc) (ps : List Pending) (n : ℕ) (p : Pending) → 0 < n → n ≤ length ps → p ≡ get_or ps (n - 1) p
    → same_loc p.loc l ≡ true → last_place l (take n ps) ≡ Some (n - 1)
last_place-found l ps n p some within is h =
    last_place-back l ps n p some within is ∙ ap (λ b. cond b (Some (n - 1)) (last_place l (take (n - 1) ps))) h

-- it has another
pub last_place-passed : (l : Loc) (ps : List Pending) (n : ℕ) (p : Pending) → 0 < n → n ≤ length ps → p ≡ get_or ps (n - 1) p
    → same_loc p.loc l ≡ false → last_place l (take n ps) ≡ last_place l (take (n - 1) ps)
last_place-passed l ps n p some within is h =
    last_place-back l ps n p some within is ∙ ap (λ b. cond b (Some (n - 1)) (last_place l (take (n - 1) ps))) h

pub ruleset looking_back = (last_place-found, last_place-passed)

-- none has the location
pub last_place-absent : (l : Loc) (ps : List Pending) → All (λ p. same_loc p.loc l ≡ false) ps → last_place l ps ≡ None
last_place-absent l [] h = refl
last_place-absent l (p ∷ ps) h =
    ap (λ o. after_first o (same_loc p.loc l)) (last_place-absent l ps (λ k d lt. h (ℕ.suc k) d (omega arith)))
    ∙ ap (after_first None) (h 0 p (omega arith))

pub after-none : (o : Option ℕ) (b : Bool) → after_first o b ≡ None → (o ≡ None) × (b ≡ false)
after-none (Some k) b h = cc
after-none None true h = cc
after-none None false h = (refl, refl)

first-of : (b : Bool) (k : ℕ) → after_first None b ≡ Some k → (0 ≡ k) × (b ≡ true)
first-of true k h = (cc, refl)
first-of false k h = cc

next-of : (m k : ℕ) → Some (m + 1) ≡ Some k → suc m ≡ k
next-of m k h = let e : m + 1 ≡ k = cc in omega arith

pub none-youngest : (l : Loc) (ps : List Pending) → last_place l ps ≡ None → youngest l ps ≡ None
none-youngest l [] h = refl
none-youngest l (p ∷ ps) h =
    let s = after-none (last_place l ps) (same_loc p.loc l) h in
    ap (λ o. option_or o (cond (same_loc p.loc l) (Some p) None)) (none-youngest l ps s.0)
    ∙ ap (λ b. cond b (Some p) None) s.1

-- what stands at the place: a write of the location, the youngest one, and the one that is replaced
pub record IsPlace (l : Loc) (ps : List Pending) (k : ℕ) : Type 0 where
  pub within : k < length ps
  pub loc : (d : Pending) → same_loc (get_or ps k d).loc l ≡ true
  pub youngest : (d : Pending) → youngest l ps ≡ Some (get_or ps k d)
  pub replaced : (q : Pending) → q.loc ≡ l → replaced q ps ≡ set ps k q

pub is-place : (l : Loc) (ps : List Pending) (k : ℕ) → last_place l ps ≡ Some k → IsPlace l ps k
is-place l [] k h = cc
is-place l (p ∷ ps) k h =
    let P : Option ℕ → Type 0 = λ o. last_place l ps ≡ o → after_first o (same_loc p.loc l) ≡ Some k → IsPlace l (p ∷ ps) k in
    let go : (o : Option ℕ) → P o = λ o. elim o as P [
      | Some m ↦ λ q r.
          let s = is-place l ps m q in
          let n : suc m ≡ k = next-of m k r in
          let found : is_some (youngest l ps) ≡ true = ap is_some (s.youngest p) in
          let at : IsPlace l (p ∷ ps) (suc m) = record {
            within = let w = s.within in omega arith;
            loc = λ d. s.loc d;
            youngest = λ d. ap (λ o. option_or o (cond (same_loc p.loc l) (Some p) None)) (s.youngest d);
            replaced = λ x e.
                let there : is_some (youngest x.loc ps) ≡ true = ap (λ y. is_some (youngest y ps)) e ∙ found in
                cond-true (is_some (youngest x.loc ps)) (p ∷ replaced x ps) (x ∷ ps) there ∙ ap (λ z. p ∷ z) (s.replaced x e);
          } in
          subst (IsPlace l (p ∷ ps)) n at
      | None ↦ λ q r.
          let s = first-of (same_loc p.loc l) k r in
          let none = none-youngest l ps q in
          let at : IsPlace l (p ∷ ps) 0 = record {
            within = omega arith;
            loc = λ d. s.1;
            youngest = λ d.
                ap (λ o. option_or o (cond (same_loc p.loc l) (Some p) None)) none ∙ ap (λ b. cond b (Some p) None) s.1;
            replaced = λ x e.
                let there : is_some (youngest x.loc ps) ≡ false = ap (λ y. is_some (youngest y ps)) e ∙ ap is_some none in
                cond-false (is_some (youngest x.loc ps)) (p ∷ replaced x ps) (x ∷ ps) there;
          } in
          subst (IsPlace l (p ∷ ps)) s.0 at
    ] in
    go (last_place l ps) refl h

-- none of the location is pending
pub youngest-some : (l : Loc) (ps : List Pending) → is_some (youngest l ps) ≡ true → (k : ℕ) × (last_place l ps ≡ Some k)
youngest-some l ps h =
    let P : Option ℕ → Type 0 = λ o. last_place l ps ≡ o → (k : ℕ) × (last_place l ps ≡ Some k) in
    let go : (o : Option ℕ) → P o = λ o. elim o as P [
      | Some k ↦ λ q. (k, q)
      | None ↦ λ q. absurd (true≢false (sym h ∙ ap is_some (none-youngest l ps q)))
    ] in
    go (last_place l ps) refl

-- a write in the place of one that is counted where it is
pub counted-set : (j : ℕ) (ps : List Pending) (k : ℕ) (q : Pending) → k < length ps → ((d : Pending) → place_of (get_or ps k d).loc ≡ place_of q.loc) → counted j (set ps k q) ≡ counted j ps
counted-set j [] k q lt h = absurd (omega arith)
counted-set j (p ∷ ps) ℕ.zero q lt h =
    ap (λ n. cond {A = ℕ} (n == j) 1 0 + counted j ps) (sym (h p))
counted-set j (p ∷ ps) (ℕ.suc k) q lt h =
    ap (λ n. cond {A = ℕ} (place_of p.loc == j) 1 0 + n) (counted-set j ps k q (omega arith) h)

pub is_counted-set : (ps : List Pending) (counts : List ℕ) (k : ℕ) (q : Pending) → last_place q.loc ps ≡ Some k → IsCounted ps counts → IsCounted (set ps k q) counts
is_counted-set ps counts k q h c =
    let at = is-place q.loc ps k h in
    record {
      many = c.many;
      each = λ j. c.each j ∙ sym (counted-set j ps k q at.within (λ d. ap place_of (same_loc-true (get_or ps k d).loc q.loc (at.loc d))));
    }

pub none-all : (l : Loc) (ps : List Pending) → last_place l ps ≡ None → All (λ p. same_loc p.loc l ≡ false) ps
none-all l [] h = λ k d lt. absurd (omega arith)
none-all l (p ∷ ps) h = λ k d lt.
    let s = after-none (last_place l ps) (same_loc p.loc l) h in
    let G : ℕ → Type 0 = λ k. k < length (p ∷ ps) → same_loc (get_or (p ∷ ps) k d).loc l ≡ false in
    let go : (k : ℕ) → G k = λ k. elim k as G [
      | ℕ.zero ↦ λ lt. s.1
      | ℕ.suc j ↦ λ lt. none-all l ps s.0 j d (omega arith)
    ] in
    go k lt

pub get-none : (ps : List Pending) (k : ℕ) → None ≡ slice_get ps k → k < length ps → ⊥
get-none [] k h lt = absurd (omega arith)
get-none (p ∷ ps) ℕ.zero h lt = cc
get-none (p ∷ ps) (ℕ.suc k) h lt = get-none ps k h (omega arith)
