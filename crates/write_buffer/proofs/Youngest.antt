-- The youngest pending write of a location: by looking back, where there is none, and what the drain says of it.
use Rattle.std.proofs.Common.{◌≡◌, ℕ, ◌+◌, ◌-◌, ◌<◌, ◌≤◌, take, Bool, true, false, cond, List, [], ◌∷◌, ◌++◌, length, get_or, map, Option, Some, None, All, refl, sym, ap, ◌∙◌, arith}
use Rattle.std.specs.Option.{option_or, option_map}
use Rattle.std.proofs.lemmas.List.{take_more}
use Rattle.block_layout.specs.declared.place.Loc.{Loc}
use Rattle.upc_values.specs.Scalars.{same_loc}
use Rattle.upc_values.specs.Drain.{last_written, or_else}
use Rattle.write_buffer.specs.declared.pending.Pending.{Pending}
use Rattle.write_buffer.specs.layer.Buffer.{youngest, committed}

option_or_assoc : (a b c : Option Pending) → option_or (option_or a b) c ≡ option_or a (option_or b c)
option_or_assoc (Some x) b c = refl
option_or_assoc None b c = refl

option_or-none : (o : Option Pending) → option_or o None ≡ o
option_or-none (Some x) = refl
option_or-none None = refl

pub youngest-append : (l : Loc) (ps qs : List Pending) → youngest l (ps ++ qs) ≡ option_or (youngest l qs) (youngest l ps)
youngest-append l [] qs = sym (option_or-none (youngest l qs))
youngest-append l (p ∷ ps) qs =
    ap (λ o. option_or o (cond (same_loc p.loc l) (Some p) None)) (youngest-append l ps qs)
    ∙ option_or_assoc (youngest l qs) (youngest l ps) (cond (same_loc p.loc l) (Some p) None)

-- one more write, looking back
youngest-back : (l : Loc) (ps : List Pending) (n : ℕ) (p : Pending) → 0 < n → n ≤ length ps → p ≡ get_or ps (n - 1) p
    → youngest l (take n ps) ≡ option_or (cond (same_loc p.loc l) (Some p) None) (youngest l (take (n - 1) ps))
youngest-back l ps n p some within is =
    ap (λ m. youngest l (take m ps)) (let e : n ≡ n - 1 + 1 = omega arith in e)
    ∙ ap (youngest l) (take_more ps (n - 1) p (omega arith))
    ∙ youngest-append l (take (n - 1) ps) (get_or ps (n - 1) p ∷ [])
    ∙ ap (λ q. option_or (cond (same_loc q.loc l) (Some q) None) (youngest l (take (n - 1) ps))) (sym is)

-- it has the location
pub youngest-found : (l : Loc) (ps : List Pending) (n : ℕ) (p : Pending) → 0 < n → n ≤ length ps → p ≡ get_or ps (n - 1) p
    → same_loc p.loc l ≡ true → youngest l (take n ps) ≡ Some p
youngest-found l ps n p some within is h =
    youngest-back l ps n p some within is
    ∙ ap (λ b. option_or (cond b (Some p) None) (youngest l (take (n - 1) ps))) h

-- it has another
pub youngest-passed : (l : Loc) (ps : List Pending) (n : ℕ) (p : Pending) → 0 < n → n ≤ length ps → p ≡ get_or ps (n - 1) p
    → same_loc p.loc l ≡ false → youngest l (take n ps) ≡ youngest l (take (n - 1) ps)
youngest-passed l ps n p some within is h =
    youngest-back l ps n p some within is
    ∙ ap (λ b. option_or (cond b (Some p) None) (youngest l (take (n - 1) ps))) h

or_else-map : (o : Option Pending) (b : Bool) (p : Pending) → or_else (option_map (λ q. q.value) o) (cond b (Some p.value) None) ≡ option_map (λ q. q.value) (option_or o (cond b (Some p) None))
or_else-map (Some q) b p = refl
or_else-map None true p = refl
or_else-map None false p = refl

-- the drain looks up the value of the youngest
pub youngest-written : (t : ℕ) (l : Loc) (ps : List Pending) → last_written l (map (committed t) ps) ≡ option_map (λ p. p.value) (youngest l ps)
youngest-written t l [] = refl
youngest-written t l (p ∷ ps) =
    ap (λ o. or_else o (cond (same_loc p.loc l) (Some p.value) None)) (youngest-written t l ps)
    ∙ or_else-map (youngest l ps) (same_loc p.loc l) p

none-left : (a b : Option Pending) → option_or a b ≡ None → a ≡ None
none-left None b h = refl
none-left (Some x) b h = cc

none-right : (a b : Option Pending) → option_or a b ≡ None → b ≡ None
none-right None b h = h
none-right (Some x) b h = cc

false-none : (b : Bool) (p : Pending) → cond b (Some p) None ≡ None → b ≡ false
false-none true p h = cc
false-none false p h = refl

-- none of the location is pending
pub youngest-none : (l : Loc) (ps : List Pending) → youngest l ps ≡ None → (k : ℕ) (d : Pending) → k < length ps → same_loc (get_or ps k d).loc l ≡ false
youngest-none l [] h k d lt = absurd (omega arith)
youngest-none l (p ∷ ps) h ℕ.zero d lt =
    false-none (same_loc p.loc l) p (none-right (youngest l ps) (cond (same_loc p.loc l) (Some p) None) h)
youngest-none l (p ∷ ps) h (ℕ.suc k) d lt =
    youngest-none l ps (none-left (youngest l ps) (cond (same_loc p.loc l) (Some p) None) h) k d (omega arith)

pub youngest-absent : (l : Loc) (ps : List Pending) → All (λ p. same_loc p.loc l ≡ false) ps → youngest l ps ≡ None
youngest-absent l [] h = refl
youngest-absent l (p ∷ ps) h =
    ap (λ o. option_or o (cond (same_loc p.loc l) (Some p) None)) (youngest-absent l ps (λ k d lt. h (ℕ.suc k) d (omega arith)))
    ∙ ap (λ b. cond b (Some p) None) (h 0 p (omega arith))

pub ruleset looking_back = (youngest-found, youngest-passed, youngest-none, youngest-absent)
