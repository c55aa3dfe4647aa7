-- How depths of parts of code are put together.
use Rattle.std.proofs.Common.{◌≡◌, ℕ, zero, suc, ◌+◌, List, [], ◌∷◌, ◌++◌, length, refl, sym, ap, ◌∙◌, subst, arith}
use Rattle.std.proofs.Common.{append_assoc, length-append}
use Rattle.std.proofs.lemmas.List.{append-nil}
use Rattle.stack_code.specs.declared.instruction.Instr.{Instr}
use Rattle.stack_code.specs.layer.Depths.{raised, effect_of, Lands, Agrees, Fine, Deep, IsDeep}

-- The depths of what was passed, the nearest first.
abbrev pub onto : List ℕ → List ℕ → List ℕ
onto [] before = before
onto (d ∷ ds) before = onto ds (d ∷ before)

pub deep_append : (a b : List Instr) (ds es before more : List ℕ) → Deep before a ds (es ++ more)
    → Deep (onto ds before) b es more → Deep before (a ++ b) (ds ++ es) more
deep_append [] b [] es before more p q = q
deep_append [] b (d ∷ ds) es before more p q = absurd p
deep_append (i ∷ a) b [] es before more p q = absurd p
deep_append (i ∷ a) b (d ∷ ds) es before more p q = (
  subst (λ (l : List ℕ). Fine before (effect_of i.does) d l) (sym (append_assoc ds es more)) p.0,
  deep_append a b ds es (d ∷ before) more p.1 q,
)

-- What lies after n depths.
pub lands_past : (ds more : List ℕ) (n k d : ℕ) → length ds ≡ n → Lands more k d → Lands (ds ++ more) (n + k) d
lands_past [] more n k d e l = let q : k ≡ n + k = omega arith in subst (λ j. Lands more j d) q l
lands_past (x ∷ ds) more zero k d e l = absurd (omega arith)
lands_past (x ∷ ds) more (suc n) k d e l =
    let q : suc (n + k) ≡ suc n + k = omega arith in
    subst (λ j. Lands ((x ∷ ds) ++ more) j d) q (lands_past ds more n k d (omega arith) l)

-- The same, right after them.
pub lands_end : (ds more : List ℕ) (n d : ℕ) → length ds ≡ n → Lands more 0 d → Lands (ds ++ more) n d
lands_end ds more n d e l =
    let q : n + 0 ≡ n = omega arith in subst (λ j. Lands (ds ++ more) j d) q (lands_past ds more n 0 d e l)

pub lands_assoc : (a b more : List ℕ) (n d : ℕ) → Lands (a ++ (b ++ more)) n d → Lands ((a ++ b) ++ more) n d
lands_assoc a b more n d l = subst (λ (x : List ℕ). Lands x n d) (sym (append_assoc a b more)) l

-- What lies before n depths.
pub back_past : (ds before : List ℕ) (n k d : ℕ) → length ds ≡ n → Lands before k d → Lands (onto ds before) (n + k) d
back_past [] before n k d e l = let q : k ≡ n + k = omega arith in subst (λ j. Lands before j d) q l
back_past (x ∷ ds) before zero k d e l = absurd (omega arith)
back_past (x ∷ ds) before (suc n) k d e l =
    let q : n + suc k ≡ suc n + k = omega arith in
    subst (λ j. Lands (onto (x ∷ ds) before) j d) q (back_past ds (x ∷ before) n (suc k) d (omega arith) l)

-- A part of code that begins at depth d has depths that agree, where P holds of the depths that follow.
pub record Deepens (is : List Instr) (d : ℕ) (P : List ℕ → Type 0) : Type 0 where
  pub depths : List ℕ
  pub long : length depths ≡ length is
  pub begins : (more : List ℕ) → P more → Lands (depths ++ more) 0 d
  pub deep : (before more : List ℕ) → P more → Deep before is depths more

-- What follows has this depth.
abbrev pub Then : ℕ → List ℕ → Type 0
Then d more = Lands more 0 d

-- One part after another, where what the first needs to follow comes of the second.
abbrev pub joins : (a b : List Instr) (d e : ℕ) (P Q : List ℕ → Type 0) (x : Deepens a d P) (y : Deepens b e Q)
    → ((more : List ℕ) → Q more → P (y.depths ++ more)) → Deepens (a ++ b) d Q
joins a b d e P Q x y h = record {
  depths = x.depths ++ y.depths;
  long =
      let p = x.long in
      let q = y.long in
      omega (arith, length-append x.depths y.depths, length-append a b);
  begins = λ more l. lands_assoc x.depths y.depths more 0 d (x.begins (y.depths ++ more) (h more l));
  deep = λ before more l.
      deep_append a b x.depths y.depths before more (x.deep before (y.depths ++ more) (h more l))
      (y.deep (onto x.depths before) more l);
}

-- One after the other.
abbrev pub follows : (a b : List Instr) (d e : ℕ) (Q : List ℕ → Type 0) → Deepens a d (Then e) → Deepens b e Q
    → Deepens (a ++ b) d Q
follows a b d e Q x y = joins a b d e (Then e) Q x y (λ more q. y.begins more q)

-- One instruction, whose operands lie over k others.
abbrev pub single : (i : Instr) (k d : ℕ) (P : List ℕ → Type 0) → d ≡ raised (effect_of i.does).takes k
    → ((so_far more : List ℕ) → P more → Agrees (effect_of i.does).leading k so_far more) → Deepens (i ∷ []) d P
single i k d P e h = record {
  depths = d ∷ [];
  long = refl;
  begins = λ more p. refl;
  deep = λ before more p. ((k, e, h (d ∷ before) more p), tt);
}

-- The last one of a part.
abbrev pub ends_with : (a : List Instr) (i : Instr) (d k e : ℕ) (Q : List ℕ → Type 0) → Deepens a d (Then e)
    → e ≡ raised (effect_of i.does).takes k
    → ((so_far more : List ℕ) → Q more → Agrees (effect_of i.does).leading k so_far more)
    → Deepens (a ++ i ∷ []) d Q
ends_with a i d k e Q x q h = follows a (i ∷ []) d e Q x (single i k e Q q h)

-- The first one of a part.
abbrev pub begins_with : (i : Instr) (b : List Instr) (k d e : ℕ) (Q : List ℕ → Type 0)
    → d ≡ raised (effect_of i.does).takes k
    → ((so_far more : List ℕ) → Then e more → Agrees (effect_of i.does).leading k so_far more)
    → Deepens b e Q → Deepens (i ∷ b) d Q
begins_with i b k d e Q q h y = follows (i ∷ []) b d e Q (single i k d (Then e) q h) y

-- Under a condition of which the other comes.
abbrev pub under : (a : List Instr) (d : ℕ) (P Q : List ℕ → Type 0) → Deepens a d P
    → ((more : List ℕ) → Q more → P more) → Deepens a d Q
under a d P Q x h = record {
  depths = x.depths;
  long = x.long;
  begins = λ more q. x.begins more (h more q);
  deep = λ before more q. x.deep before more (h more q);
}

-- No code.
abbrev pub no_code : (d : ℕ) → Deepens [] d (Then d)
no_code d = record { depths = []; long = refl; begins = λ more p. p; deep = λ before more p. tt }

pub raised_more : (n d : ℕ) → raised n (suc d) ≡ raised (1 + n) d
raised_more n d = up n d ∙ ap (λ k. raised k d) (let e : suc n ≡ 1 + n = omega arith in e)
  where
    up : (n d : ℕ) → raised n (suc d) ≡ suc (raised n d)
    up zero d = refl
    up (suc n) d = ap suc (up n d)

-- A function whose code agrees whatever follows it.
pub whole : (code : List Instr) → Deepens code 0 (λ more. Unit {0}) → IsDeep code
whole code x =
    (x.depths, subst (λ ds. Lands ds 0 0) (append-nil x.depths) (x.begins [] tt), x.deep [] [] tt)
