-- Runs whose copies go on after those of the run before.
use Rattle.std.proofs.Common.{◌≡◌, ℕ, zero, suc, ◌+◌, ◌*◌, ◌<◌, ◌≤◌, ◌⊎◌, inl, inr, List, [], ◌∷◌, ◌++◌, sym, ap, ◌∙◌, subst, append_assoc, arith}
use Rattle.std.proofs.lemmas.List.{append-nil}
use Rattle.block_layout.specs.declared.kind.Kind.{Kind}
use Rattle.block_layout.specs.Moved.{moved, copies}
use Rattle.block_layout.specs.code.Runs.{Repeated, run_cells, runs_cells, AreNear, IsRun, GoesOn}
use Rattle.block_layout.proofs.Within.{copies_step, one_copy}
use Rattle.block_layout.proofs.Near.{near_append, near_copy}
use Rattle.block_layout.proofs.RunLists.{runs_push}

-- Copies after copies.
pub copies_joined : (s c d t : ℕ) (cells : List (ℕ × Kind)) → moved s (copies c t cells) ++ moved (s + c * t) (copies d t cells) ≡ moved s (copies (c + d) t cells)
copies_joined s c zero t cells =
    let e : c + 0 ≡ c = omega arith in
    append-nil (moved s (copies c t cells)) ∙ sym (ap (λ n. moved s (copies n t cells)) e)
copies_joined s c (suc d) t cells =
    let one : d + 1 ≡ suc d = omega arith in
    let all : c + d + 1 ≡ c + suc d = omega arith in
    let place : s + c * t + d * t ≡ s + (c + d) * t = grind arith in
    ap (λ n. moved s (copies c t cells) ++ moved (s + c * t) (copies n t cells)) (sym one)
    ∙ ap (λ ys. moved s (copies c t cells) ++ ys) (copies_step (s + c * t) d t cells)
    ∙ sym (append_assoc (moved s (copies c t cells)) (moved (s + c * t) (copies d t cells)) (moved (s + c * t + d * t) cells))
    ∙ ap (λ ys. ys ++ moved (s + c * t + d * t) cells) (copies_joined s c d t cells)
    ∙ ap (λ n. moved s (copies (c + d) t cells) ++ moved n cells) place
    ∙ sym (copies_step s (c + d) t cells)
    ∙ ap (λ n. moved s (copies n t cells)) all

-- The stride of a single copy does not matter.
by_stride : (start count stride other : ℕ) (cells : List (ℕ × Kind)) → (count ≡ 1) ⊎ (stride ≡ other) → moved start (copies count stride cells) ≡ moved start (copies count other cells)
by_stride start count stride other cells (inl one) = one_copy start count stride cells one ∙ sym (one_copy start count other cells one)
by_stride start count stride other cells (inr e) = ap (λ n. moved start (copies count n cells)) e

-- Both as one run.
abbrev pub with_next : ℕ → Repeated → Repeated → Repeated
with_next stride r s = record { start = r.start; stride = stride; count = r.count + s.count; cells = r.cells }

pub joined_cells : (stride : ℕ) (r s : Repeated) → GoesOn stride r s → r.cells ≡ s.cells → run_cells (with_next stride r s) ≡ run_cells r ++ run_cells s
joined_cells stride r s h e =
    sym (ap (λ xs. xs ++ run_cells s) (by_stride r.start r.count r.stride stride r.cells h.own)
    ∙ ap (λ ys. moved r.start (copies r.count stride r.cells) ++ ys) (by_stride s.start s.count s.stride stride s.cells h.other)
    ∙ ap (λ n. moved r.start (copies r.count stride r.cells) ++ moved n (copies s.count stride s.cells)) h.behind
    ∙ ap (λ xs. moved r.start (copies r.count stride r.cells) ++ moved (r.start + r.count * stride) (copies s.count stride xs)) (sym e)
    ∙ copies_joined r.start r.count s.count stride r.cells)

-- Cells that are near further on are near.
near_before : (d e : ℕ) (xs : List (ℕ × Kind)) → d ≤ e → AreNear (moved e xs) → AreNear (moved d xs)
near_before d e [] l h = tt
near_before d e (c ∷ xs) l h = (omega (arith, h.0), near_before d e xs l h.1)

-- Copies before a near one are near.
near_copies : (n d stride e : ℕ) (xs : List (ℕ × Kind)) → d + n * stride ≤ e → AreNear (moved e xs) → AreNear (moved d (copies n stride xs))
near_copies zero d stride e xs l h = tt
near_copies (suc n) d stride e xs l h =
    let less : d + n * stride ≤ e = omega (arith, l) in
    let one : n + 1 ≡ suc n = omega arith in
    subst (λ m. AreNear (moved d (copies m stride xs))) one
    (subst AreNear (sym (copies_step d n stride xs))
    (near_append (moved d (copies n stride xs)) (moved (d + n * stride) xs) (near_copies n d stride e xs less h) (near_before (d + n * stride) e xs less h)))

-- A run that is not at the beginning is near.
is_near : (s : Repeated) → IsRun s → 0 < s.start → AreNear (run_cells s)
is_near s h l = elim h.near [ inl p ↦ absurd (omega (arith, p.0, l)) | inr p ↦ p ]

positive_product : (count stride : ℕ) → 0 < count → 0 < stride → 0 < count * stride
positive_product zero stride h l = absurd (omega (arith, h))
positive_product (suc count) stride h l = let e : suc count * stride ≡ count * stride + stride = omega arith in omega (arith, e, l)

pub joined_is_run : (stride : ℕ) (r s : Repeated) → IsRun r → IsRun s → GoesOn stride r s → r.cells ≡ s.cells → IsRun (with_next stride r s)
joined_is_run stride r s h k g e =
    let more : 0 < r.count * stride = positive_product r.count stride h.some g.positive in
    let later : 0 < s.start = omega (arith, g.behind, more) in
    let next : AreNear (run_cells s) = is_near s k later in
    let none : s.start + 0 * s.stride ≡ s.start = omega arith in
    let first : AreNear (moved s.start r.cells) =
    subst (λ xs. AreNear (moved s.start xs)) (sym e) (subst (λ n. AreNear (moved n s.cells)) none (near_copy s.count 0 s.start s.stride s.cells k.some next))
    in
    let before : AreNear (moved r.start (copies r.count stride r.cells)) = near_copies r.count r.start stride s.start r.cells (omega (arith, g.behind)) first in
    let own : AreNear (run_cells r) = subst AreNear (sym (by_stride r.start r.count r.stride stride r.cells g.own)) before in
    record {
      some = omega (arith, h.some);
      cell = h.cell;
      near = inr (subst AreNear (sym (joined_cells stride r s g e)) (near_append (run_cells r) (run_cells s) own next));
    }

-- A list of runs whose last one takes in the next.
pub joined_behind : (rs ts all : List Repeated) (last run whole : Repeated) → all ≡ rs ++ last ∷ [] → ts ≡ rs ++ whole ∷ [] → run_cells whole ≡ run_cells last ++ run_cells run
    → runs_cells ts ≡ runs_cells all ++ run_cells run
joined_behind rs ts all last run whole before after e =
    ap runs_cells after ∙ runs_push rs whole ∙ ap (λ xs. runs_cells rs ++ xs) e ∙ sym (append_assoc (runs_cells rs) (run_cells last) (run_cells run))
    ∙ ap (λ xs. xs ++ run_cells run) (sym (runs_push rs last)) ∙ ap (λ (xs : List Repeated). runs_cells xs ++ run_cells run) (sym before)
