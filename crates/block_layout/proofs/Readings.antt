-- Cells that are read one after another from runs and a tail.
use Rattle.std.proofs.Common.{◌≡◌, ℕ, zero, suc, ◌+◌, ◌-◌, ◌*◌, ◌<◌, ◌≤◌, inl, inr, List, [], ◌∷◌, ◌++◌, length, refl, sym, ap, ◌∙◌, subst, append_assoc, arith}
use Rattle.std.proofs.lemmas.List.{append-nil}
use Rattle.block_layout.specs.declared.kind.Kind.{Kind}
use Rattle.block_layout.specs.Moved.{moved, copies}
use Rattle.block_layout.specs.code.Runs.{Repeated, run_cells, runs_cells, copies_left, AreNear, IsRun, IsLeft}
use Rattle.block_layout.proofs.Within.{moved_twice, moved_nowhere}
use Rattle.block_layout.proofs.Near.{near_right, near_copy, near_first, moved_append}

-- Copies from the first one on.
pub copies_front : (m start stride : ℕ) (cells : List (ℕ × Kind)) → moved start (copies (suc m) stride cells) ≡ copies_left cells start stride m cells
copies_front zero start stride cells =
    let e : start + 0 * stride ≡ start = omega arith in
    moved_twice start (0 * stride) cells ∙ ap (λ d. moved d cells) e ∙ sym (append-nil (moved start cells))
copies_front (suc m) start stride cells =
    let e : start + suc m * stride ≡ start + stride + m * stride = omega arith in
    moved_append start (copies (suc m) stride cells) (moved (suc m * stride) cells)
    ∙ ap (λ ys. ys ++ moved start (moved (suc m * stride) cells)) (copies_front m start stride cells)
    ∙ append_assoc (moved start cells) (moved (start + stride) (copies m stride cells)) (moved start (moved (suc m * stride) cells))
    ∙ ap (λ ys. moved start cells ++ (moved (start + stride) (copies m stride cells) ++ ys))
    (moved_twice start (suc m * stride) cells ∙ ap (λ d. moved d cells) e ∙ sym (moved_twice (start + stride) (m * stride) cells))
    ∙ ap (λ ys. moved start cells ++ ys) (sym (moved_append (start + stride) (copies m stride cells) (moved (m * stride) cells)))

-- Where a reading is that has these cells to come.
pub record Goes (whole left : List (ℕ × Kind)) (start stride more : ℕ) (pattern : List (ℕ × Kind)) (runs : List Repeated) (tail : List (ℕ × Kind)) : Type 0 where
  pub is_left : IsLeft left start stride more pattern
  pub all : whole ≡ copies_left left start stride more pattern ++ (runs_cells runs ++ tail)
  pub ended : length left ≡ 0 → whole ≡ []

-- The start of the next copy.
pub next_start : (left : List (ℕ × Kind)) (start stride more : ℕ) (pattern : List (ℕ × Kind)) → IsLeft left start stride more pattern → 0 < more → start + stride ≤ 4294967295
next_start left start stride more pattern h l =
    elim h.near [
      | inl p ↦ absurd (omega (arith, p.1))
      | inr p ↦ let first : start + stride + 0 * stride ≤ 4294967295 = near_first (start + stride + 0 * stride) pattern (h.cell l)
          (near_copy more 0 (start + stride) stride pattern l (near_right (moved start left) (moved (start + stride) (copies more stride pattern)) p)) in
          omega (arith, first)
    ]

not_empty : (xs : List (ℕ × Kind)) (P : Type 0) → 0 < length xs → length xs ≡ 0 → P
not_empty xs P h e = absurd (omega arith)

-- The next copy.
next_copy : (left : List (ℕ × Kind)) (start stride m : ℕ) (pattern : List (ℕ × Kind)) → length left ≡ 0 → copies_left left start stride (suc m) pattern ≡ copies_left pattern (start + stride) stride m pattern
next_copy [] start stride m pattern e = copies_front m (start + stride) stride pattern
next_copy (c ∷ left) start stride m pattern e = absurd (omega arith)

pub goes_copy : (whole left : List (ℕ × Kind)) (start stride more : ℕ) (pattern : List (ℕ × Kind)) (runs : List Repeated) (tail : List (ℕ × Kind))
    → IsLeft left start stride more pattern → whole ≡ copies_left left start stride more pattern ++ (runs_cells runs ++ tail) → length left ≡ 0 → 0 < more
    → Goes whole pattern (start + stride) stride (more - 1) pattern runs tail
goes_copy whole left start stride zero pattern runs tail h is none l = absurd (omega arith)
goes_copy whole left start stride (suc m) pattern runs tail h is none l =
    let e : suc m - 1 ≡ m = omega arith in
    let next = next_copy left start stride m pattern none in
    let near : AreNear (copies_left pattern (start + stride) stride m pattern) =
    elim h.near [
      | inl p ↦ absurd (omega (arith, p.1))
      | inr p ↦ subst AreNear next p
    ]
    in
    rw e (record {
      is_left = record { near = inr near; cell = λ k. h.cell l };
      all = is ∙ ap (λ ys. ys ++ (runs_cells runs ++ tail)) next;
      ended = not_empty pattern (whole ≡ []) (h.cell l);
    })

no_left : (left : List (ℕ × Kind)) (start stride more : ℕ) (pattern : List (ℕ × Kind)) → length left ≡ 0 → more ≡ 0 → copies_left left start stride more pattern ≡ []
no_left [] start stride more pattern e k = ap (λ n. moved (start + stride) (copies n stride pattern)) k
no_left (c ∷ left) start stride more pattern e k = absurd (omega arith)

-- The next run.
pub goes_run : (whole left : List (ℕ × Kind)) (start stride more : ℕ) (pattern : List (ℕ × Kind)) (runs : List Repeated) (tail : List (ℕ × Kind)) (r : Repeated) (rest : List Repeated)
    → whole ≡ copies_left left start stride more pattern ++ (runs_cells runs ++ tail) → length left ≡ 0 → more ≡ 0 → runs ≡ r ∷ rest → IsRun r
    → Goes whole r.cells r.start r.stride (r.count - 1) r.cells rest tail
goes_run whole left start stride more pattern runs tail r rest is none few next h =
    let m : ℕ = r.count - 1 in
    let e : r.count ≡ suc m = omega (arith, h.some) in
    let front : run_cells r ≡ copies_left r.cells r.start r.stride m r.cells = ap (λ n. moved r.start (copies n r.stride r.cells)) e ∙ copies_front m r.start r.stride r.cells in
    record {
      is_left = record { near = elim h.near [ inl p ↦ inl (p.0, omega (arith, p.1)) | inr p ↦ inr (subst AreNear front p) ]; cell = λ k. h.cell };
      all = is ∙ ap (λ ys. ys ++ (runs_cells runs ++ tail)) (no_left left start stride more pattern none few)
          ∙ ap (λ (ts : List Repeated). runs_cells ts ++ tail) next
          ∙ append_assoc (run_cells r) (runs_cells rest) tail
          ∙ ap (λ ys. ys ++ (runs_cells rest ++ tail)) front;
      ended = not_empty r.cells (whole ≡ []) h.cell;
    }

-- The tail.
no_runs : (runs : List Repeated) → length runs ≡ 0 → runs_cells runs ≡ []
no_runs [] e = refl
no_runs (r ∷ runs) e = absurd (omega arith)

no_cells : (xs : List (ℕ × Kind)) → length xs ≡ 0 → xs ≡ []
no_cells [] e = refl
no_cells (c ∷ xs) e = absurd (omega arith)

pub goes_tail : (whole left : List (ℕ × Kind)) (start stride more : ℕ) (pattern : List (ℕ × Kind)) (runs : List Repeated) (tail : List (ℕ × Kind))
    → whole ≡ copies_left left start stride more pattern ++ (runs_cells runs ++ tail) → length left ≡ 0 → more ≡ 0 → length runs ≡ 0
    → Goes whole tail 0 stride more pattern runs []
goes_tail whole left start stride more pattern runs tail is empty few last =
    let all : whole ≡ tail = is ∙ ap (λ ys. ys ++ (runs_cells runs ++ tail)) (no_left left start stride more pattern empty few) ∙ ap (λ ys. ys ++ tail) (no_runs runs last) in
    let end : moved (0 + stride) (copies more stride pattern) ++ (runs_cells runs ++ []) ≡ [] =
    ap (λ n. moved (0 + stride) (copies n stride pattern) ++ (runs_cells runs ++ [])) few ∙ ap (λ ys. ys ++ []) (no_runs runs last) in
    record {
      is_left = record { near = inl (refl, few); cell = λ k. absurd (omega (arith, k, few)) };
      all = all ∙ sym (append_assoc (moved 0 tail) (moved (0 + stride) (copies more stride pattern)) (runs_cells runs ++ [])
          ∙ ap (λ ys. moved 0 tail ++ ys) end ∙ append-nil (moved 0 tail) ∙ moved_nowhere tail);
      ended = λ e. all ∙ no_cells tail e;
    }

-- Where the copy has a cell left.
pub goes_on : (whole left : List (ℕ × Kind)) (start stride more : ℕ) (pattern : List (ℕ × Kind)) (runs : List Repeated) (tail : List (ℕ × Kind))
    → IsLeft left start stride more pattern → whole ≡ copies_left left start stride more pattern ++ (runs_cells runs ++ tail) → 0 < length left
    → Goes whole left start stride more pattern runs tail
goes_on whole left start stride more pattern runs tail h is l = record { is_left = h; all = is; ended = not_empty left (whole ≡ []) l }

-- The first cell that is left.
pub first_fits : (left rest : List (ℕ × Kind)) (start stride more : ℕ) (pattern : List (ℕ × Kind)) (c : ℕ × Kind) → IsLeft left start stride more pattern → left ≡ c ∷ rest → c.0 ≤ 4294967295 → start + c.0 ≤ 4294967295
first_fits left rest start stride more pattern c h is l =
    elim h.near [
      | inl p ↦ omega (arith, p.0)
      | inr p ↦ (subst (λ xs. AreNear (copies_left xs start stride more pattern)) is p).0
    ]

pub rest_is_left : (left rest : List (ℕ × Kind)) (start stride more : ℕ) (pattern : List (ℕ × Kind)) (c : ℕ × Kind) → IsLeft left start stride more pattern → left ≡ c ∷ rest → IsLeft rest start stride more pattern
rest_is_left left rest start stride more pattern c h is = record {
  near = elim h.near [ inl p ↦ inl p | inr p ↦ inr (subst (λ xs. AreNear (copies_left xs start stride more pattern)) is p).1 ];
  cell = h.cell;
}

pub first_read : (whole left rest : List (ℕ × Kind)) (start stride more : ℕ) (pattern : List (ℕ × Kind)) (runs : List Repeated) (tail : List (ℕ × Kind)) (c : ℕ × Kind)
    → Goes whole left start stride more pattern runs tail → left ≡ c ∷ rest
    → whole ≡ (start + c.0, c.1) ∷ (copies_left rest start stride more pattern ++ (runs_cells runs ++ tail))
first_read whole left rest start stride more pattern runs tail c h is =
    h.all ∙ ap (λ xs. copies_left xs start stride more pattern ++ (runs_cells runs ++ tail)) is
