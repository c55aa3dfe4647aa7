-- Cells that lie one after the other, step by step.
use Rattle.std.proofs.Common.{◌≡◌, ℕ, ◌+◌, ◌*◌, ◌<◌, ◌≤◌, Option, Some, None, IfSome, SomeIff, List, [], ◌∷◌, ◌++◌, length, get_or, take, sym, ap, ◌∙◌, subst, arith}
use Rattle.std.proofs.lemmas.List.{take_more}
use Rattle.block_layout.specs.declared.kind.Kind.{Kind}
use Rattle.block_layout.specs.Moved.{copies}
use Rattle.block_layout.specs.code.Runs.{Repeated, run_cells, runs_cells}
use Rattle.block_layout.specs.Shapes.{kind_size, CellsWithin, LieUpTo}
use Rattle.block_layout.proofs.Within.{lower, wider_within, append_within, moved_within, copies_within, one_copy}
use Rattle.block_layout.proofs.RunLists.{runs_take}

lie_both : (xs ys : List (ℕ × Kind)) (from mid end : ℕ) → LieUpTo xs from mid → LieUpTo ys mid end → LieUpTo (xs ++ ys) from end
lie_both xs ys from mid end h k = (omega (arith, h.0, k.0), append_within xs ys from mid end h.0 k.0 h.1 k.1)

-- One cell more.
pub lie_next : (xs : List (ℕ × Kind)) (from mid i : ℕ) (d : ℕ × Kind) → i < length xs → mid ≤ (get_or xs i d).0 → LieUpTo (take i xs) from mid
    → LieUpTo (take (i + 1) xs) from ((get_or xs i d).0 + kind_size (get_or xs i d).1)
lie_next xs from mid i d l after h =
    let c : ℕ × Kind = get_or xs i d in
    let one : LieUpTo (c ∷ []) mid (c.0 + kind_size c.1) = (omega (arith, after), (after, omega arith, tt)) in
    subst (λ ys. LieUpTo ys from (c.0 + kind_size c.1)) (sym (take_more xs i d l)) (lie_both (take i xs) (c ∷ []) from mid (c.0 + kind_size c.1) h one)

-- One run more.
pub lie_next_run : (rs : List Repeated) (from mid end i : ℕ) (r : Repeated) → i < length rs → r ≡ get_or rs i r → LieUpTo (runs_cells (take i rs)) from mid
    → LieUpTo (run_cells r) mid end → LieUpTo (runs_cells (take (i + 1) rs)) from end
lie_next_run rs from mid end i r l is h k =
    subst (λ ys. LieUpTo ys from end) (ap (λ (x : Repeated). runs_cells (take i rs) ++ run_cells x) is ∙ sym (runs_take rs i r l))
    (lie_both (runs_cells (take i rs)) (run_cells r) from mid end h k)

-- A run of one copy.
pub lie_once : (r : Repeated) (from low end : ℕ) → r.count ≡ 1 → from ≤ r.start + low → LieUpTo r.cells low end → LieUpTo (run_cells r) from (r.start + end)
lie_once r from low end one after h = (
  omega (arith, after, h.0),
  subst (λ xs. CellsWithin xs from (r.start + end)) (sym (one_copy r.start r.count r.stride r.cells one)) (moved_within r.cells r.start low end from after h.1),
)

-- Copies inside their stride.
pub lie_copies : (r : Repeated) (from low end : ℕ) → from ≤ r.start → end ≤ r.stride → LieUpTo r.cells low end → LieUpTo (run_cells r) from (r.start + r.count * r.stride)
lie_copies r from low end after less h =
    let pattern : CellsWithin r.cells 0 r.stride = wider_within r.cells 0 end r.stride less (lower r.cells 0 low end (omega arith) h.1) in
    (omega (arith, after), moved_within (copies r.count r.stride r.cells) r.start 0 (r.count * r.stride) from (omega (arith, after)) (copies_within r.count r.stride r.cells pattern))

-- An end that is a checked sum.
pub checked_end : (sum : Option ℕ) (fits : Type 0) (end from : ℕ) (xs : List (ℕ × Kind)) → SomeIff sum fits end → LieUpTo xs from end → IfSome sum (λ last. LieUpTo xs from last)
checked_end None fits end from xs h k = tt
checked_end (Some n) fits end from xs h k = subst (λ m. LieUpTo xs from m) (sym h.1) k
