use Rattle.std.proofs.Common.{◌≡◌, ℕ, ◌+◌, nat_eq, Bool, true, false, ◌&&◌, List, [], ◌∷◌, length, drop, map, refl, sym, ap, ◌∙◌, arith}
use Rattle.std.proofs.lemmas.Bool.{eqb-true, eq-eqb}
use Rattle.std.proofs.lemmas.List.{length-drop}
use Rattle.upc_tree.specs.declared.expression.Pointer.{Pointer}
use Rattle.upc_tree.specs.layer.Lists.{pointers_of}
use Rattle.upc_tree.specs.layer.View.{view_pointer}
use Rattle.upc_checker_types.specs.Shapes.{is_none}
use Rattle.upc_checker_expressions.proofs.types.is_last.Goals as goal

unequal : (a b : ℕ) (r : Bool) → nat_eq a b ≡ r → (a ≡ b → ⊥) → r ≡ false
unequal a b false e h = refl
unequal a b true e h = absurd (h (eqb-true a b e))

none_left : (a b : ℕ) (l : List Pointer) → a + length l ≡ b → nat_eq a b ≡ is_none (pointers_of (map view_pointer l))
none_left a b [] h = eq-eqb a b (omega arith)
none_left a b (x ∷ xs) h = unequal a b (nat_eq a b) refl (λ e. omega arith)

pub returns-then-star : goal.returns-then-star
returns-then-star c =
    let ps = c.args.pointers.now in
    let rest = drop (c.args.i + 1) ps in
    let apart : (c.args.i + 1) + length rest ≡ length ps = omega (arith, length-drop (c.args.i + 1) ps, c.requires) in
    none_left (c.args.i + 1) (length ps) rest apart ∙ ap (λ star. star && is_none (pointers_of (map view_pointer rest))) (sym c.if-star.true)
