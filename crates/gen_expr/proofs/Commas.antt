-- Comma expressions that are walked part by part.
use Rattle.std.proofs.Common.{◌≡◌, ◌<◌, ℕ, ◌+◌, Bool, List, [], ◌∷◌, ◌++◌, length, map, drop, get_or, refl, sym}
use Rattle.std.proofs.Common.{ap, ◌∙◌, append_assoc, arith, Result, Ok, Err, OnOk, length-drop}
use Rattle.std.proofs.lemmas.List.{drop_all}
use Rattle.upc_values.proofs.Membership.{left_from}
use Rattle.upc_text.specs.declared.place.Place.{Place}
use Rattle.typed_tree.specs.declared.tree.Expr.{Expr}
use Rattle.typed_tree.specs.Tree.{exprs_of}
use Rattle.typed_tree.specs.ViewTree.{view_expr}
use Rattle.stack_code.specs.declared.instruction.Instr.{Instr}
use Rattle.gen_expr.specs.layer.Sources.{Source}
use Rattle.gen_expr.specs.layer.Codes.{value_code, last_code, effect_code}

module _ (ς : Source) (strict : Bool) (at : Place) where
  -- The code of the last of some expressions, as the code generator has them.
  abbrev of_last : List Expr → List Instr
  of_last xs = last_code ς strict at (exprs_of (map view_expr xs))

  -- An expression before others.
  before : (x : Expr) (xs : List Expr) → 0 < length xs
      → of_last (x ∷ xs) ≡ effect_code ς strict (view_expr x) ++ of_last xs
  before x [] h = absurd (omega arith)
  before x (y ∷ ys) h = refl

  -- One part more is done, which is not the last.
  pub part_done : (xs : List Expr) (i : ℕ) (x : Expr) (new old : List Instr) → i + 1 < length xs → x ≡ get_or xs i x
      → new ≡ old ++ effect_code ς strict (view_expr x)
      → new ++ of_last (drop (i + 1) xs) ≡ old ++ of_last (drop i xs)
  part_done xs i x new old l e h =
      let rest = drop (i + 1) xs in
      let some : 0 < length rest = omega (arith, length-drop (i + 1) xs) in
      ap (λ (ys : List Instr). ys ++ of_last rest) h
      ∙ append_assoc old (effect_code ς strict (view_expr x)) (of_last rest)
      ∙ ap (λ (ys : List Instr). old ++ ys)
      (sym (ap of_last (left_from xs i x (omega arith) e) ∙ before x rest some))

  -- The last part is done.
  pub all_done : {T E : Type 0} (r : Result T E) (xs : List Expr) (i : ℕ) (x : Expr) (new mid old : List Instr)
      → i + 1 ≡ length xs → x ≡ get_or xs i x → mid ++ of_last (drop i xs) ≡ old ++ of_last xs
      → OnOk r (new ≡ mid ++ value_code ς strict (view_expr x)) → OnOk r (new ≡ old ++ of_last xs)
  all_done (Ok v) xs i x new mid old l e before h =
      let none : drop (i + 1) xs ≡ [] = drop_all (i + 1) xs (omega arith) in
      let one : of_last (drop i xs) ≡ value_code ς strict (view_expr x) =
      ap of_last (left_from xs i x (omega arith) e) ∙ ap (λ (ys : List Expr). of_last (x ∷ ys)) none in
      h ∙ ap (λ (ys : List Instr). mid ++ ys) (sym one) ∙ before
  all_done (Err v) xs i x new mid old l e before h = tt
