-- Lists that are walked part by part, forwards.
use Rattle.std.proofs.Common.{◌≡◌, ℕ, ◌+◌, ◌<◌, List, [], ◌∷◌, ◌++◌, length, map, drop, get_or, refl, sym, ap, ◌∙◌}
use Rattle.std.proofs.Common.{append_assoc, Bool, Option, pos, arith, ◌≤◌, ◌-◌, zero, suc}
use Rattle.std.proofs.lemmas.List.{length-append}
use Rattle.upc_values.proofs.Membership.{left_from}
use Rattle.upc_types.specs.declared.ctype.CType as c
use Rattle.upc_types.specs.Types.{base_of}
use Rattle.upc_types.specs.View.{view}
use Rattle.typed_tree.specs.declared.tree.Object as o
use Rattle.typed_tree.specs.declared.tree.Expr as ex
use Rattle.typed_tree.specs.declared.tree.Item as m
use Rattle.typed_tree.specs.Tree.{DeclaredObject, NoItems, Expr, Exprs, NoExprs, AndExpr, exprs_of}
use Rattle.typed_tree.specs.ViewTree.{view_expr}
use Rattle.typed_tree.specs.ViewStatements.{view_initial, view_object, view_item, view_items}
use Rattle.thread_steps.specs.Values.{number}
use Rattle.source_meaning.specs.Statements.{objects_in, element_type}
use Rattle.source_meaning.proofs.Rows.{part_step, objects_more}
use Rattle.stack_code.specs.declared.instruction.CellAccess.{CellAccess}
use Rattle.stack_code.specs.declared.instruction.Instr.{Instr}
use Rattle.gen_expr.specs.layer.Sources.{Source}
use Rattle.gen_expr.specs.layer.Codes.{pushes, object_code, put_code, advance_code}
use Rattle.gen_stmt.specs.layer.Programs.{parameter_access}
use Rattle.gen_stmt.specs.layer.Codes.{declared_code, initial_code, listed_code, converted_code}

-- How many objects some parts declare.
pub count_step : (xs : List m.Item) (i : ℕ) (x : m.Item) → i < length xs → x ≡ get_or xs i x →
    length (objects_in (view_items (drop i xs)))
    ≡ length (objects_in (view_item x NoItems)) + length (objects_in (view_items (drop (i + 1) xs)))
count_step xs i x l e =
    ap (λ (ys : List m.Item). length (objects_in (view_items ys))) (left_from xs i x l e)
    ∙ ap length (objects_more x (drop (i + 1) xs))
    ∙ length-append (objects_in (view_item x NoItems)) (objects_in (view_items (drop (i + 1) xs)))

-- ---- parameters

pub access_step : (ς : Source) (xs : List c.CType) (i : ℕ) (x : c.CType) (new old : List (Option CellAccess))
    → i < length xs → x ≡ get_or xs i x → new ≡ old ++ (parameter_access ς (view x) ∷ [])
    → new ++ map (parameter_access ς) (map view (drop (i + 1) xs))
    ≡ old ++ map (parameter_access ς) (map view (drop i xs))
access_step ς =
    part_step (λ xs. map (parameter_access ς) (map view xs)) (λ x. parameter_access ς (view x) ∷ []) (λ x xs. refl)

-- ---- initialisers

module _ (ς : Source) (strict : Bool) where
  pub declared_step : (xs : List o.Object) (i : ℕ) (x : o.Object) (new old : List Instr) → i < length xs →
      x ≡ get_or xs i x → new ≡ old ++ initial_code ς strict (view_object x) (view_initial x.initial) →
      new ++ declared_code ς strict (map view_object (drop (i + 1) xs))
      ≡ old ++ declared_code ς strict (map view_object (drop i xs))
  declared_step =
      part_step (λ xs. declared_code ς strict (map view_object xs))
      (λ x. initial_code ς strict (view_object x) (view_initial x.initial)) (λ x xs. refl)

  -- The first element of an array, and those after it.
  listed_more : (x : DeclaredObject) (n : ℕ) (v : Expr) (more : Exprs) → listed_code ς strict x n (AndExpr v more)
      ≡ listed_code ς strict x n (AndExpr v NoExprs) ++ listed_code ς strict x (n + 1) more
  listed_more x n v more =
      let t = element_type (base_of x.ctype) x.ctype in
      let a = object_code ς x.at x.home in
      let b = converted_code ς strict t v in
      let d = put_code ς strict x.at t in
      let rest = listed_code ς strict x (n + 1) more in
      sym (append_assoc a _ rest
      ∙ ap (λ (l : List Instr). a ++ (pushes x.at (number (pos n)) ∷ (advance_code ς x.at t ++ l)))
      (append_assoc b _ rest ∙ ap (λ (l : List Instr). b ++ l) (append_assoc d _ rest)))

  pub listed_step : (x : DeclaredObject) (xs : List ex.Expr) (i : ℕ) (v : ex.Expr) (new old : List Instr) →
      i < length xs → v ≡ get_or xs i v →
      new ≡ old ++ listed_code ς strict x i (AndExpr (view_expr v) NoExprs) →
      new ++ listed_code ς strict x (i + 1) (exprs_of (map view_expr (drop (i + 1) xs)))
      ≡ old ++ listed_code ς strict x i (exprs_of (map view_expr (drop i xs)))
  listed_step x xs i v new old l e h =
      let more = exprs_of (map view_expr (drop (i + 1) xs)) in
      let rest = listed_code ς strict x (i + 1) more in
      ap (λ (ys : List Instr). ys ++ rest) h
      ∙ append_assoc old (listed_code ς strict x i (AndExpr (view_expr v) NoExprs)) rest
      ∙ ap (λ (ys : List Instr). old ++ ys)
      (sym (listed_more x i (view_expr v) more)
      ∙ sym (ap (λ (ys : List ex.Expr). listed_code ς strict x i (exprs_of (map view_expr ys))) (left_from xs i v l e)))

-- ---- objects in scope

-- Some parts declare no more objects than all.
pub fewer : (xs : List m.Item) (i : ℕ) → length (objects_in (view_items (drop i xs)))
    ≤ length (objects_in (view_items xs))
fewer xs zero = omega arith
fewer [] (suc i) = omega arith
fewer (x ∷ xs) (suc i) =
    let h = fewer xs i in
    let e : length (objects_in (view_items (x ∷ xs)))
    ≡ length (objects_in (view_item x NoItems)) + length (objects_in (view_items xs)) =
    ap length (objects_more x xs) ∙ length-append (objects_in (view_item x NoItems)) (objects_in (view_items xs)) in
    omega (arith, h, e)

-- The count of objects in scope goes back over one part.
pub count_back : (xs : List m.Item) (i : ℕ) (x : m.Item) (count base n : ℕ) → 0 < i → i ≤ length xs
    → x ≡ get_or xs (i - 1) x → n ≡ length (objects_in (view_item x NoItems))
    → count + length (objects_in (view_items (drop i xs))) ≡ base + length (objects_in (view_items xs))
    → (n ≤ count)
    × (count - n + length (objects_in (view_items (drop (i - 1) xs))) ≡ base + length (objects_in (view_items xs)))
count_back xs i x count base n some within e en h =
    let same : i - 1 + 1 ≡ i = omega arith in
    let step = count_step xs (i - 1) x (omega arith) e in
    let rest = ap (λ (j : ℕ). length (objects_in (view_items (drop j xs)))) same in
    let few = fewer xs (i - 1) in
    (omega (arith, step, rest, few, h, en), omega (arith, step, rest, few, h, en))
