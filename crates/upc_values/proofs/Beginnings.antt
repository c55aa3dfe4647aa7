-- What a cell begins with does not change as a history goes on.
use Rattle.std.proofs.Common.{◌≡◌, ◌==◌, Bool, cond, List, [], ◌∷◌, ◌++◌, Option, Some, None, refl, sym, ap, ◌∙◌, append_assoc, append-nil}
use Rattle.std.specs.List.{find, filter_map}
use Rattle.std.specs.Option.{option_or}
use Rattle.std.proofs.lemmas.List.Elements.{filter_map-append}
use Rattle.std.proofs.lemmas.List.Folds.{find-append}
use Rattle.std.proofs.lemmas.Bool.{cond_both, cond-true, cond-false}
use Rattle.block_layout.specs.declared.place.Loc.{Loc}
use Rattle.block_layout.specs.declared.place.ObjectRef.{ObjectRef}
use Rattle.block_layout.specs.declared.kind.Kind.{Kind}
use Rattle.upc_values.specs.declared.scalar.Scalar.{Scalar}
use Rattle.upc_values.specs.declared.journal.Entry.{Entry}
use Rattle.upc_values.specs.Drain.{or_else}
use Rattle.upc_values.specs.Shapes.{cell_in}
use Rattle.upc_values.specs.Openings.{Opening, cell_of, blank_in, given, initial_of}
use Rattle.upc_values.specs.History.{picked_from, picked, makes, led, object_of, objects}

pub picked-append : (test : List Entry → Entry → Bool) (before xs ys : List Entry) → picked_from test before (xs ++ ys) ≡ picked_from test before xs ++ picked_from test (before ++ xs) ys
picked-append test before [] ys = ap (λ z. picked_from test z ys) (sym (append-nil before))
picked-append test before (e ∷ xs) ys =
    let next = picked-append test (before ++ e ∷ []) xs ys ∙ ap (λ z. picked_from test (before ++ e ∷ []) xs ++ picked_from test z ys) (append_assoc before (e ∷ []) xs) in
    cond_both (test before e) (e ∷ picked_from test (before ++ e ∷ []) (xs ++ ys)) (picked_from test (before ++ e ∷ []) (xs ++ ys))
    (λ z. z ≡ cond (test before e) (e ∷ picked_from test (before ++ e ∷ []) xs) (picked_from test (before ++ e ∷ []) xs) ++ picked_from test (before ++ e ∷ xs) ys)
    (λ t. ap (λ z. e ∷ z) next ∙ ap (λ z. z ++ picked_from test (before ++ e ∷ xs) ys) (sym (cond-true (test before e) (e ∷ picked_from test (before ++ e ∷ []) xs) (picked_from test (before ++ e ∷ []) xs) t)))
    (λ t. next ∙ ap (λ z. z ++ picked_from test (before ++ e ∷ xs) ys) (sym (cond-false (test before e) (e ∷ picked_from test (before ++ e ∷ []) xs) (picked_from test (before ++ e ∷ []) xs) t)))

-- the objects are there to stay
pub objects-append : (o : Opening) (before rest : List Entry) → (more : List ObjectRef) × (objects o (before ++ rest) ≡ objects o before ++ more)
objects-append o before rest =
    let test : List Entry → Entry → Bool = λ b e. makes e.action (led b e) in
    let more = filter_map object_of (picked_from test before rest) in (
      more,
      ap (λ z. o.declared ++ filter_map object_of z) (picked-append test [] before rest)
          ∙ ap (λ z. o.declared ++ z) (filter_map-append object_of (picked test before) (picked_from test before rest))
          ∙ sym (append_assoc o.declared (filter_map object_of (picked test before)) more),
    )

pub cell-stays : (o : Opening) (xs ys : List ObjectRef) (l : Loc) (k : Kind) → cell_of o xs l ≡ Some k → cell_of o (xs ++ ys) l ≡ Some k
cell-stays o xs ys l k h =
    let test : ObjectRef → Bool = λ x. x.number == l.object in
    let P : Option ObjectRef → Type 0 = λ z. find test xs ≡ z → cell_in o.threads o.shapes z l ≡ Some k → cell_of o (xs ++ ys) l ≡ Some k in
    let go : (z : Option ObjectRef) → P z =
    λ z. elim z as P [
      | Some x ↦ λ q r. ap (λ w. cell_in o.threads o.shapes w l) (find-append test xs ys ∙ ap (λ w. option_or w (find test ys)) q) ∙ r
      | None ↦ λ q r. cc
    ] in
    go (find test xs) refl h

blank-stays : (o : Opening) (xs ys : List ObjectRef) (l : Loc) (v : Scalar) (k : Option Kind) → cell_of o xs l ≡ k → blank_in k ≡ Some v → blank_in (cell_of o (xs ++ ys) l) ≡ Some v
blank-stays o xs ys l v (Some k) q h = ap blank_in (cell-stays o xs ys l k q) ∙ h
blank-stays o xs ys l v None q h = cc

or-stays : (g a b : Option Scalar) (v : Scalar) → (a ≡ Some v → b ≡ Some v) → or_else g a ≡ Some v → or_else g b ≡ Some v
or-stays (Some u) a b v f h = h
or-stays None a b v f h = f h

pub initial-stays : (o : Opening) (before rest : List Entry) (l : Loc) (v : Scalar) → initial_of o (objects o before) l ≡ Some v → initial_of o (objects o (before ++ rest)) l ≡ Some v
initial-stays o before rest l v h =
    let g = objects-append o before rest in
    ap (λ z. initial_of o z l) g.1
    ∙ or-stays (given l o.initials) (blank_in (cell_of o (objects o before) l)) (blank_in (cell_of o (objects o before ++ g.0) l)) v
    (blank-stays o (objects o before) g.0 l v (cell_of o (objects o before) l) refl) h
