-- That a program's opening is one is a fact that has one proof at most, so it comes out of what a program keeps.
use Rattle.std.proofs.Common.{◌≡◌, ◌∙◌, ◌%◌, ℕ, List, [], ◌∷◌, Option, Some, sym, slice_get}
use Rattle.std.specs.Coded.{coded_ℕ, coded_option, le_prop}
use Rattle.std.proofs.Math.Logic.{∥∥₁_elim}
use base.Stored.{Coded-set}
use mathlib.Core.Bool.{Bool-set}
use mathlib.Core.HLevel.{⊥_prop, Π_prop, ×_prop, ×₃_prop, Unit-prop, is_prop→PathP}
use Rattle.block_layout.specs.contracts.kind.Shape as shape_row
use Rattle.block_layout.specs.declared.kind.Kind.{Kind}
use Rattle.block_layout.specs.declared.kind.Shape.{Shape}
use Rattle.block_layout.specs.declared.place.ObjectRef.{ObjectRef}
use Rattle.block_layout.specs.declared.place.Loc.{Loc}
use Rattle.block_layout.specs.Shapes.{CellsWithin, IsShape}
use Rattle.upc_values.specs.declared.scalar.Scalar.{Scalar}
use Rattle.upc_values.specs.Lists.{Each, Pairwise}
use Rattle.upc_values.specs.Openings.{Opening, IsOpening, IsDeclared}

each_prop : {X : Type 0} (P : X → Type 0) → ((x : X) → IsProp (P x)) → (xs : List X) → IsProp (Each P xs)
each_prop P h [] = Unit-prop
each_prop P h (x ∷ xs) = ×_prop (h x) (each_prop P h xs)

pairwise_prop : {X : Type 0} (R : X → X → Type 0) → ((x y : X) → IsProp (R x y)) → (xs : List X) → IsProp (Pairwise R xs)
pairwise_prop R h [] = Unit-prop
pairwise_prop R h (x ∷ xs) = ×_prop (each_prop (R x) (h x) xs) (pairwise_prop R h xs)

cells_prop : (cells : List (ℕ × Kind)) (from size : ℕ) → IsProp (CellsWithin cells from size)
cells_prop [] from size = Unit-prop
cells_prop (c ∷ cells) from size = ×₃_prop le_prop le_prop (cells_prop cells _ size)

shape_prop : (s : Shape) → IsProp (IsShape s)
shape_prop s = ×_prop le_prop (cells_prop s.cells 0 s.size)

shapes_set : IsSet (Option Shape)
shapes_set = Coded-set (coded_option shape_row.the_row.coded)

declared_prop : (o : Opening) (i : ℕ) (x : ObjectRef) → IsProp (IsDeclared o i x)
declared_prop o i x a b =
    let is : a.shape ≡ b.shape = (let same : Some a.shape ≡ Some b.shape = sym a.listed ∙ b.listed in cc) in
    λ k. record {
      number = Coded-set coded_ℕ _ _ a.number b.number k;
      shape = is k;
      listed = is_prop→PathP (λ z. slice_get o.shapes x.shape ≡ Some (is z)) (λ z. shapes_set _ _) a.listed b.listed k;
      least = le_prop a.least b.least k;
      block = le_prop a.block b.block k;
      home = le_prop a.home b.home k;
      whole = is_prop→PathP (λ z. x.total % (is z).size ≡ 0) (λ z. Coded-set coded_ℕ _ _) a.whole b.whole k;
      whole_block = is_prop→PathP (λ z. x.block % (is z).size ≡ 0) (λ z. Coded-set coded_ℕ _ _) a.whole_block
          b.whole_block k;
      base = Coded-set coded_ℕ _ _ a.base b.base k;
    }

pub opening_prop : (o : Opening) → IsProp (IsOpening o)
opening_prop o a b =
    λ k. record {
      least = le_prop a.least b.least k;
      most = le_prop a.most b.most k;
      shapes = each_prop _ shape_prop o.shapes a.shapes b.shapes k;
      sharable = each_prop _ (λ s. each_prop _ (λ c. Bool-set _ _) s.cells) o.shapes a.sharable b.sharable k;
      declared = Π_prop (λ i. Π_prop (λ d. Π_prop (λ lt. declared_prop o i _))) a.declared b.declared k;
      bytes = le_prop a.bytes b.bytes k;
      once = pairwise_prop _ (λ x y. Π_prop (λ e. ⊥_prop)) o.initials a.once b.once k;
      fit = each_prop _ (λ x. Bool-set _ _) o.initials a.fit b.fit k;
      known = each_prop _ (λ x. Bool-set _ _) o.initials a.known b.known k;
    }

-- What a program keeps of its opening.
pub kept_opening : (o : Opening) → ∥ IsOpening o ∥₁ → IsOpening o
kept_opening o h = ∥∥₁_elim h (opening_prop o) (λ x. x)

-- What a run begins with, by its parts.
abbrev pub opening_with : ℕ → List ObjectRef → List (Loc × Scalar) → List Shape → Opening
opening_with threads declared initials shapes =
    record { threads = threads; declared = declared; initials = initials; shapes = shapes }

pub opens : (a b : ℕ) (xs ys : List ObjectRef) (us vs : List (Loc × Scalar)) (ss ts : List Shape)
    → a ≡ b → xs ≡ ys → us ≡ vs → ss ≡ ts → opening_with a xs us ss ≡ opening_with b ys vs ts
opens a b xs ys us vs ss ts p q r s = λ i. opening_with (p i) (q i) (r i) (s i)
