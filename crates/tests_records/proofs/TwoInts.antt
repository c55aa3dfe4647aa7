-- Openings with two threads and two ints.
use Rattle.std.proofs.Common.{ℕ, ◌<◌, pos, List, [], ◌∷◌, get_or, refl, arith}
use Rattle.block_layout.specs.declared.place.Loc.{Loc}
use Rattle.block_layout.specs.declared.place.ObjectRef.{ObjectRef}
use Rattle.block_layout.specs.declared.kind.Kind.TheVariants as kind
use Rattle.block_layout.specs.declared.kind.Shape.{Shape}
use Rattle.upc_values.specs.declared.scalar.Scalar.{Scalar}
use Rattle.upc_values.specs.declared.scalar.Scalar.TheVariants.{Int}
use Rattle.upc_values.specs.Openings.{Opening, IsOpening, IsDeclared}

abbrev pub int : Shape
int = record { size = 4; cells = (0, kind.Int) ∷ [] }

abbrev pub object : ℕ → ℕ → ObjectRef
object n base = record { number = n; total = 4; block = 4; home = 0; shape = 0; base = base }

abbrev pub opening : List (Loc × Scalar) → List Shape → Opening
opening initials shapes =
    record {
      threads = 2;
      declared = object 1 0 ∷ object 2 4 ∷ [];
      initials = initials;
      shapes = shapes;
    }

-- the second begins with 5
abbrev pub five : List (Loc × Scalar)
five = (record { object = 2; thread = 0; offset = 0 }, Int (pos 5)) ∷ []

both-declared : (initials : List (Loc × Scalar)) (i : ℕ) (d : ObjectRef) → i < 2 → IsDeclared (opening initials (int ∷ [])) i (get_or (object 1 0 ∷ object 2 4 ∷ []) i d)
both-declared initials ℕ.zero d h =
    record {
      number = refl;
      shape = int;
      listed = refl;
      least = omega arith;
      block = omega arith;
      home = omega arith;
      whole = refl;
      whole_block = refl;
      base = refl;
    }
both-declared initials (ℕ.suc ℕ.zero) d h =
    record {
      number = refl;
      shape = int;
      listed = refl;
      least = omega arith;
      block = omega arith;
      home = omega arith;
      whole = refl;
      whole_block = refl;
      base = refl;
    }
both-declared initials (ℕ.suc (ℕ.suc i)) d h = absurd (omega arith)

pub valid-five : IsOpening (opening five (int ∷ []))
valid-five =
    record {
      least = omega arith;
      most = omega arith;
      shapes = ((omega arith, (omega arith, omega arith, tt)), tt);
      sharable = ((refl, tt), tt);
      declared = both-declared five;
      bytes = omega arith;
      once = (tt, tt);
      fit = (refl, tt);
      known = (refl, tt);
    }

pub valid-zeros : IsOpening (opening [] (int ∷ []))
valid-zeros =
    record {
      least = omega arith;
      most = omega arith;
      shapes = ((omega arith, (omega arith, omega arith, tt)), tt);
      sharable = ((refl, tt), tt);
      declared = both-declared [];
      bytes = omega arith;
      once = tt;
      fit = tt;
      known = tt;
    }
