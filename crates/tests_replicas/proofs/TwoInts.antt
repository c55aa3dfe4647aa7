-- Openings with an array of two ints.
use Rattle.std.proofs.Common.{ℕ, ◌<◌, ◌≤◌, List, [], ◌∷◌, get_or, refl, arith}
use Rattle.block_layout.specs.declared.place.ObjectRef.{ObjectRef}
use Rattle.block_layout.specs.declared.kind.Kind.TheVariants as kind
use Rattle.block_layout.specs.declared.kind.Shape.{Shape}
use Rattle.upc_values.specs.Openings.{Opening, IsOpening, IsDeclared}

abbrev pub int : Shape
int = record { size = 4; cells = (0, kind.Int) ∷ [] }

abbrev pub array : ObjectRef
array = record { number = 1; total = 8; block = 8; home = 0; shape = 0; base = 0 }

abbrev pub opening : ℕ → List Shape → Opening
opening n shapes = record { threads = n; declared = array ∷ []; initials = []; shapes = shapes }

declared : (n i : ℕ) (d : ObjectRef) → 0 < n → i < 1 → IsDeclared (opening n (int ∷ [])) i (get_or (array ∷ []) i d)
declared n ℕ.zero d some h =
    record {
      number = refl;
      shape = int;
      listed = refl;
      least = omega arith;
      block = omega arith;
      home = some;
      whole = refl;
      whole_block = refl;
      base = refl;
    }
declared n (ℕ.suc i) d some h = absurd (omega arith)

pub valid : (n : ℕ) → 0 < n → n ≤ 32 → IsOpening (opening n (int ∷ []))
valid n some few =
    record {
      least = some;
      most = few;
      shapes = ((omega arith, (omega arith, omega arith, tt)), tt);
      sharable = ((refl, tt), tt);
      declared = λ i d h. declared n i d some h;
      bytes = omega arith;
      once = tt;
      fit = tt;
      known = tt;
    }
