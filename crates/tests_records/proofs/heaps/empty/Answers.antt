use Rattle.std.proofs.Common.{[], ◌∷◌, List, refl, sym, subst, ◌∙◌, arith}
use Rattle.block_layout.specs.declared.kind.Kind.TheVariants as kind
use Rattle.block_layout.specs.declared.kind.Shape.{Shape}
use Rattle.upc_values.specs.Openings.{Opening, IsOpening}
use Rattle.tests_records.proofs.heaps.empty.Goals as goal

abbrev opening : List Shape → Opening
opening shapes = record { threads = 2; declared = []; initials = []; shapes = shapes }

valid : IsOpening (opening (record { size = 1; cells = (0, kind.Char) ∷ [] } ∷ []))
valid =
    record {
      least = omega arith;
      most = omega arith;
      shapes = ((omega arith, (omega arith, omega arith, tt)), tt);
      sharable = ((refl, tt), tt);
      declared = λ i d h. absurd (omega arith);
      bytes = omega arith;
      once = tt;
      fit = tt;
      known = tt;
    }

pub make-requires : goal.make-requires
make-requires c = subst (λ z. IsOpening (opening z)) (sym (c.as_slice.ensures.value ∙ c.in_ok-shapes.ensures)) valid
