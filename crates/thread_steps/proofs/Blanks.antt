-- What a cell keeps of a value is of the cell's kind.
use Rattle.std.proofs.Common.{◌≡◌, Bool, true, false, if◌then◌else◌, refl, [], ◌∷◌, arith}
use Rattle.block_layout.specs.declared.kind.Kind.{Kind}
use Rattle.block_layout.specs.Shapes.{kind_size}
use Rattle.upc_values.specs.declared.scalar.Value.{Value}
use Rattle.upc_values.specs.Shapes.{value_fits, blank_value}
use Rattle.private_store.proofs.Places.{some_bytes}
use Rattle.private_store.proofs.Objects.{blank_filled}
use Rattle.thread_steps.specs.Values.{kept}

-- The blank value of a kind is what the one cell of a blank object of this kind holds.
pub blank_fits : (k : Kind) → value_fits (blank_value k) k ≡ true
blank_fits k =
    let some = some_bytes k in
    (blank_filled (record { size = kind_size k; cells = (0, k) ∷ [] })
    (omega arith, (omega arith, omega arith, tt))).fit.0

kept_by : (b : Bool) (k : Kind) (v : Value) → value_fits v k ≡ b
    → value_fits (if b then v else blank_value k) k ≡ true
kept_by true k v e = e
kept_by false k v e = blank_fits k

pub kept_fits : (k : Kind) (v : Value) → value_fits (kept k v) k ≡ true
kept_fits k v = kept_by (value_fits v k) k v refl
