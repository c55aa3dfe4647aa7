-- What a program keeps says what its opening is.
use Rattle.std.proofs.Common.{◌≡◌, ℕ, ap}
use Rattle.std.specs.Coded.{coded_list, coded×}
use Rattle.std.proofs.Math.Logic.{∥∥₁_elim}
use base.Stored.{Coded-set}
use Rattle.block_layout.specs.contracts.kind.Shape as shape_row
use Rattle.block_layout.specs.contracts.place.Loc as loc_row
use Rattle.block_layout.specs.contracts.place.ObjectRef as object_row
use Rattle.upc_values.specs.contracts.scalar.Scalar as scalar_row
use Rattle.typed_tree.specs.Beginnings.{Beginning, opening_in}

module _ (threads : ℕ) (b begun : Beginning) (begins : ∥ b ≡ begun ∥₁) where
  -- A program begins with what its parts say.
  pub same_opening : opening_in threads b ≡ opening_in threads begun
  same_opening =
      let declared =
      ∥∥₁_elim begins (Coded-set (coded_list object_row.the_row.coded) (opening_in threads b).declared
      (opening_in threads begun).declared) (λ e. ap (λ (x : Beginning). (opening_in threads x).declared) e) in
      let initials =
      ∥∥₁_elim begins (Coded-set (coded_list (coded× loc_row.the_row.coded scalar_row.the_row.coded)) b.initials
      begun.initials) (λ e. ap (λ (x : Beginning). x.initials) e) in
      let shapes =
      ∥∥₁_elim begins (Coded-set (coded_list shape_row.the_row.coded) b.shapes begun.shapes)
      (λ e. ap (λ (x : Beginning). x.shapes) e) in
      λ i. record { threads = threads; declared = declared i; initials = initials i; shapes = shapes i }
