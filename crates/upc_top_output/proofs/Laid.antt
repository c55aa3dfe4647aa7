-- What a program keeps of its shared objects.
use Rattle.std.proofs.Common.{◌≡◌, ◌≤◌, ◌<◌, ℕ, length, map, ap, subst, arith, get_or}
use Rattle.std.specs.Coded.{coded_list, coded_ℕ}
use base.Stored.{Coded-set}
use Rattle.std.proofs.Math.Logic.{∥∥₁_elim}
use Rattle.std.proofs.Math.Bridge.{le_prop}
use Rattle.std.proofs.lemmas.List.{get_or-map, length-map}
use Rattle.std.proofs.lemmas.List.Sums.{get_or-le-sum_by}
use Rattle.std.specs.List.{flat_map}
use Rattle.block_layout.specs.declared.place.ObjectRef.{ObjectRef}
use Rattle.upc_values.specs.Lists.{Numbered}
use Rattle.upc_values.specs.Openings.{IsOpening, bytes_of}
use Rattle.typed_tree.specs.declared.beginning.SharedDecl.{SharedDecl}
use Rattle.typed_tree.specs.Beginnings.{Beginning, opening_in}
use Rattle.typed_tree.specs.Programs.{Checked, start_of}
use Rattle.upc_top_output.specs.Layout.{IsSmall, layout, layout_line}

abbrev object_of : SharedDecl → ObjectRef
object_of x = x.object

module _ (threads : ℕ) (b : Beginning) where
  small_object : IsOpening (opening_in threads b) → (i : ℕ) (d : SharedDecl) → i < length b.shared_objects
      → ((get_or b.shared_objects i d).object.total ≤ 16777216) × ((get_or b.shared_objects i d).object.block ≤ 16777216)
  small_object h i d lt =
      let among : i < length (map object_of b.shared_objects) = omega (arith, length-map b.shared_objects object_of) in
      let is : get_or (map object_of b.shared_objects) i (object_of d) ≡ (get_or b.shared_objects i d).object = get_or-map object_of b.shared_objects i d (object_of d) lt in
      let total : (get_or (map object_of b.shared_objects) i (object_of d)).total ≤ bytes_of (map object_of b.shared_objects) =
      get_or-le-sum_by (λ o. o.total) (map object_of b.shared_objects) i (object_of d) among in
      let bytes = h.bytes in
      let small : (get_or (map object_of b.shared_objects) i (object_of d)).total ≤ 16777216 = omega arith in
      let block = (h.declared i (object_of d) among).block in
      (subst (λ o. o.total ≤ 16777216) is small, subst (λ o. o.block ≤ 16777216) is block)

  -- an opening's objects are small
  pub small_objects : ∥ IsOpening (opening_in threads b) ∥₁ → Numbered (λ _ x. IsSmall x.object) b.shared_objects
  small_objects h = λ i d lt. record {
    total = ∥∥₁_elim h le_prop (λ o. (small_object o i d lt).0);
    block = ∥∥₁_elim h le_prop (λ o. (small_object o i d lt).1);
  }

-- the lines of what a program begins with are its layout
pub layout_begins : (c : Checked) (b : Beginning) → ∥ b ≡ start_of c ∥₁ → flat_map (layout_line c.threads) b.shared_objects ≡ layout c
layout_begins c b h =
    ∥∥₁_elim h (Coded-set (coded_list coded_ℕ) _ _) (λ e. ap (λ (x : Beginning). flat_map (layout_line c.threads) x.shared_objects) e)
