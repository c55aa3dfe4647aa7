-- Shared objects by their numbers.
use Rattle.std.proofs.Common.{◌≡◌, ℕ, zero, suc, ◌-◌, ◌<◌, List, Some, sym, ap, ◌∙◌, arith, length}
use Rattle.std.proofs.Common.{slice_index_or}
use Rattle.std.specs.List.{slice_get}
use Rattle.std.specs.Option.{option_map}
use Rattle.std.proofs.lemmas.Option.{slice_get-map, slice_get-get_or}
use Rattle.typed_tree.specs.declared.beginning.SharedDecl.{SharedDecl}
use Rattle.typed_tree.specs.layer.Parts.{object_of}
use Rattle.typed_tree.specs.Initials.{numbered}

-- The object with a number, by its place in the list.
pub numbered_at : (xs : List SharedDecl) (n : ℕ) (x : SharedDecl) → 0 < n → n - 1 < length xs → x
    ≡ slice_index_or xs (n - 1) x → numbered xs n ≡ Some x.object
numbered_at xs zero x some h e = absurd (omega (arith, some))
numbered_at xs (suc n) x some h e =
    let k : suc n - 1 ≡ n = omega arith in
    let found : slice_get xs (suc n - 1) ≡ Some x = slice_get-get_or xs (suc n - 1) x h ∙ ap Some (sym e) in
    slice_get-map object_of xs n ∙ ap (option_map object_of) (ap (slice_get xs) (sym k) ∙ found)
