-- The bytes before a member of a struct that is not complete.
use Rattle.std.proofs.Common.{◌≡◌, ℕ, List, [], ◌∷◌, Some, Bool, true, false, refl, ap}
use Rattle.std.specs.Prelude.{is_some, if◌then◌else◌, ◌==◌}
use Rattle.upc_types.specs.declared.layout.Known.{Known}
use Rattle.upc_types.specs.Types.{Member, Completed, Structs, members_in}
use Rattle.upc_types.specs.Layout.{layout_in, member_layouts, offset_behind, known_in, complete_in, member_offset}

-- A struct that is not complete has no members.
none_of : (completed : List Completed) (number : ℕ) → complete_in completed number ≡ false
    → members_in completed number ≡ []
none_of [] number h = refl
none_of (c ∷ older) number h = by_test (c.number == number) _ h (none_of older number)
  where
    by_test : (b : Bool) (k : Known) → is_some (if b then Some k else known_in older number) ≡ false
        → (is_some (known_in older number) ≡ false → members_in older number ≡ [])
        → (if b then c.members else members_in older number) ≡ []
    by_test true k h older_none = cc
    by_test false k h older_none = older_none h

pub offset_incomplete : (structs : Structs) (number n : ℕ) → complete_in structs.completed number ≡ false
    → member_offset structs number n ≡ 0
offset_incomplete structs number n h =
    ap (λ (ms : List Member). offset_behind 0 (member_layouts (layout_in structs.completed) ms) n)
    (none_of structs.completed number h)
