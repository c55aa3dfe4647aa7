-- A thread's list after each step.
use Rattle.std.proofs.Common.{◌≡◌, ℕ, ◌+◌, ◌<◌, false, cond, List, [], ◌∷◌, ◌++◌, length, map, get_or, Option, Some, None, refl, sym, ap, ◌∙◌, subst, arith}
use Rattle.std.proofs.lemmas.List.{map-append}
use Rattle.std.proofs.lemmas.Option.{slice_get_within, get_or_from_slice_get}
use Rattle.std.specs.List.Sorted.{IsSortedBy, IsStableBy}
use Rattle.block_layout.specs.declared.place.Loc.{Loc}
use Rattle.upc_values.specs.Scalars.{same_loc}
use Rattle.upc_values.proofs.Joining.{past-none}
use Rattle.replica_space.specs.declared.message.Stamp.{Stamp}
use Rattle.replica_space.specs.declared.message.Message.{Message}
use Rattle.replica_space.specs.Spaces.{is_later}
use Rattle.replica_space_marks.specs.layer.Marks.{MarksState, IsFound, with_mark}
use Rattle.replica_space_rows.specs.declared.member.Member.{Member}
use Rattle.replica_space_rows.specs.declared.slotted.Slotted.{Slotted}
use Rattle.replica_space_rows.specs.layer.Rows.{with_member}
use Rattle.replica_space_rows.specs.code.Places.{put_by, is_before, placed_all, members_of, ArePlaced}
use Rattle.replica_space_rows.proofs.Sorting.{put-more, is-sorted}
use Rattle.replica_space_rows.proofs.Keeping.{before-order, slotted_write, found-members, found-placed}
use Rattle.replica_space_rows.proofs.Opening.{put-end, other-placed, end-members, end-placed}

-- one more member has come
placed-push : (old new : List Slotted) (x : Slotted) → new ≡ old ++ x ∷ [] → placed_all new ≡ put_by is_before x (placed_all old)
placed-push old new x e = ap placed_all e ∙ put-more is_before before-order old [] x

module _ (old new : List Slotted) (n : ℕ) (marks : Loc → MarksState) (a : ArePlaced (placed_all old) n marks) where
  -- ---- an operation that writes no location

  pub added-placed : (y : Member) → y.written ≡ None → new ≡ old ++ record { member = y; slot = n } ∷ [] → ArePlaced (placed_all new) (n + 1) marks
  added-placed y none e =
      subst (λ l. ArePlaced l (n + 1) marks) (sym (placed-push old new (record { member = y; slot = n }) e))
      (other-placed (placed_all old) n marks a y none)

  pub added-members : (y : Member) → new ≡ old ++ record { member = y; slot = n } ∷ [] → members_of new ≡ members_of old ++ y ∷ []
  added-members y e =
      ap (map (λ (x : Slotted). x.member)) (placed-push old new (record { member = y; slot = n }) e ∙ put-end (placed_all old) n marks a y)
      ∙ map-append (λ (x : Slotted). x.member) (placed_all old) (record { member = y; slot = n } ∷ [])

  module _ (m : Message) (found : Option ℕ) (is : IsFound (marks m.loc) m.stamp found) where
    -- ---- a write in a slot that is found

    module _ (k : ℕ) (some : found ≡ Some k) (e : new ≡ old ++ slotted_write m k ∷ []) where
      within : is.0 < length (marks m.loc).slots
      within = slice_get_within (marks m.loc).slots is.0 k (sym is.2 ∙ some)

      at : get_or (marks m.loc).slots is.0 0 ≡ k
      at = get_or_from_slice_get (marks m.loc).slots is.0 k 0 (sym is.2 ∙ some)

      pub found-row : ArePlaced (placed_all new) n marks
      found-row =
          subst (λ l. ArePlaced l n marks) (sym (placed-push old new (slotted_write m k) e))
          (subst (λ s. ArePlaced (put_by is_before (slotted_write m s) (placed_all old)) n marks) at
          (found-placed (placed_all old) n marks a m is.0 is.1 within))

      pub found-list : members_of new ≡ with_member m (members_of old)
      found-list =
          ap (map (λ (x : Slotted). x.member)) (placed-push old new (slotted_write m k) e)
          ∙ ap (λ s. map (λ (x : Slotted). x.member) (put_by is_before (slotted_write m s) (placed_all old))) (sym at)
          ∙ found-members (placed_all old) n marks a m is.0 is.1 within

    -- ---- a write in a slot of its own

    module _ (none : found ≡ None) (e : new ≡ old ++ slotted_write m n ∷ []) (next : Loc → MarksState)
        (more : (l : Loc) → next l ≡ cond (same_loc m.loc l) (with_mark m.stamp n (marks l)) (marks l)) where
      first : (j : ℕ) (d : Stamp) → j < length (marks m.loc).slots → is_later (get_or (marks m.loc).stamps j d) m.stamp ≡ false
      first j d lt =
          let past = past-none (marks m.loc).slots is.0 (sym is.2 ∙ none) in
          is.1.before j d (omega (arith, lt, past))

      pub end-row : ArePlaced (placed_all new) (n + 1) next
      end-row =
          subst (λ l. ArePlaced l (n + 1) next) (sym (placed-push old new (slotted_write m n) e))
          (end-placed (placed_all old) n marks a m first next more)

      pub end-list : members_of new ≡ with_member m (members_of old)
      end-list =
          ap (map (λ (x : Slotted). x.member)) (placed-push old new (slotted_write m n) e)
          ∙ end-members (placed_all old) n marks a m first next more

-- ---- a stable sort

pub sorted-row : (xs ys : List Slotted) → IsSortedBy is_before ys → IsStableBy is_before xs ys → ys ≡ placed_all xs
sorted-row xs ys up stable = is-sorted is_before before-order xs ys up stable

pub names-of : {X : Type 0} (f : Member → X) (xs ys : List Slotted) → ys ≡ placed_all xs → map (λ y. f y.member) ys ≡ map f (members_of xs)
names-of f xs ys e = ap (map (λ (y : Slotted). f y.member)) e ∙ go (placed_all xs)
  where
    go : (l : List Slotted) → map (λ y. f y.member) l ≡ map f (map (λ y. y.member) l)
    go [] = refl
    go (y ∷ l) = ap (λ k. f y.member ∷ k) (go l)
