-- No two pending writes have one location, as writes come and leave.
use Rattle.std.proofs.Common.{◌≡◌, ℕ, false, List, [], ◌∷◌, ◌++◌, map, get_or, set, Some, None, sym, subst}
use Rattle.std.proofs.lemmas.List.{map-append}
use Rattle.std.proofs.Math.Seq.{map-set_same}
use Rattle.block_layout.specs.declared.place.Loc.{Loc}
use Rattle.upc_values.specs.Lists.{Each}
use Rattle.upc_values.specs.Scalars.{same_loc}
use Rattle.upc_values.proofs.Lists.{each-push}
use Rattle.upc_values.proofs.Sameness.{same_loc-true, same_loc-other}
use Rattle.write_buffer.specs.declared.pending.Pending.{Pending}
use Rattle.write_buffer.specs.layer.Buffer.{last_place, AreDifferent, AreApart}
use Rattle.write_buffer.proofs.Places.{after-none, is-place}

abbrev locations : List Pending → List Loc
locations ps = map (λ p. p.loc) ps

different-push : (ls : List Loc) (l : Loc) → AreDifferent ls → Each (λ k. same_loc k l ≡ false) ls → AreDifferent (ls ++ l ∷ [])
different-push [] l h none = (tt, tt)
different-push (k ∷ ls) l h none =
    (each-push (λ z. same_loc z k ≡ false) ls l h.0 (same_loc-other l k none.0), different-push ls l h.1 none.1)

absent : (l : Loc) (ps : List Pending) → last_place l ps ≡ None → Each (λ k. same_loc k l ≡ false) (locations ps)
absent l [] h = tt
absent l (p ∷ ps) h =
    let s = after-none (last_place l ps) (same_loc p.loc l) h in
    (s.1, absent l ps s.0)

-- a write of a further location
pub apart-push : (ps : List Pending) (p : Pending) → last_place p.loc ps ≡ None → AreApart ps → AreApart (ps ++ p ∷ [])
apart-push ps p none h =
    subst AreDifferent (sym (map-append (λ (q : Pending). q.loc) ps (p ∷ [])))
    (different-push (locations ps) p.loc h (absent p.loc ps none))

-- a write in the place of that of its location
pub apart-set : (ps : List Pending) (k : ℕ) (p : Pending) → last_place p.loc ps ≡ Some k → AreApart ps → AreApart (set ps k p)
apart-set ps k p at h =
    let place = is-place p.loc ps k at in
    subst AreDifferent
    (sym (map-set_same (λ (q : Pending). q.loc) ps k p p (sym (same_loc-true (get_or ps k p).loc p.loc (place.loc p))))) h
