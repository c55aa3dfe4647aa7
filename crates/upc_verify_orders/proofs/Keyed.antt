-- The map of first operations.
use Rattle.std.proofs.Common.{◌≡◌, ◌==◌, ◌&&◌, ℕ, cond, Option, Some, refl, sym, ap, ◌∙◌, inl, inr}
use Rattle.std.specs.declared.cmp.Ordering.{Ordering}
use Rattle.std.specs.declared.cmp.Ordering.TheVariants.{Less, Equal, Greater}
use Rattle.std.specs.Ordering.{is_eq, nat_cmp, ordering_then}
use Rattle.std.specs.Cmp.{unsigned_ties}
use Rattle.std.specs.BTreeMap.{is_at, get, BTreeMap}
use Rattle.std.proofs.lemmas.Bool.{cases_Bool, cond-true, cond-false}
use Rattle.block_layout.specs.declared.place.Loc.{Loc}
use Rattle.upc_values.specs.Scalars.{same_loc}
use Rattle.upc_values.specs.Operations.{Place, Cell, Sync}
use Rattle.upc_values.specs.Consistent.{same_place}
use Rattle.upc_verify_orders.specs.declared.numbers.Key.{Key}
use Rattle.upc_verify_orders.specs.code.Keys.{key_cmp, key_of, looked}
use Rattle.upc_verify_orders.specs.declared.numbers.Firsts.{Firsts}
use Rattle.upc_verify_orders.proofs.Numbering.{same_place-true}

then-both : (p q : Ordering) → is_eq (ordering_then p q) ≡ (is_eq p && is_eq q)
then-both Less q = refl
then-both Equal q = refl
then-both Greater q = refl

at-key : (p q : Key) → is_at (key_cmp p) q ≡ ((p.object == q.object) && ((p.thread == q.thread) && (p.offset == q.offset)))
at-key p q =
    then-both (nat_cmp p.object q.object) (ordering_then (nat_cmp p.thread q.thread) (nat_cmp p.offset q.offset))
    ∙ ap (λ b. is_eq (nat_cmp p.object q.object) && b) (then-both (nat_cmp p.thread q.thread) (nat_cmp p.offset q.offset))
    ∙ ap (λ b. b && (is_eq (nat_cmp p.thread q.thread) && is_eq (nat_cmp p.offset q.offset))) (sym (unsigned_ties p.object q.object))
    ∙ ap (λ b. (p.object == q.object) && (b && is_eq (nat_cmp p.offset q.offset))) (sym (unsigned_ties p.thread q.thread))
    ∙ ap (λ b. (p.object == q.object) && ((p.thread == q.thread) && b)) (sym (unsigned_ties p.offset q.offset))

-- a location is at another's key where they are the same
pub at-loc : (l k : Loc) → is_at (key_cmp (key_of l)) (key_of k) ≡ same_loc l k
at-loc l k = at-key (key_of l) (key_of k)

-- what stands at a place already
pub same-kept : (f : Place → Option ℕ) (q p : Place) (k : ℕ) → f q ≡ Some k → f p ≡ cond (same_place q p) (Some k) (f p)
same-kept f q p k e =
    elim (cases_Bool (same_place q p)) [
      | inl t ↦ ap f (sym (same_place-true q p t)) ∙ e ∙ sym (cond-true (same_place q p) (Some k) (f p) t)
      | inr n ↦ sym (cond-false (same_place q p) (Some k) (f p) n)
    ]

-- a number kept for a location
pub cell-set : (f : Firsts) (new : BTreeMap Key ℕ) (l : Loc) (n : ℕ) → ((q : Key) → get key_cmp new q ≡ cond (is_at (key_cmp (key_of l)) q) (Some n) (get key_cmp f.cells q))
    → (p : Place) → (let g : Firsts = record { cells = new; sync = f.sync } in looked g p ≡ cond (same_place (Cell l) p) (Some n) (looked f p))
cell-set f new l n h (Cell k) = h (key_of k) ∙ ap (λ b. cond b (Some n) (get key_cmp f.cells (key_of k))) (at-loc l k)
cell-set f new l n h Sync = refl
