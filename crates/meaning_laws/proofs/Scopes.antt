-- Where the block of a function is open, each local name has a block.
use Rattle.std.proofs.Common.{◌≡◌, inl, inr, ℕ, zero, suc, ◌+◌, ◌-◌, nat_le, Bool, true, false, List, [], ◌∷◌}
use Rattle.std.proofs.Common.{◌++◌, length, drop, reverse, Option, Some, refl, sym, ap, ◌∙◌, subst, arith}
use Rattle.std.proofs.Common.{le-leb}
use Rattle.std.specs.Prelude.{if◌then◌else◌, option_map}
use Rattle.std.specs.List.{find}
use Rattle.std.proofs.lemmas.Bool.{false≢true}
use Rattle.std.proofs.lemmas.List.{reverse-append}
use Rattle.std.proofs.Math.Seq.{drop-append_seam}
use Rattle.block_layout.specs.declared.kind.Shape.{Shape}
use Rattle.private_store.specs.declared.frame.Block.{Block}
use Rattle.private_store.specs.declared.frame.Call.{Call}
use Rattle.private_store.specs.Live.{Live, youngest, blocks_before, controls, entered, call_begun}
use Rattle.private_store.specs.Live.{open_blocks, local_number}
use Rattle.meaning_laws.specs.code.Scopes.{HasOuter, HasScope}
use Rattle.meaning_laws.specs.code.Laws.{NamesAreFound}
use Rattle.meaning_laws.proofs.Calls.{youngest_last}

outer_left : (xs ys : List Block) → HasOuter xs → HasOuter (xs ++ ys)
outer_left [] ys h = absurd h
outer_left (x ∷ xs) ys (inl e) = inl e
outer_left (x ∷ xs) ys (inr h) = inr (outer_left xs ys h)

outer_right : (xs ys : List Block) → HasOuter ys → HasOuter (xs ++ ys)
outer_right [] ys h = h
outer_right (x ∷ xs) ys h = inr (outer_right xs ys h)

outer_reverse : (xs : List Block) → HasOuter xs → HasOuter (reverse xs)
outer_reverse [] h = absurd h
outer_reverse (x ∷ xs) h =
    subst (λ (ys : List Block). HasOuter ys) (sym (reverse-append (x ∷ []) xs)) (by h (λ k. outer_reverse xs k))
  where
    by : HasOuter (x ∷ xs) → (HasOuter xs → HasOuter (reverse xs)) → HasOuter (reverse xs ++ (x ∷ []))
    by (inl e) again = outer_right (reverse xs) (x ∷ []) (inl e)
    by (inr k) again = outer_left (reverse xs) (x ∷ []) (again k)

outer_drop : (k : ℕ) (xs ys : List Block) → HasOuter (drop k xs) → HasOuter (drop k (xs ++ ys))
outer_drop zero xs ys h = outer_left xs ys h
outer_drop (suc k) [] ys h = absurd h
outer_drop (suc k) (x ∷ xs) ys h = outer_drop k xs ys h

module _ (n : ℕ) where
  abbrev begins_by : Block → Bool
  begins_by b = nat_le b.from n

  next_found : (test : Bool) (x : Block) (rest : Option Block) → (test ≡ false → (b : Block) × (rest ≡ Some b))
      → (b : Block) × ((if test then Some x else rest) ≡ Some b)
  next_found true x rest h = (x, refl)
  next_found false x rest h = h refl

  outer_found : (xs : List Block) → HasOuter xs → (b : Block) × (find begins_by xs ≡ Some b)
  outer_found [] h = absurd h
  outer_found (x ∷ xs) (inl e) =
      next_found (begins_by x) x (find begins_by xs) (λ q.
      let begins : begins_by x ≡ true = le-leb x.from n (omega (arith, e)) in
      absurd (false≢true (sym q ∙ begins)))
  outer_found (x ∷ xs) (inr h) = next_found (begins_by x) x (find begins_by xs) (λ q. outer_found xs h)

  number_found : (s : Live) → HasScope s → (i : ℕ) × (local_number n s ≡ Some i)
  number_found s h =
      let found = outer_found (reverse (open_blocks s)) (outer_reverse (open_blocks s) h) in
      (found.0.first + (n - found.0.from), ap (option_map (λ (b : Block). b.first + (n - b.from))) found.1)

called_scope : (shapes : List Shape) (s : Live) → HasScope (entered 0 shapes (call_begun s))
called_scope shapes s =
    let c : Call = record { controls = controls s; blocks = length s.blocks; objects = length s.objects } in
    let b : Block = record { from = 0; first = s.next; objects = length s.objects } in
    let last : HasOuter (b ∷ []) = inl refl in
    subst (λ (o : Option Call). HasOuter (drop (blocks_before o) (s.blocks ++ (b ∷ [])))) (sym
    (youngest_last s.calls c))
    (subst (λ (bs : List Block). HasOuter bs) (sym (drop-append_seam s.blocks (b ∷ []))) last)

pub names_are_found : NamesAreFound
names_are_found = record {
  found = λ n s h. number_found n s h;
  begins = λ shapes s. called_scope shapes s;
  inside = λ from shapes s h. outer_drop (blocks_before (youngest s.calls)) s.blocks _ h;
}
