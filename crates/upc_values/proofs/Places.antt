-- Places in a record, one item on or back.
use Rattle.std.proofs.Common.{◌≡◌, ℕ, ◌+◌, ◌-◌, ◌<◌, ◌≤◌, true, false, List, [], ◌∷◌, ◌++◌, length, get_or, take, Some, None, refl, sym, ap, subst, ◌∙◌, arith}
use Rattle.std.specs.List.{slice_get}
use Rattle.std.proofs.lemmas.Bool.{false≢true}
use Rattle.std.proofs.lemmas.List.{take_more, take_all}
use Rattle.std.proofs.lemmas.Option.{slice_get_past}
use Rattle.upc_values.specs.declared.action.Action.{Action}
use Rattle.upc_values.specs.declared.action.Reply.{Reply}
use Rattle.upc_values.specs.declared.record.Item.{Item}
use Rattle.upc_values.specs.declared.record.Item.TheVariants.{Did, Stall}
use Rattle.upc_values.specs.declared.journal.Entry.{Entry}
use Rattle.upc_values.specs.Records.{actions_of, replies_of}
use Rattle.upc_values.specs.Agrees.{is_did, IsPlace, IsPlaceOf, IsIn}

some-same : {X : Type 0} {x y : X} → Some x ≡ Some y → x ≡ y
some-same h = cc

none≢some : {X : Type 0} {x : X} → None ≡ Some x → ⊥
none≢some h = cc

many-push_did : (xs : List Item) (x : Item) → is_did x ≡ true → length (actions_of (xs ++ x ∷ [])) ≡ length (actions_of xs) + 1
many-push_did [] (Did a r) h = refl
many-push_did [] Stall h = absurd (false≢true h)
many-push_did (Did a r ∷ xs) x h = let ih : length (actions_of (xs ++ x ∷ [])) ≡ length (actions_of xs) + 1 = many-push_did xs x h in omega arith
many-push_did (Stall ∷ xs) x h = many-push_did xs x h

many-push_stall : (xs : List Item) (x : Item) → is_did x ≡ false → length (actions_of (xs ++ x ∷ [])) ≡ length (actions_of xs)
many-push_stall [] (Did a r) h = cc
many-push_stall [] Stall h = refl
many-push_stall (Did a r ∷ xs) x h = let ih : length (actions_of (xs ++ x ∷ [])) ≡ length (actions_of xs) = many-push_stall xs x h in omega arith
many-push_stall (Stall ∷ xs) x h = many-push_stall xs x h

many-did : (items : List Item) (i : ℕ) (x : Item) → i < length items → x ≡ get_or items i x → is_did x ≡ true
    → length (actions_of (take (i + 1) items)) ≡ length (actions_of (take i items)) + 1
many-did items i x lt is h =
    ap (λ l. length (actions_of l)) (take_more items i x lt ∙ ap (λ y. take i items ++ y ∷ []) (sym is))
    ∙ many-push_did (take i items) x h

many-stall : (items : List Item) (i : ℕ) (x : Item) → i < length items → x ≡ get_or items i x → is_did x ≡ false
    → length (actions_of (take (i + 1) items)) ≡ length (actions_of (take i items))
many-stall items i x lt is h =
    ap (λ l. length (actions_of l)) (take_more items i x lt ∙ ap (λ y. take i items ++ y ∷ []) (sym is))
    ∙ many-push_stall (take i items) x h

pub place-did : (items : List Item) (at n : ℕ) (x : Item) → IsPlace items at n → at < length items → x ≡ get_or items at x
    → is_did x ≡ true → IsPlace items (at + 1) (n + 1)
place-did items at n x p lt is h = record {
  within = omega arith;
  number = let e = many-did items at x lt is h in ap (λ m. m + 1) p.number ∙ sym e;
}

pub place-stall : (items : List Item) (at n : ℕ) (x : Item) → IsPlace items at n → at < length items → x ≡ get_or items at x
    → is_did x ≡ false → IsPlace items (at + 1) n
place-stall items at n x p lt is h = record {
  within = omega arith;
  number = let e = many-stall items at x lt is h in p.number ∙ sym e;
}

-- where some action stands before it, so does an item
pub place-some : (items : List Item) (at n : ℕ) → IsPlace items at n → 0 < n → 0 < at
place-some items ℕ.zero n p h = let e : n ≡ 0 = p.number in absurd (omega arith)
place-some items (ℕ.suc at) n p h = omega arith

pub back-did : (items : List Item) (at n : ℕ) (x : Item) → IsPlace items at n → 0 < n → x ≡ get_or items (at - 1) x
    → is_did x ≡ true → IsPlace items (at - 1) (n - 1)
back-did items at n x p some is h =
    let w = p.within in
    let c : 0 < at = place-some items at n p some in
    let e : length (actions_of (take (at - 1 + 1) items)) ≡ length (actions_of (take (at - 1) items)) + 1 =
    many-did items (at - 1) x (omega arith) is h in
    let m : n ≡ length (actions_of (take (at - 1 + 1) items)) =
    p.number ∙ ap (λ k. length (actions_of (take k items))) (let k : at ≡ at - 1 + 1 = omega arith in k) in
    record { within = omega arith; number = omega arith }

pub back-stall : (items : List Item) (at n : ℕ) (x : Item) → IsPlace items at n → 0 < n → x ≡ get_or items (at - 1) x
    → is_did x ≡ false → IsPlace items (at - 1) n
back-stall items at n x p some is h =
    let w = p.within in
    let c : 0 < at = place-some items at n p some in
    let e : length (actions_of (take (at - 1 + 1) items)) ≡ length (actions_of (take (at - 1) items)) =
    many-stall items (at - 1) x (omega arith) is h in
    let m : n ≡ length (actions_of (take (at - 1 + 1) items)) =
    p.number ∙ ap (λ k. length (actions_of (take k items))) (let k : at ≡ at - 1 + 1 = omega arith in k) in
    record { within = omega arith; number = omega arith }

-- the action at a place
pub place-action : (items : List Item) (at : ℕ) (a : Action) (r : Reply) (d : Item) → at < length items → get_or items at d ≡ Did a r
    → slice_get (actions_of items) (length (actions_of (take at items))) ≡ Some a
place-action [] at a r d lt e = absurd (omega arith)
place-action (x ∷ items) ℕ.zero a r d lt e = ap (λ y. slice_get (actions_of (y ∷ items)) 0) e
place-action (Did b s ∷ items) (ℕ.suc at) a r d lt e = place-action items at a r d (omega arith) e
place-action (Stall ∷ items) (ℕ.suc at) a r d lt e = place-action items at a r d (omega arith) e

-- and its reply
pub place-reply : (items : List Item) (at : ℕ) (a : Action) (r : Reply) (d : Item) → at < length items → get_or items at d ≡ Did a r
    → slice_get (replies_of items) (length (actions_of (take at items))) ≡ Some r
place-reply [] at a r d lt e = absurd (omega arith)
place-reply (x ∷ items) ℕ.zero a r d lt e = ap (λ y. slice_get (replies_of (y ∷ items)) 0) e
place-reply (Did b s ∷ items) (ℕ.suc at) a r d lt e = place-reply items at a r d (omega arith) e
place-reply (Stall ∷ items) (ℕ.suc at) a r d lt e = place-reply items at a r d (omega arith) e

-- an entry is in the record where the item at the place of its number is it
at-place : (items : List Item) (e : Entry) (at m : ℕ) (x : Item) → IsPlaceOf items e.index at m → at < length items
    → x ≡ get_or items at x → is_did x ≡ true → IsIn items e → x ≡ Did e.action e.reply
at-place items e at m (Did a r) p lt is h q =
    let n = (p.here lt).0 in
    let k : length (actions_of (take at items)) ≡ e.index = sym p.place.number ∙ n in
    let a_is : slice_get (actions_of items) e.index ≡ Some a = subst (λ i. slice_get (actions_of items) i ≡ Some a) k (place-action items at a r (Did a r) lt (sym is)) in
    let r_is : slice_get (replies_of items) e.index ≡ Some r = subst (λ i. slice_get (replies_of items) i ≡ Some r) k (place-reply items at a r (Did a r) lt (sym is)) in
    let b : a ≡ e.action = some-same (sym a_is ∙ q.action) in
    let s : r ≡ e.reply = some-same (sym r_is ∙ q.reply) in
    ap (λ b. Did b r) b ∙ ap (λ s. Did e.action s) s
at-place items e at m Stall p lt is h q = absurd (false≢true h)

pub in-from_place : (items : List Item) (e : Entry) (at m : ℕ) (x : Item) → IsPlaceOf items e.index at m → at < length items
    → x ≡ get_or items at x → x ≡ Did e.action e.reply → IsIn items e
in-from_place items e at m x p lt is d =
    let k : length (actions_of (take at items)) ≡ e.index = sym p.place.number ∙ (p.here lt).0 in
    record {
      action = subst (λ i. slice_get (actions_of items) i ≡ Some e.action) k (place-action items at e.action e.reply x lt (sym is ∙ d));
      reply = subst (λ i. slice_get (replies_of items) i ≡ Some e.reply) k (place-reply items at e.action e.reply x lt (sym is ∙ d));
    }

pub in-at_place : (items : List Item) (e : Entry) (at m : ℕ) (x : Item) → IsPlaceOf items e.index at m → at < length items
    → x ≡ get_or items at x → IsIn items e → x ≡ Did e.action e.reply
in-at_place items e at m x p lt is q = at-place items e at m x p lt is (ap is_did is ∙ (p.here lt).1 x) q

-- no action has a number past the record's end
pub in-past : (items : List Item) (e : Entry) (at m : ℕ) → IsPlaceOf items e.index at m → length items ≤ at → IsIn items e → ⊥
in-past items e at m p past q =
    let n : m ≡ length (actions_of items) = p.place.number ∙ ap (λ l. length (actions_of l)) (take_all at items past) in
    let most = p.most in
    let none : slice_get (actions_of items) e.index ≡ None = slice_get_past (actions_of items) e.index (omega arith) in
    let some = q.action in
    none≢some (sym none ∙ some)
