-- The count of controlling bodies goes with the call that ends.
use Rattle.std.proofs.Common.{◌≡◌, ℕ, zero, suc, ◌-◌, ◌<◌, List, ◌∷◌, [], length, take, drop, Option, Some, None}
use Rattle.std.proofs.Common.{refl, sym, ap, ◌∙◌, arith}
use Rattle.std.specs.Prelude.{slice_get, slice_set}
use Rattle.std.proofs.lemmas.List.{take-set, length-set, get_or-set_same}
use Rattle.std.proofs.lemmas.Option.{slice_get_within, slice_get-get_or}
use Rattle.upc_values.specs.declared.scalar.Value.{Value}
use Rattle.private_store.specs.declared.frame.Block.{Block}
use Rattle.private_store.specs.declared.frame.Call.{Call}
use Rattle.private_store.specs.Live.{Live, youngest, older, blocks_before, open_blocks, left_from, left, returned_from}
use Rattle.private_store.specs.Live.{returned, recounted_from, recounted}
use Rattle.thread_steps.specs.States.{State}
use Rattle.thread_steps.specs.Blocks.{with_live, close_block, end_call}
use Rattle.stack_code.specs.layer.Steps.{Spot, At, conf_of, close_blocks, given_back}

-- The youngest of some things, of which the youngest was replaced, and the older ones.
youngest_set : {X : Type 0} (xs : List X) (x y : X) → youngest xs ≡ Some x
    → youngest (slice_set xs (length xs - 1) y) ≡ Some y
youngest_set xs x y e =
    let n = length xs - 1 in
    let lt : n < length xs = slice_get_within xs n x e in
    let same = length-set xs n y in
    let within : n < length (slice_set xs n y) = omega arith in
    ap (λ k. slice_get (slice_set xs n y) (k - 1)) same ∙ slice_get-get_or (slice_set xs n y) n y within
    ∙ ap Some (get_or-set_same xs n y y lt)

older_set : {X : Type 0} (xs : List X) (y : X) → older (slice_set xs (length xs - 1) y) ≡ older xs
older_set xs y =
    let n = length xs - 1 in
    ap (λ k. take (k - 1) (slice_set xs n y)) (length-set xs n y) ∙ take-set xs n y

-- The end of a block changes no call.
left_calls : (s : Live) → (left s).calls ≡ s.calls
left_calls s = by_block (youngest (open_blocks s))
  where
    by_block : (b : Option Block) → (left_from b s).calls ≡ s.calls
    by_block None = refl
    by_block (Some b) = refl

left_recounted : (m : ℕ) (s : Live) → left (recounted m s) ≡ recounted m (left s)
left_recounted m s = by_call (youngest s.calls) refl
  where
    by_block : (b : Option Block) (c : Call)
        → left_from b (recounted_from (Some c) m s) ≡ recounted_from (Some c) m (left_from b s)
    by_block None c = refl
    by_block (Some b) c = refl

    by_call : (c : Option Call) → youngest s.calls ≡ c → left (recounted m s) ≡ recounted m (left s)
    by_call None e =
        ap (λ c. left (recounted_from c m s)) e
        ∙ sym (ap (λ c. recounted_from c m (left s)) (ap youngest (left_calls s) ∙ e))
    by_call (Some c) e =
        let t = recounted_from (Some c) m s in
        let same : youngest t.calls ≡ Some (record c { controls = m }) =
        youngest_set s.calls c (record c { controls = m }) e in
        let before : blocks_before (youngest t.calls) ≡ blocks_before (youngest s.calls) =
        ap blocks_before same ∙ sym (ap blocks_before e) in
        ap (λ d. left (recounted_from d m s)) e
        ∙ ap (λ n. left_from (youngest (drop n s.blocks)) t) before
        ∙ by_block (youngest (open_blocks s)) c
        ∙ sym (ap (λ d. recounted_from d m (left s)) (ap youngest (left_calls s) ∙ e))

returned_recounted : (m : ℕ) (s : Live) → returned (recounted m s) ≡ returned s
returned_recounted m s = by_call (youngest s.calls) refl
  where
    by_call : (c : Option Call) → youngest s.calls ≡ c → returned (recounted m s) ≡ returned s
    by_call None e = ap (λ c. returned (recounted_from c m s)) e
    by_call (Some c) e =
        let t = recounted_from (Some c) m s in
        let same : youngest t.calls ≡ Some (record c { controls = m }) =
        youngest_set s.calls c (record c { controls = m }) e in
        ap (λ d. returned (recounted_from d m s)) e
        ∙ ap (λ d. returned_from d t) same
        ∙ ap
        (λ (l : List Call). record s {
          objects = take c.objects s.objects;
          blocks = take c.blocks s.blocks;
          calls = l;
        })
        (older_set s.calls (record c { controls = m }))
        ∙ sym (ap (λ d. returned_from d s) e)

-- Where a call gives a value back, it is the same in how many controlling bodies it was.
module _ (v : Value) (operands : List Value) (back : Spot) (calls : List Spot) where
  same_end : (m : ℕ) (σ : State)
      → given_back v operands (back ∷ calls) σ
      ≡ given_back v operands (back ∷ calls) (with_live (recounted m) σ)
  unfolding end_call
  same_end m σ =
      ap (λ s. At back [] (v ∷ operands) calls (record σ { store = s })) (sym (returned_recounted m σ.store))

  pub same_return : (n m : ℕ) (σ : State)
      → conf_of (close_blocks n σ) (λ _. given_back v operands (back ∷ calls))
      ≡ conf_of (close_blocks n (with_live (recounted m) σ)) (λ _. given_back v operands (back ∷ calls))
  unfolding close_block
  same_return zero m σ = same_end m σ
  same_return (suc n) m σ =
      same_return n m (with_live left σ)
      ∙ ap (λ s. conf_of (close_blocks n (record σ { store = s })) (λ _. given_back v operands (back ∷ calls)))
      (sym (left_recounted m σ.store))
