-- The active calls after each change of the private objects.
use Rattle.std.proofs.Common.{◌≡◌, ℕ, zero, suc, ◌-◌, pred, List, [], ◌∷◌, ◌++◌, length, take, Option, Some, None}
use Rattle.std.proofs.Common.{slice_get, slice_set, refl, sym, ap, ◌∙◌, arith}
use Rattle.std.specs.Prelude.{Result, Ok, Err}
use Rattle.std.proofs.lemmas.List.{length-append, length-set}
use Rattle.block_layout.specs.declared.kind.Kind.{Kind}
use Rattle.block_layout.specs.declared.place.LocalPtr.{LocalPtr}
use Rattle.upc_values.specs.declared.scalar.Value.{Value}
use Rattle.private_store.specs.declared.frame.Block.{Block}
use Rattle.private_store.specs.declared.frame.Call.{Call}
use Rattle.private_store.specs.Live.{Live, youngest, older, open_blocks, left_from, left, call_begun, returned_from}
use Rattle.private_store.specs.Live.{returned, recounted_from, controls_in, controls}
use Rattle.private_store.specs.Cells.{Cell, stored, reached, put_in}
use Rattle.thread_steps.specs.layer.Parts.{one_more, one_less}

-- These calls are active, if there is no run error.
abbrev pub HasCalls : List Call → Result Live ℕ → Type 0
HasCalls calls (Ok s) = s.calls ≡ calls
HasCalls calls (Err code) = Unit {0}

put_calls : (r : Result Cell ℕ) (v : Value) (s : Live) → HasCalls s.calls (put_in r v s)
put_calls (Ok c) v s = refl
put_calls (Err code) v s = tt

pub stored_calls : (p : LocalPtr) (kind : Kind) (v : Value) (s : Live) → HasCalls s.calls (stored p kind v s)
stored_calls p kind v s = put_calls (reached p kind s.objects) v s

pub left_calls : (s : Live) → (left s).calls ≡ s.calls
left_calls s = by_block (youngest (open_blocks s))
  where
    by_block : (b : Option Block) → (left_from b s).calls ≡ s.calls
    by_block None = refl
    by_block (Some b) = refl

-- ---- lists

module _ {X : Type 0} where
  last_got : (xs : List X) (x : X) → slice_get (xs ++ (x ∷ [])) (length xs) ≡ Some x
  last_got [] x = refl
  last_got (y ∷ xs) x = last_got xs x

  front_taken : (xs ys : List X) → take (length xs) (xs ++ ys) ≡ xs
  front_taken [] ys = refl
  front_taken (x ∷ xs) ys = ap (λ (zs : List X). x ∷ zs) (front_taken xs ys)

  last_place : (xs : List X) (x : X) → length (xs ++ (x ∷ [])) - 1 ≡ length xs
  last_place xs x = omega (arith, length-append xs (x ∷ []))

  pub youngest_last : (xs : List X) (x : X) → youngest (xs ++ (x ∷ [])) ≡ Some x
  youngest_last xs x = ap (slice_get (xs ++ (x ∷ []))) (last_place xs x) ∙ last_got xs x

  older_last : (xs : List X) (x : X) → older (xs ++ (x ∷ [])) ≡ xs
  older_last xs x = ap (λ (n : ℕ). take n (xs ++ (x ∷ []))) (last_place xs x) ∙ front_taken xs (x ∷ [])

  set_again : (xs : List X) (i : ℕ) (x y : X) → slice_set (slice_set xs i x) i y ≡ slice_set xs i y
  set_again [] i x y = refl
  set_again (z ∷ xs) zero x y = refl
  set_again (z ∷ xs) (suc i) x y = ap (λ (zs : List X). z ∷ zs) (set_again xs i x y)

  set_own : (xs : List X) (i : ℕ) (x : X) → slice_get xs i ≡ Some x → slice_set xs i x ≡ xs
  set_own [] i x h = absurd cc
  set_own (z ∷ xs) zero x h = let same : z ≡ x = cc in ap (λ (y : X). y ∷ xs) (sym same)
  set_own (z ∷ xs) (suc i) x h = ap (λ (zs : List X). z ∷ zs) (set_own xs i x h)

  got_set : (xs : List X) (i : ℕ) (x y : X) → slice_get xs i ≡ Some x → slice_get (slice_set xs i y) i ≡ Some y
  got_set [] i x y h = absurd cc
  got_set (z ∷ xs) zero x y h = refl
  got_set (z ∷ xs) (suc i) x y h = got_set xs i x y h

-- ---- calls

-- The end of a call brings back the calls before it.
pub call_back : (s t : Live) → t.calls ≡ (call_begun s).calls → (returned t).calls ≡ s.calls
call_back s t h =
    let c : Call = record { controls = controls s; blocks = length s.blocks; objects = length s.objects } in
    let young : youngest t.calls ≡ Some c = ap youngest h ∙ youngest_last s.calls c in
    ap (λ (o : Option Call). (returned_from o t).calls) young ∙ ap older h ∙ older_last s.calls c

-- The youngest call is in one controlling body more.
pub control_counts : (s : Live) (c : Call) → youngest s.calls ≡ Some c → (t : Live) → t.calls ≡ (one_more s).calls
    → youngest t.calls ≡ Some (record c { controls = suc (controls s) })
control_counts s c e t h =
    let n = length s.calls - 1 in
    let d : Call = record c { controls = suc (controls s) } in
    let same : t.calls ≡ slice_set s.calls n d =
    h ∙ ap (λ (o : Option Call). (recounted_from o (suc (controls s)) s).calls) e in
    let many : length t.calls - 1 ≡ n =
    ap (λ (cs : List Call). length cs - 1) same ∙ ap (λ (k : ℕ). k - 1) (length-set s.calls n d) in
    ap (slice_get t.calls) many ∙ ap (λ (cs : List Call). slice_get cs n) same ∙ got_set s.calls n c d e

-- The end of a controlling body brings back the calls before it.
pub control_back : (s t : Live) → t.calls ≡ (one_more s).calls → (one_less t).calls ≡ s.calls
control_back s t h = by_call (youngest s.calls) refl
  where
    by_call : (o : Option Call) → youngest s.calls ≡ o → (one_less t).calls ≡ s.calls
    by_call None e =
        let same : t.calls ≡ s.calls =
        h ∙ ap (λ (o : Option Call). (recounted_from o (suc (controls s)) s).calls) e in
        let young : youngest t.calls ≡ None = ap youngest same ∙ e in
        ap (λ (o : Option Call). (recounted_from o (pred (controls t)) t).calls) young ∙ same
    by_call (Some c) e =
        let n = length s.calls - 1 in
        let d : Call = record c { controls = suc (controls s) } in
        let same : t.calls ≡ slice_set s.calls n d =
        h ∙ ap (λ (o : Option Call). (recounted_from o (suc (controls s)) s).calls) e in
        let many : length t.calls - 1 ≡ n =
        ap (λ (cs : List Call). length cs - 1) same ∙ ap (λ (k : ℕ). k - 1) (length-set s.calls n d) in
        let young = control_counts s c e t h in
        let back : Call = record d { controls = pred (controls t) } in
        let count : pred (controls t) ≡ c.controls = ap (λ (o : Option Call). pred (controls_in o)) young
        ∙ ap controls_in e in
        let is : back ≡ c = ap (λ (k : ℕ). record c { controls = k }) count in
        ap (λ (o : Option Call). (recounted_from o (pred (controls t)) t).calls) young
        ∙ ap (λ (k : ℕ). slice_set t.calls k back) many
        ∙ ap (λ (cs : List Call). slice_set cs n back) same
        ∙ set_again s.calls n d back
        ∙ ap (λ (x : Call). slice_set s.calls n x) is
        ∙ set_own s.calls n c e
