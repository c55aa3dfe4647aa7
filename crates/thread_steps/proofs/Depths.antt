-- How many calls are active after each change of the private objects.
use Rattle.std.proofs.Common.{◌≡◌, ℕ, suc, ◌+◌, ◌-◌, ◌<◌, false, List, [], ◌∷◌, length, Option, Some, None}
use Rattle.std.proofs.Common.{refl, ◌∙◌, arith}
use Rattle.std.specs.Prelude.{Result, Ok, Err, nat_le}
use Rattle.std.proofs.lemmas.Bool.Decides.{nat_tests}
use Rattle.std.proofs.lemmas.List.{length-take-le, length_push, length-set}
use Rattle.std.proofs.lemmas.Option.{slice_get_within, slice_get-get_or}
use Rattle.block_layout.specs.declared.kind.Kind.{Kind}
use Rattle.block_layout.specs.declared.place.LocalPtr.{LocalPtr}
use Rattle.upc_values.specs.declared.scalar.Value.{Value}
use Rattle.private_store.specs.declared.frame.Block.{Block}
use Rattle.private_store.specs.declared.frame.Call.{Call}
use Rattle.private_store.specs.declared.store.TheConstants.{MOST_CALLS}
use Rattle.private_store.specs.Live.{Live, youngest, older, open_blocks, left_from, left, call_begun, returned_from}
use Rattle.private_store.specs.Live.{returned, recounted_from, recounted}
use Rattle.private_store.specs.Cells.{Cell, stored, reached, put_in}

-- How many calls are active.
abbrev pub depth : Live → ℕ
depth s = length s.calls

-- Fewer than the most, where one more may begin.
pub not_deep : (d y : ℕ) → nat_le MOST_CALLS y ≡ false → y ≡ d → d < 1000
not_deep d y e same = grind (arith, nat_tests)

abbrev pub SameDepth : Live → Result Live ℕ → Type 0
SameDepth s (Ok t) = depth t ≡ depth s
SameDepth s (Err code) = Unit {0}

put_depth : (r : Result Cell ℕ) (v : Value) (s : Live) → SameDepth s (put_in r v s)
put_depth (Ok c) v s = refl
put_depth (Err code) v s = tt

pub stored_depth : (p : LocalPtr) (kind : Kind) (v : Value) (s : Live) → SameDepth s (stored p kind v s)
stored_depth p kind v s = put_depth (reached p kind s.objects) v s

pub left_depth : (s : Live) → depth (left s) ≡ depth s
left_depth s = by_block (youngest (open_blocks s))
  where
    by_block : (b : Option Block) → depth (left_from b s) ≡ depth s
    by_block None = refl
    by_block (Some b) = refl

-- All but the youngest are one less, where there is a youngest.
older_length : {X : Type 0} (xs : List X) (x : X) → youngest xs ≡ Some x → length (older xs) + 1 ≡ length xs
older_length xs x e =
    let lt = slice_get_within xs (length xs - 1) x e in
    let same = length-take-le (length xs - 1) xs (omega arith) in
    omega arith

pub recounted_depth : (n : ℕ) (s : Live) → depth (recounted n s) ≡ depth s
recounted_depth n s = by_call (youngest s.calls) refl
  where
    by_call : (c : Option Call) → youngest s.calls ≡ c → depth (recounted_from c n s) ≡ depth s
    by_call None e = refl
    by_call (Some c) e = length-set s.calls (length s.calls - 1) (record c { controls = n })

pub called_depth : (s : Live) → depth (call_begun s) ≡ suc (depth s)
called_depth s = length_push s.calls _ ∙ omega arith

pub returned_depth : (n : ℕ) (s : Live) → depth s ≡ suc n → depth (returned s) ≡ n
returned_depth n s e = by_call (youngest s.calls) refl
  where
    by_call : (c : Option Call) → youngest s.calls ≡ c → depth (returned_from c s) ≡ n
    by_call None none = absurd (some_youngest s.calls n e none)
      where
        some_youngest : {X : Type 0} (xs : List X) (n : ℕ) → length xs ≡ suc n → youngest xs ≡ None → ⊥
        some_youngest [] n l h = absurd (omega arith)
        some_youngest (x ∷ xs) n l h =
            let is = slice_get-get_or (x ∷ xs) (length (x ∷ xs) - 1) x (omega arith) in
            grind arith
    by_call (Some c) is = let le = older_length s.calls c is in omega arith
