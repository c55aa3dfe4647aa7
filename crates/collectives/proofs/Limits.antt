-- The sizes of a call whose arguments pass their tests; and a call that is not distinguished does as any other.
use Rattle.std.proofs.Common.{◌≡◌, ℕ, ◌≤◌, ◌==◌, is_none, Bool, true, false, not, ◌&&◌, ◌||◌, cond, List, [], Some, None, refl, arith}
use Rattle.std.proofs.Math.IntN.{ℤ}
use Rattle.block_layout.specs.declared.place.SharedPtr.{SharedPtr}
use Rattle.upc_values.specs.Reductions.{reduction}
use Rattle.std.proofs.lemmas.Bool.Decides.{nat_tests}
use Rattle.block_layout.specs.declared.kind.Shape.{Shape}
use Rattle.block_layout.specs.declared.run_error.TheConstants.{NULL_ACCESS, LIBRARY_ARGS}
use Rattle.block_layout.specs.Pointers.{is_null}
use Rattle.upc_values.specs.declared.scalar.Scalar.{Scalar}
use Rattle.upc_values.specs.declared.action.Action.TheVariants as act
use Rattle.upc_values.specs.Calls as said
use Rattle.upc_values.specs.Expansion.{Expansion, bind, does, refused_by}
use Rattle.upc_values.specs.Expansions as expansions
use Rattle.upc_values.specs.Expansions.{is_large}
use Rattle.collectives.specs.layer.Walks.{from_entry}
use Rattle.collectives.specs.declared.call.Call.{Call}
use Rattle.collectives.specs.declared.call.Call.TheVariants as call
use Rattle.collectives.specs.code.Calls.{call_in, kept, refusal_in, FitsLimits}

-- the second of two tests did not hold
second-passed : (b d : Bool) (m n : ℕ) → None ≡ cond b (Some m) (cond d (Some n) None) → d ≡ false
second-passed true d m n e = absurd (let f : None ≡ Some m = e in cc)
second-passed false true m n e = absurd (let f : None ≡ Some n = e in cc)
second-passed false false m n e = refl

second-not : (a l r : Bool) → not (a && (not l && r)) ≡ false → l ≡ false
second-not true false r e = refl
second-not true true r e = cc
second-not false l r e = cc

fifth-not : (a b c d l r : Bool) → not (a && (b && (c && (d && (not l && r))))) ≡ false → l ≡ false
fifth-not true true true true false r e = refl
fifth-not true true true true true r e = cc
fifth-not true true true false l r e = cc
fifth-not true true false d l r e = cc
fifth-not true false c d l r e = cc
fifth-not false b c d l r e = cc

fifth-of-first-not : (a b c d l r p : Bool) → not ((a && (b && (c && (d && (not l && r))))) && p) ≡ false → l ≡ false
fifth-of-first-not true true true true false r p e = refl
fifth-of-first-not true true true true true r p e = cc
fifth-of-first-not true true true false l r p e = cc
fifth-of-first-not true true false d l r p e = cc
fifth-of-first-not true false c d l r p e = cc
fifth-of-first-not false b c d l r p e = cc

small : (n : ℕ) → is_large n ≡ false → n ≤ 16777216
small n e = grind (arith, nat_tests)

block-small : (src : SharedPtr) (op : ℤ) (n blk : ℕ) (f : ℤ) → not (expansions.are_reduction_args src op n blk f) ≡ false → blk ≤ 16777216
block-small src op n blk f e =
    small blk (fifth-not (expansions.are_flags f) (not (is_none (reduction op))) (not (n == 0)) (not (is_large n)) (is_large blk) (expansions.is_phase src blk) e)

prefix-small : (src : SharedPtr) (op : ℤ) (n blk : ℕ) (f : ℤ) (p : Bool) → not (expansions.are_reduction_args src op n blk f && p) ≡ false → blk ≤ 16777216
prefix-small src op n blk f p e =
    small blk (fifth-of-first-not (expansions.are_flags f) (not (is_none (reduction op))) (not (n == 0)) (not (is_large n)) (is_large blk) (expansions.is_phase src blk) p e)

pub limits : (c : Call) → None ≡ refusal_in (expansions.tests 0 [] 0 (call_in c)) → FitsLimits c
limits (call.Copies w dst src n f) e = small n (second-not _ _ _ (second-passed _ _ _ _ e))
limits (call.Permutes dst src perm n f) e = small n (second-not _ _ _ (second-passed _ _ _ _ e))
limits (call.Reduces o f) e =
    block-small o.src o.op o.count o.block f
    (second-passed (is_null o.dst || is_null o.src) (not (expansions.are_reduction_args o.src o.op o.count o.block f)) NULL_ACCESS LIBRARY_ARGS e)
limits (call.ReducesPrefixes o f) e =
    let aligned = expansions.is_phase o.dst o.block && expansions.is_aligned o.dst o.src o.block in
    prefix-small o.src o.op o.count o.block f aligned
    (second-passed (is_null o.dst || is_null o.src) (not (expansions.are_reduction_args o.src o.op o.count o.block f && aligned)) NULL_ACCESS LIBRARY_ARGS e)
limits call.Other e = tt

-- what a call does from its Meet on, and from its tests on, once its number and arguments are read
abbrev pub met_by : ℕ → List Shape → ℕ → ℕ → List Scalar → said.Call → Expansion (Unit {0})
met_by threads shapes me c args call = bind (does (act.Meet c args)) (λ u. from_entry threads shapes me call)

abbrev pub done_by : ℕ → List Shape → ℕ → ℕ → List Scalar → said.Call → Expansion (Unit {0})
done_by threads shapes me c args call =
    refused_by (expansions.tests threads shapes me call) (met_by threads shapes me c args call)

pub done_by-kept : (threads : ℕ) (shapes : List Shape) (me c : ℕ) (args : List Scalar) (call : said.Call) → done_by threads shapes me c args (kept call) ≡ done_by threads shapes me c args call
done_by-kept threads shapes me c args (said.Copies w dst src n f) = refl
done_by-kept threads shapes me c args (said.Permutes dst src perm n f) = refl
done_by-kept threads shapes me c args (said.Reduces dst src op n b k f) = refl
done_by-kept threads shapes me c args (said.Reduces_prefixes dst src op n b k f) = refl
done_by-kept threads shapes me c args call = refl
