-- How many lists of picks there are.
use Rattle.std.proofs.Common.{◌≡◌, ◌∙◌, ◌≤◌, ◌+◌, ◌*◌, ℕ, zero, suc, List, [], ◌∷◌, length, map, refl, ap, subst, arith}
use Rattle.std.specs.Prelude.{Vec, Result, Ok, Err, IfOk}
use Rattle.std.specs.declared.alloc.Global.{Global}
use Rattle.std.specs.List.{flat_map, range_with_len}
use Rattle.std.proofs.lemmas.List.{length-map, length-append}
use Rattle.std.proofs.lemmas.List.FromFn.{length-range_with_len}
use Rattle.outcomes.specs.Schedules.{lists}
use Rattle.upc_outcomes_words.specs.declared.call.Plan.{Plan}
use Rattle.upc_outcomes_words.specs.declared.call.Plan.TheVariants.{Every}
use Rattle.upc_outcomes_words.specs.Values.{Wanted, IsFit, lists_count, seeded, every, given, recorded}
use Rattle.upc_outcomes_words.specs.layer.Views.{view_plan}
use Rattle.upc_outcomes.specs.Plans.{IsPlanned}

-- where each member gives as many
same-many : {X : Type 0} (f : ℕ → List X) (n : ℕ) → ((t : ℕ) → length (f t) ≡ n) → (ts : List ℕ)
    → length (flat_map f ts) ≡ length ts * n
same-many f n h [] = omega arith
same-many f n h (t ∷ ts) =
    let rest = same-many f n h ts in
    let here = h t in
    let both = length-append (f t) (flat_map f ts) in
    let times : suc (length ts) * n ≡ n + length ts * n = omega arith in
    omega arith

pub lists-many : (threads most : ℕ) → length (lists threads most) ≡ lists_count threads most
lists-many threads zero = refl
lists-many threads (suc most) =
    let shorter = lists-many threads most in
    let all =
    same-many (λ first. map (λ picks. first ∷ picks) (lists threads most)) (length (lists threads most))
    (λ first. length-map (lists threads most) (λ picks. first ∷ picks)) (range_with_len 0 threads) in
    let threads-many = length-range_with_len 0 threads in
    let e : length (range_with_len 0 threads) * length (lists threads most) ≡ threads * lists_count threads most =
    ap (λ n. n * length (lists threads most)) threads-many ∙ ap (λ n. threads * n) shorter in
    omega arith

-- Lists that are asked for are few.
pub planned-few : (threads : ℕ) (w : Wanted) (schedules : List (List ℕ)) → IsFit threads w → IsPlanned w threads schedules
    → length schedules ≤ 100000
planned-few threads (seeded many seed) schedules fit is = let most = fit.1 in omega arith
planned-few threads (every most) schedules fit is =
    let many = lists-many threads most in
    let e : length schedules ≡ lists_count threads most = ap length is ∙ many in
    let few = fit.1 in
    omega arith
planned-few threads (given picks) schedules fit is = let e = ap length is in omega arith
planned-few threads (recorded picks) schedules fit is = let e = ap length is in omega arith

-- Every list that a plan asks for is one of few.
pub every-few : {E : Type 0} (r : Result (Vec (Vec ℕ Global) Global) E) (threads most : ℕ) (p : Plan) → p ≡ Every most
    → IsFit threads (view_plan p) → IfOk r (λ all. map (λ v. v.items) all.items ≡ lists threads most)
    → IfOk r (λ all. length all.items ≤ 100000)
every-few (Ok all) threads most p e fit h =
    let fits : IsFit threads (every most) = subst (λ (x : Plan). IsFit threads (view_plan x)) e fit in
    let few = planned-few threads (every most) (map (λ (v : Vec ℕ Global). v.items) all.items) fits h in
    let same = length-map all.items (λ (v : Vec ℕ Global). v.items) in
    omega arith
every-few (Err x) threads most p e fit h = tt
