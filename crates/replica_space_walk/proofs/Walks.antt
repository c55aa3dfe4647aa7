-- The walk over a run.
use Rattle.std.proofs.Common.{◌≡◌, ℕ, ◌<◌, List, [], ◌∷◌, ◌++◌, refl, sym, ap, subst, append_assoc, arith}
use Rattle.std.proofs.lemmas.List.{append-nil}
use Rattle.upc_values.specs.Openings.{Opening}
use Rattle.replica_space.specs.declared.event.Event.{Event}
use Rattle.replica_space.specs.declared.event.Deed.{Deed}
use Rattle.replica_space.specs.declared.event.Deed.TheVariants.{Did, Delivered}
use Rattle.replica_space.specs.Spaces.{begun, space_after}
use Rattle.replica_space.specs.Runs.{MayDo, IsReplicaRunFrom, IsReplicaRun}
use Rattle.replica_space.specs.ReplicaOrders.{Listed, listed_from, listed_after}
use Rattle.replica_space_lists.specs.layer.Keeping.{IsKept}
use Rattle.replica_space_lists.proofs.Running.{are-kept, space-is}
use Rattle.replica_space_walk.specs.code.Walking.{after, IsLow, IsDoneWithin, IsWithin}

listed-append : (n : ℕ) (x : Listed) (xs ys : List Event) → listed_from n x (xs ++ ys) ≡ listed_from n (listed_from n x xs) ys
listed-append n x [] ys = refl
listed-append n x (e ∷ xs) ys = listed-append n (after n e x) xs ys

-- one more event
pub listed-push : (n : ℕ) (es : List Event) (e : Event) → listed_after n (es ++ e ∷ []) ≡ after n e (listed_after n es)
listed-push n es e = listed-append n (record { space = begun; lists = λ t. [] }) es (e ∷ [])

-- a run up to some event
run-front : (o : Opening) (before xs ys : List Event) → IsReplicaRunFrom o before (xs ++ ys) → IsReplicaRunFrom o before xs
run-front o before [] ys r = tt
run-front o before (e ∷ xs) ys r = (r.0, r.1, run-front o (before ++ e ∷ []) xs ys r.2)

-- the event after some others in a run
run-at : (o : Opening) (before xs : List Event) (e : Event) (ys : List Event) → IsReplicaRunFrom o before (xs ++ e ∷ ys)
    → (e.by < o.threads) × MayDo o (before ++ xs) e.by e.deed
run-at o before [] e ys r = (r.0, subst (λ b. MayDo o b e.by e.deed) (sym (append-nil before)) r.1)
run-at o before (x ∷ xs) e ys r =
    let h = run-at o (before ++ x ∷ []) xs e ys r.2 in
    (h.0, subst (λ b. MayDo o b e.by e.deed) (append_assoc before (x ∷ []) xs) h.1)

done-within : (o : Opening) (before : List Event) (t : ℕ) (d : Deed) → t < o.threads → MayDo o before t d → IsDoneWithin o.threads t d
done-within o before t (Did i a r) lt may = lt
done-within o before t (Delivered to from) lt may = (may.0, may.1)

-- the threads of an event in a run
pub within : (o : Opening) (xs : List Event) (e : Event) (ys : List Event) → IsReplicaRun o (xs ++ e ∷ ys) → IsWithin o.threads e
within o xs e ys r = let h = run-at o [] xs e ys r in done-within o xs e.by e.deed h.0 h.1

-- the clocks after the events up to some place in a run
pub low : (o : Opening) (xs ys : List Event) → IsReplicaRun o (xs ++ ys) → IsLow o.threads (listed_after o.threads xs)
low o xs ys r t l p lt w e =
    let k : IsKept o.threads t xs (space_after o.threads xs) ((listed_after o.threads xs).lists t) = are-kept o xs t (run-front o [] xs ys r) lt in
    let c = k.clock l p w e in
    let same = ap (λ s. s.clock t) (space-is o.threads xs) in
    omega (arith, c, same)
