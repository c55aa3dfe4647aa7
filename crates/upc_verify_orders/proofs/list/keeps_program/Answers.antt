use Rattle.std.proofs.Common.{◌≡◌, ◌∙◌, ◌+◌, ◌<◌, ◌≤◌, ap, sym, subst, length, ℕ, false, true, List, get_or, set, drop, arith, refl, [], ◌∷◌}
use Rattle.std.proofs.lemmas.Bool.{false≢true}
use Rattle.std.proofs.lemmas.List.{length-set, get_or_default}
use Rattle.upc_values.proofs.Lists.{each-at}
use Rattle.upc_values.specs.Lists.{Pairwise}
use Rattle.upc_values.specs.declared.order.Op.{Op}
use Rattle.upc_verify_orders.specs.code.Tables.{InThread}
use Rattle.upc_verify_orders.proofs.Lists.{Keeps, list-step, list-stops, list-operations}
use Rattle.upc_verify_orders.proofs.list.keeps_program.Goals as goal

abbrev none : Op
none = record { thread = 0; index = 0; write = false }

held : (last : List ℕ) (t v : ℕ) → t < length last → v ≡ get_or last t v → v ≡ get_or last t 0
held last t v lt e = e ∙ get_or_default last t v 0 lt

done : (strict : List Op) (i : ℕ) → length strict ≤ i → drop i strict ≡ []
done [] ℕ.zero h = refl
done [] (ℕ.suc i) h = refl
done (x ∷ xs) ℕ.zero h = absurd (omega arith)
done (x ∷ xs) (ℕ.suc i) h = done xs i (omega arith)

pub returns-then-rank-index-clause-operations : goal.returns-then-rank-index-clause-operations
returns-then-rank-index-clause-operations c = λ s e.
    list-operations false c.args.strict.now s e (
      λ f. absurd (false≢true f),
      λ p. absurd (list-stops c.loop-name.behind.items c.args.strict.now (Pairwise InThread c.args.strict.now) c.loop-name.name-index none c.loop-name-test.true
          (omega (
            arith,
            c.if-rank-index.true,
            c.rank_of-rank.ensures.rank,
            held c.loop-name.behind.items (get_or c.args.strict.now c.loop-name.name-index none).thread c.index.result.now
                (subst (λ (z : ℕ). (get_or c.args.strict.now c.loop-name.name-index none).thread < z) (sym c.loop-name.invariant.many) (each-at (λ n. n.thread < c.args.threads) c.args.strict.now c.loop-name.name-index none c.requires c.loop-name-test.true)) c.index.ensures,
          ))
          c.loop-name.invariant.keeps p),
    )

pub loop-name-preserved : goal.loop-name-preserved
loop-name-preserved c =
    let strict = c.args.strict.now in
    let i = c.loop-name.name-index in
    let last = c.loop-name.behind.items in
    let o = get_or strict i none in
    record {
      many = length-set last o.thread (c.rank_of-rank.result + 1) ∙ c.loop-name.invariant.many;
      keeps =
          list-step last (set last o.thread (c.rank_of-rank.result + 1)) strict (Pairwise InThread strict) i none c.loop-name-test.true
          (subst (λ (z : ℕ). o.thread < z) (sym c.loop-name.invariant.many) (each-at (λ n. n.thread < c.args.threads) strict i none c.requires c.loop-name-test.true))
          (ap (λ r. set last o.thread (r + 1)) c.rank_of-rank.ensures.rank)
          (omega (
            arith,
            c.if-rank-index.false,
            c.rank_of-rank.ensures.rank,
            held last o.thread c.index.result.now
                (subst (λ (z : ℕ). o.thread < z) (sym c.loop-name.invariant.many) (each-at (λ n. n.thread < c.args.threads) strict i none c.requires c.loop-name-test.true)) c.index.ensures,
          ))
          c.loop-name.invariant.keeps;
    }

pub returns-clause-operations : goal.returns-clause-operations
returns-clause-operations c = λ s e.
    list-operations true c.args.strict.now s e (
      λ t. c.loop-name.invariant.keeps.0 (subst (Keeps c.loop-name.behind.items) (sym (done c.args.strict.now c.loop-name.name-index c.loop-name-test.false)) (tt, tt)),
      λ p. refl,
    )
