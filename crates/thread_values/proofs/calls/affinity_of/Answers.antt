use Rattle.std.proofs.Common.{rules, ◌≡◌, ap, sym, ◌∙◌, Some, Ok, unsigned_abs}
use Rattle.upc_values.specs.declared.scalar.Value.{Value}
use Rattle.thread_steps.specs.Values.{number_of}
use Rattle.thread_values.specs.layer.Results.{given_at_once}
use Rattle.thread_values.proofs.Sizes.{affinity-of_others, affinity-read}
use Rattle.thread_values.proofs.calls.affinity_of.Goals as goal

pub returns-then-not-are_integers-clause-value : goal.returns-then-not-are_integers-clause-value
returns-then-not-are_integers-clause-value c shapes me private shape =
    ap (λ (v : Value). Some (Ok v)) c.number.ensures
    ∙ sym (ap given_at_once (affinity-of_others c.args.threads shapes me private shape c.args.total.now c.args.block.now
    c.args.thread.now (sym c.are_integers.ensures ∙ c.if-not-are_integers.true)))

pub returns-clause-value : goal.returns-clause-value
returns-clause-value c shapes me private shape =
    let total : c.unsigned_abs.result ≡ unsigned_abs (number_of c.args.total.now) = search rules in
    let block : c.unsigned_abs-2.result ≡ unsigned_abs (number_of c.args.block.now) = search rules in
    let thread : c.unsigned_abs-3.result ≡ unsigned_abs (number_of c.args.thread.now) = search rules in
    c.piece.ensures.value shapes me private
    ∙ ap given_at_once (affinity-read c.args.threads shapes me private shape c.args.total.now c.args.block.now
    c.args.thread.now _ _ _ (sym c.are_integers.ensures ∙ c.if-not-are_integers.false) total block thread)
