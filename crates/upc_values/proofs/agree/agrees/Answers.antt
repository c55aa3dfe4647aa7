use Rattle.std.proofs.Common.{◌≡◌, ℕ, All, refl, subst}
use Rattle.upc_values.specs.declared.journal.Strand.{Strand}
use Rattle.upc_values.specs.Agrees.{IsIn, IsOf}
use Rattle.upc_values.proofs.Agreeing.{agrees-each}
use Rattle.upc_values.proofs.Lists.{below-more}
use Rattle.upc_values.proofs.agree.agrees.Goals as goal

pub loop-thread-preserved : goal.loop-thread-preserved
loop-thread-preserved c =
    let history = c.args.journal.now.history in
    let strands = c.as_slice-strands.result.now in
    let s = c.index-strands-thread.result in
    below-more (λ (t : ℕ) (x : Strand). All (λ e. e.thread ≡ t → IsIn x.items e) history) strands c.loop-thread.thread s c.loop-thread-test.true c.index-strands-thread.is c.loop-thread.invariant (c.are_in.ensures.0 c.if-not-are_in.false)

pub returns : goal.returns
returns c =
    let history = c.args.journal.now.history in
    let all : All (IsOf c.args.journal.now.strands) history =
    subst (λ strands. All (IsOf strands) history) c.as_slice-strands.ensures
    (agrees-each c.as_slice-strands.result.now history c.loop-thread.thread (c.are_below.ensures.0 c.if-not-are_below.false) c.loop-thread-test.false c.loop-thread.invariant) in
    (λ _. all, λ _. refl)
