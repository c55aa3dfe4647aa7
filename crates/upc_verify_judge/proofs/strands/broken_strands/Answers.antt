use Rattle.std.proofs.Common.{◌↔◌, IsTrue, sym, ◌∙◌, below_more, arith}
use Rattle.std.proofs.lemmas.Bool.{false≢true}
use Rattle.upc_values.specs.Strands.{Conforms}
use Rattle.upc_verify_parts.specs.Parts.{strand_of}
use Rattle.upc_verify_judge.specs.layer.Meanings.{outcome_in}
use Rattle.upc_verify_judge.proofs.Meanings.{conforms-in}
use Rattle.upc_verify_judge.proofs.strands.broken_strands.Goals as goal

pub returns-then-not-conforms : goal.returns-then-not-conforms
returns-then-not-conforms c =
    let j = c.args.journal.now in
    let meant = c.args.meant.now in
    let k = c.loop-thread.thread in
    let here : IsTrue c.conforms.result ↔ Conforms (outcome_in meant k) (strand_of j k) =
    conforms-in meant j.strands c.as_slice-strands.result.now k _ _ _ _ (omega arith) (omega arith) c.index-meant-thread.is
    c.as_slice-strands.ensures c.index-strands-thread.is c.as_slice.ensures c.conforms.ensures in
    record {
      within = omega arith;
      fails = λ h. false≢true (sym c.if-not-conforms.true ∙ here.1 h);
      before = c.loop-thread.invariant;
    }

pub loop-thread-preserved : goal.loop-thread-preserved
loop-thread-preserved c =
    let j = c.args.journal.now in
    let meant = c.args.meant.now in
    let k = c.loop-thread.thread in
    let here : IsTrue c.conforms.result ↔ Conforms (outcome_in meant k) (strand_of j k) =
    conforms-in meant j.strands c.as_slice-strands.result.now k _ _ _ _ (omega arith) (omega arith) c.index-meant-thread.is
    c.as_slice-strands.ensures c.index-strands-thread.is c.as_slice.ensures c.conforms.ensures in
    below_more (λ t. Conforms (outcome_in meant t) (strand_of j t)) k c.loop-thread.invariant (here.0 c.if-not-conforms.false)

pub returns : goal.returns
returns c = λ t lt. c.loop-thread.invariant t (omega arith)
