use Rattle.std.proofs.Common.{◌↔◌, IsTrue, sym, subst, ◌∙◌, below_more, arith}
use Rattle.std.proofs.lemmas.Bool.{false≢true}
use Rattle.upc_values.specs.Outcomes.{wanted}
use Rattle.upc_values.specs.Orders.{record_of}
use Rattle.upc_values.specs.Strands.{StallsStand}
use Rattle.upc_verify_parts.specs.Parts.{EndHolds}
use Rattle.upc_verify_judge.specs.declared.meant.Meant.{Meant}
use Rattle.upc_verify_judge.specs.layer.Meanings.{outcome_in}
use Rattle.upc_verify_judge.proofs.Meanings.{member-at}
use Rattle.upc_verify_judge.proofs.ends.broken_ends.Goals as goal

pub end_holds-requires-clause-stalls : goal.end_holds-requires-clause-stalls
end_holds-requires-clause-stalls c =
    let k = c.loop-thread.thread in
    subst (λ (m : Meant). StallsStand (wanted m.«end») (record_of c.args.journal.now k))
    (sym (member-at c.args.meant.now k c.index-meant-thread.result (omega arith) c.index-meant-thread.is))
    (c.requires.stalls k (omega arith))

pub returns-then-not-end_holds : goal.returns-then-not-end_holds
returns-then-not-end_holds c =
    let o = c.args.world.now.0 in
    let j = c.args.journal.now in
    let meant = c.args.meant.now in
    let k = c.loop-thread.thread in
    let here : IsTrue c.end_holds.result ↔ EndHolds o j (outcome_in meant k).«end» k =
    subst (λ (m : Meant). IsTrue c.end_holds.result ↔ EndHolds o j m.«end» k)
    (member-at meant k c.index-meant-thread.result (omega arith) c.index-meant-thread.is) c.end_holds.ensures in
    record {
      within = omega arith;
      fails = λ h. false≢true (sym c.if-not-end_holds.true ∙ here.1 h);
      before = c.loop-thread.invariant;
    }

pub loop-thread-preserved : goal.loop-thread-preserved
loop-thread-preserved c =
    let o = c.args.world.now.0 in
    let j = c.args.journal.now in
    let meant = c.args.meant.now in
    let k = c.loop-thread.thread in
    let here : IsTrue c.end_holds.result ↔ EndHolds o j (outcome_in meant k).«end» k =
    subst (λ (m : Meant). IsTrue c.end_holds.result ↔ EndHolds o j m.«end» k)
    (member-at meant k c.index-meant-thread.result (omega arith) c.index-meant-thread.is) c.end_holds.ensures in
    below_more (λ t. EndHolds o j (outcome_in meant t).«end» t) k c.loop-thread.invariant (here.0 c.if-not-end_holds.false)

pub returns : goal.returns
returns c = λ t lt. c.loop-thread.invariant t (omega arith)
