use Rattle.std.proofs.Common.{◌≡◌, get_or, sym, ap, subst, ◌∙◌}
use Rattle.std.proofs.lemmas.List.{get_or_default}
use Rattle.upc_values.specs.declared.journal.Strand.{Strand}
use Rattle.upc_values.specs.Orders.{no_strand, record_of}
use Rattle.upc_values.specs.Outcomes.{wanted}
use Rattle.upc_values.specs.Strands.{StallsStand}
use Rattle.upc_verify_history.proofs.Deadlocks.{own-waits}
use Rattle.upc_verify_history.proofs.ends.end_holds.Goals as goal

pub has_shared_end-requires-clause-waits : goal.has_shared_end-requires-clause-waits
has_shared_end-requires-clause-waits c =
    let s = c.index-as_slice-thread.result in
    let j = c.args.journal.now in
    let within = c.requires.within in
    let is : s.items ≡ record_of j c.args.thread =
    ap (λ (x : Strand). x.items) (c.index-as_slice-thread.is ∙ ap (λ xs. get_or xs c.args.thread s) c.as_slice.ensures
    ∙ get_or_default j.strands c.args.thread s no_strand within) in
    own-waits j.actions c.args.told.now s.items s.«end»
    (c.has_own_end.ensures.0 c.if-not-has_own_end.false)
    (subst (StallsStand (wanted c.args.told.now)) (sym is) c.requires.stalls)
