use Rattle.std.proofs.Common.{rules, ◌≡◌, true, false, is_some, refl, sym, ap, subst, ◌∙◌, get_or}
use Rattle.std.specs.Prelude.{not}
use Rattle.std.proofs.lemmas.Bool.{false≢true}
use Rattle.std.proofs.lemmas.List.{get_or_default}
use Rattle.upc_values.specs.Records.{last_item}
use Rattle.upc_values.specs.Ends.{is_pause}
use Rattle.replica_space_tasks.specs.declared.worker.ReplicaWorker.{ReplicaWorker}
use Rattle.replica_space_runs.proofs.Going.{rests-at}
use Rattle.replica_space_runs.proofs.turns.visit.Goals as goal

pub returns-then-not-is_open-clause-rested : goal.returns-then-not-is_open-clause-rested
returns-then-not-is_open-clause-rested g c = λ d q.
    let no : c.is_open.result ≡ false = search rules in
    absurd (false≢true (sym no ∙ c.is_open.ensures d ∙ ap (λ e. not (is_some e)) q))
