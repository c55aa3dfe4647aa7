use Rattle.std.proofs.Common.{rules, ◌≡◌, true, false, is_some, refl, sym, ap, ◌∙◌, inl, get_or}
use Rattle.std.specs.Prelude.{not}
use Rattle.std.proofs.lemmas.Bool.{false≢true}
use Rattle.upc_task.specs.layer.Kept.{Worker}
use Rattle.upc_rounds_teams.proofs.Crews.{some-place, worker-at}
use Rattle.upc_rounds_picks.proofs.turns.visit.Goals as goal

pub returns-then-not-is_open-clause-rested : goal.returns-then-not-is_open-clause-rested
returns-then-not-is_open-clause-rested g c = λ d q.
    let ks = c.args.places.now in let at = c.args.at in let p = some-place ks at c.requires.at in
    let no : c.is_open.result ≡ false = search rules in
    let ended : is_some (get_or ks at p).task.worker.«end» ≡ true = c.is_open.ensures.no no p in
    absurd (false≢true (sym (ap is_some (ap (λ (k : Worker). k.«end») (sym (worker-at ks at p d c.requires.at)) ∙ q)) ∙ ended))

pub returns-then-not-is_open-clause-part : goal.returns-then-not-is_open-clause-part
returns-then-not-is_open-clause-part g c = λ d.
    let ks = c.args.places.now in let at = c.args.at in let p = some-place ks at c.requires.at in
    let no : c.is_open.result ≡ false = search rules in
    let ended : is_some (get_or ks at p).task.worker.«end» ≡ true = c.is_open.ensures.no no p in
    inl (ap not (ap (λ (k : Worker). is_some k.«end») (worker-at ks at p d c.requires.at) ∙ ended), refl)
