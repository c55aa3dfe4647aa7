use Rattle.std.proofs.Common.{◌≡◌, ◌<◌, refl, sym, subst, ◌∙◌}
use Rattle.upc_values.specs.Formed.{IsWellFormed}
use Rattle.upc_values.specs.Openings.{Opening}
use Rattle.upc_values.proofs.Replies.{formed-grow}
use Rattle.turn_cell.specs.layer.Seats.{number_of, seen_of, started}
use Rattle.upc_task.specs.layer.Kept.{IsKept}
use Rattle.upc_task.specs.layer.Seated.{IsLawful}
use Rattle.upc_task.proofs.Seen.{kept-entered, lawful-of}
use Rattle.upc_task.proofs.seated.Task.would_go.Goals as goal

pub is_legal-goes-requires-clause-below : goal.is_legal-goes-requires-clause-below
is_legal-goes-requires-clause-below g c =
    let o : Opening = (started c.args.cell.now).0 in
    let opens = c.enter-turn.ensures.opening o c.requires.opening in
    subst (λ z. c.args.thread < z.threads) (sym opens) c.requires.below

pub is_legal-goes-requires-clause-formed : goal.is_legal-goes-requires-clause-formed
is_legal-goes-requires-clause-formed g c =
    let o : Opening = (started c.args.cell.now).0 in let e = c.enter-turn.ensures in
    let opens = e.opening o c.requires.opening in
    let w = c.enter-turn.result.world in let a = c.args.action.now in
    subst (λ z. IsWellFormed z w.1 a) (sym opens)
    (subst (λ l. IsWellFormed o l a) e.begins.0.1
    (formed-grow o (seen_of c.args.self.now.seat) e.begins.0.0 a c.requires.formed))

pub returns-clause-kept : goal.returns-clause-kept
returns-clause-kept g c = λ p f h.
    let k = c.args.self.now in let e = c.enter-turn.ensures in let l = c.leave.ensures in
    let o : Opening = (started c.args.cell.now).0 in let w = c.enter-turn.result.world in
    let law = c.keeps.ensures in
    let opens : w.0 ≡ o = e.opening o h.opened in
    let now : IsKept o p f w.1 k.worker =
    kept-entered o o p f (number_of k.seat) (seen_of k.seat) w.1 k.worker e.begins.0
    (sym e.own.1 ∙ e.own.0 ∙ k.free.0.2) (sym h.number) refl h.kept in
    record {
      cell = l.free.1.0 ∙ e.turn.1.0 ∙ h.cell;
      opened = l.free.1.2 ∙ e.turn.1.2 ∙ h.opened;
      number = l.free.1.1 ∙ e.turn.1.1 ∙ h.number;
      lawful = subst (IsLawful o) (sym l.seen) (lawful-of w.0 o w.1 opens law.opening law.legal law.formed law.below);
      kept = subst (λ q. IsKept o p f q k.worker) (sym l.seen) now;
    }
