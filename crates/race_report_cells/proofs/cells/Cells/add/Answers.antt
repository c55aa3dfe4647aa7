use Rattle.std.proofs.Common.{◌≡◌, ◌+◌, [], ◌∷◌, ◌++◌, length, sym, ap, ◌∙◌, subst, arith}
use Rattle.std.proofs.lemmas.Grind.{common_steps}
use Rattle.std.proofs.lemmas.List.{length_push}
use Rattle.race_report_clocks.specs.declared.channel.Channel.TheVariants as over
use Rattle.race_report_tables.specs.layer.Places.{place_of, member_at, ArePlaced}
use Rattle.race_report_tables.proofs.Keys.{placed-more, member-opened}
use Rattle.race_report_cells.specs.layer.Cells.{fresh}
use Rattle.race_report_cells.proofs.cells.Cells.add.Goals as goal

pub returns-clause-placed : goal.returns-clause-placed
returns-clause-placed c =
    let cells = c.args.self.now.cells.items in
    let n = c.len-place.result in
    let e : n ≡ length cells = grind (arith, common_steps, c.len-place.ensures) in
    let pushed : c.push.new.self.items ≡ cells ++ fresh ∷ [] =
    c.in_ok-push.ensures.items ∙ ap (λ z. cells ++ z ∷ []) c.new.ensures in
    let many : n + 1 ≡ length c.push.new.self.items =
    ap (λ z. z + 1) e ∙ sym (length_push cells fresh) ∙ sym (ap length pushed) in
    subst (ArePlaced c.put.new.self) many
    (placed-more c.args.self.now.places c.put.new.self (over.Cell c.args.loc) n
    (subst (ArePlaced c.args.self.now.places) (sym e) c.requires.placed) c.in_ok-put.ensures)

pub returns-clause-same : goal.returns-clause-same
returns-clause-same c = λ k.
    let cells = c.args.self.now.cells.items in
    let n = c.len-place.result in
    let e : n ≡ length cells = grind (arith, common_steps, c.len-place.ensures) in
    let pushed : c.push.new.self.items ≡ cells ++ fresh ∷ [] =
    c.in_ok-push.ensures.items ∙ ap (λ z. cells ++ z ∷ []) c.new.ensures in
    ap (λ z. member_at fresh z (place_of c.put.new.self (over.Cell k))) pushed
    ∙ member-opened c.args.self.now.places c.put.new.self (over.Cell c.args.loc) n
    (subst (ArePlaced c.args.self.now.places) (sym e) c.requires.placed) c.in_ok-put.ensures fresh cells (sym e)
    c.requires.absent (over.Cell k)
