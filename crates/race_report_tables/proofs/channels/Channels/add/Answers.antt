use Rattle.std.proofs.Common.{◌≡◌, ◌+◌, [], ◌∷◌, ◌++◌, length, slice_index, sym, ap, ◌∙◌, subst, arith}
use Rattle.std.proofs.lemmas.Grind.{common_steps}
use Rattle.std.proofs.lemmas.List.{length_push}
use Rattle.race_report_tables.specs.layer.Places.{place_of, member_at, ArePlaced}
use Rattle.race_report_tables.proofs.Keys.{placed-more, member-opened}
use Rattle.race_report_tables.proofs.channels.Channels.add.Goals as goal

pub returns-clause-apart : goal.returns-clause-apart
returns-clause-apart c =
    let rows = c.args.self.now.rows.items in
    let n = c.len-place.result in
    let e : n ≡ length rows = grind (arith, common_steps, c.len-place.ensures) in
    let pushed : c.push.new.self.items ≡ rows ++ [] ∷ [] =
    c.in_ok-push.ensures.items ∙ ap (λ z. rows ++ z ∷ []) c.new.ensures in
    let many : n + 1 ≡ length c.push.new.self.items =
    ap (λ z. z + 1) e ∙ sym (length_push rows []) ∙ sym (ap length pushed) in
    subst (ArePlaced c.put.new.self) many
    (placed-more c.args.self.now.places c.put.new.self c.args.channel n
    (subst (ArePlaced c.args.self.now.places) (sym e) c.requires.apart) c.in_ok-put.ensures)

pub returns-clause-same : goal.returns-clause-same
returns-clause-same c = λ k u.
    let rows = c.args.self.now.rows.items in
    let n = c.len-place.result in
    let e : n ≡ length rows = grind (arith, common_steps, c.len-place.ensures) in
    let pushed : c.push.new.self.items ≡ rows ++ [] ∷ [] =
    c.in_ok-push.ensures.items ∙ ap (λ z. rows ++ z ∷ []) c.new.ensures in
    ap (λ z. slice_index (member_at [] z (place_of c.put.new.self k)) u) pushed
    ∙ ap (λ z. slice_index z u)
    (member-opened c.args.self.now.places c.put.new.self c.args.channel n
    (subst (ArePlaced c.args.self.now.places) (sym e) c.requires.apart) c.in_ok-put.ensures [] rows (sym e)
    c.requires.absent k)
