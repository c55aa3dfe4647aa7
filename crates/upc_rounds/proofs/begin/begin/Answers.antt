use Rattle.std.proofs.Common.{◌≡◌, map, sym, subst, ap, ◌∙◌}
use Rattle.upc_values.specs.Openings.{Opening, IsOpening}
use Rattle.upc_rounds.specs.layer.Openings.{opening_of}
use Rattle.upc_rounds_base.proofs.Openings.{kept_opening, opening_with, opens}
use Rattle.upc_rounds.proofs.begin.begin.Goals as goal

pub make-requires : goal.make-requires
make-requires c =
    let o : Opening = opening_of c.args.program.now in
    let same : opening_with c.args.threads c.as_slice.result.now c.initials.result.now c.shapes.result.now ≡ o =
    opens _ _ _ _ _ _ _ _ (sym c.requires)
    (c.as_slice.ensures.value ∙ c.in_ok-declared.ensures ∙ ap (map (λ x. x.object)) c.shared_objects.ensures)
    c.initials.ensures c.shapes.ensures in
    subst IsOpening (sym same) (kept_opening o c.args.program.now.opening)
