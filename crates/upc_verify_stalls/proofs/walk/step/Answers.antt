use Rattle.std.proofs.Common.{◌≡◌, ◌∷◌, ◌++◌, [], List, OnOk, sym, subst}
use Rattle.upc_values.specs.declared.journal.Entry.{Entry}
use Rattle.upc_values.specs.Openings.{Opening}
use Rattle.upc_verify_stalls.specs.code.Watches.{AreDue}
use Rattle.upc_verify_stalls.proofs.walk.step.Goals as goal

pub returns-clause-due : goal.returns-clause-due
returns-clause-due c =
    let o = c.args.world.now.0 in
    let front = c.args.world.now.1 in
    let e = c.args.entry.now in
    let points = c.args.points.now in
    let grown : c.goes_on.new.world.1 ≡ front ++ e ∷ [] =
    c.in_ok-goes_on.ensures.grown (c.in_ok-goes_on.ensures.lawful.1 c.requires.lawful) in
    subst (λ (es : List Entry). OnOk c.pass.result (AreDue c.goes_on.new.world.0 points es c.pass.new.watches)) (sym grown)
    (subst (λ (z : Opening). OnOk c.pass.result (AreDue z points (front ++ e ∷ []) c.pass.new.watches)) (sym c.goes_on.ensures.opening)
    (c.pass.ensures o points front c.look_all.ensures))
