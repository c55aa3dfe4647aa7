use Rattle.std.proofs.Common.{◌≡◌, List, length, sym, refl, ap, subst, ◌∙◌, rules}
use Rattle.std.specs.Prelude.{replicate}
use Rattle.upc_values.specs.History.{EachBelow}
use Rattle.upc_verify_stalls.specs.declared.points.Point.{Point}
use Rattle.upc_verify_stalls.specs.declared.walk.Watch.{Watch}
use Rattle.upc_verify_stalls.specs.layer.Wants.{ArePointsOf}
use Rattle.upc_verify_stalls.proofs.Threads.{all-due, watch-new, broken-hold}
use Rattle.upc_verify_stalls.proofs.journal.broken_stalls.Goals as goal

abbrev none : Watch
none = record { passed = 0; justified = 0 }

pub first_broken-requires-clause-many : goal.first_broken-requires-clause-many
first_broken-requires-clause-many c =
    ap (length {A = List Point}) c.as_slice.ensures.value ∙ c.in_ok-points.ensures.many ∙ c.requires.threads

pub first_broken-requires-clause-below : goal.first_broken-requires-clause-below
first_broken-requires-clause-below c =
    subst (λ n. EachBelow n c.args.journal.now.history) c.requires.threads c.requires.below

pub first_broken-requires-clause-due : goal.first_broken-requires-clause-due
first_broken-requires-clause-due c =
    let points = c.as_slice.result.now in
    let watches = c.as_mut_slice.result.now in
    let are : ArePointsOf c.args.journal.now c.args.wants.now points =
    subst (ArePointsOf c.args.journal.now c.args.wants.now) (sym c.as_slice.ensures.value) c.in_ok-points.ensures in
    let fresh : c.in_ok-watches.watches.items ≡ replicate c.len.result none =
    c.in_ok-watches.ensures.items_if_clones_equal (λ y h. search rules) in
    let many : c.len.result ≡ length points = c.len.ensures ∙ sym c.as_slice.ensures.len in
    let is : watches ≡ replicate (length points) none =
    c.as_mut_slice.ensures.value ∙ fresh ∙ ap (λ n. replicate {A = Watch} n none) many in
    all-due c.args.world.now.0 c.args.journal.now c.args.wants.now points watches
    (c.as_mut_slice.ensures.len ∙ c.in_ok-watches.ensures.len ∙ many)
    (watch-new (length points) watches none is refl refl) are c.requires.stalls

pub returns : goal.returns
returns c =
    let points = c.as_slice.result.now in
    let are : ArePointsOf c.args.journal.now c.args.wants.now points =
    subst (ArePointsOf c.args.journal.now c.args.wants.now) (sym c.as_slice.ensures.value) c.in_ok-points.ensures in
    broken-hold c.args.world.now.0 c.args.journal.now c.args.wants.now points c.first_broken.result c.requires.threads are c.first_broken.ensures
