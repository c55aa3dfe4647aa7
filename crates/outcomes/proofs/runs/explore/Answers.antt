use Rattle.std.proofs.Common.{◌≡◌, ◌∙◌, ◌+◌, ◌++◌, [], ◌∷◌, length, map, take, sym, ap, subst, arith}
use Rattle.std.proofs.lemmas.List.{length-map, length-take-le, map_more, take_all}
use Rattle.typed_tree.specs.ViewProgram.{view_program}
use Rattle.program_runs.specs.Picked.{IsRunByPicks}
use Rattle.outcomes.specs.Tally.{listed}
use Rattle.outcomes.specs.Found.{IsFound}
use Rattle.outcomes.specs.code.Added.{added}
use Rattle.outcomes.proofs.Finding.{found-none, found-more, found-few, row_of}
use Rattle.outcomes.proofs.Prefixes.{picks_in}
use Rattle.outcomes.proofs.runs.explore.Goals as goal

pub loop-picks-init : goal.loop-picks-init
loop-picks-init g c =
    let program = view_program c.args.program.now in
    subst (λ rows. IsFound program c.args.limits [] (map listed rows)) (sym c.new-rows.ensures.items)
    (found-none program c.args.limits)

pub add-requires : goal.add-requires
add-requires g c =
    let program = view_program c.args.program.now in
    let lists = c.args.schedules.now in
    let at = c.loop-picks.picks-index in
    let before = take at lists in
    let few = c.requires.few in
    let some : length before ≡ at = length-take-le at lists c.loop-picks.auto.picks-index-end in
    let many : length (picks_in before) ≡ length before = length-map before (λ v. v.items) in
    found-few program c.args.limits (picks_in before) c.loop-picks.rows.items c.loop-picks.invariant (omega arith)

pub loop-picks-preserved : goal.loop-picks-preserved
loop-picks-preserved g c =
    let program = view_program c.args.program.now in
    let limits = c.args.limits in
    let lists = c.args.schedules.now in
    let at = c.loop-picks.picks-index in
    let before = picks_in (take at lists) in
    let picks = c.picks-item.result.items in
    let j = c.in_ok-journal.journal in
    let old = map listed c.loop-picks.rows.items in
    let run : IsRunByPicks program limits picks j =
    subst (λ ps. IsRunByPicks program limits ps j) c.as_slice.ensures.value c.in_ok-journal.ensures.ran in
    let more = found-more program limits before old picks j c.loop-picks.invariant run in
    let rows : added (row_of picks j) old ≡ map listed c.add.new.rows.items =
    sym
    (c.in_ok-add.ensures
    ∙ ap (λ r. added r old) (c.in_ok-row.ensures ∙ ap (λ ps. row_of ps j) c.as_slice-in-loop-picks.ensures.value)) in
    let now : before ++ picks ∷ [] ≡ picks_in (take (at + 1) lists) =
    ap (λ v. before ++ v.items ∷ []) c.picks-item.is
    ∙ sym (map_more (λ v. v.items) lists at c.picks-item.result c.loop-picks-test.true) in
    subst (λ ls. IsFound program limits ls (map listed c.add.new.rows.items)) now
    (subst (IsFound program limits (before ++ picks ∷ [])) rows more)

pub returns : goal.returns
returns g c =
    let program = view_program c.args.program.now in
    subst (λ ls. IsFound program c.args.limits (picks_in ls) (map listed c.loop-picks.rows.items))
    (take_all c.loop-picks.picks-index c.args.schedules.now c.loop-picks-test.false)
    c.loop-picks.invariant
