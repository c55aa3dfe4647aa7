use Rattle.std.proofs.Common.{ℕ, ◌≡◌, ◌∙◌, List, Some, sym, ap}
use Rattle.upc_values.specs.declared.record.Item.{Item}
use Rattle.upc_values.specs.declared.record.End.{End}
use Rattle.upc_values.specs.declared.journal.Strand.{Strand}
use Rattle.upc_values.specs.Strands.{strand_ticks}
use Rattle.upc_task.specs.layer.Recorded.{outcome_of, end_or}
use Rattle.upc_task.proofs.recorder.Recorder.into_strand.Goals as goal

pub returns : goal.returns
returns g c = λ o p f h.
    let k = c.args.self in let e = c.in-Some.end in
    let is : k.«end» ≡ Some e = c.in-Some.is in
    let ended = h.ended e is in let goes = h.goes in
    let counted = strand_ticks e k.items.items (outcome_of f k).ticks in
    let ticks : c.ticks-ticks.result ≡ counted =
    c.ticks-ticks.ensures ended.asked p k.thread k.limits.budget (f k.thread) goes.given goes.follows.means goes.follows.stands
    ∙ ended.counted in
    let S : List Item → ℕ → End → Strand = λ xs n z. record { items = xs; ticks = n; «end» = z } in
    ap (λ xs. S xs c.ticks-ticks.result e) c.from_chunks.ensures ∙ ap (λ n. S k.items.items n e) ticks
    ∙ ap (λ z. S k.items.items (strand_ticks z k.items.items (outcome_of f k).ticks) z) (sym (ap end_or is))
