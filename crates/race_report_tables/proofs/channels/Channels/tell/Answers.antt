use Rattle.std.proofs.Common.{◌≡◌, [], Some, max, slice_index, sym, ap, ◌∙◌}
use Rattle.std.proofs.lemmas.List.{get_or_read}
use Rattle.race_report_clocks.specs.layer.Channels.{same_channel}
use Rattle.race_report_clocks.proofs.Holding.{channel-is}
use Rattle.race_report_tables.specs.layer.Places.{place_of, member_at}
use Rattle.race_report_tables.specs.layer.Tables.{clock_over}
use Rattle.race_report_tables.proofs.Keys.{member-set}
use Rattle.race_report_tables.proofs.Stepping.{told}
use Rattle.race_report_tables.proofs.channels.Channels.tell.Goals as goal

pub returns-clause-told : goal.returns-clause-told
returns-clause-told c = λ k u.
    let p = c.open.new.self.places in
    let xs = c.open.new.self.rows.items in
    let i = c.in_ok-place.place in
    let y = c.join.new.self in
    let row = c.args.row.now in
    let channel = c.args.channel in
    let old = clock_over c.args.self.now k u in
    let same = c.in_ok-place.ensures.same k u in
    let within = c.in_ok-place.ensures.apart.within channel i c.in_ok-place.ensures.place in
    ap (λ z. slice_index z u) (member-set [] p xs channel i y c.in_ok-place.ensures.apart c.in_ok-place.ensures.place k)
    ∙ told (same_channel channel k) y (member_at [] xs (place_of p k)) row u old
    (λ t.
    let here : place_of p k ≡ Some i = ap (place_of p) (sym (channel-is channel k t)) ∙ c.in_ok-place.ensures.place in
    c.in_ok-join.ensures u
    ∙ ap (λ z. max (slice_index z u) (slice_index row u)) (get_or_read xs i c.index_mut.result.now within c.index_mut.ensures.value [])
    ∙ ap (λ z. max z (slice_index row u)) (sym (ap (λ o. slice_index (member_at [] xs o) u) here) ∙ same))
    same
