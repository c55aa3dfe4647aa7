use Rattle.std.proofs.Common.{◌≡◌, ℕ, ◌<◌, [], cond, max, ap, ◌∙◌, slice_index, arith}
use Rattle.std.proofs.lemmas.List.{get_or_read}
use Rattle.race_report_clocks.specs.declared.channel.Channel.{Channel}
use Rattle.race_report_clocks.specs.layer.Channels.{telling, hearing, telling_by, hearing_by}
use Rattle.race_report_clocks.specs.layer.Clocks.{is_over}
use Rattle.race_report_tables.specs.layer.Tables.{clock_at, clock_over}
use Rattle.race_report_tables.proofs.Stepping.{notified-more, waited-more, threads-more, channels-more}
use Rattle.race_report_tables.proofs.tables.Tables.step.Goals as goal

pub returns-clause-many : goal.returns-clause-many
returns-clause-many c = c.in_ok-raise_at.ensures.many ∙ c.in_ok-hear_at.ensures.many

pub returns-clause-clocks : goal.returns-clause-clocks
returns-clause-clocks c = λ n before h.
    let s = c.args.self.now in
    let e = c.args.entry.now in
    let rows = c.hear_at.new.rows.items in
    let more = c.raise_at.new.rows.items in
    let ready = c.requires.known in
    let size = h.many in
    let lt : e.thread < n = omega arith in
    let many_first = c.in_ok-hear_at.ensures.many in
    let many_second = c.in_ok-raise_at.ensures.many in
    let hears : c.hearing-heard.result ≡ hearing before e =
    c.hearing-heard.ensures
    ∙ ap (λ z. hearing_by z e.action e.reply)
    (get_or_read s.waited.items e.thread c.index.result.now c.requires.waited c.index.ensures 0 ∙ h.waited e.thread lt) in
    let tells : c.telling-told.result ≡ telling before e =
    c.telling-told.ensures
    ∙ ap (λ z. telling_by z e.action e.reply)
    (get_or_read s.notified.items e.thread c.index-2.result.now c.requires.notified c.index-2.ensures 0 ∙ h.notified e.thread lt) in
    let third : (k : Channel) (u : ℕ) → clock_over c.tell_over.new.channels k u ≡ max (clock_over s.channels k u) (cond (is_over k c.telling-told.result) (clock_at more e.thread u) 0) =
    λ k u.
    c.in_ok-tell_over.ensures.told k u
    ∙ ap (λ z. max (clock_over s.channels k u) (cond (is_over k c.telling-told.result) (slice_index z u) 0))
    (get_or_read more e.thread c.index-3.result.now (omega arith) c.index-3.ensures []) in
    record {
      many = many_second ∙ many_first ∙ h.many;
      many_notified = c.in_ok-count.ensures.many ∙ h.many_notified;
      many_waited = c.in_ok-count-2.ensures.many ∙ h.many_waited;
      apart = c.in_ok-tell_over.ensures.apart;
      threads = threads-more n before e s h rows more c.hearing-heard.result c.telling-told.result hears tells
          c.in_ok-hear_at.ensures.heard c.in_ok-raise_at.ensures.raised lt;
      channels = channels-more n before e s h rows more c.hearing-heard.result c.telling-told.result hears tells
          c.in_ok-hear_at.ensures.heard c.in_ok-raise_at.ensures.raised lt c.tell_over.new.channels third;
      notified = λ t l.
          notified-more t before e (slice_index c.count.new.numbers.items t) (slice_index s.notified.items t) c.is_notify.result
          (c.in_ok-count.ensures.more t) c.is_notify.ensures (h.notified t l);
      waited = λ t l.
          waited-more t before e (slice_index c.count-2.new.numbers.items t) (slice_index s.waited.items t) c.is_wait.result
          (c.in_ok-count-2.ensures.more t) c.is_wait.ensures (h.waited t l);
    }
