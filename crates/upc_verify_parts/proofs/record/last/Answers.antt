use Rattle.std.proofs.Common.{◌-◌, slice_get, sym, ap, ◌∙◌}
use Rattle.upc_verify_parts.proofs.Lasting.{last-get}
use Rattle.upc_verify_parts.proofs.record.last.Goals as goal

pub returns-else-count-eq0 : goal.returns-else-count-eq0
returns-else-count-eq0 c =
    c.get.ensures ∙ ap (λ n. slice_get c.args.items.now (n - 1)) c.len-count.ensures ∙ sym (last-get c.args.items.now)
