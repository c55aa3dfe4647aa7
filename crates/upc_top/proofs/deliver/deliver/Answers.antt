use Rattle.std.proofs.Common.{◌∙◌, ap, sym}
use Rattle.upc_top.specs.Verdicts.{text_of, line_of}
use Rattle.upc_top.proofs.Wanting.{no-text, no-memory-line}
use Rattle.upc_top.proofs.deliver.deliver.Goals as goal

pub send-status-requires-in_default-clause-text : goal.send-status-requires-in_default-clause-text
send-status-requires-in_default-clause-text g c =
    no-text c.args.verdict ∙ ap text_of (sym c.without_memory-verdict.ensures)

pub send-status-requires-in_default-clause-line : goal.send-status-requires-in_default-clause-line
send-status-requires-in_default-clause-line g c =
    no-memory-line c.args.verdict ∙ ap line_of (sym c.without_memory-verdict.ensures)
