use Rattle.std.proofs.Common.{◌≡◌, true, arith}
use Rattle.upc_meaning_settings.specs.layer.Settings.{running_seen}
use Rattle.upc_meaning_work.specs.layer.Seen.{is_next}
use Rattle.upc_meaning_work.specs.layer.ViewItems.{flow_seen, view_standing}
use Rattle.upc_meaning_work.proofs.Turning.{cases_end}
use Rattle.upc_meaning_work.specs.layer.Evaluations.{seen}
use Rattle.upc_meaning_statements.proofs.loops.cases.Goals as goal

pub returns-in-None : goal.returns-in-None
returns-in-None c =
    let s = seen c.args.evaluation.now in
    let h : is_next (flow_seen c.args.evaluation.now.flow) ≡ true =
    grind (arith, c.is_next.ensures, c.if-not-is_next.false) in
    cases_end (running_seen c.args.setting) (view_standing c.args.standing) s s c.args.items.now
    c.in-None.ensures.cases h
