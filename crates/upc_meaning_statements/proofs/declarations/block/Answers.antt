use Rattle.typed_tree.specs.ViewStatements.{view_items}
use Rattle.upc_meaning_settings.specs.layer.Settings.{running_seen}
use Rattle.upc_meaning_work.specs.layer.ViewItems.{view_standing}
use Rattle.upc_meaning_work.specs.layer.Evaluations.{seen}
use Rattle.upc_meaning_statements.proofs.Heads.{block_enters}
use Rattle.upc_meaning_statements.proofs.declarations.block.Goals as goal

pub returns : goal.returns
returns c =
    block_enters (running_seen c.args.setting) (view_standing c.args.standing) (seen c.args.evaluation.now) c.args.place
    c.args.strict (view_items c.args.items.now) c.enter_block.new.evaluation c.enter_block.result c.enter_block.ensures
