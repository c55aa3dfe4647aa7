use Rattle.std.proofs.Common.{ap, ◌∙◌}
use Rattle.typed_tree.specs.Scopes.{in_library, is_known}
use Rattle.upc_checker_scopes.proofs.setting.is_taken.Goals as goal

pub returns : goal.returns
returns c = c.is_known.ensures ∙ ap is_known (c.in_library.ensures ∙ ap in_library c.spelling.ensures)
