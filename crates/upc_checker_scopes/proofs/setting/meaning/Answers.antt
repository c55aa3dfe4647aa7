use Rattle.std.proofs.Common.{◌≡◌, sym, ap, ◌∙◌}
use Rattle.typing_rules.specs.Meanings.{Unknown}
use Rattle.typed_tree.specs.Scopes.{find, in_library, or_library, spelling}
use Rattle.typed_tree.specs.layer.ViewEnv.{view_env}
use Rattle.typing_rules.specs.layer.Views.{view_meaning}
use Rattle.upc_checker_scopes.specs.layer.Views.{view_setting}
use Rattle.upc_checker_scopes.proofs.setting.meaning.Goals as goal

pub returns-in-Unknown : goal.returns-in-Unknown
returns-in-Unknown c =
    let text = spelling (view_setting c.args.setting) c.args.name in
    let unknown : find c.args.name (view_env c.args.env.now) ≡ Unknown = sym c.find.ensures ∙ ap view_meaning c.in-Unknown.is in
    c.in_library.ensures ∙ ap in_library c.spelling.ensures ∙ sym (ap (λ m. or_library m text) unknown)
