use Rattle.std.proofs.Common.{is_some, sym, ap, ◌∙◌}
use Rattle.upc_types.specs.Types.{members_of}
use Rattle.upc_types.specs.View.{view_base}
use Rattle.upc_types.specs.ViewStructs.{view_structs}
use Rattle.typing_rules.specs.Rules.{base_names}
use Rattle.typing_rules_checks.proofs.Finding.{has_is}
use Rattle.typing_rules_checks.proofs.members.names_member.Goals as goal

pub returns-in-Struct : goal.returns-in-Struct
returns-in-Struct c =
    c.is_some.ensures ∙ ap is_some c.member_named.ensures
    ∙ has_is (members_of (view_structs c.args.structs.now) c.in-Struct.number) c.args.name.now
    ∙ sym (ap (λ b. base_names (view_structs c.args.structs.now) (view_base b) c.args.name.now) c.in-Struct.is)
