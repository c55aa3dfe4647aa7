-- Parts of the walk over a definition, as the code walks over them (C99 6.9.1).
use Rattle.std.specs.Prelude.{ℕ, Bool}
use Rattle.upc_text.specs.declared.place.Place.{Place}
use Rattle.upc_tree.specs.declared.span.Name.{Name}
use Rattle.upc_tree.specs.Statement.{Compound}
use Rattle.typing_rules.specs.Meanings.{Signature}
use Rattle.typing_rules.specs.Nodes as nodes
use Rattle.typed_tree.specs.Scopes.{Setting, Env, State, differs}
use Rattle.upc_checker_scopes.specs.Known.{definition_again}
use Rattle.upc_checker_scopes.specs.Walk.{Walk, give, ◌>>=◌, ◌>>◌, judge}
use Rattle.upc_checker_statements.specs.Statements.{walk_block}
use Rattle.upc_checker.specs.Units.{Made, Earlier, body_around, with_definition}

-- What is known of a function before its definition, by all that was declared so far (C99 6.9.1).
abbrev pub earlier_in : Setting → Env → State → ℕ → Signature → Earlier
earlier_in ξ Γ s name signature =
    record { again = definition_again ξ Γ s name; differs = differs name signature s.functions }

-- The walk over a definition whose function and parameters are in scope: its body, and its own node (C99 6.9.1).
abbrev pub body_part : Setting → Bool → Made → Place → Bool → Name → Signature → Earlier → Compound → Env → Walk Made
body_part ξ strict before place forms name signature was body Γ = do
  x ← walk_block ξ Γ (body_around signature.result) strict body
  judge ξ place (nodes.Defines was.again was.differs forms signature)
  give (with_definition ξ before place name.number signature x)
