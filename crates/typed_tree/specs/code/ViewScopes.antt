-- What contracts see of a scope.
use Rattle.std.specs.Prelude.{List}
use Rattle.typed_tree.specs.declared.scope.Scope as scopes
use Rattle.typed_tree.specs.Scopes.{Entry}
use Rattle.typed_tree.specs.code.ViewEntries.{view_entries}

-- The names of a scope of the code, the latest first, seen without where they lie in memory.
abbrev pub view_scope : scopes.Scope → List Entry
view_scope x = view_entries x.entries.items
