-- What contracts see of scopes inside one another.
use Rattle.typed_tree.specs.declared.env.Counts as counts_type
use Rattle.typed_tree.specs.declared.env.Env as env_type
use Rattle.typed_tree.specs.declared.env.Outer as outer_type
use Rattle.typed_tree.specs.declared.env.Detached as detached
use Rattle.typed_tree.specs.Scopes.{Counts, Env, Scope, Outer, NoScope, Within}
use Rattle.typed_tree.specs.code.ViewScopes.{view_scope}

-- How many objects have a number, as the code counts them.
abbrev pub view_counts : counts_type.Counts → Counts
view_counts x = record { privates = x.privates; shareds = x.shareds; locals = x.locals }

-- What is around a scope of the code, seen without where it lies in memory.
abbrev pub view_outer : outer_type.Outer → Outer
view_outer outer_type.NoScope = NoScope
view_outer (outer_type.Within' p level names counts outer) =
    Within (Scope level (view_scope names) (view_counts counts) (view_outer outer))

-- A scope of the code with those around it, seen without where they lie in memory.
abbrev pub view_env : env_type.Env → Env
view_env x = Scope x.level (view_scope x.names) (view_counts x.counts) (view_outer x.outer)

-- A scope with this around it, whatever was around it before.
abbrev pub with_outer : Outer → Env → Env
with_outer outer (Scope level top counts other) = Scope level top counts outer

-- A scope of the code that was kept without what is around it, with this around it.
abbrev pub view_detached : detached.Detached → Outer → Env
view_detached x outer = Scope x.level (view_scope x.names) (view_counts x.counts) outer
