-- What contracts see of tags.
use Rattle.std.specs.Prelude.{List, [], ◌++◌}
use Rattle.typed_tree.specs.Scopes.{Tag}
use Rattle.upc_checker_scopes.specs.declared.own_tags.OwnTags as own_tags_type
use Rattle.upc_checker_scopes.specs.declared.tags.Tags as tags_type
use Rattle.upc_checker_scopes.specs.declared.tags.Around as around_type
use Rattle.upc_checker_scopes.specs.code.ViewOwnTags.{view_own}

-- The tags of a part of the source itself that the code holds, the latest first.
abbrev pub view_own_tags : own_tags_type.OwnTags → List Tag
view_own_tags x = view_own x.list.items

-- The tags of the parts of the source around one, the latest first.
abbrev pub view_around : around_type.Around → List Tag
view_around around_type.Nothing = []
view_around (around_type.Within' p own outer) = view_own_tags own ++ view_around outer

-- All tags in scope that the code holds, the latest first (C99 6.2.1).
abbrev pub view_tags : tags_type.Tags → List Tag
view_tags x = view_own_tags x.own ++ view_around x.outer
