-- What contracts see of the tags of a part of the source itself.
use Rattle.std.specs.Prelude.{ℕ, List, map, reverse}
use Rattle.typed_tree.specs.Scopes.{Tag}
use Rattle.upc_checker_scopes.specs.declared.own_tags.Tag as tag_type

-- The tag that the code holds.
abbrev pub view_tag : tag_type.Tag → Tag
view_tag x = record { name = x.name; level = x.level; number = x.number }

-- The tags that the code holds, the latest first.
abbrev pub view_own : List tag_type.Tag → List Tag
view_own xs = reverse (map view_tag xs)

-- The names of tags that the code holds, by number and in order.
abbrev pub names_of : List tag_type.Tag → List ℕ
names_of xs = map (λ (x : Tag). x.name) (map view_tag xs)
