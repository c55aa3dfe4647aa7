use Rattle.std.proofs.Common.{◌≡◌, map, reverse, take}
use Rattle.typed_tree.specs.Scopes as pure
use Rattle.upc_checker_scopes.specs.code.ViewOwnTags.{view_tag}
use Rattle.upc_checker_scopes.specs.layer.ViewTags.{view_own_tags}
use Rattle.upc_types.proofs.PlacesOfNumbers.{IsAt, up_to}
use Rattle.upc_checker_scopes.proofs.own_tags.OwnTags.here.Given as goal

-- what stands up to the place decides
abbrev pub invariant-loop-at : goal.invariant-loop-at
invariant-loop-at l =
    IsAt l.self.places.names.items l.name l.at × (pure.tag_here l.name l.level (view_own_tags l.self) ≡ pure.tag_here l.name l.level (reverse (take (up_to l.at) (map view_tag l.self.list.items))))

abbrev pub decreases-loop-at : goal.decreases-loop-at
decreases-loop-at l = up_to l.at
