-- What is kept with each struct.
use Rattle.std.specs.Prelude.{◌≡◌, ℕ, suc, ◌<◌, List, length, map, drop, get_or}
use Rattle.upc_types.specs.declared.structs.Completed as completed_type
use Rattle.upc_types.specs.Types.{Member, Completed}
use Rattle.upc_types.specs.Layout.{end_behind, member_layouts, layout_in}
use Rattle.upc_types.specs.layer.Named.{IsNamed}
use Rattle.upc_types.specs.code.Starts.{starts_behind}
use Rattle.upc_types.specs.View.{view_completed, view_member}

-- What the code keeps with a struct is that of these members, where these structs are complete: where each begins,
-- where they end, and the first member of each name (C99 6.7.2.1).
pub record IsMade (cs : List Completed) (x : completed_type.Completed) (ms : List Member) : Type 0 where
  pub starts : x.starts.items ≡ starts_behind 0 (member_layouts (layout_in cs) ms)
  pub end : x.end ≡ end_behind 0 (member_layouts (layout_in cs) ms)
  pub named : IsNamed x.names (λ k. k.items) ms

-- What the code keeps with each of these structs, the one completed last first, is that of its members, where those
-- completed before it are complete.
abbrev pub AreMade : List completed_type.Completed → Type 0
AreMade xs = (i : ℕ) (x : completed_type.Completed) → i < length xs
    → IsMade (map view_completed (drop (suc i) xs)) (get_or xs i x) (map view_member (get_or xs i x).members.items)
