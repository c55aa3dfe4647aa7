-- Places in a list, by channel.
use Rattle.std.specs.Prelude.{ℕ, ◌≡◌, ◌<◌, ◌==◌, Bool, ◌&&◌, List, Option, Some, None, slice_index_or}
use Rattle.std.specs.HashMap.{get}
use Rattle.race_report_clocks.specs.declared.channel.Channel.{Channel}
use Rattle.race_report_clocks.specs.declared.channel.Channel.TheVariants as over
use Rattle.race_report_tables.specs.declared.key.Key.{Key}
use Rattle.race_report_tables.specs.declared.places.Places.{Places}

-- A channel as a key.
abbrev pub key_of : Channel → Key
key_of (over.Phase n) = record { kind = 0; object = n; thread = 0; offset = 0 }
key_of (over.Lock n) = record { kind = 1; object = n; thread = 0; offset = 0 }
key_of (over.Cell l) = record { kind = 2; object = l.object; thread = l.thread; offset = l.offset }

-- Two keys are the same.
abbrev pub same_key : Key → Key → Bool
same_key a b =
    (a.kind == b.kind) && ((a.object == b.object) && ((a.thread == b.thread) && (a.offset == b.offset)))

-- The place of a channel, if it has one.
unfoldable pub place_of : Places → Channel → Option ℕ
place_of p k = get same_key p.slots (key_of k)

-- The member at a place; where there is no place, what stands for a missing one.
abbrev pub member_at : {X : Type 0} → X → List X → Option ℕ → X
member_at d xs (Some i) = slice_index_or xs i d
member_at d xs None = d

-- Places in a list of this length, no two of them the same.
pub record ArePlaced (places : Places) (n : ℕ) : Type 0 where
  pub within : (k : Channel) (i : ℕ) → place_of places k ≡ Some i → i < n
  pub apart : (k h : Channel) (i : ℕ) → place_of places k ≡ Some i → place_of places h ≡ Some i → k ≡ h
