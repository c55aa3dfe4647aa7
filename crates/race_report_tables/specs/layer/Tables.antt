-- Tables that hold the clocks after some entries.
use Rattle.std.specs.Prelude.{ℕ, ◌≡◌, ◌+◌, ◌<◌, ◌==◌, cond, List, [], length, Option, Some, None}
use Rattle.std.specs.Prelude.{slice_index, slice_index_or}
use Rattle.upc_values.specs.declared.journal.Entry.{Entry}
use Rattle.upc_values.specs.History.{notifies, waits}
use Rattle.race_report_clocks.specs.declared.channel.Channel.{Channel}
use Rattle.race_report_clocks.specs.layer.Clocks.{Clock, clocks}
use Rattle.race_report_tables.specs.declared.channels.Channels.{Channels}
use Rattle.race_report_tables.specs.declared.tables.Tables.{Tables}
use Rattle.race_report_tables.specs.layer.Places.{place_of, member_at, ArePlaced}

-- The numbers in the row with this number.
abbrev pub clock_at : List (List ℕ) → ℕ → Clock
clock_at rows t u = slice_index (slice_index_or rows t []) u

-- The numbers in the row of a channel; they are 0 where it has none.
abbrev pub clock_over : Channels → Channel → Clock
clock_over c k u = slice_index (member_at [] c.rows.items (place_of c.places k)) u

-- Each row of a channel has a place of its own.
abbrev pub AreApart : Channels → Type 0
AreApart c = ArePlaced c.places (length c.rows.items)

-- Those of a channel, if there is one.
abbrev pub heard_over : Channels → Option Channel → Clock
heard_over c (Some k) u = clock_over c k u
heard_over c None u = 0

-- What an action of a thread with this number adds, if it lets others go on.
abbrev pub added_by : ℕ → ℕ → Option Channel → Clock
added_by t i (Some k) u = cond (t == u) (i + 1) 0
added_by t i None u = 0

-- Tables for so many threads hold the clocks after these entries, and how often each thread has notified and waited.
pub record AreClocks (n : ℕ) (before : List Entry) (tables : Tables) : Type 0 where
  pub many : length tables.known.items ≡ n
  pub many_notified : length tables.notified.items ≡ n
  pub many_waited : length tables.waited.items ≡ n
  pub apart : AreApart tables.channels
  pub threads : (t u : ℕ) → t < n → clock_at tables.known.items t u ≡ (clocks before).threads t u
  pub channels : (k : Channel) (u : ℕ) → clock_over tables.channels k u ≡ (clocks before).channels k u
  pub notified : (t : ℕ) → t < n → slice_index tables.notified.items t ≡ notifies t before
  pub waited : (t : ℕ) → t < n → slice_index tables.waited.items t ≡ waits t before

-- There are rows and counts for a thread, and each row of a channel has a place of its own.
pub record IsReady (t : ℕ) (tables : Tables) : Type 0 where
  pub known : t < length tables.known.items
  pub notified : t < length tables.notified.items
  pub waited : t < length tables.waited.items
  pub apart : AreApart tables.channels
