-- A part of a run: what it began with, and what was added since.
use Rattle.std.specs.Prelude.{List, drop, take}
use Rattle.replica_space.specs.declared.event.Event.{Event}
use Rattle.replica_space_parts.specs.declared.part.Part.{Part}

-- What the part began with: the run without the events that were added since.
abbrev pub begun_of : Part → Part
begun_of p = record { run = (p.run.0, take p.before p.run.1); before = p.before }

-- The events that were added since the part began.
abbrev pub added_in : Part → List Event
added_in p = drop p.before p.run.1
