-- The marks of all locations.
use Rattle.std.specs.Prelude.{◌==◌, Bool, ◌&&◌, Option, Some, None}
use Rattle.std.specs.HashMap.{get}
use Rattle.block_layout.specs.declared.place.Loc.{Loc}
use Rattle.replica_space_marks.specs.declared.index.Key.{Key}
use Rattle.replica_space_marks.specs.declared.index.Index.{Index}
use Rattle.replica_space_marks.specs.layer.Marks.{MarksState, no_marks}

-- A location as a key.
abbrev pub key_of : Loc → Key
key_of l = record { object = l.object; thread = l.thread; offset = l.offset }

-- Two keys are the same.
abbrev pub same_key : Key → Key → Bool
same_key a b = (a.object == b.object) && ((a.thread == b.thread) && (a.offset == b.offset))

-- The marks found, if there are any.
abbrev pub marks_or_none : Option MarksState → MarksState
marks_or_none (Some m) = m
marks_or_none None = no_marks

-- The marks of a location.
unfoldable pub marks_at : Index → Loc → MarksState
marks_at i l = marks_or_none (get same_key i.map (key_of l))
