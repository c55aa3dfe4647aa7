-- The words of a run's text: how each value, action, reply and end is written.
use Rattle.std.specs.Prelude.{ℕ, List, [], ◌∷◌, ◌++◌, length, map, Bool, true, false, Option, Some, None}
use Rattle.std.specs.Prelude.{codes, decimal}
use Rattle.std.specs.Fmt.{signed_decimal}
use Rattle.std.specs.List.{join_with_byte}
use Rattle.hex.specs.Hex.{encode_lower}
use Rattle.block_layout.specs.declared.place.Loc.{Loc}
use Rattle.block_layout.specs.declared.place.ObjectRef.{ObjectRef}
use Rattle.block_layout.specs.declared.place.SharedPtr.{SharedPtr}
use Rattle.upc_text.specs.declared.place.Place.{Place}
use Rattle.upc_values.specs.declared.scalar.Scalar.{Scalar}
use Rattle.upc_values.specs.declared.scalar.Scalar.TheVariants as scalar
use Rattle.upc_values.specs.declared.scalar.Mark.{Mark}
use Rattle.upc_values.specs.declared.scalar.Mark.TheVariants as mark
use Rattle.upc_values.specs.declared.action.Action.{Action}
use Rattle.upc_values.specs.declared.action.Action.TheVariants as action
use Rattle.upc_values.specs.declared.action.Reply.{Reply}
use Rattle.upc_values.specs.declared.action.Reply.TheVariants as reply
use Rattle.upc_values.specs.declared.record.Item.{Item}
use Rattle.upc_values.specs.declared.record.Item.TheVariants as item
use Rattle.upc_values.specs.declared.record.End.{End}
use Rattle.upc_values.specs.declared.record.End.TheVariants as end

-- A text is a list of bytes.
abbrev pub Text : Type 0
Text = List ℕ

-- Words with one blank between each two.
abbrev pub with_blanks : List Text → Text
with_blanks words = join_with_byte 32 words

-- Parts with a dot between each two.
abbrev pub with_dots : List Text → Text
with_dots parts = join_with_byte 46 parts

-- Parts with a colon between each two.
abbrev pub with_colons : List Text → Text
with_colons parts = join_with_byte 58 parts

-- A location is `@` and its object, its thread and its offset.
abbrev pub loc_text : Loc → Text
loc_text l = codes "@" ++ with_dots (decimal l.object ∷ decimal l.thread ∷ decimal l.offset ∷ [])

-- The six numbers of an object.
abbrev pub object_parts : ObjectRef → List Text
object_parts o =
    decimal o.number ∷ decimal o.total ∷ decimal o.block ∷ decimal o.home ∷ decimal o.shape ∷ decimal o.base ∷ []

-- The nine numbers of a pointer-to-shared: those of its object, its thread, its phase and its offset.
abbrev pub pointer_parts : SharedPtr → List Text
pointer_parts p = object_parts p.object ++ (decimal p.thread ∷ decimal p.phase ∷ signed_decimal p.offset ∷ [])

-- A pointer-to-shared is `p:` and its nine numbers.
abbrev pub pointer_text : SharedPtr → Text
pointer_text p = codes "p:" ++ with_colons (pointer_parts p)

-- A scalar is an integer, a lock's number after `l:`, or a pointer-to-shared.
abbrev pub scalar_text : Scalar → Text
scalar_text (scalar.Int v) = signed_decimal v
scalar_text (scalar.Lock n) = codes "l:" ++ decimal n
scalar_text (scalar.Shared p) = pointer_text p

-- A mark is a word, or the value that was given.
abbrev pub mark_text : Mark → Text
mark_text mark.Absent = codes "none"
mark_text mark.Start = codes "start"
mark_text mark.Finish = codes "finish"
mark_text (mark.Given v) = signed_decimal v

-- The home of a new object is a thread, or any.
abbrev pub home_text : Option ℕ → Text
home_text None = codes "any"
home_text (Some t) = decimal t

-- An access is relaxed or strict.
abbrev pub strict_text : Bool → Text
strict_text false = codes "relaxed"
strict_text true = codes "strict"

-- A flag is 0 or 1.
abbrev pub flag_text : Bool → Text
flag_text false = codes "0"
flag_text true = codes "1"

-- Bytes are two lower-case digits each, or `-` where there is none.
abbrev pub hex_text : List ℕ → Text
hex_text [] = codes "-"
hex_text (b ∷ bs) = encode_lower (b ∷ bs)

-- An action is its name and what it asks for.
abbrev pub action_words : Action → List Text
action_words (action.Read loc strict) = codes "read" ∷ strict_text strict ∷ loc_text loc ∷ []
action_words (action.Write strict loc value) =
    codes "write" ∷ strict_text strict ∷ loc_text loc ∷ scalar_text value ∷ []
action_words action.Fence = codes "fence" ∷ []
action_words action.Beat = codes "beat" ∷ []
action_words (action.Notify mark) = codes "notify" ∷ mark_text mark ∷ []
action_words (action.Wait mark) = codes "wait" ∷ mark_text mark ∷ []
action_words (action.Lock n) = codes "lock" ∷ decimal n ∷ []
action_words (action.Attempt n) = codes "attempt" ∷ decimal n ∷ []
action_words (action.Unlock n) = codes "unlock" ∷ decimal n ∷ []
action_words action.LockMake = codes "lockmake" ∷ []
action_words (action.LockFree n) = codes "lockfree" ∷ decimal n ∷ []
action_words (action.Alloc nblocks nbytes home shape) =
    codes "alloc" ∷ decimal nblocks ∷ decimal nbytes ∷ home_text home ∷ decimal shape ∷ []
action_words (action.Free p) = codes "free" ∷ pointer_text p ∷ []
action_words (action.Meet call args) =
    codes "meet" ∷ decimal call ∷ decimal (length args) ∷ map scalar_text args
action_words (action.Print bytes) = codes "print" ∷ hex_text bytes ∷ []
action_words (action.Exit v) = codes "exit" ∷ signed_decimal v ∷ []

-- A reply is its name and what it gives.
abbrev pub reply_words : Reply → List Text
reply_words reply.Done = codes "done" ∷ []
reply_words (reply.Value v) = codes "value" ∷ scalar_text v ∷ []
reply_words (reply.Flag b) = codes "flag" ∷ flag_text b ∷ []
reply_words (reply.Refused c) = codes "refused" ∷ decimal c ∷ []

-- An item is an action, an arrow and its reply, or a stall.
abbrev pub item_words : Item → List Text
item_words (item.Did a r) = action_words a ++ codes "->" ∷ reply_words r
item_words item.Stall = codes "stall" ∷ []

-- A place is its line and its column.
abbrev pub place_text : Place → Text
place_text p = with_colons (decimal p.line ∷ decimal p.column ∷ [])

-- An end is its name and what ended the thread.
abbrev pub end_words : End → List Text
end_words (end.Ended v) = codes "ended" ∷ signed_decimal v ∷ []
end_words (end.Fault c p) = codes "fault" ∷ decimal c ∷ place_text p ∷ []
end_words end.Budget = codes "budget" ∷ []
end_words end.ActionsFull = codes "full" ∷ []
end_words (end.Exit v) = codes "exit" ∷ signed_decimal v ∷ []
end_words end.Halted = codes "halted" ∷ []
end_words (end.Deadlocked a) = codes "deadlocked" ∷ action_words a
