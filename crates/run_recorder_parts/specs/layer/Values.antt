-- Reading values, actions, replies, items and ends.
use Rattle.std.specs.Prelude.{ℕ, ℤ, ◌&&◌, nat_le, Bool, true, false, List, [], ◌∷◌, length, if◌then◌else◌, codes}
use Rattle.std.specs.Prelude.{Option, Some, None, Result, Ok, Err}
use Rattle.std.specs.Str.{bytes_eq}
use Rattle.hex.specs.Hex.{decode_of, encode_lower}
use Rattle.hex.specs.declared.error.FromHexError.{FromHexError}
use Rattle.block_layout.specs.declared.place.Loc.{Loc}
use Rattle.block_layout.specs.declared.place.ObjectRef.{ObjectRef}
use Rattle.block_layout.specs.declared.place.SharedPtr.{SharedPtr}
use Rattle.upc_text.specs.declared.place.Place.{Place}
use Rattle.upc_values.specs.declared.scalar.Scalar.{Scalar}
use Rattle.upc_values.specs.declared.scalar.Scalar.TheVariants as scalar
use Rattle.upc_values.specs.declared.scalar.Mark.{Mark}
use Rattle.upc_values.specs.declared.scalar.Mark.TheVariants as mark
use Rattle.upc_values.specs.declared.action.Action.{Action}
use Rattle.upc_values.specs.declared.action.Action.TheVariants as action
use Rattle.upc_values.specs.declared.action.Reply.{Reply}
use Rattle.upc_values.specs.declared.action.Reply.TheVariants as reply
use Rattle.upc_values.specs.declared.record.Item.{Item}
use Rattle.upc_values.specs.declared.record.Item.TheVariants as item
use Rattle.upc_values.specs.declared.record.End.{End}
use Rattle.upc_values.specs.declared.record.End.TheVariants as end
use Rattle.run_recorder_text.specs.Words.{Text}
use Rattle.run_recorder_parts.specs.Bounds.{most_u8, most_u32, most_u64, most_i32, most_i64, most_i128}
use Rattle.run_recorder_parts.specs.layer.Readers.{bind, Reader, ◌>>=◌, give, field, many, each, tagged}
use Rattle.run_recorder_parts.specs.layer.Readers.{constant, expect}
use Rattle.run_recorder_parts.specs.layer.Readers.{whole, strip, begins, number_of, int_of}

-- A part that is a u32.
abbrev pub word32 : Reader ℕ
word32 = field (number_of most_u32)

-- A part that is a u64.
abbrev pub word64 : Reader ℕ
word64 = field (number_of most_u64)

-- A part that is an i32.
abbrev pub signed32 : Reader ℤ
signed32 = field (int_of most_i32)

-- The three parts of a location.
abbrev pub loc_parts_of : Reader Loc
loc_parts_of = do
  o ← word32
  t ← word32
  x ← word32
  give (record { object = o; thread = t; offset = x })

-- A location.
abbrev pub loc_of : Text → Option Loc
loc_of t = bind (strip (codes "@") t) (whole 46 loc_parts_of)

-- The six parts of an object.
abbrev pub object_parts_of : Reader ObjectRef
object_parts_of = do
  number ← word32
  total ← word32
  block ← word32
  home ← word32
  shape ← word32
  base ← word32
  give (record { number = number; total = total; block = block; home = home; shape = shape; base = base })

-- The nine parts of a pointer-to-shared.
abbrev pub pointer_parts_of : Reader SharedPtr
pointer_parts_of = do
  object ← object_parts_of
  thread ← word32
  phase ← word32
  offset ← field (int_of most_i64)
  give (record { object = object; thread = thread; phase = phase; offset = offset })

-- A pointer-to-shared.
abbrev pub pointer_of : Text → Option SharedPtr
pointer_of t = bind (strip (codes "p:") t) (whole 58 pointer_parts_of)

-- The number of a lock.
abbrev pub lock_number_of : Text → Option ℕ
lock_number_of t = bind (strip (codes "l:") t) (number_of most_u32)

-- A scalar, by its first byte.
abbrev pub scalar_of : Text → Option Scalar
scalar_of t =
    if begins 108 t then bind (lock_number_of t) (λ n. Some (scalar.Lock n))
    else (if begins 112 t then bind (pointer_of t) (λ p. Some (scalar.Shared p))
    else bind (int_of most_i128 t) (λ v. Some (scalar.Int v)))

-- A mark, by its first byte.
abbrev pub mark_of : Text → Option Mark
mark_of t =
    if begins 110 t then constant (codes "none") mark.Absent t
    else (if begins 115 t then constant (codes "start") mark.Start t
    else (if begins 102 t then constant (codes "finish") mark.Finish t
    else bind (int_of most_i32 t) (λ v. Some (mark.Given v))))

-- A home, by its first byte.
abbrev pub home_of : Text → Option (Option ℕ)
home_of t =
    if begins 97 t then constant (codes "any") None t
    else bind (number_of most_u32 t) (λ n. Some (Some n))

-- Whether an access is strict.
abbrev pub strict_of : Text → Option Bool
strict_of t = if begins 114 t then constant (codes "relaxed") false t else constant (codes "strict") true t

-- The bytes, where there are some and the word is their text.
abbrev pub spelled_by : Text → Result (List ℕ) FromHexError → Option (List ℕ)
spelled_by t (Ok bytes) =
    if nat_le 1 (length bytes) && bytes_eq (encode_lower bytes) t then Some bytes else None
spelled_by t (Err e) = None

-- Bytes of two digits each.
abbrev pub pairs_of : Text → Option (List ℕ)
pairs_of t = spelled_by t (decode_of t)

-- Bytes.
abbrev pub hex_of : Text → Option (List ℕ)
hex_of t = if begins 45 t then constant (codes "-") [] t else pairs_of t

-- The action of a read.
abbrev pub read_of : Reader Action
read_of = do
  strict ← field strict_of
  loc ← field loc_of
  give (action.Read loc strict)

-- The action of a write.
abbrev pub write_of : Reader Action
write_of = do
  strict ← field strict_of
  loc ← field loc_of
  value ← field scalar_of
  give (action.Write strict loc value)

-- An action with a mark.
abbrev pub marked_of : (Mark → Action) → Reader Action
marked_of make = do
  m ← field mark_of
  give (make m)

-- An action of a lock.
abbrev pub locked_of : (ℕ → Action) → Reader Action
locked_of make = do
  n ← word32
  give (make n)

-- The action that makes an object.
abbrev pub alloc_of : Reader Action
alloc_of = do
  nblocks ← word64
  nbytes ← word64
  home ← field home_of
  shape ← word32
  give (action.Alloc nblocks nbytes home shape)

-- The action that frees an object.
abbrev pub free_of : Reader Action
free_of = do
  p ← field pointer_of
  give (action.Free p)

-- A collective call.
abbrev pub meet_of : Reader Action
meet_of = do
  call ← field (number_of most_u8)
  count ← word64
  args ← many 0 count (each scalar_of)
  give (action.Meet call args)

-- The action that prints.
abbrev pub print_of : Reader Action
print_of = do
  bytes ← field hex_of
  give (action.Print bytes)

-- The action that ends the run.
abbrev pub exit_of : Reader Action
exit_of = do
  v ← signed32
  give (action.Exit v)

-- The actions by their names.
abbrev pub action_table : List (Text × Reader Action)
action_table =
    (codes "read", read_of)
    ∷ (codes "write", write_of)
    ∷ (codes "fence", give action.Fence)
    ∷ (codes "beat", give action.Beat)
    ∷ (codes "notify", marked_of action.Notify)
    ∷ (codes "wait", marked_of action.Wait)
    ∷ (codes "lock", locked_of action.Lock)
    ∷ (codes "attempt", locked_of action.Attempt)
    ∷ (codes "unlock", locked_of action.Unlock)
    ∷ (codes "lockmake", give action.LockMake)
    ∷ (codes "lockfree", locked_of action.LockFree)
    ∷ (codes "alloc", alloc_of)
    ∷ (codes "free", free_of)
    ∷ (codes "meet", meet_of)
    ∷ (codes "print", print_of)
    ∷ (codes "exit", exit_of)
    ∷ []

-- An action, by its name.
abbrev pub action_of : Reader Action
action_of = tagged action_table

-- A flag.
abbrev pub flag_of : Text → Option Bool
flag_of t = if begins 48 t then constant (codes "0") false t else constant (codes "1") true t

-- The reply of a value.
abbrev pub value_of : Reader Reply
value_of = do
  v ← field scalar_of
  give (reply.Value v)

-- The reply of a flag.
abbrev pub flag_reply_of : Reader Reply
flag_reply_of = do
  b ← field flag_of
  give (reply.Flag b)

-- The reply of a run error.
abbrev pub refused_of : Reader Reply
refused_of = do
  c ← field (number_of most_u8)
  give (reply.Refused c)

-- The replies by their names.
abbrev pub reply_table : List (Text × Reader Reply)
reply_table =
    (codes "done", give reply.Done)
    ∷ (codes "value", value_of)
    ∷ (codes "flag", flag_reply_of)
    ∷ (codes "refused", refused_of)
    ∷ []

-- A reply, by its name.
abbrev pub reply_of : Reader Reply
reply_of = tagged reply_table

-- An action, an arrow and its reply.
abbrev pub did_of : Reader Item
did_of = do
  a ← action_of
  _ ← expect (codes "->")
  r ← reply_of
  give (item.Did a r)

-- A stall.
abbrev pub stall_of : Reader Item
stall_of = do
  _ ← expect (codes "stall")
  give item.Stall

-- The first part is this text.
abbrev pub heads : Text → List Text → Bool
heads t [] = false
heads t (w ∷ ws) = bytes_eq w t

-- The words of an item.
abbrev pub item_words_of : Reader Item
item_words_of ws = if heads (codes "stall") ws then stall_of ws else did_of ws

-- An item, from its line.
abbrev pub item_of : Text → Option Item
item_of line = whole 32 item_words_of line

-- The two parts of a place.
abbrev pub place_parts_of : Reader Place
place_parts_of = do
  l ← word32
  c ← word32
  give (record { line = l; column = c })

-- A place.
abbrev pub place_of : Text → Option Place
place_of t = whole 58 place_parts_of t

-- An end with a value.
abbrev pub valued_of : (ℤ → End) → Reader End
valued_of make = do
  v ← signed32
  give (make v)

-- The end by a run error.
abbrev pub fault_of : Reader End
fault_of = do
  c ← field (number_of most_u8)
  p ← field place_of
  give (end.Fault c p)

-- The end by a deadlock.
abbrev pub deadlocked_of : Reader End
deadlocked_of = do
  a ← action_of
  give (end.Deadlocked a)

-- The ends by their names.
abbrev pub end_table : List (Text × Reader End)
end_table =
    (codes "ended", valued_of end.Ended)
    ∷ (codes "fault", fault_of)
    ∷ (codes "budget", give end.Budget)
    ∷ (codes "full", give end.ActionsFull)
    ∷ (codes "exit", valued_of end.Exit)
    ∷ (codes "halted", give end.Halted)
    ∷ (codes "deadlocked", deadlocked_of)
    ∷ []

-- An end, by its name.
abbrev pub end_of : Reader End
end_of = tagged end_table
