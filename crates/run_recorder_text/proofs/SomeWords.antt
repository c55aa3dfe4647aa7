-- There are words.
use Rattle.std.proofs.Common.{◌<◌, List, [], ◌++◌, length, ap, arith}
use Rattle.std.proofs.lemmas.List.{append-nil}
use Rattle.upc_values.specs.declared.action.Action.{Action}
use Rattle.upc_values.specs.declared.action.Action.TheVariants as action
use Rattle.upc_values.specs.declared.action.Reply.{Reply}
use Rattle.upc_values.specs.declared.action.Reply.TheVariants as reply
use Rattle.upc_values.specs.declared.record.Item.{Item}
use Rattle.upc_values.specs.declared.record.Item.TheVariants as item
use Rattle.upc_values.specs.declared.record.End.{End}
use Rattle.upc_values.specs.declared.record.End.TheVariants as end
use Rattle.run_recorder_text.specs.Words.{Text, action_words, reply_words, item_words, end_words}

some_before : (a : Action) (ws : List Text) → 0 < length (action_words a ++ ws)
some_before (action.Read l s) ws = omega arith
some_before (action.Write s l v) ws = omega arith
some_before action.Fence ws = omega arith
some_before action.Beat ws = omega arith
some_before (action.Notify m) ws = omega arith
some_before (action.Wait m) ws = omega arith
some_before (action.Lock n) ws = omega arith
some_before (action.Attempt n) ws = omega arith
some_before (action.Unlock n) ws = omega arith
some_before action.LockMake ws = omega arith
some_before (action.LockFree n) ws = omega arith
some_before (action.Alloc n b o s) ws = omega arith
some_before (action.Free p) ws = omega arith
some_before (action.Meet c vs) ws = omega arith
some_before (action.Print bs) ws = omega arith
some_before (action.Exit v) ws = omega arith

pub action_some : (a : Action) → 0 < length (action_words a)
action_some a = omega (arith, some_before a [], ap length (append-nil (action_words a)))

pub reply_some : (r : Reply) → 0 < length (reply_words r)
reply_some reply.Done = omega arith
reply_some (reply.Value v) = omega arith
reply_some (reply.Flag b) = omega arith
reply_some (reply.Refused c) = omega arith

pub item_some : (i : Item) → 0 < length (item_words i)
item_some item.Stall = omega arith
item_some (item.Did a r) = some_before a _

pub end_some : (e : End) → 0 < length (end_words e)
end_some (end.Ended v) = omega arith
end_some (end.Fault c p) = omega arith
end_some end.Budget = omega arith
end_some end.ActionsFull = omega arith
end_some (end.Exit v) = omega arith
end_some end.Halted = omega arith
end_some (end.Deadlocked a) = omega arith
