-- Histories in which each thread notifies and waits in turn.
use Rattle.std.specs.Prelude.{◌≡◌, true, List, [], ◌∷◌, ◌++◌}
use Rattle.upc_values.specs.declared.journal.Entry.{Entry}
use Rattle.memory_history.specs.layer.Turns.{takes_turn}

-- Each of these entries, which stand after others, keeps its thread's notifies and waits in turn.
abbrev pub AreInTurnFrom : List Entry → List Entry → Type 0
AreInTurnFrom before [] = Unit {0}
AreInTurnFrom before (e ∷ es) = (takes_turn before e.thread e.action ≡ true) × AreInTurnFrom (before ++ e ∷ []) es

-- Each entry of a history keeps its thread's notifies and waits in turn.
abbrev pub AreInTurn : List Entry → Type 0
AreInTurn history = AreInTurnFrom [] history
