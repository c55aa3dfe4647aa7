-- An entry of a history, with those before it.
use Rattle.std.proofs.Common.{◌≡◌, true, List, [], ◌∷◌, ◌++◌, sym, ap, subst, ◌∙◌, append_assoc, append-nil}
use Rattle.upc_values.specs.declared.journal.Entry.{Entry}
use Rattle.upc_values.specs.Openings.{Opening}
use Rattle.upc_values.specs.Formed.{IsWellFormed, AreWellFormedFrom}
use Rattle.upc_values.proofs.Legality.{legal-at}
use Rattle.memory_history.specs.layer.Turns.{takes_turn}
use Rattle.upc_verify_parts.specs.Parts.{HistoryHolds}
use Rattle.upc_verify_history.specs.layer.Turns.{AreInTurnFrom, AreInTurn}
use Rattle.upc_verify_history.specs.layer.Lawful.{IsLawful}

-- a history of which these entries are the front, and this one is next
pub parted : (front left history rest : List Entry) (e : Entry) → front ++ left ≡ history → left ≡ e ∷ rest
    → history ≡ front ++ e ∷ rest
parted front left history rest e h is = sym h ∙ ap (λ l. front ++ l) is

turn-from_at : (before front rest : List Entry) (e : Entry) → AreInTurnFrom before (front ++ e ∷ rest)
    → takes_turn (before ++ front) e.thread e.action ≡ true
turn-from_at before [] rest e h = subst (λ l. takes_turn l e.thread e.action ≡ true) (sym (append-nil before)) h.0
turn-from_at before (x ∷ front) rest e h =
    subst (λ l. takes_turn l e.thread e.action ≡ true) (append_assoc before (x ∷ []) front)
    (turn-from_at (before ++ x ∷ []) front rest e h.1)

-- each entry of a history in turn is in turn
pub turn-at : (front rest : List Entry) (e : Entry) → AreInTurn (front ++ e ∷ rest)
    → takes_turn front e.thread e.action ≡ true
turn-at front rest e h = turn-from_at [] front rest e h

formed-from_at : (o : Opening) (before front rest : List Entry) (e : Entry) → AreWellFormedFrom o before (front ++ e ∷ rest)
    → IsWellFormed o (before ++ front) e.action
formed-from_at o before [] rest e h = subst (λ l. IsWellFormed o l e.action) (sym (append-nil before)) h.0
formed-from_at o before (x ∷ front) rest e h =
    subst (λ l. IsWellFormed o l e.action) (append_assoc before (x ∷ []) front)
    (formed-from_at o (before ++ x ∷ []) front rest e h.1)

-- each entry of a lawful history is lawful
pub lawful-at : (o : Opening) (front rest : List Entry) (e : Entry) → HistoryHolds o (front ++ e ∷ rest) → IsLawful o front e
lawful-at o front rest e h =
    record { formed = formed-from_at o [] front rest e h.formed; legal = legal-at o front rest e h.legal }
