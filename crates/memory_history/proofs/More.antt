-- What a history keeps, of one more entry.
use Rattle.std.proofs.Common.{◌≡◌, ℕ, ◌+◌, ◌<◌, ◌^◌, List, [], ◌∷◌, ◌++◌, length, Some, arith, length-append}
use Rattle.upc_values.specs.declared.action.Action.{Action}
use Rattle.upc_values.specs.declared.action.Reply.{Reply}
use Rattle.upc_values.specs.declared.journal.Entry.{Entry}
use Rattle.upc_values.specs.Drain.{entry_of}
use Rattle.upc_values.specs.Openings.{Opening}
use Rattle.upc_values.specs.History.{reply}
use Rattle.upc_values.specs.Formed.{IsWellFormed}
use Rattle.upc_values.proofs.Legality.{legal-push, formed-push, below-push}
use Rattle.memory_history.specs.layer.World.{IsKept}

pub kept-push : (o : Opening) (es : List Entry) (t i : ℕ) (a : Action) (r : Reply) → IsKept o es → t < o.threads
    → IsWellFormed o es a → reply o es t a ≡ Some r → length es + 1 < 2 ^ 62 → IsKept o (es ++ entry_of t i a r ∷ [])
kept-push o es t i a r k b f e s =
    record {
      opening = k.opening;
      legal = legal-push o es t i a r k.legal e;
      formed = formed-push o es t i a r k.formed f;
      below = below-push o.threads es t i a r k.below b;
      short = omega (arith, length-append es (entry_of t i a r ∷ []));
    }
