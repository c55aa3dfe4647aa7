-- Which replies a source may have had when a history has come so far.
use Rattle.std.specs.Prelude.{◌≡◌, Bool, true, List}
use Rattle.upc_values.specs.declared.action.Reply.{Reply}
use Rattle.upc_values.specs.declared.action.Reply.TheVariants.{Value}
use Rattle.upc_values.specs.declared.journal.Entry.{Entry}
use Rattle.upc_values.specs.Lists.{Each}
use Rattle.upc_values.specs.Openings.{Opening}
use Rattle.upc_values.specs.History.{IsLegal}
use Rattle.upc_values.specs.Formed.{is_known, AreWellFormed}

-- What a reply gives is known after a history: a pointer or a lock is null or names what the opening or the history
-- has.
abbrev pub gives_known : Opening → List Entry → Reply → Bool
gives_known o es (Value v) = is_known o es v
gives_known o es r = true

-- What each of the replies gives is known after the history.
abbrev pub AreKnown : Opening → List Entry → List Reply → Type 0
AreKnown o es replies = Each (λ r. gives_known o es r ≡ true) replies

-- A history that may have given these replies: it is legal, its entries were well formed, and it knows what they give.
pub record HasGiven (o : Opening) (es : List Entry) (replies : List Reply) : Type 0 where
  pub legal : IsLegal o es
  pub formed : AreWellFormed o es
  pub known : AreKnown o es replies
