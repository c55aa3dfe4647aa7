-- What a collective call asks for.
use Rattle.std.specs.Prelude.{◌≡◌, Option, Some, None, false}
use Rattle.block_layout.specs.declared.kind.Kind.{Kind}
use Rattle.upc_values.specs.declared.action.Action.{Action}
use Rattle.upc_values.specs.declared.action.Action.TheVariants as act
use Rattle.upc_values.specs.declared.action.Reply.{Reply}
use Rattle.upc_values.specs.declared.refused.Refused.{Refused}
use Rattle.upc_values.specs.declared.refused.Refused.TheVariants as refused
use Rattle.upc_values.specs.Expansion.{Expansion, Gives, Fails, Reads, Asks, after_reply}
use Rattle.collectives.specs.declared.wish.CollWish.{CollWish}
use Rattle.collectives.specs.declared.wish.CollWish.TheVariants.{Act, Finished}

-- The call asks for this action next.
abbrev pub IsAsked : Expansion (Unit {0}) → Action → Type 0
IsAsked (Reads l k go) a = a ≡ act.Read l false
IsAsked (Asks b go) a = a ≡ b
IsAsked x a = ⊥

-- The wish tells the next step: an action, or that the call is done.
abbrev pub IsWish : Expansion (Unit {0}) → CollWish → Type 0
IsWish x (Act a) = IsAsked x a
IsWish (Gives v) Finished = Unit {0}
IsWish x Finished = ⊥

-- What is left after a reply, if there is one.
abbrev pub behind : Expansion (Unit {0}) → Option Reply → Expansion (Unit {0})
behind x None = x
behind x (Some r) = after_reply x r

-- A refusal by the code by which the call fails; for want of memory nothing is said.
abbrev pub RefusesSo : Refused → Expansion (Unit {0}) → Type 0
RefusesSo (refused.Error code) x = x ≡ Fails code
RefusesSo refused.Memory x = Unit {0}

-- The kind of the cell that is read next, None where anything else is asked for.
abbrev pub kind_read : Expansion (Unit {0}) → Option Kind
kind_read (Reads l k go) = Some k
kind_read x = None
