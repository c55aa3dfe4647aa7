-- What a memory call asks for.
use Rattle.std.specs.Prelude.{ℕ, ◌≡◌, Bool, true, false, List, Option, Some, None}
use Rattle.block_layout.specs.declared.kind.Kind.{Kind}
use Rattle.block_layout.specs.declared.kind.Shape.{Shape}
use Rattle.upc_values.specs.declared.action.Action.TheVariants as act
use Rattle.upc_values.specs.layer.Parts as parts
use Rattle.upc_values.specs.declared.action.Reply.{Reply}
use Rattle.upc_values.specs.declared.action.Reply.TheVariants as reply
use Rattle.upc_values.specs.declared.refused.Refused.{Refused}
use Rattle.upc_values.specs.declared.refused.Refused.TheVariants as refused
use Rattle.upc_values.specs.Copying as said
use Rattle.upc_values.specs.Expansion.{Expansion, Gives, Fails, Reads, Asks, Loads, Stores}
use Rattle.upc_library.specs.declared.copying.CopyWish.{CopyWish}
use Rattle.upc_library.specs.declared.copying.CopyWish.TheVariants.{Act, LoadPrivate, StorePrivate, Finished}
use Rattle.upc_library.specs.declared.copying.Side.{Side}
use Rattle.upc_library.specs.declared.copying.Side.TheVariants as side
use Rattle.upc_library.specs.declared.copying.CopySpec.{CopySpec}

-- The wish asks for the next step of the call.
abbrev pub IsWish : Expansion (Unit {0}) → CopyWish → Type 0
IsWish (Gives v) Finished = Unit {0}
IsWish (Reads l k go) (Act a) = a ≡ act.Read l false
IsWish (Asks b go) (Act a) = a ≡ b
IsWish (Loads p k go) (LoadPrivate q j) = (q ≡ p) × (j ≡ k)
IsWish (Stores p k v go) (StorePrivate q j w) = (q ≡ p) × (j ≡ k) × (w ≡ v)
IsWish x w = ⊥

-- Whether a reply is a refusal.
abbrev pub is_refusal : Reply → Bool
is_refusal (reply.Refused code) = true
is_refusal r = false

-- A reply, if there is one, that refuses nothing.
abbrev pub Answers : Option Reply → Type 0
Answers (Some r) = is_refusal r ≡ false
Answers None = Unit {0}

-- The call is refused by the code by which it fails; for want of memory nothing is said.
abbrev pub RefusesSo : Refused → Expansion (Unit {0}) → Type 0
RefusesSo (refused.Error code) x = x ≡ Fails code
RefusesSo refused.Memory x = Unit {0}

-- The kind of the cell of a shared object that is read next, if one is.
abbrev pub kind_read : Expansion (Unit {0}) → Option Kind
kind_read (Reads l k go) = Some k
kind_read x = None

-- Where a side leads.
abbrev pub area_of : Side → said.Area
area_of (side.Shared p) = parts.shared_area p
area_of (side.Local p) = parts.local_area p

-- The expansion of a memory call, where the private object that it names has that shape.
abbrev pub expansion : ℕ → List Shape → Option Shape → CopySpec → Expansion (Unit {0})
expansion threads shapes private s =
    elim s.set [
      | true ↦ said.set threads shapes private (area_of s.dst) s.byte s.bytes
      | false ↦ said.copy threads shapes private (area_of s.dst) (area_of s.src) s.bytes
    ]
