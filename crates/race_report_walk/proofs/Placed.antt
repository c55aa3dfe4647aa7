-- The operations in an entry's place are on its location, or on none.
use Rattle.std.proofs.Common.{◌≡◌, ℕ, ◌<◌, true, false, Option, Some, None, sym, ap, ◌∙◌, subst, inl, inr}
use Rattle.block_layout.specs.declared.place.Loc.{Loc}
use Rattle.upc_values.specs.declared.action.Action.{Action}
use Rattle.upc_values.specs.declared.action.Action.TheVariants.{Read, Write, Fence, Notify, Wait, Lock, Attempt, Unlock}
use Rattle.upc_values.specs.declared.action.Reply.{Reply}
use Rattle.upc_values.specs.declared.action.Reply.TheVariants.{Value, Flag, Refused}
use Rattle.upc_values.specs.declared.journal.Entry.{Entry}
use Rattle.upc_values.specs.declared.journal.Journal.{Journal}
use Rattle.upc_values.specs.Lists.{Each, Has}
use Rattle.upc_values.specs.Operations.{Operation, Cell, Sync, accesses_of}
use Rattle.upc_values.specs.Orders.{placed}
use Rattle.upc_values.specs.Consistent.{FollowsBuffers}
use Rattle.upc_values.proofs.Membership.{each-weaker}
use Rattle.race_report_bridge.proofs.Alone.{placed-alone}
use Rattle.race_report_cells.specs.layer.Cells.{IsOn}
use Rattle.race_report_walk.specs.code.Walk.{location_of}

-- the operation is on no location
abbrev pub IsOff : Operation → Type 0
IsOff o = (l : Loc) → IsOn l o → ⊥

no-loc : (l : Loc) → ◌≡◌ {A = Option Loc} None (Some l) → ⊥
no-loc l e = absurd cc

some-loc : (l : Loc) → ◌≡◌ {A = Option Loc} (Some l) None → ⊥
some-loc l e = absurd cc

same-loc : (k l : Loc) → Some k ≡ Some l → Cell k ≡ Cell l
same-loc k l e = cc

no-cell : (l : Loc) → Sync ≡ Cell l → ⊥
no-cell l e = absurd cc

access-on : (t i : ℕ) (a : Action) (r : Reply) (l : Loc) → location_of a ≡ Some l → Each (IsOn l) (accesses_of t i a r)
access-on t i a (Refused c) l e = tt
access-on t i (Read k s) (Value v) l e = (same-loc k l e, tt)
access-on t i (Read k s) r l e = tt
access-on t i (Write s k v) r l e = (same-loc k l e, tt)
access-on t i a r l e = absurd (no-loc l e)

access-off : (t i : ℕ) (a : Action) (r : Reply) → location_of a ≡ None → Each IsOff (accesses_of t i a r)
access-off t i a (Refused c) e = tt
access-off t i (Read k s) r e = absurd (some-loc k e)
access-off t i (Write s k v) r e = absurd (some-loc k e)
access-off t i Fence r e = (no-cell, (no-cell, tt))
access-off t i (Notify m) r e = (no-cell, tt)
access-off t i (Wait m) r e = (no-cell, tt)
access-off t i (Lock l) r e = (no-cell, tt)
access-off t i (Attempt l) (Flag true) e = (no-cell, tt)
access-off t i (Unlock l) r e = (no-cell, tt)
access-off t i a r e = tt

module _ (j : Journal) (f : FollowsBuffers j) (e : Entry) (below : e.thread < j.threads) (has : Has j.history e) where
  pub placed-on : (l : Loc) → location_of e.action ≡ Some l → Each (IsOn l) (placed j e)
  placed-on l at =
      elim (placed-alone j f e below has) [
        | inl q ↦ subst (Each (IsOn l)) (sym q) (access-on e.thread e.index e.action e.reply l at)
        | inr p ↦
            let same : Cell p.loc ≡ Cell l = same-loc p.loc l (sym (ap location_of p.is) ∙ at) in
            each-weaker (λ o. (o.strict ≡ false) × (o.place ≡ Cell p.loc)) (IsOn l) (λ o h. h.1 ∙ same) (placed j e) p.here
      ]

  pub placed-off : location_of e.action ≡ None → Each IsOff (placed j e)
  placed-off at =
      elim (placed-alone j f e below has) [
        | inl q ↦ subst (Each IsOff) (sym q) (access-off e.thread e.index e.action e.reply at)
        | inr p ↦ absurd (some-loc p.loc (sym (ap location_of p.is) ∙ at))
      ]
