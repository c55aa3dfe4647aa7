-- The actions of a run other than reads and writes are a legal history.
use Rattle.std.proofs.Common.{◌≡◌, ℕ, true, false, List, [], ◌∷◌, ◌++◌, Some, refl, sym, ap, subst, ◌∙◌, append-nil, inl, inr}
use Rattle.std.proofs.lemmas.Bool.{cases_Bool}
use Rattle.upc_values.specs.declared.scalar.Scalar.TheVariants.{Int, Shared, Lock}
use Rattle.upc_values.specs.layer.Parts.{kind_read}
use Rattle.upc_values.specs.declared.action.Action.{Action}
use Rattle.upc_values.specs.declared.action.Action.TheVariants as act
use Rattle.upc_values.specs.declared.action.Reply.{Reply}
use Rattle.upc_values.specs.declared.action.Reply.TheVariants.{Done, Value, Flag, Refused}
use Rattle.upc_values.specs.declared.journal.Entry.{Entry}
use Rattle.upc_values.specs.Drain.{entry_of}
use Rattle.upc_values.specs.Openings.{Opening, cell_of}
use Rattle.upc_values.specs.History.{IsLegal, IsLegalFrom, reply}
use Rattle.upc_values.specs.Formed.{IsWellFormed, AreWellFormed, AreWellFormedFrom, fits, fits_after}
use Rattle.upc_values.specs.layer.Known.{gives_known, AreKnown, HasGiven}
use Rattle.upc_values.proofs.Lists.{each-grow}
use Rattle.replica_space.specs.declared.event.Event.{Event}
use Rattle.replica_space.specs.declared.event.Deed.{Deed}
use Rattle.replica_space.specs.declared.event.Deed.TheVariants.{Did, Delivered}
use Rattle.replica_space.specs.Events.{history_in}
use Rattle.replica_space.specs.Runs.{IsReplicaRun, IsReplicaRunFrom, MayDo, replica_reply}
use Rattle.replica_space_quiet.specs.layer.Loud.{is_access, loud}
use Rattle.replica_space_quiet.proofs.Kept.{loud-skips, loud-takes, loud-after-access, loud-after-other}
use Rattle.replica_space_quiet.proofs.Quiet.{replies-loud, formed-loud, knows-loud, locks-loud, objects-loud}
use Rattle.replica_space_tasks.proofs.Events.{history-append}

-- the reply of an action that is neither a read nor a write is that of the history
plain-reply : (o : Opening) (es : List Event) (t : ℕ) (a : Action) → is_access a ≡ false
    → replica_reply o es t a ≡ reply o (history_in es) t a
plain-reply o es t (act.Read l s) h = absurd cc
plain-reply o es t a h = refl

-- one action more, and then the others
legal-did : (o : Opening) (before : List Event) (t i : ℕ) (a : Action) (r : Reply) (rest : List Entry)
    → replica_reply o before t a ≡ Some r
    → (IsLegalFrom o (loud (history_in before ++ entry_of t i a r ∷ [])) (loud rest))
    → IsLegalFrom o (loud (history_in before)) (loud (entry_of t i a r ∷ rest))
legal-did o before t i a r rest e h =
    let x : Entry = entry_of t i a r in let past = history_in before in
    elim (cases_Bool (is_access a)) [
      | inl y ↦
          subst (IsLegalFrom o (loud past)) (sym (loud-skips x rest y))
          (subst (λ l. IsLegalFrom o l (loud rest)) (loud-after-access past x y) h)
      | inr n ↦
          subst (IsLegalFrom o (loud past)) (sym (loud-takes x rest n)) (
            replies-loud o past t a n ∙ sym (plain-reply o before t a n) ∙ e,
            subst (λ l. IsLegalFrom o l (loud rest)) (loud-after-other past x n) h,
          )
    ]

legal-deed : (o : Opening) (before es : List Event) (t : ℕ) (d : Deed) → MayDo o before t d
    → IsLegalFrom o (loud (history_in (before ++ record { by = t; deed = d } ∷ []))) (loud (history_in es))
    → IsLegalFrom o (loud (history_in before)) (loud (history_in (record { by = t; deed = d } ∷ es)))
legal-deed o before es t (Did i a r) m h =
    legal-did o before t i a r (history_in es) m.1
    (subst (λ l. IsLegalFrom o (loud l) (loud (history_in es)))
    (history-append before (record { by = t; deed = Did i a r } ∷ [])) h)
legal-deed o before es t (Delivered to from) m h =
    subst (λ l. IsLegalFrom o (loud l) (loud (history_in es)))
    (history-append before (record { by = t; deed = Delivered to from } ∷ []) ∙ append-nil (history_in before)) h

legal-from : (o : Opening) (before es : List Event) → IsReplicaRunFrom o before es
    → IsLegalFrom o (loud (history_in before)) (loud (history_in es))
legal-from o before [] h = tt
legal-from o before (e ∷ es) h = legal-deed o before es e.by e.deed h.1 (legal-from o (before ++ e ∷ []) es h.2)

pub legal-loud : (o : Opening) (es : List Event) → IsReplicaRun o es → IsLegal o (loud (history_in es))
legal-loud o es h = legal-from o [] es h

formed-from : (o : Opening) (before es : List Entry) → AreWellFormedFrom o before es → AreWellFormedFrom o (loud before) (loud es)
formed-from o before [] h = tt
formed-from o before (e ∷ es) h =
    let rest = formed-from o (before ++ e ∷ []) es h.1 in
    elim (cases_Bool (is_access e.action)) [
      | inl y ↦
          subst (AreWellFormedFrom o (loud before)) (sym (loud-skips e es y))
          (subst (λ l. AreWellFormedFrom o l (loud es)) (loud-after-access before e y) rest)
      | inr n ↦
          subst (AreWellFormedFrom o (loud before)) (sym (loud-takes e es n))
          (formed-loud o before e.action ∙ h.0, subst (λ l. AreWellFormedFrom o l (loud es)) (loud-after-other before e n) rest)
    ]

pub well-formed-loud : (o : Opening) (es : List Entry) → AreWellFormed o es → AreWellFormed o (loud es)
well-formed-loud o es h = formed-from o [] es h

gives-loud : (o : Opening) (es : List Entry) (r : Reply) → gives_known o (loud es) r ≡ gives_known o es r
gives-loud o es (Value (Int v)) = refl
gives-loud o es (Value (Shared p)) = knows-loud o es p
gives-loud o es (Value (Lock l)) = ap (Rattle.std.specs.Prelude.nat_le l) (locks-loud es)
gives-loud o es Done = refl
gives-loud o es (Flag b) = refl
gives-loud o es (Refused c) = refl

known-loud : (o : Opening) (es : List Entry) (rs : List Reply) → AreKnown o es rs → AreKnown o (loud es) rs
known-loud o es rs h =
    each-grow (λ r. gives_known o es r ≡ true) (λ r. gives_known o (loud es) r ≡ true) rs
    (λ r k. gives-loud o es r ∙ k) h

kind-loud : (o : Opening) (es : List Entry) (a : Action) → kind_read o (loud es) a ≡ kind_read o es a
kind-loud o es (act.Read l s) = ap (λ os. cell_of o os l) (objects-loud o es)
kind-loud o es a = refl

pub fits-loud : (o : Opening) (es : List Entry) (a : Action) (r : Reply) → fits_after o (loud es) a r ≡ fits_after o es a r
fits-loud o es a r = ap (λ k. fits o.threads o.shapes k a r) (kind-loud o es a)

-- a run may have given the replies that are known in it
pub given-loud : (o : Opening) (es : List Event) (rs : List Reply) → IsReplicaRun o es → AreWellFormed o (history_in es)
    → AreKnown o (history_in es) rs → HasGiven o (loud (history_in es)) rs
given-loud o es rs run formed known = record {
  legal = legal-loud o es run;
  formed = well-formed-loud o (history_in es) formed;
  known = known-loud o (history_in es) rs known;
}

-- what may be asked for there may be asked for after all actions
pub asks-loud : (o : Opening) (es : List Entry) (a : Action) → IsWellFormed o (loud es) a → IsWellFormed o es a
asks-loud o es a h = sym (formed-loud o es a) ∙ h
