-- What a thread reads fits its cell and is known.
use Rattle.std.proofs.Common.{◌≡◌, ℕ, ◌+◌, ◌<◌, ◌^◌, length, Bool, true, false, List, [], ◌∷◌, ◌++◌, Option, Some, None, refl, sym, ap, ◌∙◌, subst}
use Rattle.block_layout.specs.declared.place.Loc.{Loc}
use Rattle.upc_values.specs.declared.scalar.Scalar.{Scalar}
use Rattle.upc_values.specs.declared.action.Action.TheVariants as act
use Rattle.upc_values.specs.declared.action.Reply.TheVariants.{Value}
use Rattle.upc_values.specs.declared.journal.Entry.{Entry}
use Rattle.upc_values.specs.Drain.{entry_of, or_else}
use Rattle.upc_values.specs.Openings.{Opening, IsOpening, initial_of}
use Rattle.upc_values.specs.History.{objects, held, value_reply, reply, IsLegal}
use Rattle.upc_values.specs.Formed.{is_known, IsWellFormed, AreWellFormed, fits_after}
use Rattle.upc_values.proofs.Known.{written-known, lawful-known}
use Rattle.upc_values.proofs.Sameness.{same_loc-true}
use Rattle.upc_values.proofs.Replies.{known-stays}
use Rattle.memory_history.proofs.ReadValues.{read-fits, pending-fits}
use Rattle.replica_space.specs.declared.message.Message.{Message}
use Rattle.replica_space.specs.declared.event.Event.{Event}
use Rattle.replica_space.specs.Events.{did, history_in}
use Rattle.replica_space.specs.Spaces.{space_after}
use Rattle.replica_space.specs.Runs.{value_in, replica_reply}
use Rattle.replica_space_quiet.specs.layer.Loud.{loud}
use Rattle.replica_space_quiet.proofs.Kept.{loud-after-access}
use Rattle.replica_space_quiet.proofs.Quiet.{known-loud, formed-loud, fits-loud, held-loud}
use Rattle.replica_space_copies.specs.layer.Copies.{CopiesState, space_of}
use Rattle.replica_space_mail.specs.layer.Deliveries.{IsReady}
use Rattle.replica_space_acts.specs.code.Sound.{AreReplicas}
use Rattle.replica_space_acts.specs.code.Asks.{MayAct, HasActed}
use Rattle.replica_space_acts.proofs.Messages.{HasWrite, AreWrites, messages-are-writes}
use Rattle.replica_space_acts.proofs.Acting.{ready-history, ready-copy, quiet-space, kept-act, acted-says}

-- a value that a read of a location may give after a history, and that is known
pub record MayBeRead (o : Opening) (h : List Entry) (l : Loc) (s : Bool) (v : Scalar) : Type 0 where
  pub fits : fits_after o h (act.Read l s) (Value v) ≡ true
  pub known : is_known o h v ≡ true

module _ (o : Opening) (h : List Entry) (l : Loc) (s : Bool) (opening : IsOpening o) (legal : IsLegal o (loud h)) (formed : AreWellFormed o (loud h)) where
  -- the value of a write that was well formed
  pub written-read : (v : Scalar) → IsWellFormed o h (act.Write false l v) → MayBeRead o h l s v
  written-read v w = record {
    fits = sym (fits-loud o h (act.Read l s) (Value v))
        ∙ pending-fits o (loud h) l s false v opening legal formed (formed-loud o h (act.Write false l v) ∙ w);
    known = written-known o h l v false w;
  }

  pub message-read : (m : Message) → HasWrite o h l (Some m) → MayBeRead o h l s m.value
  message-read m w =
      written-read m.value (subst (λ k. IsWellFormed o h (act.Write false k m.value)) (same_loc-true m.loc l w.0) w.1)

  -- the value that the location began with
  pub first-read : (v : Scalar) → IsWellFormed o h (act.Read l s) → Some v ≡ held o (loud h) l → MayBeRead o h l s v
  first-read v w e =
      let a = act.Read l s in
      let x : Entry = entry_of 0 0 a (Value v) in
      let asks : IsWellFormed o (loud h) a = formed-loud o h a ∙ w in
      let lawful : reply o (loud h) 0 a ≡ Some (Value v) = ap value_reply (sym e) in
      let known : is_known o (loud h ++ x ∷ []) v ≡ true = lawful-known o (loud h) 0 0 a (Value v) opening legal formed asks lawful in
      record {
        fits = sym (fits-loud o h a (Value v)) ∙ read-fits o (loud h) 0 l s (Value v) opening legal formed asks lawful;
        known = sym (known-loud o h v) ∙ sym (known-loud o (loud h) v)
            ∙ ap (λ z. is_known o z v) (sym (loud-after-access (loud h) x refl)) ∙ known-loud o (loud h ++ x ∷ []) v ∙ known;
      }

-- ---- what is found in a copy

-- the value is that of the message found, or, where there is none, what the location holds without writes
abbrev pub SeenBy : Opening → List Entry → Loc → Option Message → Scalar → Type 0
SeenBy o h l (Some m) v = v ≡ m.value
SeenBy o h l None v = Some v ≡ held o (loud h) l

-- the lawful reply of a read
read-reply : (o : Opening) (t : ℕ) (l : Loc) (s : Bool) (es : List Event) (d : CopiesState) (ready : List Event) (found : Option Message) (v : Scalar)
    → IsReady o s t es d ready → t < o.threads → found ≡ (space_of d).copy t l → SeenBy o (history_in es) l found v
    → replica_reply o ready t (act.Read l s) ≡ Some (Value v)
read-reply o t l s es d ready found v y lt e seen =
    let began = initial_of o (objects o (history_in ready)) l in
    ap (λ m. value_reply (or_else (value_in m) began)) (sym (e ∙ ready-copy o s t es d ready t l y lt)) ∙ go found seen
  where
    go : (found : Option Message) → SeenBy o (history_in es) l found v
        → value_reply (or_else (value_in found) (initial_of o (objects o (history_in ready)) l)) ≡ Some (Value v)
    go (Some m) q = ap (λ u. Some (Value u)) (sym q)
    go None q =
        ap (λ h. value_reply (initial_of o (objects o h) l)) (ready-history o s t es d ready y)
        ∙ ap value_reply (sym (held-loud o (history_in es) l)) ∙ sym (ap value_reply q)

-- the value may be read
read-value : (w : Opening × List Entry) (t : ℕ) (l : Loc) (s : Bool) (es : List Event) (d : CopiesState) (ready : List Event) (found : Option Message) (v : Scalar)
    → IsOpening w.0 → IsLegal w.0 w.1 → AreWellFormed w.0 w.1 → w.1 ≡ loud (history_in es) → AreWellFormed w.0 (history_in es) → IsWellFormed w.0 (history_in es) (act.Read l s)
    → IsReady w.0 s t es d ready → t < w.0.threads → found ≡ (space_of d).copy t l → SeenBy w.0 (history_in es) l found v
    → MayBeRead w.0 (history_in es) l s v
read-value w t l s es d ready found v opening legal formed world all asks y lt e seen =
    let o : Opening = w.0 in
    let h = history_in es in
    let same = ready-history o s t es d ready y in
    let writes : AreWrites o (history_in ready) (space_after o.threads ready) =
    messages-are-writes o o.threads ready (subst (AreWellFormed o) (sym same) all) in
    let has : HasWrite o h l found =
    subst (λ m. HasWrite o h l m) (sym (e ∙ ready-copy o s t es d ready t l y lt))
    (subst (λ k. HasWrite o k l ((space_after o.threads ready).copy t l)) same (writes.copy t l)) in
    go found has seen
  where
    go : (found : Option Message) → HasWrite w.0 (history_in es) l found → SeenBy w.0 (history_in es) l found v → MayBeRead w.0 (history_in es) l s v
    go (Some m) has q =
        subst (MayBeRead w.0 (history_in es) l s) (sym q)
        (message-read w.0 (history_in es) l s opening (subst (IsLegal w.0) world legal) (subst (AreWellFormed w.0) world formed) m has)
    go None has q =
        first-read w.0 (history_in es) l s opening (subst (IsLegal w.0) world legal) (subst (AreWellFormed w.0) world formed) v asks q

-- a read
pub read-done : (w : Opening × List Entry) (c d : CopiesState) (es ready new : List Event) (count more t i : ℕ) (l : Loc) (s : Bool) (found : Option Message) (v : Scalar)
    → AreReplicas w c es count → IsLegal w.0 w.1 → AreWellFormed w.0 w.1 → IsReady w.0 s t es d ready → MayAct w.0 t i (act.Read l s) es
    → found ≡ (space_of d).copy t l → SeenBy w.0 (history_in es) l found v
    → new ≡ ready ++ did t i (act.Read l s) (Value v) ∷ [] → more ≡ length ready + 1 → more < 2 ^ 62
    → AreReplicas w d new more × HasActed w.0 t i (act.Read l s) es (Some (Value v)) new
read-done w c d es ready new count more t i l s found v k legal formed y m e seen is counted short =
    let o : Opening = w.0 in
    let a = act.Read l s in
    let h = history_in es in
    let x : Entry = entry_of t i a (Value v) in
    let lawful = read-reply o t l s es d ready found v y m.below e seen in
    let may = read-value w t l s es d ready found v k.opening legal formed k.world k.formed m.asked y m.below e seen in (
      kept-act w w c d d es ready new count more t i a (Value v) k y m lawful refl (k.world ∙ sym (loud-after-access h x refl)) refl
          (quiet-space o t i a es d ready (λ b p u q. absurd cc) y) is counted short,
      acted-says o t i a (Value v) es d ready new y m.asked lawful is may.fits (known-stays o h (x ∷ []) v may.known),
    )
