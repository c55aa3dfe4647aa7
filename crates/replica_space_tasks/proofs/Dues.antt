-- What a thread has delivered before its action, and the events after it.
use Rattle.std.proofs.Common.{◌≡◌, ◌≢◌, ℕ, ◌%◌, Bool, true, false, cond, List, [], ◌∷◌, ◌++◌, Some, refl, sym, ap, subst, ◌∙◌, append-nil, inl, inr}
use Rattle.std.proofs.lemmas.Bool.{false≢true}
use Rattle.upc_values.specs.declared.action.Action.{Action}
use Rattle.upc_values.specs.declared.action.Action.TheVariants as act
use Rattle.upc_values.specs.declared.action.Reply.{Reply}
use Rattle.upc_values.specs.Drain.{entry_of}
use Rattle.upc_values.specs.Openings.{Opening}
use Rattle.upc_values.specs.Strands.{may_wait}
use Rattle.replica_space.specs.declared.message.Message.{Message}
use Rattle.replica_space.specs.declared.event.Event.{Event}
use Rattle.replica_space.specs.Events.{did, delivered, history_in}
use Rattle.replica_space.specs.Spaces.{is_synchronising, space_after}
use Rattle.replica_space.specs.ReplicaSound.{delivered_by}
use Rattle.replica_space_mail.specs.layer.Deliveries.{all_deliveries, with_due}
use Rattle.replica_space_acts.specs.layer.Acts.{Acted}
use Rattle.replica_space_tasks.specs.layer.Kept.{AreDeliveredBy, Grew}
use Rattle.replica_space_tasks.specs.code.Dues.{HasTaken, IsDue, HasDelivered, HasActed}
use Rattle.replica_space_tasks.proofs.Events.{history-append, counted-did, comes-taken, all-own, all-quiet, delivers-quiet, delivers-did, grew-same, grew-then}

-- what may wait is synchronising
pub waits-meet : (a : Action) → may_wait a ≡ true → is_synchronising a ≡ true
waits-meet (act.Lock l) h = refl
waits-meet (act.Wait m) h = refl
waits-meet a h = absurd (false≢true h)

-- before it nothing is delivered
pub waits-due : (n t i : ℕ) (a : Action) (old new : List Event) → may_wait a ≡ true → HasDelivered n t i a old new → new ≡ old
waits-due n t i a old new h d = subst (λ b. IsDue b n t i old new) (waits-meet a h) d

one-more : (t to from : ℕ) (old new : List Event) → new ≡ old ++ delivered t to from ∷ [] → Grew t old new
one-more t to from old new e = record { more = delivered t to from ∷ []; is = e; all_own = (refl, tt) }

pub grew-taken : (n t i : ℕ) (old new : List Event) → HasTaken n t i old new → Grew t old new
grew-taken n t i old new (inl z) = one-more t t (i % n) old new z.1
grew-taken n t i old new (inr z) = grew-same t old new z.1

pub history-taken : (n t i : ℕ) (old new : List Event) → HasTaken n t i old new → history_in new ≡ history_in old
history-taken n t i old new (inl z) =
    ap history_in z.1 ∙ history-append old (delivered t t (i % n) ∷ []) ∙ append-nil (history_in old)
history-taken n t i old new (inr z) = ap history_in z.1

delivers-taken : (n t i : ℕ) (old new : List Event) → HasTaken n t i old new → AreDeliveredBy n t old → AreDeliveredBy n t new
delivers-taken n t i old new (inl z) h =
    subst (AreDeliveredBy n t) (sym z.1) (delivers-quiet n t old (delivered t t (i % n) ∷ []) refl h)
delivers-taken n t i old new (inr z) h = subst (AreDeliveredBy n t) (sym z.1) h

empty-where : (ms : List Message) → (ms ≢ [] → ⊥) → ms ≡ []
empty-where [] h = refl
empty-where (m ∷ ms) h = absurd (h (λ q. absurd cc))

-- a delivery, where a message waits
pub taken-is : (n t i from : ℕ) (old new : List Event) (found : Bool) → from ≡ i % n
    → (found ≡ true → (space_after n old).mail t from ≢ []) → ((space_after n old).mail t from ≢ [] → found ≡ true)
    → new ≡ cond found (old ++ delivered t t from ∷ []) old → HasTaken n t i old new
taken-is n t i from old new true same h k e =
    inl (subst (λ f. (space_after n old).mail t f ≢ []) same (h refl), e ∙ ap (λ f. old ++ delivered t t f ∷ []) same)
taken-is n t i from old new false same h k e =
    inr (ap ((space_after n old).mail t) (sym same) ∙ empty-where ((space_after n old).mail t from) (λ q. false≢true (k q)), e)

acted-by : (b : Bool) (n t i : ℕ) (a : Action) (r : Reply) (old mid new : List Event) → is_synchronising a ≡ b → delivered_by t old ≡ 0
    → IsDue b n t i old mid
    → new ≡ with_due b t n mid ++ did t i a r ∷ [] → HasActed n t i a r old new
acted-by true n t i a r old mid new s none due e =
    let ds = all_deliveries t n n (space_after n mid) in let one = did t i a r ∷ [] in
    let quiet : history_in ds ≡ [] = all-quiet t n n (space_after n mid) in
    record {
      grew = grew-then t old mid new (grew-same t old mid due)
          (grew-then t mid (mid ++ ds) new (record { more = ds; is = refl; all_own = all-own t n n (space_after n mid) })
          (record { more = one; is = e; all_own = (refl, tt) }));
      history = ap history_in e ∙ history-append (mid ++ ds) one
          ∙ ap (λ l. l ++ entry_of t i a r ∷ [])
          (history-append mid ds ∙ ap (λ l. history_in mid ++ l) quiet ∙ append-nil (history_in mid) ∙ ap history_in due);
      delivers = λ h. subst (AreDeliveredBy n t) (sym e)
          (delivers-did n t i a r (mid ++ ds) (delivers-quiet n t mid ds quiet (subst (AreDeliveredBy n t) (sym due) h))
          (λ q. absurd (false≢true (sym q ∙ s))));
      none = ap (delivered_by t) e ∙ counted-did t i a r (mid ++ ds);
    }
acted-by false n t i a r old mid new s none due e = record {
  grew = grew-then t old mid new (grew-taken n t i old mid due)
      (record { more = did t i a r ∷ []; is = e; all_own = (refl, tt) });
  history = ap history_in e ∙ history-append mid (did t i a r ∷ [])
      ∙ ap (λ l. l ++ entry_of t i a r ∷ []) (history-taken n t i old mid due);
  delivers = λ h. subst (AreDeliveredBy n t) (sym e)
      (delivers-did n t i a r mid (delivers-taken n t i old mid due h) (λ q. comes-taken n t i old mid none due));
  none = ap (delivered_by t) e ∙ counted-did t i a r mid;
}

-- an action with its reply, once what is due was delivered
pub acted-is : (o : Opening) (t i : ℕ) (a : Action) (r : Reply) (old mid new : List Event) → delivered_by t old ≡ 0
    → HasDelivered o.threads t i a old mid → Acted o t i a mid (Some r) new → HasActed o.threads t i a r old new
acted-is o t i a r old mid new none due acted =
    acted-by (is_synchronising a) o.threads t i a r old mid new refl none due acted.1
