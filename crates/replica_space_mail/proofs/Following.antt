-- Runs with one more event.
use Rattle.std.proofs.Common.{◌≡◌, ◌≢◌, ℕ, ◌<◌, true, false, List, [], ◌∷◌, ◌++◌, refl, sym, ap, ◌∙◌, subst, append_assoc, arith}
use Rattle.std.proofs.lemmas.Bool.{false≢true}
use Rattle.std.proofs.lemmas.List.{append-nil}
use Rattle.upc_values.specs.Openings.{Opening}
use Rattle.replica_space.specs.declared.event.Event.{Event}
use Rattle.replica_space.specs.Events.{delivered}
use Rattle.replica_space.specs.Spaces.{Space, begun, received, met, done, space_from, space_after}
use Rattle.replica_space.specs.Runs.{IsReplicaRunFrom, MayDo, NoneWaits}
use Rattle.replica_space_copies.specs.layer.Copies.{CopiesState, threads_of, space_of, IsSteady}
use Rattle.replica_space_copies.specs.layer.Same.{IsSame}
use Rattle.replica_space_copies.proofs.Sames.{same-then, received-same, met-same}
use Rattle.replica_space_mail.specs.layer.Deliveries.{Follows, IsReady, all_deliveries, mail_in}
use Rattle.replica_space_mail.proofs.Lists.{all-same}

space-append : (n : ℕ) (s : Space) (xs ys : List Event) → space_from n s (xs ++ ys) ≡ space_from n (space_from n s xs) ys
space-append n s [] ys = refl
space-append n s (x ∷ xs) ys = space-append n (done n x.by x.deed s) xs ys

-- what the threads have after one more event
pub space-push : (n : ℕ) (es : List Event) (e : Event) → space_after n (es ++ e ∷ []) ≡ done n e.by e.deed (space_after n es)
space-push n es e = space-append n begun es (e ∷ [])

pub run-push : (o : Opening) (before es : List Event) (e : Event) → IsReplicaRunFrom o before es → e.by < o.threads
    → MayDo o (before ++ es) e.by e.deed → IsReplicaRunFrom o before (es ++ e ∷ [])
run-push o before [] e h by may = (by, subst (λ b. MayDo o b e.by e.deed) (append-nil before) may, tt)
run-push o before (x ∷ xs) e h by may =
    (h.0, h.1, run-push o (before ++ x ∷ []) xs e h.2 by (subst (λ b. MayDo o b e.by e.deed) (sym (append_assoc before (x ∷ []) xs)) may))

-- a delivery of a message that waits
pub delivery-follows : (o : Opening) (c d : CopiesState) (es : List Event) (by to from : ℕ) → Follows o c es
    → by < threads_of c → to < threads_of c → from < threads_of c → mail_in c to from ≢ []
    → threads_of d ≡ threads_of c
    → IsSame (threads_of c) (space_of d) (received to from (mail_in c to from) (space_of c))
    → Follows o d (es ++ delivered by to from ∷ [])
delivery-follows o c d es by to from f hb ht hf some many same =
    let s = space_after o.threads es in
    let n = f.many in
    let bo : by < o.threads = omega arith in
    let to_o : to < o.threads = omega arith in
    let from_o : from < o.threads = omega arith in
    let mail : mail_in c to from ≡ s.mail to from = f.shows.mail to from to_o from_o in
    let here : IsSame o.threads (space_of d) (received to from (mail_in c to from) (space_of c)) =
    subst (λ k. IsSame k (space_of d) (received to from (mail_in c to from) (space_of c))) f.many same in
    let there : IsSame o.threads (received to from (mail_in c to from) (space_of c)) (received to from (s.mail to from) s) =
    subst (λ ms. IsSame o.threads (received to from (mail_in c to from) (space_of c)) (received to from ms s)) mail
    (received-same o.threads to from (mail_in c to from) (space_of c) s f.shows) in
    record {
      many = many ∙ f.many;
      run = run-push o [] es (delivered by to from) f.run bo (to_o, from_o, λ e. some (mail ∙ e));
      shows = subst (IsSame o.threads (space_of d)) (sym (space-push o.threads es (delivered by to from)))
          (same-then o.threads (space_of d) (received to from (mail_in c to from) (space_of c)) (received to from (s.mail to from) s) here there);
    }

pub steady-itself : (c : CopiesState) → IsSteady c c
steady-itself c = record { many = refl; writes = refl; room = omega arith }

pub steady-then : (c d e : CopiesState) → IsSteady c d → IsSteady d e → IsSteady c e
steady-then c d e h k = record { many = k.many ∙ h.many; writes = k.writes ∙ h.writes; room = omega (arith, h.room, k.room) }

-- nothing is delivered
pub same-follows : (o : Opening) (c d : CopiesState) (es : List Event) → Follows o c es → threads_of d ≡ threads_of c
    → IsSame (threads_of c) (space_of d) (space_of c) → Follows o d es
same-follows o c d es f many same = record {
  many = many ∙ f.many;
  run = f.run;
  shows = same-then o.threads (space_of d) (space_of c) (space_after o.threads es)
      (subst (λ k. IsSame k (space_of d) (space_of c)) f.many same) f.shows;
}

-- where no mail waits, a delivery changes nothing
pub nothing-received : (c d : CopiesState) (to from : ℕ) → mail_in c to from ≡ []
    → IsSame (threads_of c) (space_of d) (received to from (mail_in c to from) (space_of c)) → IsSame (threads_of c) (space_of d) (space_of c)
nothing-received c d to from e same =
    subst (λ ms. IsSame (threads_of c) (space_of d) (received to from ms (space_of c))) e same

-- all mail is delivered, and then the clocks meet
pub met-after : (o : Opening) (c d e : CopiesState) (before es : List Event) (t n : ℕ) → Follows o c before → Follows o d es → n ≡ threads_of c
    → es ≡ before ++ all_deliveries t n n (space_of c) → NoneWaits n (space_of d)
    → threads_of e ≡ threads_of d → IsSame (threads_of d) (space_of e) (met (threads_of d) (space_of d)) → IsReady o true t before e es
met-after o c d e before es t n f g all is none many same =
    let s = space_after o.threads es in
    let threads = f.many in
    let here = g.many in
    let n_is : n ≡ o.threads = all ∙ f.many in
    record {
      many = many ∙ g.many;
      events = is ∙ ap (λ k. before ++ all_deliveries t k k (space_of c)) n_is
          ∙ ap (λ l. before ++ l) (all-same t o.threads o.threads (space_of c) (space_after o.threads before) f.shows.mail);
      run = g.run;
      none = λ _ to from h k. sym (g.shows.mail to from h k) ∙ none to from (omega arith) (omega arith);
      shows = same-then o.threads (space_of e) (met o.threads (space_of d)) (met o.threads s)
          (subst (λ k. IsSame k (space_of e) (met k (space_of d))) g.many same) (met-same o.threads (space_of d) s g.shows);
    }

-- nothing is due
pub ready-itself : (o : Opening) (c : CopiesState) (es : List Event) (t : ℕ) → Follows o c es → IsReady o false t es c es
ready-itself o c es t f = record { many = f.many; events = refl; run = f.run; none = λ h. absurd (false≢true h); shows = f.shows }
