-- What is true of a run, after each step.
use Rattle.std.proofs.Common.{◌≡◌, ◌≢◌, ℕ, ◌+◌, ◌<◌, ◌^◌, List, [], ◌∷◌, ◌++◌, length, drop, Option, Some, None, refl, sym, ap, ◌∙◌, subst, append_assoc, arith}
use Rattle.std.specs.List.{cons_option}
use Rattle.std.proofs.lemmas.List.{append-nil, append_cancel_right, length_push}
use Rattle.upc_values.specs.declared.journal.Entry.{Entry}
use Rattle.upc_values.specs.Openings.{Opening, IsOpening}
use Rattle.upc_values.specs.Formed.{AreWellFormed}
use Rattle.replica_space.specs.declared.message.Message.{Message}
use Rattle.replica_space.specs.declared.event.Event.{Event}
use Rattle.replica_space.specs.Events.{delivered, entry_by, history_in}
use Rattle.replica_space.specs.Spaces.{begun}
use Rattle.replica_space_quiet.specs.layer.Loud.{loud}
use Rattle.replica_space_copies.specs.layer.Copies.{CopiesState, threads_of, space_of}
use Rattle.replica_space_copies.specs.layer.Same.{IsSame}
use Rattle.replica_space_mail.specs.layer.Deliveries.{Follows, deliveries}
use Rattle.replica_space_acts.specs.code.Sound.{AreReplicas}

pub cons-append : (e : Option Entry) (xs ys : List Entry) → cons_option e (xs ++ ys) ≡ cons_option e xs ++ ys
cons-append (Some e) xs ys = refl
cons-append None xs ys = refl

-- the history in events, one list after another
pub history-append : (xs ys : List Event) → history_in (xs ++ ys) ≡ history_in xs ++ history_in ys
history-append [] ys = refl
history-append (x ∷ xs) ys =
    ap (cons_option (entry_by x.by x.deed)) (history-append xs ys)
    ∙ cons-append (entry_by x.by x.deed) (history_in xs) (history_in ys)

-- no event yet
pub none-yet : (o : Opening) (w : Opening × List Entry) (c : CopiesState) (es : List Event) (n : ℕ) → IsOpening o → w.0 ≡ o → w.1 ≡ [] → o.threads ≡ n
    → threads_of c ≡ n → IsSame n (space_of c) begun → es ≡ [] → AreReplicas w c es 0
none-yet o w c es n h e k q many same none =
    subst (λ (l : List Event). AreReplicas w c l 0) (sym none)
    (record {
      opening = subst IsOpening (sym e) h;
      follows = record {
        many = many ∙ sym q ∙ sym (ap (λ (p : Opening). p.threads) e);
        run = tt;
        shows = subst (λ t. IsSame t (space_of c) begun) (sym q ∙ sym (ap (λ (p : Opening). p.threads) e)) same;
      };
      formed = tt;
      world = k;
      counted = refl;
      short = omega arith;
    })

-- one delivery where a message waits
pub delivered-one : (new old : List Event) (t to from : ℕ) (ms : List Message) → ms ≢ []
    → new ++ deliveries t to from (drop 1 ms) ≡ old ++ deliveries t to from ms → new ≡ old ++ delivered t to from ∷ []
delivered-one new old t to from [] ne e = absurd (ne refl)
delivered-one new old t to from (m ∷ ms) ne e =
    append_cancel_right new (old ++ delivered t to from ∷ []) (deliveries t to from ms)
    (e ∙ sym (append_assoc old (delivered t to from ∷ []) (deliveries t to from ms)))

pub kept-delivery : (w : Opening × List Entry) (c d : CopiesState) (es new : List Event) (count more t to from : ℕ) → AreReplicas w c es count
    → Follows w.0 d new → new ≡ es ++ delivered t to from ∷ [] → more ≡ count + 1 → more < 2 ^ 62 → AreReplicas w d new more
kept-delivery w c d es new count more t to from a f e next lt =
    let history : history_in new ≡ history_in es =
    ap history_in e ∙ history-append es (delivered t to from ∷ []) ∙ append-nil (history_in es) in
    record {
      opening = a.opening;
      follows = f;
      formed = subst (AreWellFormed w.0) (sym history) a.formed;
      world = a.world ∙ ap loud (sym history);
      counted = omega (arith, ap length e, length_push es (delivered t to from), a.counted, next);
      short = lt;
    }
