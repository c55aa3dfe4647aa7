-- All parts together are what a sound journal with consistent orders is.
use Rattle.std.proofs.Common.{ℕ, ◌<◌, List, length, refl, sym, subst}
use Rattle.std.proofs.lemmas.List.{get_or_default}
use Rattle.upc_values.specs.declared.action.Reply.{Reply}
use Rattle.upc_values.specs.declared.journal.Strand.{Strand}
use Rattle.upc_values.specs.declared.journal.Journal.{Journal}
use Rattle.upc_values.specs.declared.order.Orders.{Orders}
use Rattle.upc_values.specs.Ends.{SharedEnd}
use Rattle.upc_values.specs.Openings.{Opening}
use Rattle.upc_values.specs.Orders.{no_strand}
use Rattle.upc_values.specs.Outcomes.{Outcome}
use Rattle.upc_values.specs.Sound.{IsStrand, IsSound}
use Rattle.upc_values.specs.Consistent.{begins}
use Rattle.upc_verify_parts.specs.Parts.{HasShape, HistoryHolds, strand_of}
use Rattle.upc_verify_orders.proofs.Deciding.{are-consistent}
use Rattle.upc_verify_judge.specs.Verdicts.{shape, strands, entries, history, stalls, ends, orders, AllHold, case_of, IsSoundRun, PartsAreASoundRun}

module _ (o : Opening) (outcome : (budget thread : ℕ) → List Reply → Outcome) (j : Journal) (given : Orders) (some : 0 < o.threads) where
  abbrev IsStrandAt : ℕ → Strand → Type 0
  IsStrandAt t s = IsStrand o t j.actions j.history (outcome j.budget t) s

  module _ (h : AllHold (case_of o outcome j given)) where
    shaped : HasShape o.threads j given
    shaped = h shape 0 some refl

    lawful : HistoryHolds o j.history
    lawful = h history 0 some refl

    strand-at : (t : ℕ) → t < o.threads → IsStrandAt t (strand_of j t)
    strand-at t lt =
        let drains = (h entries t lt).drains in
        let at = h ends t lt in
        record {
          conforms = h strands t lt;
          agrees = drains.agrees;
          drains = drains.entries;
          justified = h stalls t lt;
          short = at.short;
          «end» = at.own;
        }

    in-threads : (t : ℕ) → t < length j.strands → t < o.threads
    in-threads t lt = subst (λ n. t < n) shaped.strands lt

    sound-from : IsSound o outcome j
    sound-from = record {
      threads = shaped.threads;
      many = shaped.strands;
      below = (h entries 0 some).below refl;
      legal = lawful.legal;
      formed = lawful.formed;
      strands = λ t d lt. subst (IsStrandAt t) (sym (get_or_default j.strands t d no_strand lt)) (strand-at t (in-threads t lt));
      ends = λ t d lt.
          subst (λ (s : Strand). SharedEnd o j t s.«end») (sym (get_or_default j.strands t d no_strand lt))
          (h ends t (in-threads t lt)).shared;
    }

    run-from : IsSoundRun o outcome j given
    run-from = record {
      shape = shaped;
      sound = sound-from;
      consistent =
          (are-consistent (begins o j.history) j given (subst (λ n. 0 < n) (sym shaped.threads) some)).0
          (λ t lt. h orders t (subst (λ n. t < n) shaped.threads lt));
    }

  module _ (r : IsSoundRun o outcome j given) where
    sound : IsSound o outcome j
    sound = r.sound

    inside : (t : ℕ) → t < o.threads → t < length j.strands
    inside t lt = subst (λ n. t < n) (sym sound.many) lt

    strand-of : (t : ℕ) → t < o.threads → IsStrandAt t (strand_of j t)
    strand-of t lt = sound.strands t no_strand (inside t lt)

    run-to : AllHold (case_of o outcome j given)
    run-to shape t lt = λ e. r.shape
    run-to strands t lt = (strand-of t lt).conforms
    run-to entries t lt =
        let s = strand-of t lt in
        record { below = λ e. sound.below; drains = record { agrees = s.agrees; entries = s.drains } }
    run-to history t lt = λ e. record { legal = sound.legal; formed = sound.formed }
    run-to stalls t lt = (strand-of t lt).justified
    run-to ends t lt =
        let s = strand-of t lt in
        record { short = s.short; own = s.«end»; shared = sound.ends t no_strand (inside t lt) }
    run-to orders t lt =
        (are-consistent (begins o j.history) j given (subst (λ n. 0 < n) (sym sound.threads) some)).1 r.consistent t
        (subst (λ n. t < n) (sym sound.threads) lt)

pub parts-are : PartsAreASoundRun
parts-are o outcome j given some = (run-from o outcome j given some, run-to o outcome j given some)
