-- What is found by one run more.
use Rattle.std.proofs.Common.{◌≡◌, ◌∙◌, ◌+◌, ◌<◌, ◌^◌, ℕ, List, [], ◌∷◌, ◌++◌, length, map, refl, sym, ap, arith}
use Rattle.std.proofs.lemmas.List.{map_push, length-map}
use Rattle.std.proofs.lemmas.List.Sums.{count_by-le-length}
use Rattle.upc_values.specs.declared.journal.Journal.{Journal}
use Rattle.upc_values.specs.Lists.{Each}
use Rattle.upc_values.proofs.Lists.{each-push}
use Rattle.typed_tree.specs.Programs.{Checked}
use Rattle.upc_task.specs.declared.limits.Limits.{Limits}
use Rattle.program_runs.specs.Picked.{IsRunByPicks}
use Rattle.outcomes.specs.declared.row.Row.{Row}
use Rattle.outcomes.specs.Tally.{Trial, Listed, is_same, listed, shown_by, shows, how_many}
use Rattle.outcomes.specs.Found.{IsFound}
use Rattle.outcomes.specs.code.Added.{added}
use Rattle.outcomes.proofs.Tallies.{tally-more, tally-none}

abbrev pub row_of : List ℕ → Journal → Listed
row_of picks j = record { count = 1; picks = picks; shown = shown_by j }

module _ (program : Checked) (l : Limits) where
  pub found-none : IsFound program l [] []
  found-none = record { trials = []; by = refl; sound = tt; tally = tally-none }

  pub found-more : (schedules : List (List ℕ)) (list : List Listed) (picks : List ℕ) (j : Journal)
      → IsFound program l schedules list → IsRunByPicks program l picks j
      → IsFound program l (schedules ++ picks ∷ []) (added (row_of picks j) list)
  found-more schedules list picks j h run =
      let t : Trial = record { picks = picks; journal = j } in
      record {
        trials = h.trials ++ t ∷ [];
        by = map_push (λ u. u.picks) h.trials t ∙ ap (λ ps. ps ++ picks ∷ []) h.by;
        sound = each-push (λ u. IsRunByPicks program l u.picks u.journal) h.trials t h.sound run;
        tally = tally-more h.trials t list h.tally;
      }

  pub run-few : (picks : List ℕ) (j : Journal) → IsRunByPicks program l picks j → l.threads < 2 ^ 32
      → length j.strands < 2 ^ 32
  run-few picks j run h =
      let many = run.run.sound.many in
      let threads = run.run.sound.threads in
      let here = run.run.threads in
      omega arith

  counts-few : (trials : List Trial) (rows : List Row) → length trials + 1 < 2 ^ 32
      → Each (λ w. w.count ≡ how_many trials w.shown) (map listed rows) → Each (λ w. w.count + 1 < 2 ^ 32) rows
  counts-few trials [] few h = tt
  counts-few trials (w ∷ rows) few h =
      let most = count_by-le-length (λ t. is_same (listed w).shown (shows t)) trials in
      let is = h.0 in
      (omega arith, counts-few trials rows few h.1)

  pub found-few : (schedules : List (List ℕ)) (rows : List Row) → IsFound program l schedules (map listed rows)
      → length schedules + 1 < 2 ^ 32 → Each (λ w. w.count + 1 < 2 ^ 32) rows
  found-few schedules rows h few =
      let many : length h.trials ≡ length schedules = sym (length-map h.trials (λ t. t.picks)) ∙ ap length h.by in
      counts-few h.trials rows (omega arith) h.tally.counts
