-- One more entry of the history.
use Rattle.std.proofs.Common.{◌≡◌, ℕ, ◌+◌, ◌<◌, ◌==◌, List, [], ◌∷◌, ◌++◌, map, get_or, set, None, slice_index, refl, sym, ap, ◌∙◌, subst, inl, append_assoc, append-nil, eq-eqb}
use Rattle.std.proofs.lemmas.Bool.{cond-true}
use Rattle.upc_values.specs.declared.journal.Entry.{Entry}
use Rattle.upc_values.specs.declared.journal.Journal.{Journal}
use Rattle.upc_values.specs.Lists.{Each, Has}
use Rattle.upc_values.specs.Operations.{Operation}
use Rattle.upc_values.specs.Orders.{placed}
use Rattle.upc_values.specs.Consistent.{FollowsBuffers}
use Rattle.upc_values.proofs.Membership.{has-right, each-back}
use Rattle.order_builder.specs.declared.names.Named.{Named}
use Rattle.order_builder.specs.declared.commits.Commits.{Commits}
use Rattle.order_builder.specs.layer.Commits.{named, AreCommits, AreCursors}
use Rattle.order_builder.proofs.Following.{Finds, finds, cursors-more}
use Rattle.race_report_clocks.specs.layer.Clocks.{Clock, Clocks, known, silent, advanced, clocks_from, clocks}
use Rattle.race_report_clocks.proofs.Pushed.{clocks-push}
use Rattle.race_report_tables.specs.declared.tables.Tables.{Tables}
use Rattle.race_report_tables.specs.layer.Tables.{AreClocks}
use Rattle.race_report_places.specs.layer.Sights.{Sight, seen_with, sights_from}
use Rattle.race_report_cells.specs.declared.cells.Cells.{Cells}
use Rattle.race_report_cells.specs.layer.Cells.{IsWalked}
use Rattle.race_report_cells.proofs.Walking.{walked-skip}
use Rattle.race_report_walk.specs.code.Walk.{location_of, sights_before, IsEntry, HasWalked}
use Rattle.race_report_walk.proofs.Placed.{IsOff, placed-off}

-- the sights of one more entry
sights-push : (j : Journal) (b : List Entry) (c : Clocks) (es : List Entry) (e : Entry)
    → sights_from j b c (es ++ e ∷ []) ≡ sights_from j b c es ++ seen_with (known (b ++ es) (clocks_from b c es) e) (placed j e)
sights-push j b c [] e =
    append-nil (seen_with (known b c e) (placed j e)) ∙ ap (λ z. seen_with (known z c e) (placed j e)) (sym (append-nil b))
sights-push j b c (x ∷ es) e =
    let front = b ++ x ∷ [] in
    let next = advanced b c x in
    let here = seen_with (known b c x) (placed j x) in
    let more = sights_from j front next es in
    ap (λ z. here ++ z) (sights-push j front next es e)
    ∙ sym (append_assoc here more (seen_with (known (front ++ es) (clocks_from front next es) e) (placed j e)))
    ∙ ap (λ z. (here ++ more) ++ seen_with (known z (clocks_from front next es) e) (placed j e)) (append_assoc b (x ∷ []) es)

pub sights-more : (j : Journal) (before : List Entry) (e : Entry)
    → sights_before j (before ++ e ∷ []) ≡ sights_before j before ++ seen_with (known before (clocks before) e) (placed j e)
sights-more j before e = sights-push j [] silent before e

-- what the thread of the entry knows with it
pub knows : (n : ℕ) (before : List Entry) (e : Entry) (tables : Tables) (row : List ℕ) → e.thread < n → AreClocks n (before ++ e ∷ []) tables
    → row ≡ get_or tables.known.items e.thread [] → (u : ℕ) → slice_index row u ≡ known before (clocks before) e u
knows n before e tables row lt h is u =
    ap (λ z. slice_index z u) is ∙ h.threads e.thread u lt ∙ ap (λ z. z.threads e.thread u) (clocks-push before e)
    ∙ cond-true (e.thread == e.thread) (known before (clocks before) e u) ((clocks before).threads e.thread u) (eq-eqb e.thread e.thread refl)

-- operations on no location
skips : (c : Cells) (before : List Sight) (k : Clock) (os : List Operation) → Each IsOff os → IsWalked c before → IsWalked c (before ++ seen_with k os)
skips c before k [] h w = subst (IsWalked c) (sym (append-nil before)) w
skips c before k (o ∷ os) h w =
    let b : Sight = record { operation = o; known = k } in
    subst (IsWalked c) (append_assoc before (b ∷ []) (seen_with k os))
    (skips c (before ++ b ∷ []) k os h.1 (walked-skip c before b h.0 w))

-- an entry without a location
pub walked-off : (j : Journal) (before : List Entry) (e : Entry) (names : List Named) (c : Cells) → IsEntry j e names → location_of e.action ≡ None
    → IsWalked c (sights_before j before) → IsWalked c (sights_before j (before ++ e ∷ []))
walked-off j before e names c is at w =
    subst (IsWalked c) (sym (sights-more j before e))
    (skips c (sights_before j before) (known before (clocks before) e) (placed j e) (placed-off j is.follows e is.below is.has at) w)

-- its thread is one of the journal's
pub entry-below : (j : Journal) → FollowsBuffers j → (cursors : List ℕ) (now left : List Entry) (tables : Tables) (cells : Cells) (e : Entry)
    → HasWalked j now cursors tables cells → now ≡ e ∷ left → e.thread < j.threads
entry-below j f cursors now left tables cells e h steps =
    (each-back (λ z. z.thread < j.threads) h.before (e ∷ left)
    (subst (Each (λ z. z.thread < j.threads)) (sym (ap (λ z. h.before ++ z) (sym steps) ∙ h.parts)) f.below)).0

-- an entry of the history, with what the walk finds at its thread's cursor
module _ (j : Journal) (f : FollowsBuffers j) (all : List Commits) (are : AreCommits j all) (cursors : List ℕ) (now left : List Entry)
    (tables : Tables) (cells : Cells) (e : Entry) (cursor : ℕ) (of : Commits) (h : HasWalked j now cursors tables cells) (steps : now ≡ e ∷ left)
    (at : cursor ≡ get_or cursors e.thread cursor) (found : of ≡ get_or all e.thread of) where
  parts : h.before ++ e ∷ left ≡ j.history
  parts = ap (λ z. h.before ++ z) (sym steps) ∙ h.parts

  pub finds-entry : Finds j f all are cursors e cursor of
  finds-entry = finds j f all are cursors h.before left e cursor of parts h.cursors_are at found

  pub is-entry : (names : List Named) → names ≡ map named (placed j e) → IsEntry j e names
  is-entry names q =
      record {
        follows = f;
        below = finds-entry.below;
        has = subst (λ z. Has z e) parts (has-right h.before (e ∷ left) e (inl refl));
        names_are = q;
      }

  pub walked-more : (names : List Named) (more : Tables) (next : Cells) → names ≡ map named (placed j e)
      → ((n : ℕ) (before : List Entry) → AreClocks n before tables → AreClocks n (before ++ e ∷ []) more)
      → ((g : Journal) (before : List Entry) → IsEntry g e names → AreClocks g.threads before tables → IsWalked cells (sights_before g before)
      → IsWalked next (sights_before g (before ++ e ∷ [])))
      → HasWalked j left (set cursors e.thread (cursor + 1)) more next
  walked-more names more next q clocks_go cells_go =
      record {
        before = h.before ++ e ∷ [];
        parts = append_assoc h.before (e ∷ []) left ∙ parts;
        cursors_are =
            subst (λ m. AreCursors j (h.before ++ e ∷ []) (set cursors e.thread (m + 1))) (sym finds-entry.is) (cursors-more j cursors h.before e finds-entry.below h.cursors_are);
        clocks = clocks_go j.threads h.before h.clocks;
        walked = cells_go j h.before (is-entry names q) h.clocks h.walked;
      }
