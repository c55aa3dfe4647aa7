-- The clocks show the races.
use Rattle.std.proofs.Common.{◌≡◌, ◌≢◌, ℕ, ◌+◌, ◌<◌, ◌≤◌, ◌&&◌, ◌||◌, true, false, List, [], ◌∷◌, ◌++◌, refl, sym, ap, ◌∙◌, subst, inl, inr, arith}
use Rattle.std.proofs.lemmas.Bool.{cases_lt, false≢true, and_from}
use Rattle.block_layout.specs.declared.place.Loc.{Loc}
use Rattle.upc_values.specs.declared.record.Item.{Item}
use Rattle.upc_values.specs.declared.record.Item.TheVariants.{Did, Stall}
use Rattle.upc_values.specs.declared.journal.Entry.{Entry}
use Rattle.upc_values.specs.declared.journal.Journal.{Journal}
use Rattle.upc_values.specs.Lists.{Each, Has, Precedes}
use Rattle.upc_values.specs.Operations.{Operation, Place, Cell, Sync, Access, Nothing, Reads, Writes, Writes_sync, Reads_sync, Writes_and_reads_sync, access, operations_by, accesses_of}
use Rattle.upc_values.specs.Orders.{IsOf, record_of, operations_from, placed, global_order}
use Rattle.upc_values.specs.Consistent.{same_place}
use Rattle.upc_values.proofs.Membership.{each-has, each-append, precedes-has, precedes-strict, precedes-trans}
use Rattle.race_report.specs.Reach.{ComesBefore}
use Rattle.race_report.specs.Races.{AreRacing}
use Rattle.race_report.specs.Serial.{IsRun}
use Rattle.upc_values.proofs.Consistency.{global-only, global-distinct}
use Rattle.race_report_clocks.specs.layer.Clocks.{known, clocks}
use Rattle.race_report_bridge.specs.layer.Telling.{MightRace, ClocksShowRaces}
use Rattle.race_report_bridge.proofs.Telling.{all-tell, all-forward}

-- what is not on a cell is strict
abbrev IsSettled : Operation → Type 0
IsSettled o = o.place ≡ Sync → o.strict ≡ true

no-sync : (l : Loc) → Cell l ≡ Sync → ⊥
no-sync l e = absurd cc

settled-by : (t i : ℕ) (c : Access) → Each IsSettled (operations_by t i c)
settled-by t i Nothing = tt
settled-by t i (Reads l s v) = (λ e. absurd (no-sync l e), tt)
settled-by t i (Writes l s v) = (λ e. absurd (no-sync l e), tt)
settled-by t i Writes_sync = (λ e. refl, tt)
settled-by t i Reads_sync = (λ e. refl, tt)
settled-by t i Writes_and_reads_sync = (λ e. refl, ((λ e. refl), tt))

settled-from : (t n : ℕ) (items : List Item) → Each IsSettled (operations_from t n items)
settled-from t n [] = tt
settled-from t n (Stall ∷ items) = settled-from t n items
settled-from t n (Did a r ∷ items) =
    each-append IsSettled (accesses_of t n a r) (operations_from t (n + 1) items) (settled-by t n (access a r))
    (settled-from t (n + 1) items)

settled-of : (j : Journal) (o : Operation) → IsOf j o → IsSettled o
settled-of j o of =
    each-has IsSettled (operations_from o.thread 0 (record_of j o.thread)) (settled-from o.thread 0 (record_of j o.thread)) o of.1

sync-both : (p q : Place) → same_place p q ≡ true → p ≡ Sync → q ≡ Sync
sync-both p Sync h e = refl
sync-both p (Cell l) h e = absurd (false≢true (sym (ap (λ z. same_place z (Cell l)) e) ∙ h))

pub record OnCell (o : Operation) : Type 0 where
  pub loc : Loc
  pub is : o.place ≡ Cell loc

place-cases : (o : Operation) (p : Place) → o.place ≡ p → (p ≡ Sync → ⊥) → OnCell o
place-cases o (Cell l) e n = record { loc = l; is = e }
place-cases o Sync e n = absurd (n refl)

-- two that might race are on a cell
pub on-cell : (j : Journal) (x y : Operation) → IsOf j x → IsOf j y → MightRace x y → OnCell x
on-cell j x y ofx ofy m =
    place-cases x x.place refl
    (λ e.
    let sx : x.strict ≡ true = settled-of j x ofx e in
    let sy : y.strict ≡ true = settled-of j y ofy (sync-both x.place y.place m.place e) in
    false≢true (sym m.relaxed ∙ and_from x.strict y.strict sx sy))

pub all-shown : ClocksShowRaces
all-shown j front rest e x y run is hy p =
    let h = precedes-has (global_order j) x y p in
    let ofx = global-only j run.follows x h.0 in
    let ofy = global-only j run.follows y h.1 in (
      λ r.
          let m : MightRace x y = record { threads = r.threads; place = r.place; writes = r.writes; relaxed = r.relaxed } in
          let c = on-cell j x y ofx ofy m in
          let k = known front (clocks front) e x.thread in (
            m,
            elim (cases_lt x.index k) [
              | inl b ↦ absurd (r.not_before ((all-tell j front rest e x y c.loc run is ofx c.is hy r.threads).1 b))
              | inr g ↦ g
            ],
          ),
      λ q.
          let m = q.0 in
          let c = on-cell j x y ofx ofy m in
          record {
            first = ofx;
            second = ofy;
            threads = m.threads;
            place = m.place;
            writes = m.writes;
            relaxed = m.relaxed;
            not_before = λ b.
                let l = (all-tell j front rest e x y c.loc run is ofx c.is hy m.threads).0 b in
                let g = q.1 in
                absurd (omega arith);
            not_after = λ b.
                let f = all-forward j y x run ofy ofx (λ t. m.threads (sym t)) b in
                precedes-strict (global_order j) (global-distinct j run.follows) x
                (precedes-trans (global_order j) (global-distinct j run.follows) x y x p f);
          },
    )
