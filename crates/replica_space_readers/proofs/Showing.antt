-- No history of the ordinary memory has the records of the two runs.
use Rattle.std.proofs.Common.{◌≡◌, ℕ, ◌<◌, ◌==◌, List, refl, sym, subst, ◌∙◌, eq-eqb, arith, inl, inr, true, false}
use Rattle.std.proofs.lemmas.Bool.{false≢true}
use Rattle.block_layout.specs.declared.place.Loc.{Loc}
use Rattle.upc_values.specs.declared.record.Item.{Item}
use Rattle.upc_values.specs.declared.journal.Entry.{Entry}
use Rattle.upc_values.specs.Lists.{Each, Has, Precedes}
use Rattle.upc_values.specs.Drain.{drain, entries_of}
use Rattle.upc_values.specs.Openings.{Opening}
use Rattle.upc_values.proofs.Membership.{each-has, each-from, has-filter, filter-precedes}
use Rattle.replica_space.specs.declared.event.Event.{Event}
use Rattle.replica_space.specs.Events.{history_in}
use Rattle.replica_space.specs.layer.ReplicaRows.{x, y, two_readers}
use Rattle.replica_space_readers.specs.code.Readers.{BeginsWith0, WritesNoneOr1, SeesAlone, record_in, unstalled, IsOrdinary, readers_after_start, one_sees_both, IsOrdinaryToo}
use Rattle.replica_space_readers.proofs.Draining.{entries_from, WritesLast, drain-own}
use Rattle.replica_space_readers.proofs.Reading.{readers-agree}

-- what each of four threads does writes nothing but 1, and threads 2 and 3 see one write each
record Readers (es : List Event) : Type 0 where
  writes_last : (t : ℕ) → t < 4 → WritesLast (record_in t es)
  ones_of_x : (t : ℕ) → t < 4 → Each (WritesNoneOr1 x) (entries_from t 0 (record_in t es))
  ones_of_y : (t : ℕ) → t < 4 → Each (WritesNoneOr1 y) (entries_from t 0 (record_in t es))
  second : SeesAlone x y (entries_from 2 0 (record_in 2 es))
  third : SeesAlone y x (entries_from 3 0 (record_in 3 es))

module _ (es : List Event) (r : Readers es) (o : Opening) (n : o.threads ≡ 4) (records : ℕ → List Item)
    (history : List Entry) (h : IsOrdinary o es records history) where
  -- a thread's entries
  own : (t : ℕ) → t < o.threads → entries_of t history ≡ entries_from t 0 (record_in t es)
  own t lt =
      h.drains t lt
      ∙ drain-own t (records t) (record_in t es) (h.same t lt) (r.writes_last t (subst (λ k. t < k) n lt))

  -- what holds of what each thread does holds of each entry of the history
  each-own : (P : Entry → Type 0) → ((t : ℕ) → t < 4 → Each P (entries_from t 0 (record_in t es))) → Each P history
  each-own P each =
      each-from P history
      (λ e m.
      let lt = each-has (λ d. d.thread < o.threads) history h.below e m in
      each-has P (entries_from e.thread 0 (record_in e.thread es)) (each e.thread (subst (λ k. e.thread < k) n lt)) e
      (subst (λ l. Has l e) (own e.thread lt)
      (has-filter (λ d. d.thread == e.thread) history e (eq-eqb e.thread e.thread refl) m)))

  -- what a thread does in an order stands so in the history
  before-own : (t : ℕ) → t < o.threads → (a b : Entry) → Precedes (entries_from t 0 (record_in t es)) a b → Precedes history a b
  before-own t lt a b p =
      filter-precedes (λ d. d.thread == t) history a b (subst (λ l. Precedes l a b) (sym (own t lt)) p)

  -- what a thread sees, it sees in the history
  seen-so : (t : ℕ) → t < o.threads → (l k : Loc) → SeesAlone l k (entries_from t 0 (record_in t es)) → SeesAlone l k history
  seen-so t lt l k s = record {
    thread = s.thread;
    earlier = s.earlier;
    later = s.later;
    strict = s.strict;
    strict_later = s.strict_later;
    reads = before-own t lt _ _ s.reads;
  }

  none-ordinary : BeginsWith0 o x → BeginsWith0 o y → ⊥
  none-ordinary bx by =
      readers-agree o history x y h.legal bx by (each-own (WritesNoneOr1 x) r.ones_of_x)
      (each-own (WritesNoneOr1 y) r.ones_of_y) (seen-so 2 (omega arith) x y r.second)
      (seen-so 3 (omega arith) y x r.third)

-- what holds of threads 0 to 3 holds of each of the first four
four : (P : ℕ → Type 0) → P 0 → P 1 → P 2 → P 3 → (t : ℕ) → t < 4 → P t
four P a b c d ℕ.zero h = a
four P a b c d (ℕ.suc ℕ.zero) h = b
four P a b c d (ℕ.suc (ℕ.suc ℕ.zero)) h = c
four P a b c d (ℕ.suc (ℕ.suc (ℕ.suc ℕ.zero))) h = d
four P a b c d (ℕ.suc (ℕ.suc (ℕ.suc (ℕ.suc t)))) h = absurd (omega arith)

-- the action is no relaxed write
other : {X : Type 0} → false ≡ true → X
other h = absurd (false≢true h)

of-two_readers : Readers two_readers
of-two_readers = record {
  writes_last =
      four (λ t. WritesLast (record_in t two_readers)) (λ h. refl, tt) (λ h. refl, tt) (other, (other, tt))
      (other, (other, tt));
  ones_of_x =
      four (λ t. Each (WritesNoneOr1 x) (entries_from t 0 (record_in t two_readers))) (inr refl, tt) (inl refl, tt)
      (inl refl, (inl refl, tt)) (inl refl, (inl refl, tt));
  ones_of_y =
      four (λ t. Each (WritesNoneOr1 y) (entries_from t 0 (record_in t two_readers))) (inl refl, tt) (inr refl, tt)
      (inl refl, (inl refl, tt)) (inl refl, (inl refl, tt));
  second = record {
    thread = 2;
    earlier = 0;
    later = 1;
    strict = false;
    strict_later = false;
    reads = inl (refl, inl refl);
  };
  third = record {
    thread = 3;
    earlier = 0;
    later = 1;
    strict = false;
    strict_later = false;
    reads = inl (refl, inl refl);
  };
}

of-readers_after_start : Readers readers_after_start
of-readers_after_start = record {
  writes_last =
      four (λ t. WritesLast (record_in t readers_after_start)) (other, (other, (λ h. refl, tt)))
      (other, (other, (λ h. refl, tt))) (other, (other, (other, (other, tt)))) (other, (other, (other, (other, tt))));
  ones_of_x =
      four (λ t. Each (WritesNoneOr1 x) (entries_from t 0 (record_in t readers_after_start)))
      (inl refl, (inl refl, (inr refl, tt))) (inl refl, (inl refl, (inl refl, tt)))
      (inl refl, (inl refl, (inl refl, (inl refl, tt)))) (inl refl, (inl refl, (inl refl, (inl refl, tt))));
  ones_of_y =
      four (λ t. Each (WritesNoneOr1 y) (entries_from t 0 (record_in t readers_after_start)))
      (inl refl, (inl refl, (inl refl, tt))) (inl refl, (inl refl, (inr refl, tt)))
      (inl refl, (inl refl, (inl refl, (inl refl, tt)))) (inl refl, (inl refl, (inl refl, (inl refl, tt))));
  second = record {
    thread = 2;
    earlier = 2;
    later = 3;
    strict = false;
    strict_later = false;
    reads = inr (inr (inl (refl, inl refl)));
  };
  third = record {
    thread = 3;
    earlier = 2;
    later = 3;
    strict = false;
    strict_later = false;
    reads = inr (inr (inl (refl, inl refl)));
  };
}

pub two_readers-none : (o : Opening) → o.threads ≡ 4 → BeginsWith0 o x → BeginsWith0 o y → (records : ℕ → List Item)
    (history : List Entry) → IsOrdinary o two_readers records history → ⊥
two_readers-none o n bx by records history h = none-ordinary two_readers of-two_readers o n records history h bx by

pub after_start-none : (o : Opening) → o.threads ≡ 4 → BeginsWith0 o x → BeginsWith0 o y → (records : ℕ → List Item)
    (history : List Entry) → IsOrdinary o readers_after_start records history → ⊥
after_start-none o n bx by records history h =
    none-ordinary readers_after_start of-readers_after_start o n records history h bx by

pub ordinary-too : IsOrdinaryToo
ordinary-too = record {
  same = four (λ t. unstalled (record_in t one_sees_both) ≡ record_in t one_sees_both) refl refl refl refl;
  below = (omega arith, (omega arith, (omega arith, (omega arith, (omega arith, (omega arith, tt))))));
  legal = (refl, (refl, (refl, (refl, (refl, (refl, tt))))));
  drains =
      four
      (λ t. entries_of t (history_in one_sees_both) ≡ drain t (record_in t one_sees_both)) refl refl refl refl;
}
