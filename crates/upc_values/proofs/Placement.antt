-- Each entry of the history finds the operations in its place, and each read has the value of the last write before it.
use Rattle.std.proofs.Common.{◌≡◌, ℕ, ◌<◌, ◌≤◌, ◌==◌, ◌||◌, true, cond, List, [], ◌∷◌, map, refl, sym, ap, subst, eq-eqb, arith, inl, inr}
use Rattle.std.proofs.lemmas.Bool.{cond_both, cond-true, or_right, or_left}
use Rattle.block_layout.specs.declared.place.Loc.{Loc}
use Rattle.upc_values.specs.declared.scalar.Scalar.{Scalar}
use Rattle.upc_values.specs.declared.journal.Entry.{Entry}
use Rattle.upc_values.specs.declared.journal.Journal.{Journal}
use Rattle.upc_values.specs.Orders.{no_strand, record_of, operations_at, placed, global_order, is_shown, thread_order}
use Rattle.upc_values.specs.Operations.{Operation}
use Rattle.upc_values.specs.Drain.{Commit, entries_in, drained, entries_of}
use Rattle.upc_values.specs.History.{EachBelow}
use Rattle.upc_values.specs.Consistent.{FollowsBuffers, ReadsLast}
use Rattle.upc_values.proofs.Values.{StandsFor, EachStands, AreAnsweredFrom, global-reads, matches-none, reads-filter}
use Rattle.upc_values.proofs.Commits.{AllStand, sound-drained}
use Rattle.upc_values.proofs.Numbering.{counted, numbered-drained}
use Rattle.upc_values.proofs.Membership.{has-filter}
use Rattle.upc_values.specs.Lists.{Has}

counted-none : (e : Entry) (cs : List Commit) → counted e.index cs ≡ 0 → Has (map (λ c. c.entry) cs) e → ⊥
counted-none e [] h m = m
counted-none e (c ∷ cs) h (inl q) =
    let t : cond {A = ℕ} (c.entry.index == e.index) 1 0 ≡ 1 =
    cond-true (c.entry.index == e.index) 1 0 (eq-eqb c.entry.index e.index (ap (λ z. z.index) q)) in
    omega arith
counted-none e (c ∷ cs) h (inr m) = counted-none e cs (omega arith) m

-- the commit with the entry's number is the entry's
found : (e : Entry) (cs : List Commit) → AllStand cs → counted e.index cs ≤ 1 → Has (map (λ c. c.entry) cs) e → StandsFor e (operations_at e.index cs)
found e [] s h m = absurd m
found e (c ∷ cs) s h (inl q) =
    let t : (c.entry.index == e.index) ≡ true = eq-eqb c.entry.index e.index (ap (λ z. z.index) q) in
    subst (StandsFor e) (sym (cond-true (c.entry.index == e.index) c.operations (operations_at e.index cs) t))
    (subst (λ z. StandsFor z c.operations) q s.0)
found e (c ∷ cs) s h (inr m) =
    cond_both (c.entry.index == e.index) c.operations (operations_at e.index cs) (StandsFor e)
    (λ t.
    let one : cond {A = ℕ} (c.entry.index == e.index) 1 0 ≡ 1 = cond-true (c.entry.index == e.index) 1 0 t in
    absurd (counted-none e cs (omega arith) m))
    (λ t. found e cs s.1 (omega arith) m)

-- what the buffers emit, thread by thread
pub agrees-of : (j : Journal) (t : ℕ) → FollowsBuffers j → t < j.threads → (drained t (record_of j t)).agrees ≡ true
agrees-of j t f h = f.agrees t no_strand (subst (λ n. t < n) (sym f.many) h)

pub drains-of : (j : Journal) (t : ℕ) → FollowsBuffers j → t < j.threads → entries_of t j.history ≡ entries_in (drained t (record_of j t)).emitted
drains-of j t f h = f.drains t no_strand (subst (λ n. t < n) (sym f.many) h)

stands-placed : (j : Journal) → FollowsBuffers j → (e : Entry) → e.thread < j.threads → Has j.history e → StandsFor e (placed j e)
stands-placed j f e h m =
    let items = record_of j e.thread in
    let w = drained e.thread items in
    let a = agrees-of j e.thread f h in
    let once = (numbered-drained e.thread items a).once e.index in
    let here : Has (entries_of e.thread j.history) e =
    has-filter (λ x. x.thread == e.thread) j.history e (eq-eqb e.thread e.thread refl) m in
    found e w.emitted (sound-drained e.thread items a).emitted (omega arith)
    (subst (λ l. Has l e) (drains-of j e.thread f h) here)

each-stands : (j : Journal) → FollowsBuffers j → (es : List Entry) → EachBelow (j.threads) es → ((e : Entry) → Has es e → Has j.history e) → EachStands (placed j) es
each-stands j f [] b m = tt
each-stands j f (e ∷ es) b m =
    (stands-placed j f e b.0 (m e (inl refl)), each-stands j f es b.1 (λ x h. m x (inr h)))

-- in the global order each read has the value of the last write before it
pub global-right : (j : Journal) (initial : Loc → Scalar) → FollowsBuffers j → AreAnsweredFrom initial [] j.history → ReadsLast initial (global_order j)
global-right j initial f h =
    global-reads initial (placed j) j.history [] [] matches-none (each-stands j f j.history f.below (λ e m. m)) h

shows-writes : (t : ℕ) (o : Operation) → o.write ≡ true → is_shown t o ≡ true
shows-writes t o h = or_right (o.thread == t) (o.write || o.strict) (or_left o.write o.strict h)

pub reads-right : (j : Journal) (initial : Loc → Scalar) (t : ℕ) → FollowsBuffers j → AreAnsweredFrom initial [] j.history → ReadsLast initial (thread_order j t)
reads-right j initial t f h =
    reads-filter initial (is_shown t) (shows-writes t) [] [] (global_order j) (λ p. refl) (global-right j initial f h)
