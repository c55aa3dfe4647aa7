-- What the program keeps of a walk, after a change of a pending commit.
use Rattle.std.proofs.Common.{◌≡◌, ℕ, ◌+◌, ◌<◌, ◌&&◌, Bool, List, [], ◌∷◌, ◌++◌, map, length, get_or, set, Some, None, refl, sym, ap, subst, ◌∙◌, append_assoc, append-nil, arith}
use Rattle.std.proofs.lemmas.List.{map-append, length-map}
use Rattle.block_layout.specs.declared.place.Loc.{Loc}
use Rattle.upc_values.specs.declared.scalar.Scalar.{Scalar}
use Rattle.upc_values.specs.declared.journal.Entry.{Entry}
use Rattle.upc_values.specs.Operations.{accesses}
use Rattle.upc_values.specs.Drain.{oldest_out, emptied, passed, commit_of, Commit, Walk, entries_in, pending_value, last_written, changed, with_read, combined, put_pending, looked_up, is_done, is_value}
use Rattle.order_builder.specs.declared.names.Named.{Named}
use Rattle.order_builder.specs.declared.entry.EntryRef.{EntryRef}
use Rattle.order_builder.specs.declared.entry.KeptCommit.{KeptCommit}
use Rattle.order_builder.specs.declared.emitted.Emitted.{Emitted}
use Rattle.order_builder.specs.declared.walk.Walk as program
use Rattle.order_builder.specs.layer.Commits.{named, AreFlat}
use Rattle.order_builder.specs.code.Views.{counted, noted, Named_commit, by_names, entry_in, kept, kept_entries, AreKept, IsEmitted, IsPushed, IsShown, IsLast}
use Rattle.order_builder.specs.code.Views as views
use Rattle.order_builder.proofs.Finding.{is-place}
use Rattle.order_builder.proofs.Flat.{flat-more}

abbrev commit : Entry → List Named → Named_commit
commit e ns = record { entry = e; names = ns }

-- the commits that are kept have the entries of the commits
pub entries-kept : (ks : List KeptCommit) (cs : List Commit) → AreKept ks cs → kept_entries ks ≡ entries_in cs
entries-kept [] [] h = refl
entries-kept [] (c ∷ cs) h = cc
entries-kept (k ∷ ks) [] h = cc
entries-kept (k ∷ ks) (c ∷ cs) h =
    let one : kept k ≡ by_names c = cc in
    let rest : AreKept ks cs = cc in
    ap (λ z. z.entry ∷ kept_entries ks) one ∙ ap (λ l. c.entry ∷ l) (entries-kept ks cs rest)

-- a change of a kept commit that is the change of the commit
abbrev Follows : (KeptCommit → KeptCommit) → (Commit → Commit) → Type 0
Follows g f = (k : KeptCommit) (c : Commit) → kept k ≡ by_names c → kept (g k) ≡ by_names (f c)

changed-there : (g : KeptCommit → KeptCommit) (f : Commit → Commit) → Follows g f → (ks : List KeptCommit) (cs : List Commit) (n : ℕ) (k : KeptCommit) (c : Commit) → AreKept ks cs → n < length ks → AreKept (set ks n (g (get_or ks n k))) (set cs n (f (get_or cs n c)))
changed-there g f follows [] cs n k c h lt = absurd (omega arith)
changed-there g f follows (x ∷ ks) [] n k c h lt = cc
changed-there g f follows (x ∷ ks) (y ∷ cs) ℕ.zero k c h lt =
    let one : kept x ≡ by_names y = cc in
    let rest : AreKept ks cs = cc in
    ap (λ z. z ∷ map kept ks) (follows x y one) ∙ ap (λ l. by_names (f y) ∷ l) rest
changed-there g f follows (x ∷ ks) (y ∷ cs) (ℕ.suc n) k c h lt =
    let one : kept x ≡ by_names y = cc in
    let rest : AreKept ks cs = cc in
    ap (λ z. z ∷ map kept (set ks n (g (get_or ks n k)))) one
    ∙ ap (λ l. by_names y ∷ l) (changed-there g f follows ks cs n k c rest (omega arith))

changed-kept : (l : Loc) (g : KeptCommit → KeptCommit) (f : Commit → Commit) → Follows g f → (ks ms : List KeptCommit) (cs : List Commit) (n : ℕ) (v : Scalar) → IsLast l (kept_entries ks) n v → ((d : KeptCommit) → ms ≡ set ks n (g (get_or ks n d))) → AreKept ks cs → AreKept ms (changed l f cs)
changed-kept l g f follows [] ms cs n v s m h = absurd (let w = s.within in omega arith)
changed-kept l g f follows (x ∷ ks) ms [] n v s m h = cc
changed-kept l g f follows (x ∷ ks) ms (y ∷ cs) n v s m h =
    let place = is-place l (y ∷ cs) n v (subst (λ es. IsLast l es n v) (entries-kept (x ∷ ks) (y ∷ cs) h) s) in
    let many : length (kept_entries (x ∷ ks)) ≡ length (x ∷ ks) = length-map (x ∷ ks) (λ z. entry_in z.entry) in
    ap (map kept) (m x)
    ∙ changed-there g f follows (x ∷ ks) (y ∷ cs) n x y h (let w = s.within in omega arith)
    ∙ sym (ap (map by_names) (place.changed f y))

names-more : (k : KeptCommit) (c : Commit) (e : Entry) (ns : List Named) → ns ≡ map named (accesses e) → kept k ≡ by_names c → k.names ++ ns ≡ map named (c.operations ++ accesses e)
names-more k c e ns q h =
    ap (λ z. z.names ++ ns) h ∙ ap (λ z. map named c.operations ++ z) q ∙ sym (map-append named c.operations (accesses e))

-- the operations of a read stand with those of the pending write
pub read-kept : (l : Loc) (e : Entry) (ns : List Named) (ks ms : List KeptCommit) (cs : List Commit) (n : ℕ) (v : Scalar) → ns ≡ map named (accesses e) → IsLast l (kept_entries ks) n v → ((d : KeptCommit) → ms ≡ set ks n (views.joined ns (get_or ks n d))) → AreKept ks cs → AreKept ms (changed l (with_read e) cs)
read-kept l e ns ks ms cs n v q s m h =
    changed-kept l (views.joined ns) (with_read e)
    (λ k c o. ap (λ z. commit z.entry (k.names ++ ns)) o ∙ ap (commit c.entry) (names-more k c e ns q o)) ks ms cs n v s m h

-- the pending write is combined into another
pub write-kept : (l : Loc) (e : EntryRef) (ns : List Named) (ks ms : List KeptCommit) (cs : List Commit) (n : ℕ) (v : Scalar) → ns ≡ map named (accesses (entry_in e)) → IsLast l (kept_entries ks) n v → ((d : KeptCommit) → ms ≡ set ks n (views.combined e ns (get_or ks n d))) → AreKept ks cs → AreKept ms (changed l (combined (entry_in e)) cs)
write-kept l e ns ks ms cs n v q s m h =
    changed-kept l (views.combined e ns) (combined (entry_in e))
    (λ k c o. ap (commit (entry_in e)) (names-more k c (entry_in e) ns q o)) ks ms cs n v s m h

-- where a write of the location is pending, its value is
pub value-kept : (l : Loc) (ks : List KeptCommit) (cs : List Commit) (n : ℕ) (v : Scalar) → IsLast l (kept_entries ks) n v → AreKept ks cs → pending_value l cs ≡ Some v
value-kept l ks cs n v s h = (is-place l cs n v (subst (λ es. IsLast l es n v) (entries-kept ks cs h) s)).value

-- where none is, there is none
pub none-kept : (l : Loc) (ks : List KeptCommit) (cs : List Commit) → last_written l (kept_entries ks) ≡ None → AreKept ks cs → pending_value l cs ≡ None
none-kept l ks cs q h = ap (last_written l) (sym (entries-kept ks cs h)) ∙ q

-- one more commit is emitted
pub emitted-more : (k : KeptCommit) (c : Commit) (before after : Emitted) (cs : List Commit) → kept k ≡ by_names c → IsPushed k before after → IsEmitted before cs → IsEmitted after (cs ++ c ∷ [])
emitted-more k c before after cs one p h =
    let more = flat-more before.names k.names before.ends.items cs c (ap (λ (z : Named_commit). z.names) one) h.flat in
    record {
      entries =
          ap (map entry_in) p.entries ∙ map-append entry_in before.entries.items (k.entry ∷ [])
          ∙ ap (λ z. z ++ entry_in k.entry ∷ []) h.entries
          ∙ ap (λ (z : Named_commit). entries_in cs ++ z.entry ∷ []) one
          ∙ sym (map-append (λ (z : Commit). z.entry) cs (c ∷ []));
      flat =
          subst (λ es. AreFlat after.names es (cs ++ c ∷ [])) (sym p.ends)
          (subst (λ ns. AreFlat ns (before.ends.items ++ length ns ∷ []) (cs ++ c ∷ [])) (sym p.names) more);
    }

-- the entry itself is emitted
pub passed-shown : (e : Entry) (k : KeptCommit) (s r t : program.Walk) → kept k ≡ by_names (commit_of e) → IsPushed k s.emitted r.emitted → r.next ≡ s.next → r.pending.items ≡ s.pending.items → r.agrees ≡ s.agrees → t ≡ counted r → (w : Walk) → IsShown w s → IsShown (passed e w) t
passed-shown e k s r t one p next pending agrees q w h =
    subst (IsShown (passed e w)) (sym q)
    record {
      next = ap (λ m. m + 1) (next ∙ h.next);
      emitted = emitted-more k (commit_of e) s.emitted r.emitted w.emitted one p h.emitted;
      pending = ap (map kept) pending ∙ h.pending;
      agrees = agrees ∙ h.agrees;
    }

-- the oldest leaves
oldest-kept : (w : Walk) (s t : program.Walk) (k : KeptCommit) (ks : List KeptCommit) (cs : List Commit) → t.next ≡ s.next → IsPushed k s.emitted t.emitted → t.pending.items ≡ ks → t.agrees ≡ s.agrees → AreKept (k ∷ ks) cs → IsShown w s → IsShown (oldest_out cs w) t
oldest-kept w s t k ks [] next emitted pending agrees q h = cc
oldest-kept w s t k ks (c ∷ cs) next emitted pending agrees q h =
    let one : kept k ≡ by_names c = cc in
    let rest : AreKept ks cs = cc in
    record {
      next = next ∙ h.next;
      emitted = emitted-more k c s.emitted t.emitted w.emitted one emitted h.emitted;
      pending = ap (map kept) pending ∙ rest;
      agrees = agrees ∙ h.agrees;
    }

pub oldest-shown : (s t : program.Walk) (k : KeptCommit) (ks : List KeptCommit) → s.pending.items ≡ k ∷ ks → t.next ≡ s.next → IsPushed k s.emitted t.emitted → t.pending.items ≡ ks → t.agrees ≡ s.agrees → (w : Walk) → IsShown w s → IsShown (oldest_out w.pending w) t
oldest-shown s t k ks is next emitted pending agrees w h =
    oldest-kept w s t k ks w.pending next emitted pending agrees (ap (map kept) (sym is) ∙ h.pending) h

-- a walk that is emptied, one commit after another
oldest-first : (cs : List Commit) (w : Walk) → w.pending ≡ cs → emptied (oldest_out cs w) ≡ emptied w
oldest-first [] w q = refl
oldest-first (c ∷ cs) w q =
    let emitted_by : List Commit → Walk = λ l. record { next = w.next; emitted = l; pending = []; agrees = w.agrees } in
    ap emitted_by (append_assoc w.emitted (c ∷ []) cs ∙ ap (λ l. w.emitted ++ l) (sym q))

pub emptying-more : (w : Walk) (s t : program.Walk) (k : KeptCommit) (ks : List KeptCommit) → s.pending.items ≡ k ∷ ks → t.next ≡ s.next → IsPushed k s.emitted t.emitted → t.pending.items ≡ ks → t.agrees ≡ s.agrees → ((v : Walk) × (IsShown v s × (emptied v ≡ emptied w))) → ((v : Walk) × (IsShown v t × (emptied v ≡ emptied w)))
emptying-more w s t k ks is next emitted pending agrees p =
    let v = p.0 in (
      oldest_out v.pending v,
      (oldest-shown s t k ks is next emitted pending agrees v p.1.0, oldest-first v.pending v refl ∙ p.1.1),
    )

none-left : (cs : List Commit) (v : Walk) (s t : program.Walk) → v.pending ≡ cs → AreKept [] cs → t.next ≡ s.next → t.emitted ≡ s.emitted → t.pending.items ≡ [] → t.agrees ≡ s.agrees → IsShown v s → IsShown (emptied v) t
none-left [] v s t q h next emitted pending agrees shown =
    let all : IsEmitted s.emitted (v.emitted ++ v.pending) =
    subst (IsEmitted s.emitted) (sym (append-nil v.emitted) ∙ ap (λ l. v.emitted ++ l) (sym q)) shown.emitted in
    record {
      next = next ∙ shown.next;
      emitted = subst (λ z. IsEmitted z (v.emitted ++ v.pending)) (sym emitted) all;
      pending = ap (map kept) pending;
      agrees = agrees ∙ shown.agrees;
    }
none-left (c ∷ cs) v s t q h next emitted pending agrees shown = cc

pub emptying-all : (w : Walk) (s t : program.Walk) → s.pending.items ≡ [] → t.next ≡ s.next → t.emitted ≡ s.emitted → t.pending.items ≡ [] → t.agrees ≡ s.agrees → ((v : Walk) × (IsShown v s × (emptied v ≡ emptied w))) → IsShown (emptied w) t
emptying-all w s t is next emitted pending agrees p =
    let v = p.0 in
    let h = p.1.0 in
    subst (λ u. IsShown u t) p.1.1
    (none-left v.pending v s t refl (ap (map kept) (sym is) ∙ h.pending) next emitted pending agrees h)

-- a pending commit is changed, a reply is noted, and the action has its number
pub record IsChanged (s t : program.Walk) (ms : List KeptCommit) (b : Bool) : Type 0 where
  pub next : t.next ≡ s.next + 1
  pub emitted : t.emitted ≡ s.emitted
  pub pending : t.pending.items ≡ ms
  pub agrees : t.agrees ≡ s.agrees && b

pub is-changed : (s r n t : program.Walk) (b c : Bool) → r.next ≡ s.next → r.emitted ≡ s.emitted → r.agrees ≡ s.agrees → n ≡ noted b r → t ≡ counted n → b ≡ c → IsChanged s t r.pending.items c
is-changed s r n t b c next emitted agrees note count is =
    let e : t ≡ counted (noted b r) = count ∙ ap counted note in
    record {
      next = ap (λ (z : program.Walk). z.next) e ∙ ap (λ m. m + 1) next;
      emitted = ap (λ (z : program.Walk). z.emitted) e ∙ emitted;
      pending = ap (λ (z : program.Walk). z.pending.items) e;
      agrees = ap (λ (z : program.Walk). z.agrees) e ∙ ap (λ z. z && b) agrees ∙ ap (λ z. s.agrees && z) is;
    }

-- a write that is combined with the pending one
pub put-shown : (l : Loc) (e : EntryRef) (s t : program.Walk) (n : ℕ) (v : Scalar) (ns : List Named) (ms : List KeptCommit) → IsLast l (kept_entries s.pending.items) n v → ns ≡ map named (accesses (entry_in e)) → ((d : KeptCommit) → ms ≡ set s.pending.items n (views.combined e ns (get_or s.pending.items n d))) → IsChanged s t ms (is_done e.reply.now) → (w : Walk) → IsShown w s → IsShown (put_pending l (entry_in e) (pending_value l w.pending) w) t
put-shown l e s t n v ns ms last q there is w h =
    subst (λ o. IsShown (put_pending l (entry_in e) o w) t) (sym (value-kept l s.pending.items w.pending n v last h.pending))
    record {
      next = is.next ∙ ap (λ m. m + 1) h.next;
      emitted = subst (λ z. IsEmitted z w.emitted) (sym is.emitted) h.emitted;
      pending = ap (map kept) is.pending ∙ write-kept l e ns s.pending.items ms w.pending n v q last there h.pending;
      agrees = is.agrees ∙ ap (λ b. b && is_done e.reply.now) h.agrees;
    }

-- a read that the pending write answers
pub look_up-shown : (l : Loc) (e : EntryRef) (s t : program.Walk) (n : ℕ) (v : Scalar) (ns : List Named) (ms : List KeptCommit) → IsLast l (kept_entries s.pending.items) n v → ns ≡ map named (accesses (entry_in e)) → ((d : KeptCommit) → ms ≡ set s.pending.items n (views.joined ns (get_or s.pending.items n d))) → IsChanged s t ms (is_value v e.reply.now) → (w : Walk) → IsShown w s → IsShown (looked_up l (entry_in e) (pending_value l w.pending) w) t
look_up-shown l e s t n v ns ms last q there is w h =
    subst (λ o. IsShown (looked_up l (entry_in e) o w) t) (sym (value-kept l s.pending.items w.pending n v last h.pending))
    record {
      next = is.next ∙ ap (λ m. m + 1) h.next;
      emitted = subst (λ z. IsEmitted z w.emitted) (sym is.emitted) h.emitted;
      pending = ap (map kept) is.pending ∙ read-kept l (entry_in e) ns s.pending.items ms w.pending n v q last there h.pending;
      agrees = is.agrees ∙ ap (λ b. b && is_value v e.reply.now) h.agrees;
    }
