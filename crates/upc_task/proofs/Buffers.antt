-- What commits and stores make of a buffer that holds a walk.
use Rattle.std.proofs.Common.{◌≡◌, ℕ, ◌+◌, ◌<◌, ◌≤◌, Bool, true, false, cond, List, [], ◌∷◌, ◌++◌, length, map, Option, Some, None, is_some, refl, sym, ap, subst, ◌∙◌, append-nil, append_assoc, arith}
use Rattle.std.specs.Prelude.{option_map, IfSome, nat_lt, ◌||◌}
use mathlib.Core.List.{IsPrefix}
use Rattle.std.specs.Option.{option_or}
use Rattle.std.proofs.lemmas.Bool.{and_from, cond_both, false≢true}
use Rattle.std.proofs.lemmas.List.{length-append, length-map, map-append}
use Rattle.block_layout.specs.declared.place.Loc.{Loc}
use Rattle.upc_values.specs.declared.scalar.Scalar.{Scalar}
use Rattle.upc_values.specs.declared.action.Action.{Action}
use Rattle.upc_values.specs.declared.action.Action.TheVariants.{Read, Write, Print}
use Rattle.upc_values.specs.declared.action.Reply.{Reply}
use Rattle.upc_values.specs.declared.action.Reply.TheVariants.{Done, Value}
use Rattle.upc_values.specs.declared.journal.Entry.{Entry}
use Rattle.upc_values.specs.Scalars.{same_loc}
use Rattle.upc_values.specs.Records.{is_beat}
use Rattle.upc_values.specs.Drain.{Commit, commit_of, entries_in, Walk, emptied, oldest_out, stored, pending_value, changed, combined, put_pending, passed, looked_up, gone, last_written, entry_of, entries_of}
use Rattle.upc_values.specs.Openings.{Opening, IsOpening}
use Rattle.upc_values.specs.History.{reply, IsLegal}
use Rattle.upc_values.specs.Formed.{IsWellFormed, AreWellFormed, fits_after}
use Rattle.upc_values.specs.layer.Known.{gives_known}
use Rattle.upc_values.proofs.Drained.{read-entries}
use Rattle.upc_values.proofs.Walks.{emptied-same, room-left, room-made, entries_of-append, entries-own, entries-all}
use Rattle.upc_values.proofs.Legality.{unlawful-waits}
use Rattle.upc_values.proofs.Replies.{formed-grow, fits-grow}
use Rattle.memory_history.proofs.ReadValues.{pending-fits}
use Rattle.upc_values.proofs.Known.{written-known}
use Rattle.upc_values.proofs.Scalars.{same_scalar-refl}
use Rattle.upc_values.proofs.Sameness.{same_loc-true}
use Rattle.memory_history.specs.layer.World.{performed}
use Rattle.write_buffer.specs.declared.pending.Pending.{Pending}
use Rattle.write_buffer.specs.layer.Buffer.{youngest, replaced, committed}
use Rattle.upc_task.specs.declared.emit.Way.TheVariants.{Stores, Looks, Passes, Empties}
use Rattle.upc_task.specs.layer.Kept.{AreFormed, Holds, AllOf, Grew}
use Rattle.upc_task.specs.code.Emits.{way_of, Emitted, IsAnswer}
use Rattle.upc_task.proofs.Lists.{cons-head}
use Rattle.upc_values.proofs.Membership.{each-append}
use Rattle.write_buffer.proofs.Youngest.{youngest-written}

-- ways

pub stores-is : (a : Action) (l : Loc) (v : Scalar) → way_of a ≡ Stores l v → a ≡ Write false l v
stores-is (Write false k u) l v h = let p : k ≡ l = cc in let q : u ≡ v = cc in cc
stores-is (Write true k u) l v h = absurd cc
stores-is (Read k false) l v h = absurd cc
stores-is (Read k true) l v h = absurd cc
stores-is a l v h = absurd cc

pub looks-is : (a : Action) (l : Loc) → way_of a ≡ Looks l → a ≡ Read l false
looks-is (Read k false) l h = let p : k ≡ l = cc in cc
looks-is (Read k true) l h = absurd cc
looks-is (Write false k u) l h = absurd cc
looks-is (Write true k u) l h = absurd cc
looks-is a l h = absurd cc

pub passes-gone : (a : Action) (e : Entry) (w : Walk) → way_of a ≡ Passes → gone e a w ≡ passed e w
passes-gone (Print x) e w h = refl
passes-gone (Read k false) e w h = absurd cc
passes-gone (Read k true) e w h = absurd cc
passes-gone (Write false k u) e w h = absurd cc
passes-gone (Write true k u) e w h = absurd cc
passes-gone a e w h = absurd cc

passes-reply : (o : Opening) (seen : List Entry) (t : ℕ) (a : Action) → way_of a ≡ Passes → reply o seen t a ≡ Some Done
passes-reply o seen t (Print x) h = refl
passes-reply o seen t (Read k false) h = absurd cc
passes-reply o seen t (Read k true) h = absurd cc
passes-reply o seen t (Write false k u) h = absurd cc
passes-reply o seen t (Write true k u) h = absurd cc
passes-reply o seen t a h = absurd cc

pub empties-gone : (a : Action) (e : Entry) (w : Walk) → way_of a ≡ Empties → gone e a w ≡ passed e (emptied w)
empties-gone (Read k false) e w h = absurd cc
empties-gone (Read k true) e w h = refl
empties-gone (Write false k u) e w h = absurd cc
empties-gone (Write true k u) e w h = refl
empties-gone (Print x) e w h = absurd cc
empties-gone a e w h = refl

-- growth

pub pending-grow : (o : Opening) (seen more : List Entry) (ps : List Pending) → AreFormed o seen ps → AreFormed o (seen ++ more) ps
pending-grow o seen more [] h = tt
pending-grow o seen more (p ∷ ps) h = (formed-grow o seen more (Write false p.loc p.value) h.0, pending-grow o seen more ps h.1)

pub grew-same : (t : ℕ) (old new : List Entry) → new ≡ old → Grew t old new
grew-same t old new h = record { more = []; is = h ∙ sym (append-nil old); all_own = tt }

pub grew-then : (t : ℕ) (old mid new : List Entry) → Grew t mid new → Grew t old mid → Grew t old new
grew-then t old mid new g f = record {
  more = f.more ++ g.more;
  is = g.is ∙ ap (λ l. l ++ g.more) f.is ∙ append_assoc old f.more g.more;
  all_own = each-append (λ e. e.thread ≡ t) f.more g.more f.all_own g.all_own;
}

pub grew-performed : (t n : ℕ) (old new : List Entry) (a : Action) (found : Option Reply) → new ≡ performed old t n a found → Grew t old new
grew-performed t n old new a None h = grew-same t old new h
grew-performed t n old new a (Some r) h = record { more = entry_of t n a r ∷ []; is = h; all_own = (refl, tt) }

pub asked-grew : (o : Opening) (t : ℕ) (old new : List Entry) (a : Action) → IsWellFormed o old a → Grew t old new → IsWellFormed o new a
asked-grew o t old new a h g = subst (λ l. IsWellFormed o l a) (sym g.is) (formed-grow o old g.more a h)

pub ruleset grows = (grew-same, grew-performed)

pub ruleset grown = (grew-same, grew-then, grew-performed)

-- the entries of commits

entries-append : (cs ds : List Commit) → entries_in (cs ++ ds) ≡ entries_in cs ++ entries_in ds
entries-append cs ds = map-append (λ c. c.entry) cs ds

entries-many : (cs : List Commit) → length (entries_in cs) ≡ length cs
entries-many cs = length-map cs (λ c. c.entry)

some-value : (f : Option Pending) → is_some (option_map (λ q. q.value) f) ≡ is_some f
some-value (Some q) = refl
some-value None = refl

-- all pending are committed

pub committed-own : (t : ℕ) (ps : List Pending) → AllOf t (map (committed t) ps)
committed-own t [] = tt
committed-own t (p ∷ ps) = (refl, committed-own t ps)

pub holds-emptied : (o : Opening) (t n : ℕ) (seen : List Entry) (ps : List Pending) (w : Walk) → Holds o t seen ps n w
    → Holds o t (seen ++ map (committed t) ps) [] n (emptied w)
holds-emptied o t n seen ps w k = record {
  out = entries_of-append t seen (map (committed t) ps)
      ∙ ap (λ l. entries_of t seen ++ l) (entries-all t (map (committed t) ps) (committed-own t ps))
      ∙ ap (λ l. l ++ map (committed t) ps) k.out ∙ ap (λ l. entries_in w.emitted ++ l) k.inside
      ∙ sym (entries-append w.emitted w.pending);
  inside = refl;
  room = omega arith;
  number = k.number;
  agrees = k.agrees;
  formed = tt;
}

-- an empty buffer and an emptied walk are what a Stall after a Stall finds
pub holds-unemptied : (o : Opening) (t n : ℕ) (seen : List Entry) (ps : List Pending) (w : Walk) → w.pending ≡ []
    → Holds o t seen ps n (emptied w) → Holds o t seen ps n w
holds-unemptied o t n seen ps w h k = subst (Holds o t seen ps n) (emptied-same w h) k

pub holds-grow : (o : Opening) (t n : ℕ) (seen more : List Entry) (ps : List Pending) (w : Walk) → entries_of t more ≡ []
    → Holds o t seen ps n w → Holds o t (seen ++ more) ps n w
holds-grow o t n seen more ps w h k = record {
  out = entries_of-append t seen more ∙ ap (λ l. entries_of t seen ++ l) h ∙ append-nil (entries_of t seen) ∙ k.out;
  inside = k.inside;
  room = k.room;
  number = k.number;
  agrees = k.agrees;
  formed = pending-grow o seen more ps k.formed;
}

-- the walk's pending write of a location is the buffer's youngest
value-is : (t : ℕ) (l : Loc) (ps : List Pending) (cs : List Commit) → map (committed t) ps ≡ entries_in cs
    → pending_value l cs ≡ option_map (λ q. q.value) (youngest l ps)
value-is t l ps cs h = ap (last_written l) (sym h) ∙ youngest-written t l ps

-- what no pending write of the buffer has, none of the walk has
none-pending : (o : Opening) (t n : ℕ) (l : Loc) (seen : List Entry) (ps : List Pending) (w : Walk) → youngest l ps ≡ None
    → Holds o t seen ps n w → pending_value l w.pending ≡ None
none-pending o t n l seen ps w h k = value-is t l ps w.pending k.inside ∙ ap (option_map (λ q. q.value)) h

-- a write that stands in the place of another
replaced-combined : (t : ℕ) (q : Pending) (ps : List Pending) (cs : List Commit) → map (committed t) ps ≡ entries_in cs
    → map (committed t) (replaced q ps) ≡ entries_in (changed q.loc (combined (committed t q)) cs)
replaced-combined t q [] [] h = refl
replaced-combined t q [] (c ∷ cs) h = absurd cc
replaced-combined t q (p ∷ ps) [] h = absurd cc
replaced-combined t q (p ∷ ps) (c ∷ cs) h =
    let parts = cons-head (committed t p) c.entry (map (committed t) ps) (entries_in cs) h in
    let younger : List Commit = changed q.loc (combined (committed t q)) cs in
    let P : Bool → Type 0 =
    λ b. map (committed t) (cond b (p ∷ replaced q ps) (q ∷ ps)) ≡ entries_in (cond b (c ∷ younger) (combined (committed t q) c ∷ cs)) in
    let go : (b : Bool) → P b = λ b. elim b as P [
      | true ↦ ap (λ z. z ∷ map (committed t) (replaced q ps)) parts.0 ∙ ap (λ z. c.entry ∷ z) (replaced-combined t q ps cs parts.1)
      | false ↦ ap (λ z. committed t q ∷ z) parts.1
    ] in
    let same : is_some (youngest q.loc ps) ≡ is_some (pending_value q.loc cs) =
    sym (ap is_some (value-is t q.loc ps cs parts.1) ∙ some-value (youngest q.loc ps)) in
    subst (λ b. map (committed t) (replaced q (p ∷ ps)) ≡ entries_in (cond b (c ∷ younger) (combined (committed t q) c ∷ cs))) same
    (go (is_some (youngest q.loc ps)))

length-replaced : (q : Pending) (ps : List Pending) → length (replaced q ps) ≡ length ps
length-replaced q [] = refl
length-replaced q (p ∷ ps) =
    let h = length-replaced q ps in
    cond_both (is_some (youngest q.loc ps)) (p ∷ replaced q ps) (q ∷ ps) (λ z. length z ≡ length (p ∷ ps)) (λ e. omega arith) (λ e. omega arith)

formed-replaced : (o : Opening) (seen : List Entry) (q : Pending) (ps : List Pending) → IsWellFormed o seen (Write false q.loc q.value)
    → AreFormed o seen ps → AreFormed o seen (replaced q ps)
formed-replaced o seen q [] asked h = tt
formed-replaced o seen q (p ∷ ps) asked h =
    cond_both (is_some (youngest q.loc ps)) (p ∷ replaced q ps) (q ∷ ps) (AreFormed o seen)
    (λ e. (h.0, formed-replaced o seen q ps asked h.1)) (λ e. (asked, h.1))

-- a relaxed write that takes the place of another
pub holds-combined : (o : Opening) (t n : ℕ) (l : Loc) (v : Scalar) (seen : List Entry) (ps qs : List Pending) (w : Walk)
    → is_some (youngest l ps) ≡ true → qs ≡ replaced (record { index = n; loc = l; value = v }) ps
    → IsWellFormed o seen (Write false l v) → Holds o t seen ps n w
    → Holds o t seen qs (n + 1) (gone (entry_of t n (Write false l v) Done) (Write false l v) w)
holds-combined o t n l v seen ps qs w some is asked k =
    let q : Pending = record { index = n; loc = l; value = v } in
    let e : Entry = entry_of t n (Write false l v) Done in
    let P : Option Scalar → Type 0 = λ f. is_some f ≡ true → Holds o t seen (replaced q ps) (n + 1) (put_pending l e f w) in
    let there : is_some (pending_value l w.pending) ≡ true =
    ap is_some (value-is t l ps w.pending k.inside) ∙ some-value (youngest l ps) ∙ some in
    let go : (f : Option Scalar) → P f = λ f. elim f as P [
      | Some u ↦ λ y. record {
        out = k.out;
        inside = replaced-combined t q ps w.pending k.inside;
        room = (let m = length-replaced q ps in let r = k.room in omega arith);
        number = ap (λ m. m + 1) k.number;
        agrees = and_from w.agrees true k.agrees refl;
        formed = formed-replaced o seen q ps asked k.formed;
      }
      | None ↦ λ y. absurd (false≢true y)
    ] in
    subst (λ z. Holds o t seen z (n + 1) (gone e (Write false l v) w)) (sym is) (go (pending_value l w.pending) there)

-- a relaxed write where there is room
pub holds-stored : (o : Opening) (t n : ℕ) (l : Loc) (v : Scalar) (seen : List Entry) (ps qs : List Pending) (w : Walk)
    → youngest l ps ≡ None → (length ps ≡ 64 → ⊥) → ps ++ record { index = n; loc = l; value = v } ∷ [] ≡ qs → IsWellFormed o seen (Write false l v)
    → Holds o t seen ps n w → Holds o t seen qs (n + 1) (gone (entry_of t n (Write false l v) Done) (Write false l v) w)
holds-stored o t n l v seen ps qs w none full is asked k =
    let p : Pending = record { index = n; loc = l; value = v } in
    let e : Entry = entry_of t n (Write false l v) Done in
    let many : length (map (committed t) ps) ≡ length ps = length-map ps (committed t) in
    let many2 : length (map (committed t) ps) ≡ length w.pending = ap length k.inside ∙ entries-many w.pending in
    let room : length ps ≤ 64 = k.room in
    let few : length w.pending < 64 = omega (arith, full) in
    subst (λ f. Holds o t seen qs (n + 1) (put_pending l e f w)) (sym (none-pending o t n l seen ps w none k))
    (subst (λ z. Holds o t seen qs (n + 1) (stored e z)) (sym (room-left w few)) (record {
      out = k.out;
      inside = ap (map (committed t)) (sym is) ∙ map-append (committed t) ps (p ∷ []) ∙ ap (λ z. z ++ e ∷ []) k.inside
          ∙ sym (entries-append w.pending (commit_of e ∷ []));
      room = (let l1 = ap length (sym is) in let l2 = length-append ps (p ∷ []) in omega (arith, l1, l2));
      number = ap (λ m. m + 1) k.number;
      agrees = and_from w.agrees true k.agrees refl;
      formed = subst (AreFormed o seen) is (each-append (λ q. IsWellFormed o seen (Write false q.loc q.value)) ps (p ∷ []) k.formed (asked, tt));
    }))

-- a relaxed write where the oldest leaves
pub holds-overflown : (o : Opening) (t n : ℕ) (l : Loc) (v : Scalar) (seen : List Entry) (ps qs : List Pending) (f : Pending) (w : Walk)
    → youngest l ps ≡ None → length ps ≡ 64 → ps ++ record { index = n; loc = l; value = v } ∷ [] ≡ f ∷ qs → IsWellFormed o seen (Write false l v)
    → Holds o t seen ps n w
    → Holds o t (seen ++ committed t f ∷ []) qs (n + 1) (gone (entry_of t n (Write false l v) Done) (Write false l v) w)
holds-overflown o t n l v seen ps qs f w none full is asked k =
    let p : Pending = record { index = n; loc = l; value = v } in
    let e : Entry = entry_of t n (Write false l v) Done in
    let many : length (map (committed t) ps) ≡ length ps = length-map ps (committed t) in
    let many2 : length (map (committed t) ps) ≡ length w.pending = ap length k.inside ∙ entries-many w.pending in
    let all : 64 ≤ length w.pending = omega arith in
    let both : entries_in w.pending ++ e ∷ [] ≡ committed t f ∷ map (committed t) qs =
    ap (λ z. z ++ e ∷ []) (sym k.inside) ∙ sym (map-append (committed t) ps (p ∷ [])) ∙ ap (map (committed t)) is in
    let formed : AreFormed o seen (f ∷ qs) = subst (AreFormed o seen) is
    (each-append (λ q. IsWellFormed o seen (Write false q.loc q.value)) ps (p ∷ []) k.formed (asked, tt)) in
    let few : length qs ≤ 64 = (let l1 = ap length is in let l2 = length-append ps (p ∷ []) in omega (arith, l1, l2)) in
    let go : (cs : List Commit) → w.pending ≡ cs → Holds o t (seen ++ committed t f ∷ []) qs (n + 1) (stored e (oldest_out cs w)) =
    λ cs. elim cs as (λ cs. w.pending ≡ cs → Holds o t (seen ++ committed t f ∷ []) qs (n + 1) (stored e (oldest_out cs w))) [
      | [] ↦ λ q. (let z : length w.pending ≡ 0 = ap length q in absurd (omega arith))
      | c ∷ ds ↦ λ q.
          let parts = cons-head c.entry (committed t f) (entries_in ds ++ e ∷ []) (map (committed t) qs)
          (ap (λ z. entries_in z ++ e ∷ []) (sym q) ∙ both) in
          record {
            out = entries_of-append t seen (committed t f ∷ []) ∙ ap (λ z. entries_of t seen ++ z) (entries-own t (committed t f) refl)
                ∙ ap (λ z. z ++ committed t f ∷ []) k.out ∙ ap (λ z. entries_in w.emitted ++ z ∷ []) (sym parts.0)
                ∙ sym (entries-append w.emitted (c ∷ []));
            inside = sym parts.1 ∙ sym (entries-append ds (commit_of e ∷ []));
            room = few;
            number = ap (λ m. m + 1) k.number;
            agrees = and_from w.agrees true k.agrees refl;
            formed = pending-grow o seen (committed t f ∷ []) qs formed.1;
          }
    ] in
    subst (λ g. Holds o t (seen ++ committed t f ∷ []) qs (n + 1) (put_pending l e g w)) (sym (none-pending o t n l seen ps w none k))
    (subst (λ z. Holds o t (seen ++ committed t f ∷ []) qs (n + 1) (stored e z)) (sym (room-made w all)) (go w.pending refl))

-- a relaxed write where none leaves
pub holds-kept : (o : Opening) (t n : ℕ) (l : Loc) (v : Scalar) (seen : List Entry) (ps qs : List Pending) (w : Walk)
    → (is_some (youngest l ps) ≡ true → qs ≡ replaced (record { index = n; loc = l; value = v }) ps)
    → (youngest l ps ≡ None → ps ++ record { index = n; loc = l; value = v } ∷ [] ≡ qs)
    → (length ps ≡ 64 → youngest l ps ≡ None → ⊥) → IsWellFormed o seen (Write false l v)
    → Holds o t seen ps n w → Holds o t seen qs (n + 1) (gone (entry_of t n (Write false l v) Done) (Write false l v) w)
holds-kept o t n l v seen ps qs w some none full asked k =
    let P : Option Pending → Type 0 =
    λ f. youngest l ps ≡ f → Holds o t seen qs (n + 1) (gone (entry_of t n (Write false l v) Done) (Write false l v) w) in
    let go : (f : Option Pending) → P f = λ f. elim f as P [
      | Some p ↦ λ e. holds-combined o t n l v seen ps qs w (ap is_some e) (some (ap is_some e)) asked k
      | None ↦ λ e. holds-stored o t n l v seen ps qs w e (λ many. full many e) (none e) asked k
    ] in
    go (youngest l ps) refl

-- an entry that passes
pub holds-pass : (o : Opening) (t n : ℕ) (seen : List Entry) (ps : List Pending) (a : Action) (r : Reply) (w : Walk) → Holds o t seen ps n w
    → Holds o t (seen ++ entry_of t n a r ∷ []) ps (n + 1) (passed (entry_of t n a r) w)
holds-pass o t n seen ps a r w k = record {
  out = entries_of-append t seen (entry_of t n a r ∷ []) ∙ ap (λ l. entries_of t seen ++ l) (entries-own t (entry_of t n a r) refl)
      ∙ ap (λ l. l ++ entry_of t n a r ∷ []) k.out ∙ sym (entries-append w.emitted (commit_of (entry_of t n a r) ∷ []));
  inside = k.inside;
  room = k.room;
  number = ap (λ m. m + 1) k.number;
  agrees = k.agrees;
  formed = pending-grow o seen (entry_of t n a r ∷ []) ps k.formed;
}

-- reads of pending writes

value_of : Pending → Scalar
value_of p = p.value

pub youngest-formed : (o : Opening) (seen : List Entry) (l : Loc) (ps : List Pending) (q : Pending) → AreFormed o seen ps → youngest l ps ≡ Some q
    → IsWellFormed o seen (Write false q.loc q.value)
youngest-formed o seen l [] q h e = absurd cc
youngest-formed o seen l (p ∷ ps) q h e =
    let G : Option Pending → Bool → Type 0 = λ f b. youngest l ps ≡ f → option_or f (cond b (Some p) None) ≡ Some q
    → IsWellFormed o seen (Write false q.loc q.value) in
    let go : (f : Option Pending) (b : Bool) → G f b = λ f b. elim f as (λ f. G f b) [
      | Some g ↦ λ x y. youngest-formed o seen l ps q h.1 (x ∙ y)
      | None ↦ elim b as (λ b. G None b) [
        | true ↦ λ x y. let same : p ≡ q = cc in subst (λ z. IsWellFormed o seen (Write false z.loc z.value)) same h.0
        | false ↦ λ x y. absurd cc
      ]
    ] in
    go (youngest l ps) (same_loc p.loc l) refl e

-- a relaxed read that a pending write answers
pub holds-forwarded : (o : Opening) (t n : ℕ) (l : Loc) (seen : List Entry) (ps : List Pending) (q : Pending) (w : Walk) → youngest l ps ≡ Some q
    → Holds o t seen ps n w
    → Holds o t seen ps (n + 1) (gone (entry_of t n (Read l false) (Value q.value)) (Read l false) w)
holds-forwarded o t n l seen ps q w h k =
    let e : Entry = entry_of t n (Read l false) (Value q.value) in
    let found : pending_value l w.pending ≡ Some q.value =
    value-is t l ps w.pending k.inside ∙ ap (option_map (λ q. q.value)) h in
    subst (λ f. Holds o t seen ps (n + 1) (looked_up l e f w)) (sym found) (record {
      out = k.out;
      inside = k.inside ∙ sym (read-entries l e w.pending);
      room = k.room;
      number = ap (λ m. m + 1) k.number;
      agrees = and_from w.agrees (Rattle.upc_values.specs.Scalars.same_scalar q.value q.value) k.agrees (same_scalar-refl q.value);
      formed = k.formed;
    })

-- a relaxed read that no pending write answers
pub holds-looked : (o : Opening) (t n : ℕ) (l : Loc) (seen : List Entry) (ps : List Pending) (r : Reply) (w : Walk) → youngest l ps ≡ None
    → Holds o t seen ps n w
    → Holds o t (seen ++ entry_of t n (Read l false) r ∷ []) ps (n + 1) (gone (entry_of t n (Read l false) r) (Read l false) w)
holds-looked o t n l seen ps r w h k =
    let e : Entry = entry_of t n (Read l false) r in
    subst (λ f. Holds o t (seen ++ e ∷ []) ps (n + 1) (looked_up l e f w)) (sym (none-pending o t n l seen ps w h k)) (holds-pass o t n seen ps (Read l false) r w k)

-- what an action by itself makes, by its way

pub emitted-looked : (o : Opening) (t n : ℕ) (l : Loc) (seen new : List Entry) (ps : List Pending) (a : Action) (found : Option Reply) (w : Walk)
    → IsWellFormed o seen a → way_of a ≡ Looks l → youngest l ps ≡ None → found ≡ reply o seen t a
    → new ≡ performed seen t n a found → Holds o t seen ps n w → Emitted o t new ps n a found w
emitted-looked o t n l seen new ps a found w asked h y f is k =
    let same : a ≡ Read l false = looks-is a l h in
    let G : Option Reply → Action → Type 0 = λ g a. g ≡ reply o seen t a → new ≡ performed seen t n a g → Emitted o t new ps n a g w in
    let go : (g : Option Reply) → G g (Read l false) = λ g. elim g as (λ g. G g (Read l false)) [
      | None ↦ λ p q. absurd (false≢true (unlawful-waits o seen t (Read l false) (subst (IsWellFormed o seen) same asked) (sym p)))
      | Some r ↦ λ p q. subst (λ z. Holds o t z ps (n + 1) (gone (entry_of t n (Read l false) r) (Read l false) w)) (sym q)
          (holds-looked o t n l seen ps r w y k)
    ] in
    subst (G found) (sym same) (go found) f is

pub emitted-passed : (o : Opening) (t n : ℕ) (seen new : List Entry) (ps : List Pending) (a : Action) (found : Option Reply) (w : Walk)
    → way_of a ≡ Passes → found ≡ reply o seen t a → new ≡ performed seen t n a found
    → Holds o t seen ps n w → Emitted o t new ps n a found w
emitted-passed o t n seen new ps a found w h f is k =
    let some : found ≡ Some Done = f ∙ passes-reply o seen t a h in
    let new_is : new ≡ seen ++ entry_of t n a Done ∷ [] = is ∙ ap (performed seen t n a) some in
    subst (λ g. Emitted o t new ps n a g w) (sym some)
    (subst (λ z. Holds o t new ps (n + 1) z) (sym (passes-gone a (entry_of t n a Done) w h))
    (subst (λ z. Holds o t z ps (n + 1) (passed (entry_of t n a Done) w)) (sym new_is) (holds-pass o t n seen ps a Done w k)))

pub emitted-empties : (o : Opening) (t n : ℕ) (seen new : List Entry) (a : Action) (found : Option Reply) (w : Walk)
    → way_of a ≡ Empties → new ≡ performed seen t n a found → Holds o t seen [] n (emptied w) → Emitted o t new [] n a found w
emitted-empties o t n seen new a None w h is k = subst (λ z. Holds o t z [] n (emptied w)) (sym is) k
emitted-empties o t n seen new a (Some r) w h is k =
    subst (λ z. Holds o t new [] (n + 1) z) (sym (empties-gone a (entry_of t n a r) w h))
    (subst (λ z. Holds o t z [] (n + 1) (passed (entry_of t n a r) (emptied w))) (sym is) (holds-pass o t n seen [] a r (emptied w) k))

-- what the answer says of itself
pub answer-is : (o : Opening) (t n : ℕ) (seen new : List Entry) (a : Action) (found : Option Reply) → IsWellFormed o seen a
    → found ≡ reply o seen t a → IfSome found (λ r. fits_after o seen a r ≡ true) → IfSome found (λ r. gives_known o new r ≡ true)
    → new ≡ performed seen t n a found → IsAnswer o t new a found
answer-is o t n seen new a None f e k z is =
    (unlawful-waits o seen t a f (sym e), subst (λ z. reply o z t a ≡ None) (sym is) (sym e))
answer-is o t n seen new a (Some r) f e k z is =
    (subst (λ z. fits_after o z a r ≡ true) (sym is) (fits-grow o seen (entry_of t n a r ∷ []) a r f k), z)

-- what the buffer's look-up found

abbrev pub hit : ℕ → Scalar → Option (ℕ × Scalar)
hit i v = Some (i, v)

abbrev pub hit_of : Pending → ℕ × Scalar
hit_of p = (p.index, p.value)

abbrev pub hits : Option Pending → Option (ℕ × Scalar)
hits o = option_map hit_of o

found-some : (o : Option Pending) (i : ℕ) (v : Scalar) → hit i v ≡ hits o
    → (q : Pending) × (o ≡ Some q) × (q.value ≡ v)
found-some None i v h = absurd cc
found-some (Some q) i v h =
    let x : ℕ × Scalar = (i, v) in let z : x ≡ hit_of q = cc in (q, refl, sym (ap (λ y. y.1) z))

pub found-none : (o : Option Pending) → None ≡ hits o → o ≡ None
found-none None h = refl
found-none (Some q) h = absurd cc

pub emitted-forwarded : (o : Opening) (t n i : ℕ) (l : Loc) (v : Scalar) (seen : List Entry) (ps : List Pending) (a : Action) (w : Walk)
    → way_of a ≡ Looks l → hit i v ≡ hits (youngest l ps)
    → Holds o t seen ps n w → Holds o t seen ps (n + 1) (gone (entry_of t n a (Value v)) a w)
emitted-forwarded o t n i l v seen ps a w h y k =
    let f = found-some (youngest l ps) i v y in
    subst (λ b. Holds o t seen ps (n + 1) (gone (entry_of t n b (Value v)) b w)) (sym (looks-is a l h))
    (subst (λ u. Holds o t seen ps (n + 1) (gone (entry_of t n (Read l false) (Value u)) (Read l false) w)) f.2
    (holds-forwarded o t n l seen ps f.0 w f.1 k))

youngest-loc : (l : Loc) (ps : List Pending) (q : Pending) → youngest l ps ≡ Some q → q.loc ≡ l
youngest-loc l [] q e = absurd cc
youngest-loc l (p ∷ ps) q e =
    let G : Option Pending → Bool → Type 0 =
    λ f b. youngest l ps ≡ f → same_loc p.loc l ≡ b → option_or f (cond b (Some p) None) ≡ Some q → q.loc ≡ l in
    let go : (f : Option Pending) (b : Bool) → G f b = λ f b. elim f as (λ f. G f b) [
      | Some g ↦ λ x y z. youngest-loc l ps q (x ∙ z)
      | None ↦ elim b as (λ b. G None b) [
        | true ↦ λ x y z. let same : p ≡ q = cc in subst (λ w. w.loc ≡ l) same (same_loc-true p.loc l y)
        | false ↦ λ x y z. absurd cc
      ]
    ] in
    go (youngest l ps) (same_loc p.loc l) refl refl e

-- a forwarded value fits and is known
pub forwarded-answers : (o : Opening) (t i : ℕ) (l : Loc) (v : Scalar) (seen : List Entry) (ps : List Pending) (a : Action) → IsOpening o → IsLegal o seen
    → AreWellFormed o seen → AreFormed o seen ps → way_of a ≡ Looks l → hit i v ≡ hits (youngest l ps) → IsAnswer o t seen a (Some (Value v))
forwarded-answers o t i l v seen ps a valid legal lawful formed h y =
    let f = found-some (youngest l ps) i v y in
    let asked : IsWellFormed o seen (Write false l f.0.value) =
    subst (λ k. IsWellFormed o seen (Write false k f.0.value)) (youngest-loc l ps f.0 f.1) (youngest-formed o seen l ps f.0 formed f.1) in
    subst (λ b. IsAnswer o t seen b (Some (Value v))) (sym (looks-is a l h))
    (subst (λ u. IsAnswer o t seen (Read l false) (Some (Value u))) f.2
    (pending-fits o seen l false false f.0.value valid legal lawful asked, written-known o seen l f.0.value false asked))

-- the buffer is emptied, as at an end
pub holds-finished : (o : Opening) (t n : ℕ) (seen new : List Entry) (ps qs : List Pending) (w : Walk) → qs ≡ []
    → new ≡ seen ++ map (committed t) ps → Holds o t seen ps n w → Holds o t new qs n (emptied w)
holds-finished o t n seen new ps qs w none is k =
    subst (λ l. Holds o t l qs n (emptied w)) (sym is)
    (subst (λ l. Holds o t (seen ++ map (committed t) ps) l n (emptied w)) (sym none) (holds-emptied o t n seen ps w k))

-- a place is free where not all are taken, or a write of the location is pending
pub place-free : (l : Loc) (ps : List Pending) → (nat_lt (length ps) 64 || is_some (youngest l ps)) ≡ true → length ps ≡ 64
    → youngest l ps ≡ None → ⊥
place-free l ps h many none =
    false≢true (sym (ap (λ n. nat_lt n 64 || is_some (youngest l ps)) many ∙ ap is_some none) ∙ h)

-- a relaxed write that pushes none out, by its way
pub stored-alone : (o : Opening) (t n : ℕ) (l : Loc) (v : Scalar) (a : Action) (seen : List Entry) (ps qs : List Pending) (w : Walk)
    → way_of a ≡ Stores l v
    → (is_some (youngest l ps) ≡ true → qs ≡ replaced (record { index = n; loc = l; value = v }) ps)
    → (youngest l ps ≡ None → ps ++ record { index = n; loc = l; value = v } ∷ [] ≡ qs)
    → (length ps ≡ 64 → youngest l ps ≡ None → ⊥) → IsWellFormed o seen a
    → Holds o t seen ps n w → Holds o t seen qs (n + 1) (gone (entry_of t n a Done) a w)
stored-alone o t n l v a seen ps qs w h some none full asked k =
    let same : a ≡ Write false l v = stores-is a l v h in
    subst (λ b. Holds o t seen qs (n + 1) (gone (entry_of t n b Done) b w)) (sym same)
    (holds-kept o t n l v seen ps qs w some none full (subst (IsWellFormed o seen) same asked) k)

-- and its answer
pub stored-answers : (o : Opening) (t : ℕ) (l : Loc) (v : Scalar) (a : Action) (seen : List Entry) → way_of a ≡ Stores l v
    → IsAnswer o t seen a (Some Done)
stored-answers o t l v a seen h = subst (λ b. IsAnswer o t seen b (Some Done)) (sym (stores-is a l v h)) (refl, refl)

-- a read or a write is no Beat
pub stores-plain : (a : Action) (l : Loc) (v : Scalar) → way_of a ≡ Stores l v → is_beat a ≡ false
stores-plain a l v h = ap is_beat (stores-is a l v h)

pub looks-plain : (a : Action) (l : Loc) → way_of a ≡ Looks l → is_beat a ≡ false
looks-plain a l h = ap is_beat (looks-is a l h)

-- fronts of the history with all that was pending

pub front-none : (old new more : List Entry) → new ≡ old → IsPrefix new (old ++ more)
front-none old new more h = (more, ap (λ l. l ++ more) h)

pub front-all : (new whole : List Entry) → new ≡ whole → IsPrefix new whole
front-all new whole h = ([], append-nil new ∙ h)

pub front-some : (mid new more whole : List Entry) → new ≡ mid → mid ++ more ≡ whole → IsPrefix new whole
front-some mid new more whole h all = (more, ap (λ l. l ++ more) h ∙ all)

-- of such a front the thread's entries are a front of what its walk emits with all that is pending
pub front-own : (o : Opening) (t n : ℕ) (seen later : List Entry) (ps : List Pending) (w : Walk) → Holds o t seen ps n w
    → IsPrefix later (seen ++ map (committed t) ps) → IsPrefix (entries_of t later) (entries_in (emptied w).emitted)
front-own o t n seen later ps w k b =
    (entries_of t b.0, sym (entries_of-append t later b.0) ∙ ap (entries_of t) b.1 ∙ (holds-emptied o t n seen ps w k).out)
