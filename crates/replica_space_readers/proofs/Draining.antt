-- What a write buffer lets out where at most the last action is a relaxed write.
use Rattle.std.proofs.Common.{◌≡◌, ℕ, ◌+◌, Bool, true, false, List, [], ◌∷◌, ◌++◌, refl, sym, ap, subst, ◌∙◌, append-nil, inl, inr}
use Rattle.std.proofs.lemmas.Bool.{cases_Bool, false≢true, true≢false}
use Rattle.upc_values.specs.declared.action.Action.{Action}
use Rattle.upc_values.specs.declared.action.Action.TheVariants as act
use Rattle.upc_values.specs.declared.action.Reply.{Reply}
use Rattle.upc_values.specs.declared.record.Item.{Item}
use Rattle.upc_values.specs.declared.record.Item.TheVariants as item
use Rattle.upc_values.specs.declared.journal.Entry.{Entry}
use Rattle.upc_values.specs.Drain.{entry_of, Commit, commit_of, entries_in, Walk, emptied, gone, walked_from, drain}
use Rattle.replica_space_readers.specs.code.Readers.{unstalled}

-- an entry for each action of thread t, from action n on
abbrev pub entries_from : ℕ → ℕ → List Item → List Entry
entries_from t n [] = []
entries_from t n (item.Stall ∷ items) = entries_from t n items
entries_from t n (item.Did a r ∷ items) = entry_of t n a r ∷ entries_from t (n + 1) items

abbrev pub is_relaxed_write : Action → Bool
is_relaxed_write (act.Write false l v) = true
is_relaxed_write a = false

-- no item stands after a relaxed write
abbrev pub WritesLast : List Item → Type 0
WritesLast [] = Unit {0}
WritesLast (item.Stall ∷ items) = WritesLast items
WritesLast (item.Did a r ∷ items) = (is_relaxed_write a ≡ true → items ≡ []) × WritesLast items

-- a walk with nothing pending
abbrev walk : ℕ → List Commit → Bool → Walk
walk n cs b = record { next = n; emitted = cs; pending = []; agrees = b }

entries-push : (cs : List Commit) (e : Entry) (es : List Entry) → entries_in (cs ++ commit_of e ∷ []) ++ es ≡ entries_in cs ++ e ∷ es
entries-push [] e es = refl
entries-push (c ∷ cs) e es = ap (λ l. c.entry ∷ l) (entries-push cs e es)

-- an action that is no relaxed write goes out by itself
goes-out : (e : Entry) (a : Action) (n : ℕ) (cs : List Commit) (b : Bool) → is_relaxed_write a ≡ false
    → gone e a (walk n cs b) ≡ walk (n + 1) (cs ++ commit_of e ∷ []) b
goes-out e (act.Write false l v) n cs b h = absurd (true≢false h)
goes-out e (act.Read l false) n cs b h = refl
goes-out e (act.Print x) n cs b h = refl
goes-out e a n cs b h = ap (λ z. walk (n + 1) (z ++ commit_of e ∷ []) b) (append-nil cs)

-- stalls let out what is pending, and nothing else
stalls-out : (t : ℕ) (w : Walk) (items : List Item) → unstalled items ≡ []
    → entries_in (emptied (walked_from t w items)).emitted ≡ entries_in (w.emitted ++ w.pending)
stalls-out t w [] h = refl
stalls-out t w (item.Stall ∷ items) h =
    stalls-out t (emptied w) items h ∙ ap entries_in (append-nil (w.emitted ++ w.pending))
stalls-out t w (item.Did a r ∷ items) h = absurd cc

-- the last action is a relaxed write
write-out : (t n : ℕ) (cs : List Commit) (b : Bool) (a : Action) (r : Reply) (items : List Item)
    → is_relaxed_write a ≡ true → unstalled items ≡ []
    → entries_in (emptied (walked_from t (gone (entry_of t n a r) a (walk n cs b)) items)).emitted
    ≡ entries_in cs ++ entry_of t n a r ∷ []
write-out t n cs b (act.Write false l v) r items w h =
    stalls-out t (gone (entry_of t n (act.Write false l v) r) (act.Write false l v) (walk n cs b)) items h
    ∙ sym (append-nil (entries_in (cs ++ commit_of (entry_of t n (act.Write false l v) r) ∷ [])))
    ∙ entries-push cs (entry_of t n (act.Write false l v) r) []
write-out t n cs b a r items w h = absurd (false≢true w)

all-out : (t n : ℕ) (cs : List Commit) (b : Bool) (items : List Item) → WritesLast (unstalled items)
    → entries_in (emptied (walked_from t (walk n cs b) items)).emitted ≡ entries_in cs ++ entries_from t n (unstalled items)
all-out t n cs b [] h = ap entries_in (append-nil cs) ∙ sym (append-nil (entries_in cs))
all-out t n cs b (item.Stall ∷ items) h =
    all-out t n (cs ++ []) b items h ∙ ap (λ z. entries_in z ++ entries_from t n (unstalled items)) (append-nil cs)
all-out t n cs b (item.Did a r ∷ items) h =
    elim (cases_Bool (is_relaxed_write a)) [
      | inl w ↦
          write-out t n cs b a r items w (h.0 w)
          ∙ ap (λ z. entries_in cs ++ entry_of t n a r ∷ entries_from t (n + 1) z) (sym (h.0 w))
      | inr w ↦
          ap (λ z. entries_in (emptied (walked_from t z items)).emitted) (goes-out (entry_of t n a r) a n cs b w)
          ∙ all-out t (n + 1) (cs ++ commit_of (entry_of t n a r) ∷ []) b items h.1
          ∙ entries-push cs (entry_of t n a r) (entries_from t (n + 1) (unstalled items))
    ]

-- whatever the stalls, an entry for each action goes out, in order
pub drain-own : (t : ℕ) (items does : List Item) → unstalled items ≡ does → WritesLast does → drain t items ≡ entries_from t 0 does
drain-own t items does h w =
    all-out t 0 [] true items (subst WritesLast (sym h) w) ∙ ap (entries_from t 0) h
