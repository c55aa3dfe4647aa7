-- One more entry: a legal history whose entries were well formed stays so.
use Rattle.std.proofs.Common.{◌≡◌, ℕ, ◌<◌, true, List, [], ◌∷◌, ◌++◌, ◌+◌, length, take, drop, get_or, take-append-drop, Option, Some, None, is_some, refl, sym, ap, subst, ◌∙◌, append_assoc, append-nil}
use Rattle.std.proofs.lemmas.List.{drop_more, take_more}
use Rattle.block_layout.specs.declared.place.Loc.{Loc}
use Rattle.block_layout.specs.declared.kind.Kind.{Kind}
use Rattle.upc_values.specs.declared.scalar.Scalar.{Scalar}
use Rattle.upc_values.specs.declared.action.Action.{Action}
use Rattle.upc_values.specs.declared.action.Action.TheVariants as asked
use Rattle.upc_values.specs.declared.action.Reply.{Reply}
use Rattle.upc_values.specs.declared.journal.Entry.{Entry}
use Rattle.upc_values.proofs.Lists.{each-push}
use Rattle.upc_values.specs.Drain.{entry_of, or_else, last_written}
use Rattle.upc_values.specs.Openings.{Opening, cell_of, blank_in, given, initial_of}
use Rattle.upc_values.specs.History.{objects, held, value_reply, reply, IsLegalFrom, IsLegal, EachBelow}
use Rattle.upc_values.specs.Formed.{IsWellFormed, AreWellFormedFrom, AreWellFormed}
use Rattle.upc_values.specs.Strands.{may_wait}

legal-from_push : (o : Opening) (before es : List Entry) (e : Entry) → IsLegalFrom o before es
    → reply o (before ++ es) e.thread e.action ≡ Some e.reply → IsLegalFrom o before (es ++ e ∷ [])
legal-from_push o before [] e h r =
    (subst (λ l. reply o l e.thread e.action ≡ Some e.reply) (append-nil before) r, tt)
legal-from_push o before (x ∷ es) e h r = (
  h.0,
  legal-from_push o (before ++ x ∷ []) es e h.1
      (subst (λ l. reply o l e.thread e.action ≡ Some e.reply) (sym (append_assoc before (x ∷ []) es)) r),
)

formed-from_push : (o : Opening) (before es : List Entry) (e : Entry) → AreWellFormedFrom o before es
    → IsWellFormed o (before ++ es) e.action → AreWellFormedFrom o before (es ++ e ∷ [])
formed-from_push o before [] e h f = (subst (λ l. IsWellFormed o l e.action) (append-nil before) f, tt)
formed-from_push o before (x ∷ es) e h f = (
  h.0,
  formed-from_push o (before ++ x ∷ []) es e h.1
      (subst (λ l. IsWellFormed o l e.action) (sym (append_assoc before (x ∷ []) es)) f),
)

-- an entry with the lawful reply
pub legal-push : (o : Opening) (es : List Entry) (t i : ℕ) (a : Action) (r : Reply)
    → IsLegal o es → reply o es t a ≡ Some r → IsLegal o (es ++ entry_of t i a r ∷ [])
legal-push o es t i a r h e = legal-from_push o [] es (entry_of t i a r) h e

pub formed-push : (o : Opening) (es : List Entry) (t i : ℕ) (a : Action) (r : Reply)
    → AreWellFormed o es → IsWellFormed o es a → AreWellFormed o (es ++ entry_of t i a r ∷ [])
formed-push o es t i a r h f = formed-from_push o [] es (entry_of t i a r) h f

pub below-push : (n : ℕ) (es : List Entry) (t i : ℕ) (a : Action) (r : Reply)
    → EachBelow n es → t < n → EachBelow n (es ++ entry_of t i a r ∷ [])
below-push n es t i a r h b = each-push (λ e. e.thread < n) es (entry_of t i a r) h b

-- where entry i, which is e, is of one of the first n threads, one more is
pub below-more : (n : ℕ) (es : List Entry) (i : ℕ) (e : Entry) → EachBelow n (take i es) → i < length es → e ≡ get_or es i e
    → e.thread < n → EachBelow n (take (i + 1) es)
below-more n es i e h lt is b =
    subst (EachBelow n) (sym (take_more es i e lt ∙ ap (λ x. take i es ++ x ∷ []) (sym is)))
    (each-push (λ x. x.thread < n) (take i es) e h b)

-- each entry of a legal history has the lawful reply after the entries before it
legal-from_at : (o : Opening) (before front rest : List Entry) (e : Entry) → IsLegalFrom o before (front ++ e ∷ rest)
    → reply o (before ++ front) e.thread e.action ≡ Some e.reply
legal-from_at o before [] rest e h = subst (λ l. reply o l e.thread e.action ≡ Some e.reply) (sym (append-nil before)) h.0
legal-from_at o before (x ∷ front) rest e h =
    subst (λ l. reply o l e.thread e.action ≡ Some e.reply) (append_assoc before (x ∷ []) front)
    (legal-from_at o (before ++ x ∷ []) front rest e h.1)

pub legal-at : (o : Opening) (front rest : List Entry) (e : Entry) → IsLegal o (front ++ e ∷ rest)
    → reply o front e.thread e.action ≡ Some e.reply
legal-at o front rest e h = legal-from_at o [] front rest e h

-- the same of entry i, which is e
pub legal-get : (o : Opening) (es : List Entry) (i : ℕ) (e : Entry) → IsLegal o es → i < length es → e ≡ get_or es i e
    → reply o (take i es) e.thread e.action ≡ Some e.reply
legal-get o es i e h lt is =
    let split : es ≡ take i es ++ get_or es i e ∷ drop (i + 1) es =
    sym (take-append-drop i es) ∙ ap (λ l. take i es ++ l) (drop_more es i e lt) in
    let split_e : es ≡ take i es ++ e ∷ drop (i + 1) es =
    split ∙ ap (λ x. take i es ++ x ∷ drop (i + 1) es) (sym is) in
    legal-at o (take i es) (drop (i + 1) es) e (subst (IsLegal o) split_e h)

-- where entry i, which is e, is lawful after those before it, one more is legal
pub legal-more : (o : Opening) (es : List Entry) (i : ℕ) (e : Entry) → IsLegal o (take i es) → i < length es
    → e ≡ get_or es i e → reply o (take i es) e.thread e.action ≡ Some e.reply → IsLegal o (take (i + 1) es)
legal-more o es i e h lt is r =
    subst (IsLegal o) (sym (take_more es i e lt ∙ ap (λ x. take i es ++ x ∷ []) (sym is)))
    (legal-from_push o [] (take i es) e h r)

-- a cell holds a value
or_else-none : (a b : Option Scalar) → or_else a b ≡ None → b ≡ None
or_else-none (Some v) b h = absurd cc
or_else-none None b h = h

blank-none : (k : Option Kind) → blank_in k ≡ None → is_some k ≡ true → ⊥
blank-none (Some k) h s = cc
blank-none None h s = cc

valued-none : (v : Option Scalar) → value_reply v ≡ None → v ≡ None
valued-none (Some v) h = absurd cc
valued-none None h = refl

held-some : (o : Opening) (before : List Entry) (l : Loc) → is_some (cell_of o (objects o before) l) ≡ true → value_reply (held o before l) ≡ None → ⊥
held-some o before l f h =
    blank-none (cell_of o (objects o before) l)
    (or_else-none (given l o.initials) (blank_in (cell_of o (objects o before) l))
    (or_else-none (last_written l before) (initial_of o (objects o before) l) (valued-none (held o before l) h))) f

-- a well-formed action that has no lawful reply is a Lock or a Wait
pub unlawful-waits : (o : Opening) (before : List Entry) (t : ℕ) (a : Action) → IsWellFormed o before a → reply o before t a ≡ None → may_wait a ≡ true
unlawful-waits o before t (asked.Wait m) f h = refl
unlawful-waits o before t (asked.Lock l) f h = refl
unlawful-waits o before t (asked.Read l s) f h = absurd (held-some o before l f h)
unlawful-waits o before t (asked.Write s l v) f h = absurd cc
unlawful-waits o before t asked.Fence f h = absurd cc
unlawful-waits o before t asked.Beat f h = absurd cc
unlawful-waits o before t (asked.Notify m) f h = absurd cc
unlawful-waits o before t (asked.Attempt l) f h = absurd cc
unlawful-waits o before t (asked.Unlock l) f h = absurd cc
unlawful-waits o before t asked.LockMake f h = absurd cc
unlawful-waits o before t (asked.LockFree l) f h = absurd cc
unlawful-waits o before t (asked.Alloc n b m s) f h = absurd cc
unlawful-waits o before t (asked.Free p) f h = absurd cc
unlawful-waits o before t (asked.Meet c args) f h = absurd cc
unlawful-waits o before t (asked.Print x) f h = absurd cc
unlawful-waits o before t (asked.Exit v) f h = absurd cc
