-- Records of which each action is an entry by itself.
use Rattle.std.proofs.Common.{◌≡◌, ℕ, suc, ◌+◌, Bool, true, false, cond, List, [], ◌∷◌, ◌++◌, length, Option, Some, refl, sym, ap, subst, ◌∙◌, append-nil, append_assoc, arith, add-zero, zero-add, filter}
use Rattle.upc_values.specs.declared.action.Action.{Action}
use Rattle.upc_values.specs.declared.action.Reply.{Reply}
use Rattle.upc_values.specs.declared.record.Item.{Item}
use Rattle.upc_values.specs.declared.record.Item.TheVariants.{Did, Stall}
use Rattle.upc_values.specs.declared.journal.Entry.{Entry}
use Rattle.upc_values.specs.Drain.{entry_of}
use Rattle.upc_values.specs.Openings.{Opening}
use Rattle.upc_values.specs.Records.{actions_of}
use Rattle.upc_values.specs.Strands.{next_action}
use Rattle.upc_values.proofs.Records.{next-did, next-stall}
use Rattle.replica_space.specs.ReplicaSound.{own_from, own_entries, IsJustifiedAlone, AreJustifiedAlone}
use Rattle.upc_task.proofs.Turns.{many, tally}

one-more : (n m : ℕ) → n + 1 + m ≡ n + suc m
one-more n m = omega arith

from-did : (t n : ℕ) (xs : List Item) (a : Action) (r : Reply)
    → own_from t n (xs ++ Did a r ∷ []) ≡ own_from t n xs ++ entry_of t (n + length (own_from t n xs)) a r ∷ []
from-did t n [] a r = ap (λ m. entry_of t m a r ∷ []) (sym (add-zero n))
from-did t n (Stall ∷ xs) a r = from-did t n xs a r
from-did t n (Did b s ∷ xs) a r =
    ap (λ l. entry_of t n b s ∷ l)
    (from-did t (n + 1) xs a r
    ∙ ap (λ m. own_from t (n + 1) xs ++ entry_of t m a r ∷ []) (one-more n (length (own_from t (n + 1) xs))))

-- an action is one entry more, with the next number
pub own-did : (t : ℕ) (xs : List Item) (a : Action) (r : Reply)
    → own_entries t (xs ++ Did a r ∷ []) ≡ own_entries t xs ++ entry_of t (length (own_entries t xs)) a r ∷ []
own-did t xs a r =
    from-did t 0 xs a r ∙ ap (λ m. own_entries t xs ++ entry_of t m a r ∷ []) (zero-add (length (own_entries t xs)))

from-stall : (t n : ℕ) (xs : List Item) → own_from t n (xs ++ Stall ∷ []) ≡ own_from t n xs
from-stall t n [] = refl
from-stall t n (Stall ∷ xs) = from-stall t n xs
from-stall t n (Did b s ∷ xs) = ap (λ l. entry_of t n b s ∷ l) (from-stall t (n + 1) xs)

-- a Stall is none
pub own-stall : (t : ℕ) (xs : List Item) → own_entries t (xs ++ Stall ∷ []) ≡ own_entries t xs
own-stall t xs = from-stall t 0 xs

count-one : (b : Bool) (e : Entry) (es : List Entry) → length (cond b (e ∷ es) es) ≡ cond b 1 0 + length es
count-one true e es = omega arith
count-one false e es = omega arith

own-many : (test : Action → Bool) (t n : ℕ) (xs : List Item) → many test (own_from t n xs) ≡ tally test (actions_of xs)
own-many test t n [] = refl
own-many test t n (Stall ∷ xs) = own-many test t n xs
own-many test t n (Did a r ∷ xs) =
    count-one (test a) (entry_of t n a r) (filter (λ e. test e.action) (own_from t (n + 1) xs))
    ∙ ap (λ m. cond (test a) 1 0 + m) (own-many test t (n + 1) xs)

-- as many of them pass a test as of the record's actions
pub own-counted : (test : Action → Bool) (t : ℕ) (xs : List Item) → many test (own_entries t xs) ≡ tally test (actions_of xs)
own-counted test t xs = own-many test t 0 xs

-- ---- stalls

alone-did : (o : Opening) (t : ℕ) (es : List Entry) (want : Option Action) (before xs : List Item) (a : Action) (r : Reply)
    → AreJustifiedAlone o t es (Some a) before xs → AreJustifiedAlone o t es want before (xs ++ Did a r ∷ [])
alone-did o t es want before [] a r h = tt
alone-did o t es want before (Did b s ∷ xs) a r h = alone-did o t es want (before ++ Did b s ∷ []) xs a r h
alone-did o t es want before (Stall ∷ xs) a r h = (
  subst (IsJustifiedAlone o t es before) (sym (next-did want xs a r)) h.0,
  alone-did o t es want (before ++ Stall ∷ []) xs a r h.1,
)

-- before an action
pub justified-did : (o : Opening) (t : ℕ) (es : List Entry) (want : Option Action) (xs : List Item) (a : Action) (r : Reply)
    → AreJustifiedAlone o t es (Some a) [] xs → AreJustifiedAlone o t es want [] (xs ++ Did a r ∷ [])
justified-did o t es want xs a r h = alone-did o t es want [] xs a r h

alone-stall : (o : Opening) (t : ℕ) (es : List Entry) (want : Option Action) (before xs : List Item)
    → AreJustifiedAlone o t es want before xs → IsJustifiedAlone o t es (before ++ xs) want
    → AreJustifiedAlone o t es want before (xs ++ Stall ∷ [])
alone-stall o t es want before [] h k = (subst (λ l. IsJustifiedAlone o t es l want) (append-nil before) k, tt)
alone-stall o t es want before (Did b s ∷ xs) h k =
    alone-stall o t es want (before ++ Did b s ∷ []) xs h
    (subst (λ l. IsJustifiedAlone o t es l want) (sym (append_assoc before (Did b s ∷ []) xs)) k)
alone-stall o t es want before (Stall ∷ xs) h k = (
  subst (IsJustifiedAlone o t es before) (sym (next-stall want xs)) h.0,
  alone-stall o t es want (before ++ Stall ∷ []) xs h.1
      (subst (λ l. IsJustifiedAlone o t es l want) (sym (append_assoc before (Stall ∷ []) xs)) k),
)

-- one more, that is justified
pub justified-stall : (o : Opening) (t : ℕ) (es : List Entry) (want : Option Action) (xs : List Item)
    → AreJustifiedAlone o t es want [] xs → IsJustifiedAlone o t es xs want → AreJustifiedAlone o t es want [] (xs ++ Stall ∷ [])
justified-stall o t es want xs h k = alone-stall o t es want [] xs h k

one-grow : (o : Opening) (t : ℕ) (es more : List Entry) (before : List Item) (next : Option Action)
    → IsJustifiedAlone o t es before next → IsJustifiedAlone o t (es ++ more) before next
one-grow o t es more before next h = record {
  front = h.front;
  rest = h.rest ++ more;
  is = ap (λ l. l ++ more) h.is ∙ append_assoc h.front h.rest more;
  many = h.many;
  action = h.action;
  wants = h.wants;
  none = h.none;
}

alone-grow : (o : Opening) (t : ℕ) (es more : List Entry) (want : Option Action) (before xs : List Item)
    → AreJustifiedAlone o t es want before xs → AreJustifiedAlone o t (es ++ more) want before xs
alone-grow o t es more want before [] h = tt
alone-grow o t es more want before (Did b s ∷ xs) h = alone-grow o t es more want (before ++ Did b s ∷ []) xs h
alone-grow o t es more want before (Stall ∷ xs) h =
    (one-grow o t es more before (next_action want xs) h.0, alone-grow o t es more want (before ++ Stall ∷ []) xs h.1)

-- as the history grows
pub justified-grow : (o : Opening) (t : ℕ) (es more : List Entry) (want : Option Action) (xs : List Item)
    → AreJustifiedAlone o t es want [] xs → AreJustifiedAlone o t (es ++ more) want [] xs
justified-grow o t es more want xs h = alone-grow o t es more want [] xs h
