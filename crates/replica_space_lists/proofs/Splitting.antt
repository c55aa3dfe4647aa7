-- A list with what stands in it up to the last synchronising action, and what stands after that.
use Rattle.std.proofs.Common.{◌≡◌, ℕ, ◌<◌, ◌≤◌, true, false, List, [], ◌∷◌, ◌++◌, filter, refl, sym, ap, ◌∙◌, subst, inl, inr, ◌⊎◌, append_assoc, append-nil, arith}
use Rattle.std.proofs.lemmas.Bool.{false≢true, cond-false, and_right, cases_Bool, and_left}
use Rattle.std.proofs.lemmas.List.{map-append}
use Rattle.std.proofs.lemmas.List.Elements.{filter-append}
use Rattle.block_layout.specs.declared.place.Loc.{Loc}
use Rattle.upc_values.specs.Lists.{Has, Each, Precedes}
use Rattle.upc_values.specs.Operations.{Operation}
use Rattle.upc_values.proofs.Membership.{each-has, each-from, each-append, precedes-has}
use Rattle.replica_space.specs.declared.message.Message.{Message}
use Rattle.replica_space.specs.Spaces.{is_later}
use Rattle.replica_space.specs.ReplicaOrders.{Placed, is_write_of, is_after, with_write, operations}
use Rattle.replica_space_lists.proofs.Stamps.{lower-upto}
use Rattle.replica_space_lists.proofs.Putting.{cut, past, prefixed, Puts, has-was}

abbrev pub IsRelaxed : Placed → Type 0
IsRelaxed x = x.operation.strict ≡ false

abbrev pub strict_of : List Operation → List Operation
strict_of os = filter (λ o. o.strict) os

pub record Splits (base : ℕ) (ops : List Operation) (list : List Placed) : Type 0 where
  pub front : List Placed
  pub back : List Placed
  pub is : list ≡ front ++ back
  pub relaxed : Each IsRelaxed back
  pub strict : strict_of (operations front) ≡ strict_of ops
  pub low : (l : Loc) (x : Placed) → Has front x → is_write_of l x ≡ true → x.stamp.clock ≤ base

pub operations-append : (xs ys : List Placed) → operations (xs ++ ys) ≡ operations xs ++ operations ys
operations-append xs ys = map-append (λ x. x.operation) xs ys

pub no-strict : (os : List Operation) → Each (λ o. o.strict ≡ false) os → strict_of os ≡ []
no-strict [] h = refl
no-strict (o ∷ os) h = cond-false o.strict (o ∷ strict_of os) (strict_of os) h.0 ∙ no-strict os h.1

relaxed-operations : (xs : List Placed) → Each IsRelaxed xs → Each (λ o. o.strict ≡ false) (operations xs)
relaxed-operations [] h = tt
relaxed-operations (x ∷ xs) h = (h.0, relaxed-operations xs h.1)

precedes-front : (xs ys : List Placed) (a b : Placed) → Precedes (xs ++ ys) a b → Has xs a ⊎ Has ys b
precedes-front [] ys a b p = inr (precedes-has ys a b p).1
precedes-front (x ∷ xs) ys a b (inl q) = inl (inl q.0)
precedes-front (x ∷ xs) ys a b (inr p) = elim (precedes-front xs ys a b p) [ inl h ↦ inl (inr h) | inr h ↦ inr h ]

module _ (base : ℕ) (ops : List Operation) (list : List Placed) (s : Splits base ops list) where
  -- the strict operations of the list are all
  pub whole-strict : strict_of (operations list) ≡ strict_of ops
  whole-strict =
      ap (λ l. strict_of (operations l)) s.is ∙ ap strict_of (operations-append s.front s.back)
      ∙ filter-append (λ o. o.strict) (operations s.front) (operations s.back)
      ∙ ap (λ l. strict_of (operations s.front) ++ l) (no-strict (operations s.back) (relaxed-operations s.back s.relaxed))
      ∙ append-nil (strict_of (operations s.front)) ∙ s.strict

  -- what stands before a strict operation is low
  pub low-before : (l : Loc) (x y : Placed) → Precedes list x y → y.operation.strict ≡ true → is_write_of l x ≡ true → x.stamp.clock ≤ base
  low-before l x y p t w =
      elim (precedes-front s.front s.back x y (subst (λ l. Precedes l x y) s.is p)) [
        | inl h ↦ s.low l x h w
        | inr h ↦ absurd (false≢true (sym (each-has IsRelaxed s.back s.relaxed y h) ∙ t))
      ]

  same-strict : (hidden : List Operation) → Each (λ o. o.strict ≡ false) hidden → strict_of ops ≡ strict_of (ops ++ hidden)
  same-strict hidden h =
      sym (filter-append (λ o. o.strict) ops hidden ∙ ap (λ l. strict_of ops ++ l) (no-strict hidden h) ∙ append-nil (strict_of ops))

  -- other operations that are relaxed
  pub splits-hidden : (hidden : List Operation) → Each (λ o. o.strict ≡ false) hidden → Splits base (ops ++ hidden) list
  splits-hidden hidden h =
      record { front = s.front; back = s.back; is = s.is; relaxed = s.relaxed; strict = s.strict ∙ same-strict hidden h; low = s.low }

  -- relaxed members at the end
  pub splits-relaxed : (new : List Placed) → Each IsRelaxed new → Splits base (ops ++ operations new) (list ++ new)
  splits-relaxed new h =
      record {
        front = s.front;
        back = s.back ++ new;
        is = ap (λ l. l ++ new) s.is ∙ append_assoc s.front s.back new;
        relaxed = each-append IsRelaxed s.back new s.relaxed h;
        strict = s.strict ∙ same-strict (operations new) (relaxed-operations new h);
        low = s.low;
      }

  -- members of a synchronising action at the end
  pub splits-sync : (top : ℕ) (new : List Placed) → ((l : Loc) (x : Placed) → Has (list ++ new) x → is_write_of l x ≡ true → x.stamp.clock ≤ top)
      → Splits top (ops ++ operations new) (list ++ new)
  splits-sync top new h =
      record {
        front = list ++ new;
        back = [];
        is = sym (append-nil (list ++ new));
        relaxed = tt;
        strict =
            ap strict_of (operations-append list new) ∙ filter-append (λ o. o.strict) (operations list) (operations new)
            ∙ ap (λ l. l ++ strict_of (operations new)) whole-strict ∙ sym (filter-append (λ o. o.strict) ops (operations new));
        low = h;
      }

  module _ (m : Message) (above : base < m.stamp.clock) where
    front-before : Each (λ x. is_after m x ≡ false) s.front
    front-before =
        each-from (λ x. is_after m x ≡ false) s.front
        (λ x h.
        elim (cases_Bool (is_write_of m.loc x)) [
          | inl t ↦ and_right (is_write_of m.loc x) (is_later x.stamp m.stamp) (lower-upto x.stamp m.stamp (let b = s.low m.loc x h t in omega arith))
          | inr f ↦ and_left (is_write_of m.loc x) (is_later x.stamp m.stamp) f
        ])

    put-is : with_write m list ≡ s.front ++ with_write m s.back
    put-is = ap (with_write m) s.is ∙ past m s.front s.back front-before

    -- the message's write goes among the relaxed ones
    pub puts : Puts m IsRelaxed list (with_write m list)
    puts =
        let k = prefixed m IsRelaxed s.front s.back (with_write m s.back) front-before (cut m IsRelaxed s.back s.relaxed) in
        subst (λ l. Puts m IsRelaxed list l) (sym put-is) (subst (λ l. Puts m IsRelaxed l (s.front ++ with_write m s.back)) (sym s.is) k)

    pub splits-put : Splits base ops (with_write m list)
    splits-put =
        record {
          front = s.front;
          back = with_write m s.back;
          is = put-is;
          relaxed =
              each-from IsRelaxed (with_write m s.back)
              (λ x h.
              elim (has-was m IsRelaxed s.back (with_write m s.back) (cut m IsRelaxed s.back s.relaxed) x h) [
                | inl e ↦ subst IsRelaxed e refl
                | inr k ↦ each-has IsRelaxed s.back s.relaxed x k
              ]);
          strict = s.strict;
          low = s.low;
        }
