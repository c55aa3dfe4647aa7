-- The orders after all events.
use Rattle.std.proofs.Common.{◌≡◌, ℕ, ◌<◌, zero, suc, List, [], ◌∷◌, map, length, get_or, refl, sym, ap, ◌∙◌, subst, arith}
use Rattle.upc_values.specs.declared.order.Orders.{Orders}
use Rattle.upc_values.specs.Orders.{name_of}
use Rattle.upc_values.specs.Openings.{Opening}
use Rattle.replica_space.specs.declared.message.Message.{Message}
use Rattle.replica_space.specs.declared.event.Event.{Event}
use Rattle.replica_space.specs.ReplicaOrders.{Placed, listed_after, operations, with_all_mail, replica_order, replica_strict_list}
use Rattle.replica_space_consistent.specs.Consistent.{AreConsistentReplicas}
use Rattle.replica_space_rows.specs.declared.member.Member.{Member}
use Rattle.replica_space_rows.specs.layer.Rows.{member_in, with_members}
use Rattle.replica_space_rows.proofs.Members.{puts-by-names}
use Rattle.replica_space_copies.specs.layer.Copies.{CopiesState, space_of}
use Rattle.replica_space_walk.specs.code.Walking.{row_of, Shows, with_mail_of}
use Rattle.replica_space_walk.specs.code.Given.{AreConsistentOrders, strict_names, thread_names}

mail-same : (n : ℕ) (f g : ℕ → List Message) (ys : List Member) → ((u : ℕ) → u < n → f u ≡ g u) → with_mail_of n f ys ≡ with_mail_of n g ys
mail-same zero f g ys h = refl
mail-same (suc n) f g ys h =
    ap (λ ms. with_members ms (with_mail_of n f ys)) (h n (omega arith))
    ∙ ap (with_members (g n)) (mail-same n f g ys (λ u l. h u (omega arith)))

all-by-names : (n : ℕ) (g : ℕ → List Message) (xs : List Placed) → with_mail_of n g (map member_in xs) ≡ map member_in (with_all_mail n g xs)
all-by-names zero g xs = refl
all-by-names (suc n) g xs = ap (with_members (g n)) (all-by-names n g xs) ∙ sym (puts-by-names (g n) (with_all_mail n g xs))

names-of : (xs : List Placed) → map (λ m. m.name) (map member_in xs) ≡ map name_of (operations xs)
names-of [] = refl
names-of (x ∷ xs) = ap (λ l. name_of x.operation ∷ l) (names-of xs)

-- the order of a thread
pub order-by-names : (n t : ℕ) (es : List Event) (c : CopiesState) (rows : List (List Member)) → Shows n (listed_after n es) c rows → t < n
    → map (λ m. m.name) (with_mail_of n ((space_of c).mail t) (row_of t rows)) ≡ thread_names n es t
order-by-names n t es c rows h lt =
    let x = listed_after n es in
    ap (map (λ (m : Member). m.name))
    (mail-same n ((space_of c).mail t) (x.space.mail t) (row_of t rows) (λ u lu. h.space.mail t u lt lu)
    ∙ ap (with_mail_of n (x.space.mail t)) (h.lists t lt)
    ∙ all-by-names n (x.space.mail t) (x.lists t))
    ∙ names-of (with_all_mail n (x.space.mail t) (x.lists t))

-- the orders are consistent
pub consistent-by-names : (o : Opening) (n : ℕ) (es : List Event) (orders : Orders) → AreConsistentReplicas o es → o.threads ≡ n
    → orders.strict ≡ strict_names es → length orders.threads ≡ n
    → ((t : ℕ) → t < n → get_or orders.threads t [] ≡ thread_names n es t) → AreConsistentOrders o es orders
consistent-by-names o n es orders h e strict many names = record {
  strict = replica_strict_list es;
  strict_names = sym strict;
  whole = h.whole;
  order = replica_order o.threads es;
  many = many ∙ sym e;
  order_names = λ t lt. sym (subst (λ k. (t : ℕ) → t < k → get_or orders.threads t [] ≡ thread_names k es t) (sym e) names t lt);
  consistent = h.consistent;
}
