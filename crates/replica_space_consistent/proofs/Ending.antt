-- The mail that waits at the end is put into the lists.
use Rattle.std.proofs.Common.{◌≡◌, ◌≢◌, ℕ, ◌<◌, ◌≤◌, ◌==◌, true, cond, List, [], ◌∷◌, refl, sym, ◌∙◌, subst, inl, inr, arith, eq-eqb, ne_eqb}
use Rattle.std.proofs.lemmas.Bool.{cond-true, cond-false, cases_eq}
use Rattle.block_layout.specs.declared.place.Loc.{Loc}
use Rattle.upc_values.specs.declared.scalar.Scalar.{Scalar}
use Rattle.upc_values.specs.Lists.{Has, Pairwise}
use Rattle.upc_values.specs.Operations.{Operation}
use Rattle.upc_values.specs.Orders.{is_shown}
use Rattle.upc_values.specs.Consistent.{ReadsLast}
use Rattle.replica_space.specs.declared.message.Message.{Message}
use Rattle.replica_space.specs.ReplicaOrders.{Placed, with_write, with_writes, with_all_mail, operations}
use Rattle.replica_space_lists.specs.layer.Keeping.{StandsBefore}
use Rattle.replica_space_lists.proofs.Splitting.{Splits, strict_of, whole-strict, splits-put, puts}
use Rattle.replica_space_lists.proofs.Naming.{Names, names-put}

module _ (n t base : ℕ) (initial : Loc → Scalar) (ops : List Operation) (next : ℕ → ℕ) where
  -- a list, and what is left of the mail: that from the senders in question is gone
  record Left (gone : ℕ → Type 0) (mail : ℕ → List Message) (list : List Placed) : Type 0 where
    left : ℕ → List Message
    splits : Splits base ops list
    names : Names n t base initial ops next left list
    none : (u : ℕ) → u < n → gone u → left u ≡ []
    same : (u : ℕ) → u < n → (gone u → ⊥) → left u ≡ mail u

  -- all from one sender
  from-one : (u : ℕ) → u < n → (ms : List Message) (mail : ℕ → List Message) (list : List Placed) → mail u ≡ ms → Splits base ops list → Names n t base initial ops next mail list
      → Left (λ v. v ≡ u) mail (with_writes ms list)
  from-one u lu [] mail list is s h = record { left = mail; splits = s; names = h; none = λ v lv e. subst (λ z. mail z ≡ []) (sym e) is; same = λ v lv ne. refl }
  from-one u lu (m ∷ ms) mail list is s h =
      let above = (h.mailed u m lu (subst (λ l. Has l m) (sym is) (inl refl))).above in
      let less : ℕ → List Message = λ v. cond (v == u) ms (mail v) in
      let gone : less u ≡ ms = cond-true (u == u) ms (mail u) (eq-eqb u u refl) in
      let other : (v : ℕ) → (v ≢ u) → less v ≡ mail v = λ v ne. cond-false (v == u) ms (mail v) (ne_eqb v u ne) in
      let k =
      from-one u lu ms less (with_write m list) gone (splits-put base ops list s m above)
      (names-put n t base initial ops next mail list h u lu m ms is less gone (λ v lv ne. other v ne) (with_write m list) (puts base ops list s m above)) in
      record { left = k.left; splits = k.splits; names = k.names; none = k.none; same = λ v lv ne. k.same v lv ne ∙ other v ne }

  -- all from the first senders
  from-first : (k : ℕ) → k ≤ n → (mail : ℕ → List Message) (list : List Placed) → Splits base ops list → Names n t base initial ops next mail list
      → Left (λ v. v < k) mail (with_all_mail k mail list)
  from-first ℕ.zero lk mail list s h = record { left = mail; splits = s; names = h; none = λ v lv b. absurd (omega arith); same = λ v lv b. refl }
  from-first (ℕ.suc k) lk mail list s h =
      let a = from-first k (omega arith) mail list s h in
      let b = from-one k (omega arith) (mail k) a.left (with_all_mail k mail list) (a.same k (omega arith) (λ z. omega arith)) a.splits a.names in
      record {
        left = b.left;
        splits = b.splits;
        names = b.names;
        none = λ v lv c. elim (cases_eq v k) [
          | inl e ↦ b.none v lv e
          | inr ne ↦ b.same v lv ne ∙ a.none v lv (omega arith)
        ];
        same = λ v lv c. b.same v lv (λ e. c (omega arith)) ∙ a.same v lv (λ z. c (omega arith));
      }

-- a thread's list with all operations that it must see
pub record Whole (t : ℕ) (initial : Loc → Scalar) (ops : List Operation) (list : List Placed) : Type 0 where
  pub order : Pairwise (StandsBefore t) list
  pub has : (o : Operation) → Has ops o → is_shown t o ≡ true → Has (operations list) o
  pub of : (x : Placed) → Has list x → Has ops x.operation × (is_shown t x.operation ≡ true)
  pub reads : ReadsLast initial (operations list)
  pub strict : strict_of (operations list) ≡ strict_of ops

pub ended : (n t base : ℕ) (initial : Loc → Scalar) (ops : List Operation) (next : ℕ → ℕ) (mail : ℕ → List Message) (list : List Placed)
    → Splits base ops list → Names n t base initial ops next mail list → Whole t initial ops (with_all_mail n mail list)
ended n t base initial ops next mail list s h =
    let k = from-first n t base initial ops next n (omega arith) mail list s h in
    record {
      order = k.names.order;
      has = λ o w v. elim (k.names.has o w v) [
        | inl x ↦ x
        | inr x ↦ absurd (subst (λ l. Has l x.message) (k.none x.from x.below x.below) x.waits)
      ];
      of = λ x w. let z = k.names.stands x w in (z.of, z.shown);
      reads = k.names.reads;
      strict = whole-strict base ops (with_all_mail n mail list) k.splits;
    }
