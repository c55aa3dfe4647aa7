-- Reads of numbers: their steps, and that they give what was held before.
use Rattle.std.proofs.Common.{◌≡◌, ℕ, suc, zero, ◌<◌, Bool, true, false, List, [], ◌∷◌, ◌++◌, map, Some, inl, inr, refl}
use Rattle.std.proofs.Common.{sym, ap, ◌∙◌, subst, arith}
use Rattle.std.specs.Prelude.{ℤ}
use Rattle.std.specs.List.{list_any}
use Rattle.std.specs.Ordering.{int_eq}
use Rattle.std.proofs.lemmas.Bool.{and_parts, or_cases, cases_eq, false≢true}
use Rattle.std.proofs.lemmas.Bool.Decides.{Decides-int_eq}
use Rattle.block_layout.specs.declared.place.Loc.{Loc}
use Rattle.block_layout.specs.declared.place.SharedPtr.{SharedPtr}
use Rattle.block_layout.specs.declared.kind.Kind.{Kind}
use Rattle.block_layout.specs.declared.kind.Shape.{Shape}
use Rattle.block_layout.specs.Pointers.{location}
use Rattle.upc_values.specs.declared.scalar.Scalar.{Scalar}
use Rattle.upc_values.specs.layer.Parts.{number_of}
use Rattle.upc_values.specs.declared.scalar.Scalar.TheVariants.{Int, Shared, Lock}
use Rattle.upc_values.specs.declared.action.Action.TheVariants as act
use Rattle.upc_values.specs.declared.action.Reply.TheVariants.{Value}
use Rattle.upc_values.specs.Lists.{Has}
use Rattle.upc_values.specs.History.{each_thread}
use Rattle.upc_values.specs.Expansion.{Expansion, Gives, bind, gathered}
use Rattle.upc_values.specs.Expansions.{number_at}
use Rattle.upc_values.specs.Collective.{Holding, number_in}
use Rattle.collective_laws_words.specs.layer.Steps.{Step, Performs}
use Rattle.collective_laws_words.specs.layer.Interface.{Wrote, ReadSo}
use Rattle.collective_laws_steps.proofs.Performing.{split, IsOf, is_front, is_back, wrote_cases}

-- ---- tests on threads

pub each_at : (n : ℕ) (test : ℕ → Bool) (k : ℕ) → each_thread n test ≡ true → k < n → test k ≡ true
each_at zero test k h lt = absurd (omega arith)
each_at (suc n) test k h lt =
    let both = and_parts (test n) (each_thread n test) h in
    elim (cases_eq k n) [
      | inl e ↦ ap test e ∙ both.0
      | inr ne ↦ each_at n test k both.1 (omega arith)
    ]

-- A number that a test finds in a list is there.
pub any_has : (vs : List ℤ) (n : ℤ) → list_any (λ v. int_eq v n) vs ≡ true → Has vs n
any_has [] n h = absurd (false≢true h)
any_has (v ∷ vs) n h = elim (or_cases (int_eq v n) (list_any (λ w. int_eq w n) vs) h) [
  | inl e ↦ inl ((Decides-int_eq v n).0 e)
  | inr m ↦ inr (any_has vs n m)
]

module _ (threads : ℕ) (shapes : List Shape) (me : ℕ) (k : Kind) where
  -- One step, which reads a number.
  pub record ReadsOne (l : Loc) (did : List Step) (value : ℤ) : Type 0 where
    pub step : Step
    pub is : did ≡ step ∷ []
    pub action : step.action ≡ act.Read l false
    pub scalar : Scalar
    pub reply : step.reply ≡ Value scalar
    pub value_is : number_of threads shapes me scalar ≡ value

  pub reads_one : (p : SharedPtr) (did : List Step) (value : ℤ) → Performs (number_at threads shapes me k p) did value
      → ReadsOne (location p) did value
  reads_one p [] value h = absurd h
  reads_one p (s ∷ did) value h = record {
    step = s;
    is = ap (λ d. s ∷ d) h.3.0;
    action = h.0;
    scalar = h.1;
    reply = h.2;
    value_is = h.3.1;
  }

  -- A read writes nothing.
  reads_only : (l m : Loc) (v : Scalar) (did : List Step) (value : ℤ) → ReadsOne l did value → Wrote m v did → ⊥
  reads_only l m v did value r w = elim (subst (Wrote m v) r.is w) [
    | inl e ↦ let clash : act.Read l false ≡ act.Write false m v = sym r.action ∙ e in cc
    | inr h ↦ h
  ]

  number_same : (v : Scalar) → number_in (Some v) ≡ number_of threads shapes me v
  number_same (Int v) = refl
  number_same (Shared p) = refl
  number_same (Lock l) = refl

  module _ (before : Holding) where
    -- What is read is what was held.
    abbrev pub Reads : List Step → Type 0
    Reads did = (l : Loc) (v : Scalar) → ReadSo l v did → before l ≡ Some v

    pub reads_within : (xs ys : List Step) → IsOf xs ys → Reads ys → Reads xs
    reads_within xs ys h r = λ l v m. r l v (h.read l v m)

    -- The number at a pointer before.
    abbrev pub held_number : SharedPtr → ℤ
    held_number p = number_in (before (location p))

    number_held : (p : SharedPtr) (did : List Step) (value : ℤ) → ReadsOne (location p) did value → Reads did
        → held_number p ≡ value
    number_held p did value r h =
        let was = h (location p) r.scalar (subst (ReadSo (location p) r.scalar) (sym r.is) (inl (r.action, r.reply))) in
        ap number_in was ∙ number_same r.scalar ∙ r.value_is

    -- A part of a call that begins with the read of a number: its steps, and those of what follows.
    pub record ReadsFirst {B : Type 0} (p : SharedPtr) (go : ℤ → Expansion B) (did : List Step) (w : B) : Type 0 where
      pub first : List Step
      pub rest : List Step
      pub is : did ≡ first ++ rest
      pub one : ReadsOne (location p) first (held_number p)
      pub goes : Performs (go (held_number p)) rest w
      pub back : IsOf rest did
      pub all : (l : Loc) (v : Scalar) → Wrote l v did → Wrote l v rest

    pub reads_first : {B : Type 0} (p : SharedPtr) (go : ℤ → Expansion B) (did : List Step) (w : B) → Reads did
        → Performs (bind (number_at threads shapes me k p) go) did w → ReadsFirst p go did w
    reads_first p go did w h g =
        let q = split go (number_at threads shapes me k p) did w g in
        let one = reads_one p q.first q.value q.begins in
        let same = number_held p q.first q.value one
        (reads_within q.first did (is_front did q.first q.rest q.is) h) in
        record {
          first = q.first;
          rest = q.rest;
          is = q.is;
          one = subst (ReadsOne (location p) q.first) (sym same) one;
          goes = subst (λ (n : ℤ). Performs (go n) q.rest w) (sym same) q.goes;
          back = is_back did q.first q.rest q.is;
          all = λ l v x. elim (wrote_cases l v q.first q.rest (subst (Wrote l v) q.is x)) [
            | inl m ↦ absurd (reads_only (location p) l v q.first q.value one m)
            | inr m ↦ m
          ];
        }

    -- Numbers that are gathered are those held before, and nothing is written.
    pub record Gathers (ps : List SharedPtr) (did : List Step) (vs : List ℤ) : Type 0 where
      pub is : vs ≡ map held_number ps
      pub only : (l : Loc) (v : Scalar) → Wrote l v did → ⊥

    pub gathers : (ps : List SharedPtr) (did : List Step) (vs : List ℤ) → Reads did
        → Performs (gathered (number_at threads shapes me k) ps) did vs → Gathers ps did vs
    gathers [] did vs h g = record { is = sym g.1; only = λ l v w. subst (Wrote l v) g.0 w }
    gathers (p ∷ ps) did vs h g =
        let first = reads_first p
        (λ y. bind (gathered (number_at threads shapes me k) ps) (λ (ys : List ℤ). Gives (y ∷ ys))) did vs h g in
        let q = split (λ (ys : List ℤ). Gives (held_number p ∷ ys)) (gathered (number_at threads shapes me k) ps)
        first.rest vs first.goes in
        let rest = gathers ps q.first q.value
        (reads_within q.first first.rest (is_front first.rest q.first q.rest q.is)
        (reads_within first.rest did first.back h)) q.begins in
        record {
          is = sym q.goes.1 ∙ ap (λ ys. held_number p ∷ ys) rest.is;
          only = λ l v w. elim (wrote_cases l v q.first q.rest (subst (Wrote l v) q.is (first.all l v w))) [
            | inl m ↦ rest.only l v m
            | inr m ↦ subst (Wrote l v) q.goes.0 m
          ];
        }
