-- The walk over structs that are still to come.
use Rattle.std.proofs.Common.{◌≡◌, ◌≢◌, ℕ, ◌+◌, ◌<◌, ◌≤◌, Bool, true, false, nat_eq, List, [], ◌∷◌, ◌++◌, length, map}
use Rattle.std.proofs.Common.{drop, replicate, ◌⊎◌, inl, inr, refl, sym, ap, ◌∙◌, subst, arith, append_assoc, append-nil}
use Rattle.std.proofs.Common.{get_or}
use Rattle.std.proofs.lemmas.Bool.{eqb-true, eqb-false, cases_lt}
use Rattle.std.proofs.lemmas.List.{drop-map, drop_all, get_or-replicate, get_or_past, length-replicate}
use Rattle.upc_types.specs.declared.structs.Member as c
use Rattle.upc_types.specs.View.{view_base, view_member}
use Rattle.upc_types.specs.Types.{CType, Completed, Structs, members_in}
use Rattle.upc_types.specs.layer.Kept.{is_ordered}
use Rattle.upc_types.specs.Cells.{leaf_base}
use Rattle.upc_types.proofs.Members.{next}
use Rattle.typed_tree.specs.Targets.{leaf_targets, struct_targets}
use Rattle.typed_tree.specs.layer.Parts.{members_targets, with_noted}
use Rattle.typed_tree_opening.specs.declared.targets.Pending.{Pending}
use Rattle.typed_tree_opening.specs.declared.targets.Leaf.{Leaf}
use Rattle.typed_tree_opening.specs.declared.targets.Leaf.TheVariants.{Inside}
use Rattle.typed_tree_opening.specs.code.Pending.{pending_targets, all_pending, leaf_found, with_leaf, with_pending, AreNoted}
use Rattle.typed_tree_opening.specs.code.Pending.{AreEnded, IsDone}
use Rattle.typed_tree_opening.proofs.Pointed.{struct_is}
use Rattle.typed_tree_opening.proofs.Noted.{still, themselves, unchanged, noted_both}

-- The last one comes first.
pub last_first : (cs : List Completed) (ps : List Pending) (p : Pending) → all_pending cs (ps ++ (p ∷ [])) ≡ pending_targets cs p ++ all_pending cs ps
last_first cs [] p = sym (append-nil (pending_targets cs p))
last_first cs (q ∷ ps) p =
    ap (λ ts. ts ++ pending_targets cs q) (last_first cs ps p)
    ∙ append_assoc (pending_targets cs p) (all_pending cs ps) (pending_targets cs q)

-- A member, and those after it.
pub at_next : (cs : List Completed) (number i : ℕ) (xs : List c.Member) (x : c.Member) → map view_member xs ≡ members_in cs number →
    i < length xs → x ≡ get_or xs i x →
    pending_targets cs (record { number = number; member = i })
    ≡ leaf_targets (struct_targets cs) (leaf_base (view_base x.ctype.base)) ++ pending_targets cs (record { number = number; member = i + 1 })
at_next cs number i xs x e l g =
    ap (λ ms. members_targets (struct_targets cs) (drop i ms)) (sym e)
    ∙ ap (members_targets (struct_targets cs)) (drop-map view_member i xs ∙ next view_member xs i x l g)
    ∙ ap (λ ms. leaf_targets (struct_targets cs) (leaf_base (view_base x.ctype.base)) ++ members_targets (struct_targets cs) ms)
    (sym (drop-map view_member (i + 1) xs) ∙ ap (drop (i + 1)) e)

-- A struct from its first member on.
pub whole_struct : (cs : List Completed) (n : ℕ) → is_ordered cs ≡ true → pending_targets cs (record { number = n; member = 0 }) ≡ struct_targets cs n
whole_struct cs n o = sym (struct_is cs n o)

-- ---- the last one, and those before it

abbrev with_one : Structs → Pending → Structs
with_one s p = with_noted s (pending_targets s.completed p)

-- The last one comes before the others.
pub one_first : (s : Structs) (ps : List Pending) (p : Pending) → with_pending s (ps ++ (p ∷ []))
    ≡ with_pending (with_one s p) ps
one_first s ps p =
    ap (with_noted s) (last_first s.completed ps p)
    ∙ noted_both s (pending_targets s.completed p) (all_pending s.completed ps)

-- What holds of the last one, and of those before it.
pub record IsLast (s : Structs) (ps : List Pending) (p : Pending) : Type 0 where
  pub ended : AreEnded (with_one s p) ps
  pub noted : AreNoted (with_one s p) (struct_targets s.completed p.number)

pub to_last : (s : Structs) (ps : List Pending) (p : Pending) → AreEnded s (ps ++ (p ∷ [])) → IsLast s ps p
to_last s [] p h = record { ended = tt; noted = h.0 }
to_last s (q ∷ ps) p h =
    let r = to_last s ps p h.1 in
    record {
      ended = (
        subst (λ (x : Structs). AreNoted x (struct_targets s.completed q.number)) (one_first s (q ∷ ps) p) h.0,
        r.ended,
      );
      noted = r.noted;
    }

pub of_last : (s : Structs) (ps : List Pending) (p : Pending) → IsLast s ps p → AreEnded s (ps ++ (p ∷ []))
of_last s [] p h = (h.noted, tt)
of_last s (q ∷ ps) p h = (
  subst (λ (x : Structs). AreNoted x (struct_targets s.completed q.number)) (sym (one_first s (q ∷ ps) p)) h.ended.0,
  of_last s ps p (record { ended = h.ended.1; noted = h.noted }),
)

-- ---- steps of the walk

-- A struct of which all members were gone through.
pub record IsOver (s : Structs) (ps : List Pending) (p : Pending) : Type 0 where
  pub rest : with_pending s ps ≡ with_pending s (ps ++ (p ∷ []))
  pub ended : AreEnded s ps
  pub noted : AreNoted s (struct_targets s.completed p.number)

none_left : (cs : List Completed) (p : Pending) (xs : List c.Member) → map view_member xs ≡ members_in cs p.number →
    length xs ≤ p.member → pending_targets cs p ≡ []
none_left cs p xs e h =
    ap (λ ms. members_targets (struct_targets cs) (drop p.member ms)) (sym e)
    ∙ ap (members_targets (struct_targets cs))
    (drop-map view_member p.member xs ∙ ap (map view_member) (drop_all p.member xs h))

pub over : (s : Structs) (ps : List Pending) (p : Pending) (xs : List c.Member) →
    map view_member xs ≡ members_in s.completed p.number → length xs ≤ p.member → AreEnded s (ps ++ (p ∷ [])) →
    IsOver s ps p
over s ps p xs m l e =
    let same : with_one s p ≡ s = ap (with_noted s) (none_left s.completed p xs m l) in
    let r = to_last s ps p e in
    record {
      rest = sym (one_first s ps p ∙ ap (λ (x : Structs). with_pending x ps) same);
      ended = subst (λ (x : Structs). AreEnded x ps) same r.ended;
      noted = subst (λ (x : Structs). AreNoted x (struct_targets s.completed p.number)) same r.noted;
    }

-- A member that comes next, before those after it.
pub record IsNext (s : Structs) (ps : List Pending) (p q : Pending) (leaf : Leaf) : Type 0 where
  pub rest : with_pending (with_leaf s leaf) (ps ++ (q ∷ [])) ≡ with_pending s (ps ++ (p ∷ []))
  pub ended : AreEnded (with_leaf s leaf) (ps ++ (q ∷ []))

pub goes_on : (s : Structs) (ps : List Pending) (p q : Pending) (leaf : Leaf) → q.number ≡ p.number →
    pending_targets s.completed p ≡ leaf_found (struct_targets s.completed) leaf ++ pending_targets s.completed q →
    AreEnded s (ps ++ (p ∷ [])) → IsNext s ps p q leaf
goes_on s ps p q leaf n e h =
    let found = leaf_found (struct_targets s.completed) leaf in
    let same : with_one s p ≡ with_one (with_leaf s leaf) q =
    ap (with_noted s) e ∙ noted_both s found (pending_targets s.completed q) in
    let r = to_last s ps p h in
    record {
      rest =
          one_first (with_leaf s leaf) ps q ∙ ap (λ (x : Structs). with_pending x ps) (sym same)
          ∙ sym (one_first s ps p);
      ended =
          of_last (with_leaf s leaf) ps q record {
            ended = subst (λ (x : Structs). AreEnded x ps) same r.ended;
            noted =
                subst (λ m. AreNoted (with_one (with_leaf s leaf) q) (struct_targets s.completed m)) (sym n)
                (subst (λ (x : Structs). AreNoted x (struct_targets s.completed p.number)) same r.noted);
          };
    }

-- A struct that comes before the others.
pub record IsInside (s : Structs) (ps qs : List Pending) (n : ℕ) : Type 0 where
  pub rest : with_pending s qs ≡ with_pending (with_leaf s (Inside n)) ps
  pub ended : AreEnded s qs

pub goes_in : (s : Structs) (ps qs : List Pending) (n : ℕ) → is_ordered s.completed ≡ true →
    qs ≡ ps ++ (record { number = n; member = 0 } ∷ []) → AreEnded (with_leaf s (Inside n)) ps → IsInside s ps qs n
goes_in s ps qs n o e h =
    let p : Pending = record { number = n; member = 0 } in
    let same : with_one s p ≡ with_leaf s (Inside n) = ap (with_noted s) (whole_struct s.completed n o) in
    record {
      rest = ap (with_pending s) e ∙ one_first s ps p ∙ ap (λ (x : Structs). with_pending x ps) same;
      ended =
          subst (AreEnded s) (sym e) (of_last s ps p record {
            ended = subst (λ (x : Structs). AreEnded x ps) (sym same) h;
            noted =
                subst (λ (x : Structs). AreNoted x (struct_targets s.completed n)) (sym same)
                (themselves s (struct_targets s.completed n));
          });
    }

-- ---- structs that are done

-- They stay so while more targets get numbers.
pub done_still : (s : Structs) (done : List Bool) (ts : List CType) → IsDone s done → IsDone (with_noted s ts) done
done_still s done ts h n e = still s ts (struct_targets s.completed n) (h n e)

-- Such a struct is passed over.
pub done_over : (s : Structs) (done : List Bool) (n : ℕ) → IsDone s done → true ≡ get_or done n false →
    with_leaf s (Inside n) ≡ s
done_over s done n h e = unchanged s (struct_targets s.completed n) (h n (sym e))

done_one : (s : Structs) (done more : List Bool) (n : ℕ) →
    ((m : ℕ) → get_or more m false ≡ true → m ≢ n → get_or done m false ≡ true) → IsDone s done →
    AreNoted s (struct_targets s.completed n) → (m : ℕ) (b : Bool) → nat_eq m n ≡ b → get_or more m false ≡ true →
    AreNoted s (struct_targets s.completed m)
done_one s done more n f h k m true e g =
    subst (λ i. AreNoted s (struct_targets s.completed i)) (sym (eqb-true m n e)) k
done_one s done more n f h k m false e g = h m (f m g (eqb-false m n e))

-- One more.
pub done_more : (s : Structs) (done more : List Bool) (n : ℕ) →
    ((m : ℕ) → get_or more m false ≡ true → m ≢ n → get_or done m false ≡ true) → IsDone s done →
    AreNoted s (struct_targets s.completed n) → IsDone s more
done_more s done more n f h k m g = done_one s done more n f h k m (nat_eq m n) refl g

-- No struct is marked at first.
pub none_by : (count n : ℕ) → (n < count) ⊎ (count ≤ n) → get_or (replicate count false) n false ≡ false
none_by count n (inl h) = get_or-replicate count n false false h
none_by count n (inr h) = get_or_past (replicate count false) n false (omega (arith, h, length-replicate count false))

-- None at first.
pub none_done : (s : Structs) (count : ℕ) → IsDone s (replicate count false)
none_done s count n h = let e = none_by count n (cases_lt n count) in absurd cc
