use Rattle.std.proofs.Common.{◌≡◌, ℕ, Bool, true, false, cond, nat_eq, nat_lt, Some, refl, ap, ◌∙◌, Less, Equal, Greater, arith}
use Rattle.std.proofs.lemmas.Bool.{eqb-true, ltb-true}
use Rattle.std.specs.Ordering.{nat_cmp, is_eq}
use Rattle.std.specs.BTreeMap.{get}
use Rattle.typed_tree_opening.proofs.known_shapes.keep.Goals as goal

at_one : (n q : ℕ) (a b : Bool) → nat_lt n q ≡ a → nat_eq n q ≡ b → is_eq (cond a Less (cond b Equal Greater)) ≡ b
at_one n q true true h k = absurd (omega (arith, ltb-true n q h, eqb-true n q k))
at_one n q true false h k = refl
at_one n q false true h k = refl
at_one n q false false h k = refl

pub returns-clause-ok : goal.returns-clause-ok
returns-clause-ok c q =
    c.in_ok-insert.ensures.updates.0 q
    ∙ ap (λ b. cond b (Some c.args.place) (get nat_cmp c.args.latest.now q))
    (at_one c.args.code q (nat_lt c.args.code q) (nat_eq c.args.code q) refl refl)
