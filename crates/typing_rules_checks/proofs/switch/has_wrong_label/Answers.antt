use Rattle.std.proofs.Common.{◌≡◌, ◌∷◌, [], ◌+◌, ◌-◌, ◌||◌, ℕ, zero, suc, Bool, true, false, List, Option, drop, get_or, refl, sym, ap, ◌∙◌, arith}
use Rattle.std.proofs.lemmas.List.{at_drop_more}
use Rattle.block_layout.specs.declared.kind.Kind.{Kind}
use Rattle.typing_rules.specs.declared.attribute.Constant.{Constant}
use Rattle.typing_rules.specs.declared.attribute.Constant.TheVariants.{Variable}
use Rattle.typing_rules.specs.Rules as r
use Rattle.typing_rules_checks.proofs.switch.has_wrong_label.Goals as goal

or_true : (a b : Bool) → b ≡ true → (a || b) ≡ true
or_true true b h = refl
or_true false b h = h

-- What is wrong among the last labels is wrong among all.
wrong_before : (kind : Option Kind) (labels : List Constant) (i : ℕ) → r.has_wrong_label kind (drop i labels) ≡ true →
    r.has_wrong_label kind labels ≡ true
wrong_before kind labels zero h = h
wrong_before kind [] (suc i) h = h
wrong_before kind (x ∷ xs) (suc i) h =
    or_true (r.is_wrong_label kind x xs) (r.has_wrong_label kind xs) (wrong_before kind xs i h)

pub returns-then-branch : goal.returns-then-branch
returns-then-branch c =
    let kind = c.args.kind in
    let labels = c.args.labels.now in
    let i = c.loop-at.at - 1 in
    let later = drop c.loop-at.at labels in
    let n : i + 1 ≡ c.loop-at.at = omega (arith, c.loop-at-test.true) in
    let here = c.in_ok-is_wrong.ensures later c.loop-at.invariant.values in
    let e : r.is_wrong_label kind (get_or labels i Variable) later ≡ true = sym here.0 ∙ c.if-branch.true in
    let more = at_drop_more (r.has_wrong_label kind) labels i Variable (omega (arith, c.loop-at-test.true, c.loop-at.auto.at)) in
    sym (wrong_before kind labels i (more ∙ ap (λ j. r.has_wrong_label kind (get_or labels i Variable ∷ drop j labels)) n
    ∙ ap (λ b. b || r.has_wrong_label kind later) e))

pub loop-at-preserved : goal.loop-at-preserved
loop-at-preserved c =
    let kind = c.args.kind in
    let labels = c.args.labels.now in
    let i = c.loop-at.at - 1 in
    let x = get_or labels i Variable in
    let later = drop c.loop-at.at labels in
    let n : i + 1 ≡ c.loop-at.at = omega (arith, c.loop-at-test.true) in
    let e : drop i labels ≡ x ∷ later = at_drop_more (λ xs. xs) labels i Variable
    (omega (arith, c.loop-at-test.true, c.loop-at.auto.at)) ∙ ap (λ j. x ∷ drop j labels) n in
    let here = c.in_ok-is_wrong.ensures later c.loop-at.invariant.values in
    rw e record {
      values = here.1 c.if-branch.false;
      right = ap (λ b. b || r.has_wrong_label kind later) (sym here.0 ∙ c.if-branch.false) ∙ c.loop-at.invariant.right;
    }
