-- Notifies and waits in turn: how many there are of each.
use Rattle.std.proofs.Common.{◌≡◌, ℕ, ◌+◌, Bool, true, false, List, [], ◌∷◌, ◌++◌, Option, Some, None, refl, sym, ap}
use Rattle.std.proofs.Common.{◌∙◌, arith}
use Rattle.std.specs.List.{count_by}
use Rattle.upc_values.specs.declared.scalar.Scalar.{Scalar}
use Rattle.upc_values.specs.declared.scalar.Mark.{Mark}
use Rattle.upc_values.specs.declared.action.Action.{Action}
use Rattle.upc_values.specs.declared.action.Action.TheVariants as act
use Rattle.upc_values.specs.History.{is_notify, is_wait}
use Rattle.collective_laws_histories.proofs.Lists.{count-yes, count-no}
use Rattle.thread_steps.specs.layer.Fronts.{turned, IsInTurn}
use Rattle.thread_steps.specs.layer.Parts.{turned_by}

pub turned-append : (s : Option Bool) (xs ys : List Action) → turned_by s (xs ++ ys) ≡ turned_by (turned_by s xs) ys
turned-append s [] ys = refl
turned-append s (a ∷ xs) ys = turned-append (turned s a) xs ys

none-turned : (a : Action) → turned None a ≡ None
none-turned (act.Notify m) = refl
none-turned (act.Wait m) = refl
none-turned a = refl

pub none-turned_by : (xs : List Action) → turned_by None xs ≡ None
none-turned_by [] = refl
none-turned_by (a ∷ xs) = ap (λ s. turned_by s xs) (none-turned a) ∙ none-turned_by xs

differ : (c : Bool) → None ≡ Some c → ⊥
differ c q = cc

pub no-turn : (xs : List Action) (c : Bool) → turned_by None xs ≡ Some c → ⊥
no-turn xs c h = differ c (sym (none-turned_by xs) ∙ h)

-- A notify that is open counts as one.
abbrev open_one : Bool → ℕ
open_one true = 1
open_one false = 0

abbrev some_bool : Option Bool → Bool
some_bool (Some b) = b
some_bool None = false

count-same : (a : Action) (xs : List Action) → is_notify a ≡ false → is_wait a ≡ false → (m n : ℕ)
    → count_by is_notify xs + m ≡ count_by is_wait xs + n
    → count_by is_notify (a ∷ xs) + m ≡ count_by is_wait (a ∷ xs) + n
count-same a xs p q m n h =
    ap (λ z. z + m) (count-no is_notify a xs p) ∙ h ∙ ap (λ z. z + n) (sym (count-no is_wait a xs q))

turn-count : (b c : Bool) (xs : List Action) → turned_by (Some b) xs ≡ Some c
    → count_by is_notify xs + open_one b ≡ count_by is_wait xs + open_one c
turn-count b c [] h = ap (λ z. 0 + open_one z) (ap some_bool h)
turn-count false c (act.Notify m ∷ xs) h =
    let r = turn-count true c xs h in
    let a = count-yes is_notify (act.Notify m) xs refl in
    let b = count-no is_wait (act.Notify m) xs refl in
    omega arith
turn-count true c (act.Notify m ∷ xs) h = absurd (no-turn xs c h)
turn-count false c (act.Wait m ∷ xs) h = absurd (no-turn xs c h)
turn-count true c (act.Wait m ∷ xs) h =
    let r = turn-count false c xs h in
    let a = count-no is_notify (act.Wait m) xs refl in
    let b = count-yes is_wait (act.Wait m) xs refl in
    omega arith
turn-count false c (a ∷ xs) h =
    count-same a xs refl refl 0 (open_one c) (turn-count false c xs h)
turn-count true c (a ∷ xs) h =
    count-same a xs refl refl 1 (open_one c) (turn-count true c xs h)

-- Before what may not stand after an open notify there are as many waits as notifies.
pub closed-before : (xs ys : List Action) → turned_by (Some true) ys ≡ None → IsInTurn (xs ++ ys)
    → count_by is_notify xs ≡ count_by is_wait xs
closed-before xs ys shut h =
    by_state (turned_by (Some false) xs) refl (sym (turned-append (Some false) xs ys) ∙ h.1)
  where
    by_state : (s : Option Bool) → turned_by (Some false) xs ≡ s → turned_by (turned_by (Some false) xs) ys ≡ Some h.0
        → count_by is_notify xs ≡ count_by is_wait xs
    by_state None q r = absurd (no-turn ys h.0 (ap (λ k. turned_by k ys) (sym q) ∙ r))
    by_state (Some true) q r = absurd (differ h.0 (sym shut ∙ ap (λ k. turned_by k ys) (sym q) ∙ r))
    by_state (Some false) q r = let e = turn-count false false xs q in omega arith

-- Before a notify there are as many waits as notifies.
pub in-turn : (xs ys : List Action) (c : ℕ) (args : List Scalar) (m : Mark)
    → IsInTurn (xs ++ act.Meet c args ∷ act.Notify m ∷ ys) → count_by is_notify xs ≡ count_by is_wait xs
in-turn xs ys c args m h = closed-before xs (act.Meet c args ∷ act.Notify m ∷ ys) (none-turned_by ys) h
