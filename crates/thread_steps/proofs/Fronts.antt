-- Lists of actions that begin with others.
use Rattle.std.proofs.Common.{◌≡◌, ◌≤◌, List, [], ◌∷◌, ◌++◌, length, refl, sym, ◌∙◌, ap, arith}
use Rattle.std.proofs.Common.{append_assoc, append-nil}
use Rattle.std.proofs.lemmas.List.{length-append}
use Rattle.upc_values.specs.declared.action.Action.{Action}
use Rattle.thread_steps.specs.layer.Fronts.{Begins}

pub begins_itself : (xs : List Action) → Begins xs xs
begins_itself xs = ([], sym (append-nil xs))

pub begins_pushed : (xs : List Action) (a : Action) → Begins xs (xs ++ a ∷ [])
begins_pushed xs a = (a ∷ [], refl)

pub begins_on : (xs ys zs : List Action) → Begins xs ys → Begins ys zs → Begins xs zs
begins_on xs ys zs b c = (b.0 ++ c.0, c.1 ∙ ap (λ l. l ++ c.0) b.1 ∙ append_assoc xs b.0 c.0)

-- A list without members is empty.
pub none_left : (xs : List Action) → length xs ≡ 0 → xs ≡ []
none_left [] e = refl
none_left (x ∷ xs) e = absurd (omega arith)

-- What begins with a list and is no longer is that list.
pub all_of : (front all : List Action) → Begins front all → length all ≤ length front → all ≡ front
all_of front all b le =
    let h = ap length b.1 in
    let g = length-append front b.0 in
    b.1 ∙ ap (λ l. front ++ l) (none_left b.0 (omega arith)) ∙ append-nil front
