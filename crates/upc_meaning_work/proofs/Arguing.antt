-- One argument more.
use Rattle.std.proofs.Common.{◌≡◌, ℕ, suc, List, [], ◌∷◌, ◌++◌, take}
use Rattle.std.proofs.lemmas.List.{reverse-append}
use Rattle.upc_values.specs.declared.scalar.Value.{Value}
use Rattle.upc_meaning_work.specs.code.Stacks.{youngest}

pub youngest_more : (n : ℕ) (v : Value) (vs : List Value) → youngest (suc n) (v ∷ vs) ≡ youngest n vs ++ v ∷ []
youngest_more n v vs = reverse-append (v ∷ []) (take n vs)
