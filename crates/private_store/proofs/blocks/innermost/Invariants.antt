use Rattle.std.proofs.Common.{◌≡◌, nat_le, take, reverse}
use Rattle.std.specs.List.{find}
use Rattle.private_store.proofs.blocks.innermost.Given as goal

-- none of the younger ones was entered with so few names in scope
abbrev pub invariant-loop-at : goal.invariant-loop-at
invariant-loop-at l = find (λ b. nat_le b.from l.n) (reverse l.blocks) ≡ find (λ b. nat_le b.from l.n) (reverse (take l.at l.blocks))
