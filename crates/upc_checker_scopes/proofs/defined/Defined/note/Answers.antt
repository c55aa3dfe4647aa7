use Rattle.std.proofs.Common.{◌≡◌, [], ◌∷◌, ◌++◌, ◌==◌, length, if◌then◌else◌, Some, None, sym, ap, ◌∙◌, arith}
use Rattle.std.proofs.lemmas.Grind.{common_steps}
use Rattle.upc_checker_scopes.specs.code.ViewDefined.{numbered, first_or}
use Rattle.upc_checker_scopes.proofs.Numbers.{numbered_more}
use Rattle.upc_checker_scopes.proofs.defined.Defined.note.Goals as goal

pub invariant_of-self-2 : goal.invariant_of-self-2
invariant_of-self-2 c =
    let names = c.args.self.now.names.items in
    let n : c.len-number.result ≡ length names = grind (arith, common_steps, c.len-number.ensures) in
    let m : c.push.new.self.items ≡ names ++ (c.args.name ∷ []) = grind (arith, common_steps, c.push.ensures.items, c.push.ensures.succeeds, c.in_ok-reserve.ensures.capacity, c.in_ok-reserve.ensures.len, c.in_ok-reserve.ensures.items) in
    record {
      few = grind (arith, common_steps, m, n, c.if-number.false);
      numbered = λ q. rw m (c.in_ok-keep_first.ensures.ok q ∙ ap (λ o. first_or o (if c.args.name == q then Some c.len-number.result else None)) (c.args.self.now.numbered q) ∙
          ap (λ k. first_or (numbered names q) (if c.args.name == q then Some k else None)) n ∙ sym (numbered_more names c.args.name q));
    }
