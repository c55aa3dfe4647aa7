use Rattle.std.proofs.Common.{◌≡◌, [], ◌∷◌, ◌++◌, map, length, sym, ap, ◌∙◌, subst, arith}
use Rattle.std.proofs.lemmas.Grind.{common_steps}
use Rattle.std.proofs.lemmas.List.{map-append}
use Rattle.upc_types.specs.View.{view}
use Rattle.upc_types.specs.Types.{CType}
use Rattle.upc_types.specs.code.TypeCodes.{code_of}
use Rattle.upc_types.specs.code.Targets.{AreApart, codes_of}
use Rattle.upc_types.proofs.Coded.{apart_more}
use Rattle.upc_types.proofs.targets.Targets.add.Goals as goal

pub invariant_of-self-2 : goal.invariant_of-self-2
invariant_of-self-2 c =
    let xs = c.args.self.now.list.items in
    let ts = map view xs in
    let t = view c.args.target.now in
    let numbers = c.args.self.now.places.numbers.items in
    let n : c.len-count.result ≡ length xs = grind (arith, common_steps, c.len-count.ensures) in
    let m : c.push.new.self.items ≡ xs ++ (c.in_ok-copy.copy ∷ []) = grind (arith, common_steps, c.push.ensures.items, c.push.ensures.succeeds, c.in_ok-reserve.ensures.capacity, c.in_ok-reserve.ensures.len, c.in_ok-reserve.ensures.items) in
    let v : view c.in_ok-copy.copy ≡ t = c.in_ok-copy.ensures in
    let whole : map view c.push.new.self.items ≡ ts ++ (t ∷ []) = ap (map view) m ∙ map-append view xs (c.in_ok-copy.copy ∷ []) ∙ ap (λ (x : CType). ts ++ (x ∷ [])) v in
    record {
      coded = c.in_ok-note.ensures.ok ∙ ap (λ k. numbers ++ (k ∷ [])) c.code_of.ensures ∙ ap (λ ns. ns ++ (code_of t ∷ [])) c.args.self.now.coded
          ∙ sym (map-append code_of ts (t ∷ [])) ∙ sym (ap codes_of whole);
      apart = subst AreApart (sym whole) (apart_more ts t c.args.self.now.apart c.requires.new);
      numbered = grind (arith, common_steps, m, n, c.if-count.false);
    }

pub returns-clause-ok : goal.returns-clause-ok
returns-clause-ok c =
    let xs = c.args.self.now.list.items in
    let ts = map view xs in
    let m : c.push.new.self.items ≡ xs ++ (c.in_ok-copy.copy ∷ []) = grind (arith, common_steps, c.push.ensures.items, c.push.ensures.succeeds, c.in_ok-reserve.ensures.capacity, c.in_ok-reserve.ensures.len, c.in_ok-reserve.ensures.items) in
    ap (map view) m ∙ map-append view xs (c.in_ok-copy.copy ∷ []) ∙ ap (λ (x : CType). ts ++ (x ∷ [])) c.in_ok-copy.ensures
