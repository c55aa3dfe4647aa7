use Rattle.std.proofs.Common.{◌≡◌, ◌≤◌, ◌<◌, ◌+◌, ◌^◌, ◌++◌, [], ◌∷◌, length, append-nil, sym, ap, subst, ◌∙◌, inr, arith}
use Rattle.std.specs.Vec.{vec_capacity}
use Rattle.std.proofs.lemmas.List.{length-append}
use Rattle.upc_values.specs.layer.Chunks.{joined, AreFull}
use Rattle.upc_values.proofs.Joining.{joined-push, full-push}
use Rattle.upc_values.proofs.chunks.Chunks.reserve.Goals as goal

pub invariant_of-self-then-len-eq-CHUNK : goal.invariant_of-self-then-len-eq-CHUNK
invariant_of-self-then-len-eq-CHUNK g c =
    let i = c.self.inside in
    let last = i.last in
    let full = i.full.items in
    let items : c.push_reserved.new.self.items ≡ full ++ last ∷ [] =
    c.push_reserved.ensures.items ∙ ap (λ l. l ++ c.replace-full.result ∷ []) c.in_ok-reserve.ensures.items
    ∙ ap (λ v. full ++ v ∷ []) c.replace-full.ensures.value in
    let all : length last.items ≡ 4096 = sym (c.len-3.ensures ∙ last.ok.0) ∙ c.if-len-eq-CHUNK.true in
    let more : length (full ++ last ∷ []) ≡ length full + 1 = length-append full (last ∷ []) in
    let few : length full < 2 ^ 50 = (let n = c.len-2.ensures in let ok = i.full.ok.0 in let lt = c.if-len.false in omega arith) in (
      subst AreFull (sym items) (full-push full last c.self.invariant.0 all),
      subst (λ l. length l ≤ 2 ^ 50) (sym items) (omega arith),
      inr (ap vec_capacity c.replace-full.ensures.after ∙ c.in_ok-next.ensures.exact),
    )

pub returns-then-len-eq-CHUNK-clause-items : goal.returns-then-len-eq-CHUNK-clause-items
returns-then-len-eq-CHUNK-clause-items g c =
    let i = c.self.inside in
    let last = i.last in
    let full = i.full.items in
    let items : c.push_reserved.new.self.items ≡ full ++ last ∷ [] =
    c.push_reserved.ensures.items ∙ ap (λ l. l ++ c.replace-full.result ∷ []) c.in_ok-reserve.ensures.items
    ∙ ap (λ v. full ++ v ∷ []) c.replace-full.ensures.value in
    let none : c.replace-full.new.dest.items ≡ [] = ap (λ v. v.items) c.replace-full.ensures.after ∙ c.in_ok-next.ensures.items in
    ap (λ l. joined l c.replace-full.new.dest.items) items ∙ ap (joined (full ++ last ∷ [])) none
    ∙ joined-push full last [] ∙ ap (joined full) (append-nil last.items) ∙ ap (λ l. l.items) c.self.view_is
