use Rattle.std.proofs.Common.{◌≡◌, ◌/◌, ◌%◌, ◌*◌, ◌-◌, ◌<◌, ◌≤◌, length, get_or, slice_get, sym, ap, subst, ◌∙◌}
use Rattle.upc_values.proofs.Joining.{get-chunk, get-last, looked}
use Rattle.upc_values.proofs.chunks.Chunks.get.Goals as goal

pub returns-in-Some : goal.returns-in-Some
returns-in-Some g c =
    let i = c.self.inside in
    let n = c.args.index in
    let chunk = c.in-Some.chunk.now in
    let found = c.in-Some.ensures.lookup.3 in
    let lt : n / 4096 < length i.full.items = subst (λ z. n / 4096 < length z) c.deref.ensures.value found.0 in
    let is : chunk ≡ get_or i.full.items (n / 4096) chunk = found.1 chunk ∙ ap (λ z. get_or z (n / 4096) chunk) c.deref.ensures.value in
    looked c.get-in-Some.result c.deref-in-Some.result.now (n % 4096) c.get-in-Some.ensures.lookup.3
    ∙ ap (λ z. slice_get z (n % 4096)) c.deref-in-Some.ensures.value
    ∙ sym (get-chunk i.full.items i.last.items n chunk c.self.invariant.0 lt is)
    ∙ ap (λ l. slice_get l.items n) c.self.view_is

pub returns-in-None : goal.returns-in-None
returns-in-None g c =
    let i = c.self.inside in
    let n = c.args.index in
    let past : length i.full.items ≤ n / 4096 = subst (λ z. length z ≤ n / 4096) c.deref.ensures.value c.in-None.ensures.lookup.3 in
    looked c.get-in-None.result c.deref-in-None.result.now (n - c.len.result * 4096) c.get-in-None.ensures.lookup.3
    ∙ ap (λ z. slice_get z (n - c.len.result * 4096)) c.deref-in-None.ensures.value
    ∙ ap (λ k. slice_get i.last.items (n - k * 4096)) (c.len.ensures ∙ i.full.ok.0)
    ∙ sym (get-last i.full.items i.last.items n c.self.invariant.0 past)
    ∙ ap (λ l. slice_get l.items n) c.self.view_is
