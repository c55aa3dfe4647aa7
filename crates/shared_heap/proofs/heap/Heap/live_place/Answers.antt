use Rattle.std.proofs.Common.{◌≡◌, ◌<◌, ◌-◌, ◌+◌, ℕ, length, sym, ap, ◌∙◌, arith}
use Rattle.shared_heap.specs.layer.Heap.{HeapState, is_live_start}
use Rattle.shared_heap.proofs.Starts.{live-declared, live-none, live-elsewhere, live-over, live-yes}
use Rattle.shared_heap.proofs.heap.Heap.live_place.Goals as goal

pub returns-then-number-declared-clause-live : goal.returns-then-number-declared-clause-live
returns-then-number-declared-clause-live c =
    let i = c.self.inside in
    let p = c.args.pointer.now in
    let h : HeapState = record { opening = i.beginning; made = i.made.items; released = i.released.items; cells = i.cells } in
    let many : length c.declared-declared.result.now ≡ length i.beginning.declared = ap length c.declared-declared.ensures in
    let le = c.if-number-declared.true in
    sym (live-declared h p c.self.invariant.heap (omega arith)) ∙ ap (λ z. is_live_start p z.made z.released) c.self.view_is

pub returns-then-place-len-clause-live : goal.returns-then-place-len-clause-live
returns-then-place-len-clause-live c =
    let i = c.self.inside in
    let p = c.args.pointer.now in
    let h : HeapState = record { opening = i.beginning; made = i.made.items; released = i.released.items; cells = i.cells } in
    let many : length c.declared-declared.result.now ≡ length i.beginning.declared = ap length c.declared-declared.ensures in
    let past = c.if-number-declared.false in
    let len = c.len.ensures in
    let at : ℕ = p.object.number - length c.declared-declared.result.now - 1 in
    let le = c.if-place-len.true in
    sym (live-none h p c.self.invariant.heap (omega arith)) ∙ ap (λ z. is_live_start p z.made z.released) c.self.view_is

pub returns-then-not-is_start-clause-live : goal.returns-then-not-is_start-clause-live
returns-then-not-is_start-clause-live c =
    let i = c.self.inside in
    let p = c.args.pointer.now in
    let h : HeapState = record { opening = i.beginning; made = i.made.items; released = i.released.items; cells = i.cells } in
    let many : length c.declared-declared.result.now ≡ length i.beginning.declared = ap length c.declared-declared.ensures in
    let past = c.if-number-declared.false in
    let len = c.len.ensures in
    let at : ℕ = p.object.number - length c.declared-declared.result.now - 1 in
    let before = c.if-place-len.false in
    let e : p.object.number ≡ length i.beginning.declared + 1 + at = omega arith in
    let lt : at < length i.made.items = omega arith in
    sym (live-elsewhere h p at c.index.result.now c.self.invariant.heap e lt c.index.ensures
    (sym c.is_start.ensures ∙ c.if-not-is_start.true)) ∙ ap (λ z. is_live_start p z.made z.released) c.self.view_is

pub returns-then-index-clause-live : goal.returns-then-index-clause-live
returns-then-index-clause-live c =
    let i = c.self.inside in
    let p = c.args.pointer.now in
    let h : HeapState = record { opening = i.beginning; made = i.made.items; released = i.released.items; cells = i.cells } in
    let many : length c.declared-declared.result.now ≡ length i.beginning.declared = ap length c.declared-declared.ensures in
    let past = c.if-number-declared.false in
    let len = c.len.ensures in
    let at : ℕ = p.object.number - length c.declared-declared.result.now - 1 in
    let before = c.if-place-len.false in
    let e : p.object.number ≡ length i.beginning.declared + 1 + at = omega arith in
    let lt : at < length i.made.items = omega arith in
    sym (live-over h p at c.index-2.result.now c.self.invariant.heap e lt c.index-2.ensures c.if-index.true) ∙ ap (λ z. is_live_start p z.made z.released) c.self.view_is

pub returns-clause-live : goal.returns-clause-live
returns-clause-live c =
    let i = c.self.inside in
    let p = c.args.pointer.now in
    let h : HeapState = record { opening = i.beginning; made = i.made.items; released = i.released.items; cells = i.cells } in
    let many : length c.declared-declared.result.now ≡ length i.beginning.declared = ap length c.declared-declared.ensures in
    let past = c.if-number-declared.false in
    let len = c.len.ensures in
    let at : ℕ = p.object.number - length c.declared-declared.result.now - 1 in
    let before = c.if-place-len.false in
    let e : p.object.number ≡ length i.beginning.declared + 1 + at = omega arith in
    let lt : at < length i.made.items = omega arith in
    sym (live-yes h p at c.index.result.now c.index-2.result.now c.self.invariant.heap e lt c.index.ensures
    (sym c.is_start.ensures ∙ c.if-not-is_start.false) c.index-2.ensures c.if-index.false) ∙ ap (λ z. is_live_start p z.made z.released) c.self.view_is
