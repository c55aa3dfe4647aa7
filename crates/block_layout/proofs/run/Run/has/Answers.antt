use Rattle.std.proofs.Common.{◌≡◌, false, ◌&&◌, slice_index_or, sym, ◌∙◌, arith}
use Rattle.block_layout.specs.declared.kind.Kind.TheVariants.{Char}
use Rattle.block_layout.specs.code.Runs.{hits}
use Rattle.block_layout.specs.Shapes.{same_kind}
use Rattle.block_layout.proofs.Found.{any_next, no_left, no_right, run_has_at, run_has_none}
use Rattle.block_layout.proofs.run.Run.has.Goals as goal
use Rattle.block_layout.proofs.run.Run.has.Goals.{else-is-via-then-is+else-reaches, else-is-via-else-is}

pub loop-offset-preserved : goal.loop-offset-preserved
loop-offset-preserved c =
    let r = c.args.self.now in
    let cells = c.as_slice-offset-items.result.now in
    let i = c.loop-offset.offset-index in
    let here = slice_index_or cells i (0, Char) in
    let no : (hits r.start r.stride r.count here.0 c.args.place && same_kind here.1 c.args.kind) ≡ false =
    elim c.else-is.branch [
      | else-is-via-then-is+else-reaches w ↦ no_left (hits r.start r.stride r.count here.0 c.args.place) (same_kind here.1 c.args.kind) (sym w.reaches.ensures ∙ w.if-reaches.false)
      | else-is-via-else-is w ↦ no_right (hits r.start r.stride r.count here.0 c.args.place) (same_kind here.1 c.args.kind) (sym c.is.ensures.value ∙ w.if-is.false)
    ]
    in
    record {
      items = c.loop-offset.invariant.items;
      rest = any_next (λ x. hits r.start r.stride r.count x.0 c.args.place && same_kind x.1 c.args.kind) cells i (0, Char) c.loop-offset-test.true no ∙ c.loop-offset.invariant.rest;
    }

pub returns-then-reaches : goal.returns-then-reaches
returns-then-reaches c =
    sym (run_has_at c.args.self.now c.as_slice-offset-items.result.now c.args.place c.loop-offset.offset-index (0, Char) c.args.kind c.loop-offset.invariant.items c.loop-offset-test.true
    (sym c.reaches.ensures ∙ c.if-reaches.true) (c.is.ensures.exact.0 c.if-is.true))

pub returns : goal.returns
returns c = sym (run_has_none c.args.self.now c.as_slice-offset-items.result.now c.args.place c.loop-offset.offset-index c.args.kind (omega arith) c.loop-offset.invariant.rest)
