use Rattle.std.proofs.Common.{◌≡◌, ℕ, ◌<◌, length, cond, true, false, None, is_some, slice_index, sym, ap, ◌∙◌, subst}
use Rattle.std.proofs.lemmas.List.{length-set, get_or_read}
use Rattle.std.specs.Vec.{with_item}
use Rattle.block_layout.specs.declared.place.Loc.{Loc}
use Rattle.upc_values.specs.Scalars.{same_loc}
use Rattle.race_report_clocks.specs.declared.channel.Channel.TheVariants as over
use Rattle.race_report_tables.specs.layer.Places.{member_at, ArePlaced}
use Rattle.race_report_tables.proofs.Keys.{member-set}
use Rattle.race_report_cells.specs.declared.cell.Cell.{Cell}
use Rattle.race_report_cells.specs.declared.cells.Cells.{Cells}
use Rattle.race_report_cells.specs.code.Lasts.{AreNoted, IsFound, races_by}
use Rattle.race_report_cells.specs.layer.Found.{IsKeyed, races_in, ArePut}
use Rattle.race_report_cells.specs.layer.Cells.{fresh, cell_at}
use Rattle.race_report_cells.proofs.Walking.{looked-none, looked-some}
use Rattle.race_report_cells.proofs.cells.Cells.look.Goals as goal

pub returns-in_ok-put-in-Some-clause-walked : goal.returns-in_ok-put-in-Some-clause-walked
returns-in_ok-put-in-Some-clause-walked c = λ before b on named_is knows walked.
    let old : Cells = c.args.self.now in
    let loc : Loc = c.args.loc in
    let p = c.open.new.self.places in
    let xs = c.open.new.self.cells.items in
    let i : ℕ = c.in_ok-place.place in
    let y : Cell = c.look.new.self in
    let e = c.in_ok-place.ensures in
    let r = c.in_ok-racing.ensures in
    let within : i < length xs = e.placed.within (over.Cell loc) i e.place in
    let here : c.index_mut.result.now ≡ cell_at old loc =
    get_or_read xs i c.index_mut.result.now within c.index_mut.ensures.value fresh ∙ sym (ap (member_at fresh xs) e.place)
    ∙ e.same loc in
    looked-some old (record { places = p; cells = with_item c.open.new.self.cells i y; found = c.put.new.self }) loc y before b on
    (record {
      kept = record { placed = subst (ArePlaced p) (sym (length-set xs i y)) e.placed; keyed = c.in_ok-put-in-Some.ensures.keyed };
      at = λ k.
          member-set fresh p xs (over.Cell loc) i y e.placed e.place (over.Cell k)
          ∙ ap (λ z. cond (same_loc loc k) y z) (e.same k);
    })
    walked c.args.known.now c.args.now named_is knows c.in_ok-racing.racing
    (subst (λ (z : Cell). z.raced ≡ true → (y.raced ≡ true) × (c.in_ok-racing.racing ≡ None)) here r.over)
    (subst (λ (z : Cell). z.raced ≡ false → IsFound (races_by (λ u. slice_index c.args.known.now u) c.args.now) z.lasts c.in_ok-racing.racing) here r.found)
    (subst (λ (z : Cell). z.raced ≡ false → y.raced ≡ is_some c.in_ok-racing.racing) here r.raced)
    (subst (λ (z : Cell). y.raced ≡ false → AreNoted c.args.now z.lasts y.lasts) here r.noted)
    c.in-Some.first c.in-Some.is
    (subst (λ z. ArePut z (races_in old.found) (races_in c.put.new.self)) c.race_of.ensures
    (subst (λ z. ArePut c.race_of.result (races_in z) (races_in c.put.new.self)) e.found c.in_ok-put-in-Some.ensures.put))

pub returns-in-None-clause-walked : goal.returns-in-None-clause-walked
returns-in-None-clause-walked c = λ before b on named_is knows walked.
    let old : Cells = c.args.self.now in
    let loc : Loc = c.args.loc in
    let p = c.open.new.self.places in
    let xs = c.open.new.self.cells.items in
    let i : ℕ = c.in_ok-place.place in
    let y : Cell = c.look.new.self in
    let e = c.in_ok-place.ensures in
    let r = c.in_ok-racing.ensures in
    let within : i < length xs = e.placed.within (over.Cell loc) i e.place in
    let here : c.index_mut.result.now ≡ cell_at old loc =
    get_or_read xs i c.index_mut.result.now within c.index_mut.ensures.value fresh ∙ sym (ap (member_at fresh xs) e.place)
    ∙ e.same loc in
    looked-none old (record { places = p; cells = with_item c.open.new.self.cells i y; found = c.open.new.self.found }) loc y before b on
    (record {
      kept = record { placed = subst (ArePlaced p) (sym (length-set xs i y)) e.placed; keyed = subst IsKeyed (sym e.found) c.requires.keyed };
      at = λ k.
          member-set fresh p xs (over.Cell loc) i y e.placed e.place (over.Cell k)
          ∙ ap (λ z. cond (same_loc loc k) y z) (e.same k);
    })
    walked c.args.known.now c.args.now named_is knows c.in_ok-racing.racing
    (subst (λ (z : Cell). z.raced ≡ true → (y.raced ≡ true) × (c.in_ok-racing.racing ≡ None)) here r.over)
    (subst (λ (z : Cell). z.raced ≡ false → IsFound (races_by (λ u. slice_index c.args.known.now u) c.args.now) z.lasts c.in_ok-racing.racing) here r.found)
    (subst (λ (z : Cell). z.raced ≡ false → y.raced ≡ is_some c.in_ok-racing.racing) here r.raced)
    (subst (λ (z : Cell). y.raced ≡ false → AreNoted c.args.now z.lasts y.lasts) here r.noted)
    c.in-None.is e.found
