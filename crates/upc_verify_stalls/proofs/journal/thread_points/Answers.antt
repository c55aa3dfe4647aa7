use Rattle.std.proofs.Common.{◌≡◌, get_or, sym, ap, subst, ◌∙◌}
use Rattle.std.proofs.lemmas.List.{get_or_default}
use Rattle.std.specs.Option.{option_copied}
use Rattle.upc_values.specs.declared.journal.Strand.{Strand}
use Rattle.upc_values.specs.Orders.{no_strand, record_of}
use Rattle.upc_values.specs.Strands.{StallsStand}
use Rattle.upc_verify_stalls.proofs.journal.thread_points.Goals as goal

pub points_of-requires : goal.points_of-requires
points_of-requires c =
    let j = c.args.journal.now in
    let t = c.args.thread in
    let s = c.index-as_slice-thread.result in
    let is : (get_or c.as_slice.result.now t s).items ≡ record_of j t =
    ap (λ (x : Strand). x.items) (ap (λ xs. get_or xs t s) c.as_slice.ensures ∙ get_or_default j.strands t s no_strand c.requires.within) in
    subst (StallsStand (option_copied c.args.want)) (sym is) c.requires.stalls
