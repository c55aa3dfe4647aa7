use Rattle.std.proofs.Common.{sym, subst, ap, refl, length, Option}
use Rattle.std.proofs.lemmas.Option.{slice_get_past, slice_get_read}
use Rattle.upc_values.specs.declared.journal.Strand.{Strand}
use Rattle.run_recorder_parts.specs.layer.Readers.{bind, Gives, same}
use Rattle.run_recorder.specs.code.Finding.{IsTable, did_at, entry_by}
use Rattle.run_recorder.proofs.Tables.{tables_at, tables_none}
use Rattle.run_recorder.proofs.entries.one_entry.Goals as goal

pub returns-in_default-get : goal.returns-in_default-get
returns-in_default-get c =
    ap (λ (o : Option Strand). bind o (λ s. entry_by c.args.name (did_at s.items c.args.name.index)))
    (tables_none c.args.strands.now c.args.tables.now c.args.name.thread c.requires
    (sym (slice_get_past c.args.tables.now c.args.name.thread c.in_default-get.ensures.lookup.3)))

pub in_thread-requires : goal.in_thread-requires
in_thread-requires c =
    let ss = c.args.strands.now in
    let vs = c.args.tables.now in
    let t = c.args.name.thread in
    let a = slice_get_read ss (length ss) t c.in-Some.strand.now refl c.in-Some.ensures.lookup.3.0
    c.in-Some.ensures.lookup.1 in
    let b = slice_get_read vs (length vs) t c.in-Some-get.places.now refl c.in-Some-get.ensures.lookup.3.0
    c.in-Some-get.ensures.lookup.1 in
    let table = tables_at ss vs t c.in-Some.strand.now c.in-Some-get.places.now c.requires (sym a) (sym b) in
    subst (λ ps. IsTable c.in-Some.strand.now.items ps) (sym c.as_slice.ensures.value) table

pub returns : goal.returns
returns c =
    let ss = c.args.strands.now in
    let a = slice_get_read ss (length ss) c.args.name.thread c.in-Some.strand.now refl c.in-Some.ensures.lookup.3.0
    c.in-Some.ensures.lookup.1 in
    subst (λ o. Gives same c.in_thread.result o)
    (ap (λ (o : Option Strand). bind o (λ s. entry_by c.args.name (did_at s.items c.args.name.index))) (sym a))
    c.in_thread.ensures
