use Rattle.std.proofs.Common.{rules, ◌≡◌, ◌≢◌, ◌+◌, ◌<◌, length, get_or, sym, arith}
use Rattle.block_layout.specs.declared.kind.Kind.TheVariants.{Char}
use Rattle.block_layout.proofs.UnderByte.{under_here, under_empty, under_further}
use Rattle.block_layout.proofs.cell_lists.kind_among.Goals as goal

pub returns-then-is_empty : goal.returns-then-is_empty
returns-then-is_empty c =
    let none : length c.list_from-left.result.now ≡ 0 = search rules in
    sym (under_empty c.args.cells.now c.list_from-left.result.now c.args.start c.args.place c.list_from-left.ensures none)

pub returns-then-from : goal.returns-then-from
returns-then-from c =
    let left = c.list_from-left.result.now in
    let some : 0 < length left = search rules in
    let at : c.args.start + (get_or left 0 (0, Char)).0 ≢ c.args.place = λ e. c.if-from.true (omega (arith, c.from.ensures, c.from-2.ensures, c.from-3.ensures, e)) in
    sym (under_further c.args.cells.now left c.args.start c.requires.0 c.args.place (0, Char) c.requires.1 c.list_from-left.ensures some at)

pub returns : goal.returns
returns c =
    let left = c.list_from-left.result.now in
    let some : 0 < length left = search rules in
    let at : c.args.start + (get_or left 0 (0, Char)).0 ≡ c.args.place = omega (arith, c.from.ensures, c.from-2.ensures, c.from-3.ensures, c.if-from.false) in
    sym (under_here c.args.cells.now left c.args.start c.args.place (0, Char) c.list_from-left.ensures some at)
