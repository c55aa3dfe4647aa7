use Rattle.std.proofs.Common.{◌≡◌, map, get_or, length, Some, sym, ap, ◌∙◌, arith}
use Rattle.std.proofs.lemmas.List.{reverse-reverse, length-reverse, length-map}
use Rattle.std.proofs.Math.ListN.{get_or-map}
use Rattle.typing_rules.specs.Meanings.{Unknown}
use Rattle.typed_tree.specs.Scopes.{Entry}
use Rattle.typed_tree.specs.code.ViewEntries.{view_entry, view_entries, place_in}
use Rattle.typed_tree.proofs.Entries.{placed, absent}
use Rattle.typed_tree.proofs.scope.Scope.get.Goals as goal

pub index-requires : goal.index-requires
index-requires c =
    let xs = c.args.self.now.entries.items in
    let es = view_entries xs in
    let h : place_in c.args.name es ≡ Some c.in-Some.place.now = sym (c.args.self.now.indexed c.args.name)
    ∙ sym c.in-Some.ensures.value in
    let p = placed c.args.name es Unknown c.in-Some.place.now h in
    let n : length es ≡ length xs = length-reverse (map view_entry xs) ∙ length-map xs view_entry in
    omega (arith, p.below, n, c.args.self.now.entries.ok)

pub returns-in-Some-clause-found : goal.returns-in-Some-clause-found
returns-in-Some-clause-found c = λ other.
    let xs = c.args.self.now.entries.items in
    let es = view_entries xs in
    let k = c.in-Some.place.now in
    let x = c.index.result.now in
    let h : place_in c.args.name es ≡ Some k = sym (c.args.self.now.indexed c.args.name)
    ∙ sym c.in-Some.ensures.value in
    let p = placed c.args.name es other k h in
    let e = ap (λ l. get_or l k (view_entry x)) (reverse-reverse (map view_entry xs))
    ∙ get_or-map view_entry xs k x ∙ ap view_entry (sym c.index.ensures) in
    p.is (view_entry x) ∙ ap (λ (y : Entry). y.means) e

pub returns-in-None-clause-absent : goal.returns-in-None-clause-absent
returns-in-None-clause-absent c = λ _ other.
    let es = view_entries c.args.self.now.entries.items in
    absent c.args.name es other (sym (c.args.self.now.indexed c.args.name) ∙ sym c.in-None.ensures.value)
