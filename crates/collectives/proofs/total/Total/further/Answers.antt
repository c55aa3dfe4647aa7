use Rattle.std.proofs.lemmas.Int.{to_z-of_z}
use mir.Syntax.{w128}
use mir.Val.{SFits}
use Rattle.std.proofs.Common.{◌≡◌, ◌+◌, ◌<◌, ◌≤◌, ℤ, false, [], length, drop, map, Some, ap, ◌∙◌, subst, rules}
use Rattle.block_layout.specs.Pointers.{location}
use Rattle.block_layout.specs.declared.place.Loc.{Loc}
use Rattle.collectives.proofs.EachElement.{total_end}
use Rattle.collectives.proofs.EachElement.{total_next}
use Rattle.collectives.proofs.Members.{all-at}
use Rattle.collectives.specs.code.Elements.{HasPlace}
use Rattle.collectives.specs.code.Reductions.{reduction_in}
use Rattle.collectives.specs.layer.Left.{TotalLeft}
use Rattle.collectives.specs.layer.Left.{total_rest}
use Rattle.upc_library.specs.layer.Spots.{pointer_of}
use Rattle.upc_values.specs.Expansion.{Expansion}
use Rattle.upc_values.specs.Expansion.{does}
use Rattle.upc_values.specs.Expansions as said
use Rattle.upc_values.specs.declared.action.Action.TheVariants as act
use Rattle.upc_values.specs.declared.scalar.Scalar.TheVariants as scalar
use Rattle.collectives.proofs.total.Total.further.Goals as goal

pub invariant_of-self : goal.invariant_of-self
invariant_of-self c =
    let s = c.self.inside in
    let lt : s.at < length s.elements.items = search rules in
    record {
      integer = c.self.invariant.integer;
      place = c.self.invariant.place;
      room = all-at HasPlace s.elements.items s.at _ c.self.invariant.rooms lt c.index.ensures;
      rooms = c.self.invariant.rooms;
    }

pub returns-then-self-len : goal.returns-then-self-len
returns-then-self-len c = λ threads shapes me.
    let s = c.self.inside in
    let lt : s.at < length s.elements.items = search rules in
    subst (λ (l : TotalLeft). total_rest (record {
      op = reduction_in s.op;
      kind = s.kind;
      so_far = Some c.args.so_far;
      dst = pointer_of s.dst;
      element = pointer_of c.index.result.now;
      elements = map pointer_of (drop (s.at + 1) s.elements.items);
    }) ≡ said.total 0 [] 0 l.op l.kind c.args.so_far l.dst l.elements) c.self.view_is
    (total_next (reduction_in s.op) s.kind c.args.so_far (pointer_of s.dst) s.elements.items s.at _ lt c.index.ensures)

pub returns : goal.returns
returns c = λ threads shapes me.
    let s = c.self.inside in
    let le : length s.elements.items ≤ s.at = search rules in
    let put : Loc → ℤ → Expansion (Unit {0}) = λ l v. does (act.Write false l (scalar.Int v)) in
    let fits : SFits w128 c.value.result = search rules in
    simp to_z-of_z
    (subst (λ (l : TotalLeft). put c.location.result c.value.result ≡ said.total 0 [] 0 l.op l.kind c.args.so_far l.dst l.elements)
    c.self.view_is
    (ap (λ l. put l c.value.result) c.location.ensures ∙ ap (put (location (pointer_of s.dst))) c.value.ensures
    ∙ total_end (reduction_in s.op) s.kind c.args.so_far (pointer_of s.dst) s.elements.items s.at le))
