use Rattle.std.proofs.Common.{◌≡◌, ◌<◌, ◌*◌, length, None, true, sym, ◌∙◌, ap, subst}
use Rattle.std.specs.Option.{is_some}
use Rattle.upc_values.specs.Expansion.{after_reply}
use Rattle.upc_library.specs.code.Areas.{area_in}
use Rattle.upc_library.specs.code.Cursors.{coming}
use Rattle.upc_library.specs.code.Kept.{source_in}
use Rattle.upc_library.specs.layer.Walks.{Left, rest, rest_of, replies_of, replies_left}
use Rattle.upc_library.proofs.Cursors.{coming_is}
use Rattle.upc_library.proofs.Walking.{behind_value, behind_byte, falls_value, falls_byte, walk_behind}
use Rattle.upc_library.proofs.copying.Copying.take.Goals as goal

pub returns-in-Some : goal.returns-in-Some
returns-in-Some c =
    let s = c.self.inside in
    let some : is_some s.cell ≡ true = sym c.is_some.ensures ∙ c.if-is_some.true in
    let next = coming c.next-self-inside.result c.next-self-inside.new.self in
    let e : next ≡ s.others = coming_is s.others c.next-self-inside.result c.next-self-inside.new.self c.next-self-inside.ensures in
    record {
      falls = λ _. subst (λ (l : Left). 2 * length next < replies_left l) c.self.view_is
          (falls_value s.cell s.others next s.value c.in-Some.field-0 some e c.in-Some.is);
      rest = subst (λ (l : Left). rest_of None (area_in s.dst) (source_in s.src) next ≡ after_reply (rest l) c.args.reply.now)
          c.self.view_is
          (behind_value s.cell s.others next (area_in s.dst) (source_in s.src) s.value c.in-Some.field-0 c.args.reply.now
          some e c.in-Some.is c.self.invariant.into.somewhere c.requires);
    }

pub returns-in-Byte : goal.returns-in-Byte
returns-in-Byte c =
    let s = c.self.inside in
    let some : is_some s.cell ≡ true = sym c.is_some.ensures ∙ c.if-is_some.true in
    let next = coming c.next-self-inside-in-Byte.result c.next-self-inside-in-Byte.new.self in
    let e : next ≡ s.others = coming_is s.others c.next-self-inside-in-Byte.result c.next-self-inside-in-Byte.new.self c.next-self-inside-in-Byte.ensures in
    record {
      falls = λ _. subst (λ (l : Left). replies_of s.value next < replies_left l) c.self.view_is
          (falls_byte s.cell s.others next s.value some e c.in-None.is);
      rest = subst (λ (l : Left). rest_of s.value (area_in s.dst) (source_in s.src) next ≡ after_reply (rest l) c.args.reply.now)
          c.self.view_is
          (behind_byte s.cell s.others next (area_in s.dst) (source_in s.src) s.value c.in-Byte.field-0 c.args.reply.now
          some e c.in-None.is (ap source_in c.in-Byte.is) c.self.invariant.into.somewhere c.requires);
    }

pub invariant_of-self : goal.invariant_of-self
invariant_of-self c =
    let s = c.self.inside in
    let some : is_some s.cell ≡ true = sym c.is_some.ensures ∙ c.if-is_some.true in
    walk_behind s.bytes s.dst s.src s.cell s.others (coming c.next-self-inside.result c.next-self-inside.new.self) some
    (coming_is s.others c.next-self-inside.result c.next-self-inside.new.self c.next-self-inside.ensures) c.self.invariant

pub invariant_of-self-in-Byte : goal.invariant_of-self-in-Byte
invariant_of-self-in-Byte c =
    let s = c.self.inside in
    let some : is_some s.cell ≡ true = sym c.is_some.ensures ∙ c.if-is_some.true in
    walk_behind s.bytes s.dst s.src s.cell s.others
    (coming c.next-self-inside-in-Byte.result c.next-self-inside-in-Byte.new.self) some
    (coming_is s.others c.next-self-inside-in-Byte.result c.next-self-inside-in-Byte.new.self c.next-self-inside-in-Byte.ensures)
    c.self.invariant
