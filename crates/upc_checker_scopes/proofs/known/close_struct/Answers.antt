use Rattle.std.proofs.Common.{◌≡◌, ◌<◌, map, reverse, length, sym, ap, ◌∙◌, subst, arith}
use Rattle.std.proofs.lemmas.List.{length-map}
use Rattle.std.proofs.lemmas.Result.{err_from_is_err_and}
use Rattle.upc_types.specs.View.{view_completed, view_member}
use Rattle.upc_types.specs.Types.{Structs}
use Rattle.upc_types.specs.Layout.{known_in, members_within}
use Rattle.upc_types.specs.ViewStructs.{view_structs}
use Rattle.typing_rules.specs.Attributes.{Facts}
use Rattle.typed_tree.specs.Scopes.{State, with_members}
use Rattle.upc_checker_scopes.specs.Walk.{facts_in}
use Rattle.upc_checker_scopes.specs.layer.Ends.{Comes}
use Rattle.upc_checker_scopes.specs.Known.{close_struct, members_size, size_or_more}
use Rattle.upc_checker_scopes.specs.layer.Views.{view_functions, view_setting, state_with}
use Rattle.upc_checker_scopes.proofs.Closing.{new_struct, none_some, same_rule, closes, stops_closing}
use Rattle.upc_checker_scopes.proofs.known.close_struct.Goals as goal

pub complete-requires-clause-incomplete : goal.complete-requires-clause-incomplete
complete-requires-clause-incomplete c =
    let cs = reverse (map view_completed c.args.known.now.structs.completed.items) in
    let φ : Facts = record { structs = view_structs c.args.known.now.structs; threads = 0 } in
    let p = new_struct φ c.is_complete-again.result c.len.result c.from-bytes.result (sym (c.struct_members.ensures φ) ∙ c.in_ok-judged.ensures.ok) in
    none_some (known_in cs c.args.number) (sym c.is_complete-again.ensures ∙ p.new)

pub complete-requires-clause-fine : goal.complete-requires-clause-fine
complete-requires-clause-fine c =
    let φ : Facts = record { structs = view_structs c.args.known.now.structs; threads = 0 } in
    let p = new_struct φ c.is_complete-again.result c.len.result c.from-bytes.result (sym (c.struct_members.ensures φ) ∙ c.in_ok-judged.ensures.ok) in
    let some : 0 < length c.as_slice.result.now = omega (arith, p.some, c.len.ensures, c.as_slice.ensures.len) in
    c.in-Some.ensures.fine some

pub unreachable-requires : goal.unreachable-requires
unreachable-requires c =
    let φ : Facts = record { structs = view_structs c.args.known.now.structs; threads = 0 } in
    let p = new_struct φ c.is_complete-again.result c.len.result c.from-bytes.result (sym (c.struct_members.ensures φ) ∙ c.in_ok-judged.ensures.ok) in
    let size : c.size_or_more.result ≡ 16777217 = c.size_or_more.ensures ∙ ap size_or_more c.in-None.is in
    absurd (omega (arith, p.few, c.from-bytes.ensures))

pub returns-in_err-judged : goal.returns-in_err-judged
returns-in_err-judged c = λ tags.
    let s = state_with tags c.args.known.now in
    let ξ = view_setting c.args.setting in
    let ms = map view_member c.args.members.items in
    let cs = reverse (map view_completed c.args.known.now.structs.completed.items) in
    let count : c.len.result ≡ length ms = omega (arith, c.len.ensures, c.args.members.ok, length-map c.args.members.items view_member) in
    let bytes : c.from-bytes.result ≡ members_size s ms =
    c.from-bytes.ensures ∙ c.size_or_more.ensures ∙ ap size_or_more (c.members_layout-layout.ensures.value ∙ ap (λ xs. members_within cs (map view_member xs)) c.as_slice.ensures.value) in
    let rule = same_rule (facts_in ξ s) s c.args.number ms c.is_complete-again.result c.len.result c.from-bytes.result c.struct_members.result (c.struct_members.ensures (facts_in ξ s)) c.is_complete-again.ensures count bytes in
    let p = err_from_is_err_and c.from_residual.result c.from_residual.ensures.1 in
    rw (p.1, p.2) (stops_closing ξ c.args.at c.args.number ms s s c.struct_members.result c.in_err-judged.field-0.0 rule c.in_err-judged.ensures.err)

pub returns : goal.returns
returns c = λ tags.
    let s = state_with tags c.args.known.now in
    let ξ = view_setting c.args.setting in
    let ms = map view_member c.args.members.items in
    let cs = reverse (map view_completed c.args.known.now.structs.completed.items) in
    let count : c.len.result ≡ length ms = omega (arith, c.len.ensures, c.args.members.ok, length-map c.args.members.items view_member) in
    let bytes : c.from-bytes.result ≡ members_size s ms =
    c.from-bytes.ensures ∙ c.size_or_more.ensures ∙ ap size_or_more (c.members_layout-layout.ensures.value ∙ ap (λ xs. members_within cs (map view_member xs)) c.as_slice.ensures.value) in
    let rule = same_rule (facts_in ξ s) s c.args.number ms c.is_complete-again.result c.len.result c.from-bytes.result c.struct_members.result (c.struct_members.ensures (facts_in ξ s)) c.is_complete-again.ensures count bytes in
    let after : with_members c.args.number ms s ≡ state_with tags (record { structs = c.complete.new.self; functions = c.args.known.now.functions; come = c.args.known.now.come; above = c.args.known.now.above }) =
    ap (λ (x : Structs). let t : State = record { tags = tags; structs = x; functions = view_functions c.args.known.now.functions; come = c.args.known.now.come; above = c.args.known.now.above } in t) (sym c.in_ok-complete-in-Some.ensures.ok) in
    subst (λ (t : State). Comes (close_struct ξ c.args.at c.args.number ms s) t (tt {0})) after (closes ξ c.args.at c.args.number ms s c.struct_members.result rule c.in_ok-judged.ensures.ok)
