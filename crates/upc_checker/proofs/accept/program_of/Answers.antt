use Rattle.std.proofs.Common.{◌≡◌, ℕ, ◌≤◌, true, List, map, sym, ap, ◌∙◌, subst}
use Rattle.upc_values.specs.Lists.{Each}
use Rattle.upc_types.specs.ViewStructs.{view_structs}
use Rattle.typing_rules.specs.Rules.{has_size}
use Rattle.typed_tree.specs.declared.tree.Object.{Object}
use Rattle.typed_tree.specs.declared.tree.Function.{Function}
use Rattle.typed_tree.specs.Objects.{bytes_in, private_in, shared_in}
use Rattle.typed_tree.specs.Programs.{Checked, checked_of, count_of, private_bytes, shared_bytes, start_of}
use Rattle.typed_tree.specs.ViewStatements.{view_function, view_object}
use Rattle.upc_checker.specs.code.ViewUnits.{view_checked}
use Rattle.typed_tree.specs.layer.TypedNodes.{MeetsRules}
use Rattle.upc_checker.proofs.TypedSources.{accepted_meets}
use Rattle.upc_checker.proofs.Begun.{have_room, parts_same}
use Rattle.upc_checker.proofs.accept.program_of.Goals as goal

pub begin-requires-clause-layouts : goal.begin-requires-clause-layouts
begin-requires-clause-layouts c =
    let r = have_room (view_checked c.args.source) c.requires.accepted in
    subst (λ (xs : List Object). Each (λ x. has_size (view_structs c.args.source.structs) x.ctype ≡ true) (map view_object xs)) (sym c.as_slice.ensures.value) r.layouts

pub begin-requires-clause-bytes : goal.begin-requires-clause-bytes
begin-requires-clause-bytes c =
    let r = have_room (view_checked c.args.source) c.requires.accepted in
    subst (λ (xs : List Object). bytes_in (view_structs c.args.source.structs) (shared_in (map view_object xs)) ≤ 16777216) (sym c.as_slice.ensures.value) r.shareds

pub make-requires-clause-private_bytes : goal.make-requires-clause-private_bytes
make-requires-clause-private_bytes c =
    let x = c.args.source in
    let r = have_room (view_checked x) c.requires.accepted in
    let b = c.in_ok-beginning.beginning in
    let same = parts_same x.threads (view_structs b.structs) (view_structs x.structs) (map view_object x.objects.items) (map view_function x.functions.items) c.in_ok-beginning.ensures.same in
    subst (λ (y : Checked). private_bytes y ≤ 1048576) (sym same) r.privates

pub make-requires-clause-shared_bytes : goal.make-requires-clause-shared_bytes
make-requires-clause-shared_bytes c =
    let x = c.args.source in
    let r = have_room (view_checked x) c.requires.accepted in
    let b = c.in_ok-beginning.beginning in
    let same = parts_same x.threads (view_structs b.structs) (view_structs x.structs) (map view_object x.objects.items) (map view_function x.functions.items) c.in_ok-beginning.ensures.same in
    subst (λ (y : Checked). shared_bytes y ≤ 16777216) (sym same) r.shareds

pub make-requires-clause-count : goal.make-requires-clause-count
make-requires-clause-count c =
    let x = c.args.source in
    let r = have_room (view_checked x) c.requires.accepted in
    let b = c.in_ok-beginning.beginning in
    let same = parts_same x.threads (view_structs b.structs) (view_structs x.structs) (map view_object x.objects.items) (map view_function x.functions.items) c.in_ok-beginning.ensures.same in
    subst (λ (y : Checked). count_of y ≤ 65535) (sym same) r.count

pub make-requires-clause-begins : goal.make-requires-clause-begins
make-requires-clause-begins c =
    let x = c.args.source in
    let r = have_room (view_checked x) c.requires.accepted in
    let b = c.in_ok-beginning.beginning in
    let same = parts_same x.threads (view_structs b.structs) (view_structs x.structs) (map view_object x.objects.items) (map view_function x.functions.items) c.in_ok-beginning.ensures.same in
    let of = λ (os : List Object) (fs : List Function). checked_of x.threads (view_structs x.structs) (map view_object os) (map view_function fs) in
    c.in_ok-beginning.ensures.value ∙ ap (λ (os : List Object). start_of (of os c.as_slice-2.result.now)) c.as_slice.ensures.value
    ∙ ap (λ (fs : List Function). start_of (of x.objects.items fs)) c.as_slice-2.ensures.value ∙ ap start_of (sym same)

pub make-requires-clause-private : goal.make-requires-clause-private
make-requires-clause-private c =
    let x = c.args.source in
    let r = have_room (view_checked x) c.requires.accepted in
    let b = c.in_ok-beginning.beginning in
    let same = parts_same x.threads (view_structs b.structs) (view_structs x.structs) (map view_object x.objects.items) (map view_function x.functions.items) c.in_ok-beginning.ensures.same in
    let e = c.in_ok-beginning.ensures.private_bytes ∙ ap (λ (os : List Object). bytes_in (view_structs x.structs) (private_in (map view_object os))) c.as_slice.ensures.value in
    record { values = c.in_ok-beginning.ensures.private; bytes = subst (λ (n : ℕ). n ≤ 1048576) (sym e) r.privates }

pub make-requires-clause-nodes : goal.make-requires-clause-nodes
make-requires-clause-nodes c =
    let x = c.args.source in
    let a = c.requires.accepted in
    let b = c.in_ok-beginning.beginning in
    let same = parts_same x.threads (view_structs b.structs) (view_structs x.structs) (map view_object x.objects.items) (map view_function x.functions.items) c.in_ok-beginning.ensures.same in
    subst MeetsRules (sym same) (accepted_meets a.names x.threads a.unit (view_checked x) a.numbers a.accepted)

pub returns : goal.returns
returns c =
    let x = c.args.source in
    let b = c.in_ok-beginning.beginning in
    let same = parts_same x.threads (view_structs b.structs) (view_structs x.structs) (map view_object x.objects.items) (map view_function x.functions.items) c.in_ok-beginning.ensures.same in
    rw (c.make.ensures.threads, c.make.ensures.objects, c.make.ensures.functions, c.make.ensures.beginning) same
