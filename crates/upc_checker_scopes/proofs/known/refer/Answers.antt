use Rattle.std.proofs.Common.{◌≡◌, ℕ, List, ◌∷◌, Some, None, sym, ap, ◌∙◌}
use Rattle.upc_types.specs.Types.{Structs}
use Rattle.upc_types.specs.ViewStructs.{view_structs}
use Rattle.typed_tree.specs.Scopes.{State, Tag, level_of, with_tag}
use Rattle.typed_tree.specs.layer.ViewEnv.{view_env}
use Rattle.upc_checker_scopes.specs.Known.{tag_seen}
use Rattle.upc_checker_scopes.specs.layer.Views.{state_of}
use Rattle.upc_checker_scopes.specs.layer.ViewTags.{view_tags}
use Rattle.upc_checker_scopes.proofs.Closing.{refers, refers_anew}
use Rattle.upc_checker_scopes.proofs.known.refer.Goals as goal

pub returns-in-Some : goal.returns-in-Some
returns-in-Some c =
    let s = state_of c.args.tags.now c.args.known.now in
    let Γ = view_env c.args.env.now in
    let h : tag_seen c.args.alone Γ c.args.name s ≡ Some c.in-Some.number = sym (c.tag_seen.ensures c.args.known.now) ∙ c.in-Some.is in
    refers c.args.alone Γ c.args.name s c.in-Some.number h

pub returns : goal.returns
returns c =
    let s = state_of c.args.tags.now c.args.known.now in
    let Γ = view_env c.args.env.now in
    let h : tag_seen c.args.alone Γ c.args.name s ≡ None = sym (c.tag_seen.ensures c.args.known.now) ∙ c.in_default.is in
    let tag = λ (level number : ℕ). let t : Tag = record { name = c.args.name; level = level; number = number } in t in
    let tags : view_tags c.note_tag.new.tags ≡ tag (level_of Γ) s.structs.declared ∷ s.tags =
    c.in_ok-note_tag.ensures.ok ∙ ap (λ n. tag n c.in_ok-number.number ∷ s.tags) c.level-level.ensures ∙ ap (λ n. tag (level_of Γ) n ∷ s.tags) c.in_ok-number.ensures.number in
    let make = λ (ts : List Tag) (x : Structs). let t : State = record { tags = ts; structs = x; functions = s.functions; come = s.come; above = s.above } in t in
    let after : with_tag c.args.name (level_of Γ) s ≡ make (view_tags c.note_tag.new.tags) (view_structs c.declare.new.self) =
    ap (make (tag (level_of Γ) s.structs.declared ∷ s.tags)) (sym c.in_ok-number.ensures.ok) ∙ ap (λ ts. make ts (view_structs c.declare.new.self)) (sym tags) in
    let done = refers_anew c.args.alone Γ c.args.name s h in
    record { fine = done.fine; state = done.state ∙ after; value = done.value ∙ sym c.in_ok-number.ensures.number }
