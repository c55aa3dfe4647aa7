use Rattle.std.proofs.Common.{◌≡◌, ◌∙◌, true, false, [], map, string_bytes, Global, refl, sym, ap, subst, inl, inr}
use Rattle.clap.specs.Words.{app_of, matches_of, fault_of, is_simple_and_free}
use Rattle.clap.specs.Simple.{is_simple}
use Rattle.clap.specs.Kinds.{HasKind}
use Rattle.clap.specs.contracts.error.kind.ErrorKind.{the_type}
use Rattle.clap.specs.declared.error.kind.ErrorKind.TheVariants as kind
use Rattle.std.proofs.lemmas.Bool.{false≢true}
use denote.Enum.Bare.{sameb}
use Rattle.upc_outcomes_words.specs.Line.{outcomes_app}
use Rattle.upc_outcomes_words.proofs.words.parsed.Goals as goal

free : is_simple_and_free outcomes_app ≡ true
free = refl

simple : is_simple outcomes_app ≡ true
simple = refl

pub returns-in-Ok-clause-taken : goal.returns-in-Ok-clause-taken
returns-in-Ok-clause-taken c =
    let ws = map (string_bytes {Z = Global}) c.args.words.now in
    let ready : is_simple_and_free (app_of c.in_ok-line.line) ≡ true = ap is_simple_and_free c.in_ok-line.ensures ∙ free in
    subst (λ a. fault_of a ws ≡ []) c.in_ok-line.ensures (c.in-Ok.ensures.kinds ready)

pub returns-in-Ok-clause-found : goal.returns-in-Ok-clause-found
returns-in-Ok-clause-found c =
    let ws = map (string_bytes {Z = Global}) c.args.words.now in
    let ready : is_simple (app_of c.in_ok-line.line) ≡ true = ap is_simple c.in_ok-line.ensures ∙ simple in
    (c.in-Ok.ensures.matches ready).0 ∙ ap (λ a. matches_of a ws) c.in_ok-line.ensures

pub returns-else-eq-clause-usage : goal.returns-else-eq-clause-usage
returns-else-eq-clause-usage c = λ _ taken.
    let ws = map (string_bytes {Z = Global}) c.args.words.now in
    let ready : is_simple_and_free (app_of c.in_ok-line.line) ≡ true = ap is_simple_and_free c.in_ok-line.ensures ∙ free in
    let error = c.in-Err.error in
    let none : fault_of (app_of c.in_ok-line.line) ws ≡ [] = ap (λ a. fault_of a ws) c.in_ok-line.ensures ∙ taken in
    let has : HasKind [] error = subst (λ k. HasKind k error) none (c.in-Err.ensures.kinds ready) in
    elim has [
      | inl memory ↦
          let bad : false ≡ true =
          sym c.if-eq.false ∙ c.eq.ensures ∙ ap (λ k. sameb the_type k kind.OutOfMemory) (c.kind.ensures ∙ memory) in
          false≢true bad
      | inr other ↦ other
    ]
