-- A source has one reading.
use Rattle.std.proofs.Common.{◌≡◌, ℕ, List, [], ◌∷◌, length, map, Option, Some, None, refl, sym, ◌∙◌, ap, subst}
use Rattle.upc_text.specs.declared.place.Refusal.{Refusal}
use Rattle.upc_lexer.specs.declared.token.Token.{Token}
use Rattle.upc_lexer.proofs.OneList.{tokens_once, tokens_or_refusal}
use Rattle.upc_macros.specs.Expansion.{given, expansion, first_refusal}
use Rattle.upc_tree.specs.Unit.{External, IsTree}
use Rattle.upc_parser.proofs.Laws as laws
use Rattle.typing_rules.specs.Faults.{Fault}
use Rattle.upc_checker.specs.Limits.{Passed}
use Rattle.upc_checker.specs.Outcomes as o
use Rattle.upc_checker.specs.Outcomes.{outcome}
use Rattle.typed_tree.specs.Programs.{Checked}
use Rattle.upc_top.specs.Sources.{IsExpanded, IsRead, IsAccepted, no_syntax, too_high, IsRefused, no_tokens, no_expansion, no_tree, no_typing}

-- given tokens are equal where they are given alike
given_same : (ts us : List Token) → map given ts ≡ map given us → ts ≡ us
given_same [] [] h = refl
given_same [] (u ∷ us) h = absurd cc
given_same (t ∷ ts) [] h = absurd cc
given_same (t ∷ ts) (u ∷ us) h =
    let a : t ≡ u = cc in
    let b : map given ts ≡ map given us = cc in
    let c = given_same ts us b in
    cc

pub same_expanded : (bytes : List ℕ) (m n : List (List ℕ)) (ts us : List Token) → IsExpanded bytes m ts → IsExpanded bytes n us → (m ≡ n) × (ts ≡ us)
same_expanded bytes m n ts us a b =
    let c = tokens_once bytes a.tokens b.tokens m n a.cut b.cut in
    let e : expansion bytes a.tokens (length m) ≡ expansion bytes b.tokens (length n) = rw (c.0, c.1) refl in
    (c.1, given_same ts us (sym a.expansion.items_are ∙ e ∙ b.expansion.items_are))

pub same_tree : (bytes : List ℕ) (m n : List (List ℕ)) (u v : List External) → IsRead bytes m u → IsRead bytes n v → (m ≡ n) × (u ≡ v)
same_tree bytes m n u v a b =
    let c = same_expanded bytes m n a.expanded b.expanded a.expands b.expands in
    (c.0, laws.one_tree u v a.grammar.proper b.grammar.proper (a.grammar.spelled ∙ c.1 ∙ sym b.grammar.spelled))

pub same_checked : (threads : ℕ) (bytes : List ℕ) (c d : Checked) → IsAccepted threads bytes c → IsAccepted threads bytes d → c ≡ d
same_checked threads bytes c d a b =
    let s = same_tree bytes a.names b.names a.tree b.tree a.typed.read b.typed.read in
    let e : outcome a.names threads a.tree ≡ outcome b.names threads b.tree = rw (s.0, s.1) refl in
    let f : o.Accepted c ≡ o.Accepted d = sym a.typed.typed ∙ e ∙ b.typed.typed in
    cc

accepted_is : (f : Option Fault) (l : Option Passed) (x c : Checked) → o.outcome_by f l x ≡ o.Accepted c → x ≡ c
accepted_is (Some f) l x c h = absurd cc
accepted_is None (Some l) x c h = absurd cc
accepted_is None None x c h = cc

-- an accepted program is for so many threads
pub accepted_threads : (threads : ℕ) (bytes : List ℕ) (c : Checked) → IsAccepted threads bytes c → c.threads ≡ threads
accepted_threads threads bytes c a =
    sym (ap (λ (x : Checked). x.threads) (accepted_is _ _ _ c a.typed.typed))

-- a source is not both accepted and refused
pub never_both : (threads : ℕ) (bytes : List ℕ) (d : Checked) (r : Refusal) → IsAccepted threads bytes d → IsRefused threads bytes r → ⊥
never_both threads bytes d r a (no_tokens h) = tokens_or_refusal bytes a.typed.read.expands.tokens a.names r a.typed.read.expands.cut h
never_both threads bytes d r a (no_expansion tokens names cut stop) =
    let x = a.typed.read.expands in
    let c = tokens_once bytes x.tokens tokens a.names names x.cut cut in
    let e : expansion bytes x.tokens (length a.names) ≡ expansion bytes tokens (length names) = rw (c.0, c.1) refl in
    let f = sym x.expansion.passes ∙ ap (first_refusal 0) e ∙ stop in
    absurd cc
never_both threads bytes d r a (no_tree names expanded h (no_syntax code none) place) =
    let c = same_expanded bytes a.names names a.typed.read.expanded expanded a.typed.read.expands h in
    none a.tree a.typed.read.grammar.proper (a.typed.read.grammar.spelled ∙ c.1)
never_both threads bytes d r a (no_tree names expanded h (too_high code most none) place) =
    let c = same_expanded bytes a.names names a.typed.read.expanded expanded a.typed.read.expands h in
    none a.tree (subst (λ ts. IsTree ts a.tree) c.1 a.typed.read.grammar)
never_both threads bytes d r a (no_typing names tree read refused) =
    let c = same_tree bytes a.names names a.tree tree a.typed.read read in
    let e : outcome a.names threads a.tree ≡ outcome names threads tree = rw (c.0, c.1) refl in
    let f = sym a.typed.typed ∙ e ∙ refused in
    absurd cc
