-- What runs show is the same where the test says so.
use Rattle.std.proofs.Common.{◌≡◌, ◌==◌, ◌&&◌, ℕ, List, true, false, refl, ap, sym, ◌∙◌, true≢false}
use Rattle.std.specs.Str.{bytes_eq}
use Rattle.std.proofs.lemmas.Bool.{and_parts, and_from, eqb-true, eq-eqb, false_from_ne_true}
use Rattle.std.proofs.lemmas.Slice.Eq.{bytes_eq-Decides}
use Rattle.outcomes.specs.Tally.{Shown, is_same}

abbrev made : ℕ → List ℕ → List ℕ → Shown
made status text line = record { status = status; text = text; line = line }

pub same-is : (a b : Shown) → is_same a b ≡ true → a ≡ b
same-is a b h =
    let p = and_parts (a.status == b.status) (bytes_eq a.text b.text && bytes_eq a.line b.line) h in
    let q = and_parts (bytes_eq a.text b.text) (bytes_eq a.line b.line) p.1 in
    let status : a.status ≡ b.status = eqb-true a.status b.status p.0 in
    let text : a.text ≡ b.text = (bytes_eq-Decides a.text b.text).0 q.0 in
    let line : a.line ≡ b.line = (bytes_eq-Decides a.line b.line).0 q.1 in
    ap (λ n. made n a.text a.line) status ∙ ap (λ l. made b.status l a.line) text ∙ ap (made b.status b.text) line

pub same-itself : (a : Shown) → is_same a a ≡ true
same-itself a =
    and_from (a.status == a.status) (bytes_eq a.text a.text && bytes_eq a.line a.line) (eq-eqb a.status a.status refl)
    (and_from (bytes_eq a.text a.text) (bytes_eq a.line a.line) ((bytes_eq-Decides a.text a.text).1 refl)
    ((bytes_eq-Decides a.line a.line).1 refl))

-- what differs from one thing differs from what is the same as that
pub differs-from : (a b c : Shown) → is_same a b ≡ true → is_same a c ≡ false → is_same c b ≡ false
differs-from a b c same differs =
    false_from_ne_true (is_same c b) (λ h.
    let e : a ≡ c = same-is a b same ∙ sym (same-is c b h) in
    true≢false (sym (same-itself a) ∙ ap (is_same a) e ∙ differs))
