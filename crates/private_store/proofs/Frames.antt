-- The youngest of blocks, and which block has a local name.
use Rattle.std.proofs.Common.{◌≡◌, ℕ, ◌+◌, ◌-◌, ◌<◌, ◌≤◌, Bool, true, false, nat_le, cond, List, [], ◌∷◌, length, get_or, take, drop, reverse, Some, None, sym, ap, ◌∙◌, ◌^◌, All, arith, length-drop}
use Rattle.std.specs.List.{find}
use Rattle.std.proofs.lemmas.Bool.Decides.{nat_tests}
use Rattle.std.proofs.lemmas.List.{take_more, drop_all, get_or-drop, reverse-append}
use Rattle.std.proofs.lemmas.List.Elements.{All-drop}
use Rattle.std.proofs.lemmas.Option.{slice_get-get_or}
use Rattle.private_store.specs.declared.frame.Block.{Block}
use Rattle.private_store.specs.Live.{Live, youngest, blocks_before, older, open_blocks, left_from, left, returned_from, returned}
use Rattle.private_store.specs.declared.frame.Call.{Call}

pub youngest_open : (blocks : List Block) (n : ℕ) → n < length blocks → youngest (drop n blocks) ≡ youngest blocks
youngest_open [] n lt = absurd (omega arith)
youngest_open (b ∷ blocks) n lt =
    let l = length-drop n (b ∷ blocks) in
    let k = length (drop n (b ∷ blocks)) - 1 in
    slice_get-get_or (drop n (b ∷ blocks)) k b (omega arith)
    ∙ ap Some (get_or-drop n (b ∷ blocks) k b ∙ ap (λ j. get_or (b ∷ blocks) j b) (let e : n + k ≡ length (b ∷ blocks) - 1 = omega arith in e))
    ∙ sym (slice_get-get_or (b ∷ blocks) (length (b ∷ blocks) - 1) b (omega arith))

pub none_open : (blocks : List Block) (n : ℕ) → length blocks ≤ n → youngest (drop n blocks) ≡ None
none_open blocks n le = ap youngest (drop_all n blocks le)

pub left_is : (s : Live) (n : ℕ) (b : Block) → n ≡ blocks_before (youngest s.calls) → n < length s.blocks → Some b ≡ youngest s.blocks
    → left s ≡ record s { objects = take b.objects s.objects; blocks = take (length s.blocks - 1) s.blocks }
left_is s n b e lt some =
    let last : youngest (open_blocks s) ≡ Some b = ap (λ k. youngest (drop k s.blocks)) (sym e) ∙ youngest_open s.blocks n lt ∙ sym some in
    ap (λ o. left_from o s) last

pub returned_is : (s : Live) (c : Call) → Some c ≡ youngest s.calls
    → returned s ≡ record s { objects = take c.objects s.objects; blocks = take c.blocks s.blocks; calls = older s.calls }
returned_is s c some = ap (λ o. returned_from o s) (sym some)

-- ---- looking back

abbrev pub Has : ℕ → Block → Bool
Has n b = nat_le b.from n

back : (n : ℕ) (blocks : List Block) (at : ℕ) (b : Block) → 0 < at → at ≤ length blocks → b ≡ get_or blocks (at - 1) b
    → find (Has n) (reverse (take at blocks)) ≡ cond (Has n b) (Some b) (find (Has n) (reverse (take (at - 1) blocks)))
back n blocks at b some within is =
    ap (λ m. find (Has n) (reverse (take m blocks))) (let e : at ≡ at - 1 + 1 = omega arith in e)
    ∙ ap (λ l. find (Has n) (reverse l)) (take_more blocks (at - 1) b (omega arith))
    ∙ ap (find (Has n)) (reverse-append (take (at - 1) blocks) (get_or blocks (at - 1) b ∷ []))
    ∙ ap (λ q. cond (Has n q) (Some q) (find (Has n) (reverse (take (at - 1) blocks)))) (sym is)

has : (a b : ℕ) → a ≤ b → nat_le a b ≡ true
has a b h = grind (arith, nat_tests)

lacks : (a b : ℕ) → b < a → nat_le a b ≡ false
lacks a b h = grind (arith, nat_tests)

pub found_back : (n : ℕ) (blocks : List Block) (at : ℕ) (b : Block) → 0 < at → at ≤ length blocks → b ≡ get_or blocks (at - 1) b → b.from ≤ n
    → find (Has n) (reverse (take at blocks)) ≡ Some b
found_back n blocks at b some within is h =
    back n blocks at b some within is ∙ ap (λ t. cond t (Some b) (find (Has n) (reverse (take (at - 1) blocks)))) (has b.from n h)

pub passed_back : (n : ℕ) (blocks : List Block) (at : ℕ) (b : Block) → 0 < at → at ≤ length blocks → b ≡ get_or blocks (at - 1) b → n < b.from
    → find (Has n) (reverse (take at blocks)) ≡ find (Has n) (reverse (take (at - 1) blocks))
passed_back n blocks at b some within is h =
    back n blocks at b some within is ∙ ap (λ t. cond t (Some b) (find (Has n) (reverse (take (at - 1) blocks)))) (lacks b.from n h)

pub firsts_open : (blocks : List Block) (n : ℕ) → All (λ b. b.first ≤ 2 ^ 63) blocks → All (λ b. b.first ≤ 2 ^ 63) (drop n blocks)
firsts_open blocks n h = All-drop (λ (b : Block). b.first ≤ 2 ^ 63) n blocks h

pub ruleset opening = (youngest_open, none_open)

pub ruleset looking_back = (found_back, passed_back)
