-- What a thread copies in calls 5 to 9 goes where the value of the call says.
use Rattle.std.proofs.Common.{◌≡◌, ℕ, ◌+◌, ◌*◌, ◌/◌, ◌%◌, ◌<◌, ◌≤◌, ◌==◌, List, [], map, refl, ap, ◌∙◌, arith}
use Rattle.std.proofs.lemmas.Bool.{cond_both}
use Rattle.std.proofs.lemmas.Nat.{mul-add-lt, div-mul-add, mod-mul-add}
use Rattle.std.specs.List.{range_with_len}
use Rattle.block_layout.specs.declared.place.SharedPtr.{SharedPtr}
use Rattle.block_layout.specs.declared.kind.Shape.{Shape}
use Rattle.upc_values.specs.Lists.{Each}
use Rattle.upc_values.specs.Calls.{Way, Broadcast, Scatter, Gather, Gather_all, Exchange}
use Rattle.upc_values.specs.Expansions.{Part, goes, parts}
use Rattle.upc_values.specs.Collective.{source_byte}

each-range : {X : Type 0} (P : X → Type 0) (f : ℕ → X) (a n m : ℕ) → a + n ≤ m → ((i : ℕ) → i < m → P (f i)) → Each P (map f (range_with_len a n))
each-range P f a ℕ.zero m h k = tt
each-range P f a (ℕ.suc n) m h k = (k a (omega arith), each-range P f (a + 1) n m (omega arith) k)

-- on so many threads, with these shapes, by thread `me`, in a call with this destination and source
module _ (threads : ℕ) (shapes : List Shape) (me : ℕ) (dst src : SharedPtr) (n : ℕ) where
  -- a part of a call: n bytes of the destination, and the n bytes of the source that go to them
  pub record GoesRight (w : Way) (p : Part) : Type 0 where
    pub first : ℕ
    pub source : ℕ
    pub is : p ≡ goes threads shapes me w dst src n source first
    pub follows : (r : ℕ) → r < n → source_byte w threads n (first + r) ≡ source + r

  goes-right : (w : Way) (y x : ℕ) → ((r : ℕ) → r < n → source_byte w threads n (x + r) ≡ y + r) → GoesRight w (goes threads shapes me w dst src n y x)
  goes-right w y x h = record { first = x; source = y; is = refl; follows = h }

  broadcast-byte : (r : ℕ) → r < n → (me * n + r) % n ≡ 0 + r
  broadcast-byte r h = mod-mul-add me n r h ∙ let e : r ≡ 0 + r = omega arith in e

  -- byte r of part i of the thread's block
  part-byte : (i r : ℕ) → me * (n * threads) + i * n + r ≡ me * (n * threads) + (i * n + r)
  part-byte i r = omega arith

  gather_all-byte : (i r : ℕ) → i < threads → r < n → (me * (n * threads) + i * n + r) % (n * threads) ≡ i * n + r
  gather_all-byte i r h k =
      ap (λ z. z % (n * threads)) (part-byte i r) ∙ mod-mul-add me (n * threads) (i * n + r) (mul-add-lt i n r threads h k)

  block-byte : (i r : ℕ) → i < threads → r < n → (me * (n * threads) + i * n + r) / (n * threads) ≡ me
  block-byte i r h k =
      ap (λ z. z / (n * threads)) (part-byte i r) ∙ div-mul-add me (n * threads) (i * n + r) (mul-add-lt i n r threads h k)

  exchange-byte : (j r : ℕ) → j < threads → r < n → source_byte Exchange threads n (me * (n * threads) + j * n + r) ≡ j * (n * threads) + me * n + r
  exchange-byte j r h k =
      let x = me * (n * threads) + j * n + r in
      let in_block : x % (n * threads) ≡ j * n + r = gather_all-byte j r h k in
      ap (λ t. x % (n * threads) / n * (n * threads) + t * n + x % (n * threads) % n) (block-byte j r h k)
      ∙ ap (λ y. y / n * (n * threads) + me * n + y % n) in_block
      ∙ ap (λ q. q * (n * threads) + me * n + (j * n + r) % n) (div-mul-add j n r k)
      ∙ ap (λ q. j * (n * threads) + me * n + q) (mod-mul-add j n r k)

  pub parts-right : (w : Way) → Each (GoesRight w) (parts threads shapes me w dst src n)
  parts-right Broadcast = (goes-right Broadcast 0 (me * n) broadcast-byte, tt)
  parts-right Scatter = (goes-right Scatter (me * n) (me * n) (λ r h. refl), tt)
  parts-right Gather =
      cond_both (dst.thread == me) (map (λ i. goes threads shapes me Gather dst src n (i * n) (i * n)) (range_with_len 0 threads)) []
      (Each (GoesRight Gather))
      (λ e.
      each-range (GoesRight Gather) (λ i. goes threads shapes me Gather dst src n (i * n) (i * n)) 0 threads threads (omega arith)
      (λ i h. goes-right Gather (i * n) (i * n) (λ r k. refl)))
      (λ e. tt)
  parts-right Gather_all =
      each-range (GoesRight Gather_all) (λ i. goes threads shapes me Gather_all dst src n (i * n) (me * (n * threads) + i * n)) 0 threads
      threads (omega arith)
      (λ i h. goes-right Gather_all (i * n) (me * (n * threads) + i * n) (λ r k. gather_all-byte i r h k))
  parts-right Exchange =
      each-range (GoesRight Exchange)
      (λ j. goes threads shapes me Exchange dst src n (j * (n * threads) + me * n) (me * (n * threads) + j * n)) 0 threads threads
      (omega arith)
      (λ j h. goes-right Exchange (j * (n * threads) + me * n) (me * (n * threads) + j * n) (λ r k. exchange-byte j r h k))
