-- Elements that are read one by one.
use Rattle.std.proofs.Common.{◌≡◌, ℕ, ◌+◌, ◌<◌, ◌≤◌, ℤ, List, [], ◌∷◌, ◌++◌, length, drop, map, Some, None, refl, sym, ap, ◌∙◌, append-nil, arith}
use Rattle.std.proofs.lemmas.List.{drop_all}
use Rattle.std.specs.Prelude.{Result, Ok, Err, Option, slice_index_or}
use Rattle.block_layout.specs.declared.place.SharedPtr.{SharedPtr}
use Rattle.block_layout.specs.declared.kind.Kind.{Kind}
use Rattle.block_layout.specs.declared.kind.Kind.TheVariants as kind
use Rattle.upc_values.specs.declared.action.Reply.{Reply}
use Rattle.upc_values.specs.layer.Parts as parts
use Rattle.upc_values.specs.Expansion.{Expansion, Fails, nothing, bind, gathered, after_reply, value_in}
use Rattle.upc_values.specs.Expansions as said
use Rattle.upc_values.specs.Reductions.{Reduction}
use Rattle.upc_library.specs.layer.Spots.{pointer_of}
use Rattle.collectives.specs.layer.Left.{joined, total_rest, prefixes_rest, prefixes_put, PrefixesLeft}
use Rattle.upc_library.specs.declared.spot.Spot.{Spot}
use Rattle.collectives.proofs.Following.{number_comes}
use Rattle.collectives.proofs.Members.{drop-at}

-- ---- permutations

-- What is left of a permutation whose numbers are read.
abbrev pub numbered : (List ℤ → Expansion (Unit {0})) → List ℤ → List SharedPtr → Expansion (Unit {0})
numbered go came ps = bind (gathered (said.number_at 0 [] 0 kind.Int) ps) (λ vs. go (came ++ vs))

-- None has come.
pub numbers_begin : (go : List ℤ → Expansion (Unit {0})) (came : List ℤ) (xs : List Spot) (x : Spot) → came ≡ []
    → 0 < length xs → x ≡ slice_index_or xs 0 x
    → numbered go came (pointer_of x ∷ map pointer_of (drop 1 xs))
    ≡ bind (gathered (said.number_at 0 [] 0 kind.Int) (map pointer_of xs)) go
numbers_begin go came xs x none some is =
    ap (λ (cs : List ℤ). numbered go cs (pointer_of x ∷ map pointer_of (drop 1 xs))) none
    ∙ ap (λ (ys : List Spot). numbered go [] (map pointer_of ys)) (sym (drop-at xs 0 x some is))

module _ (go : List ℤ → Expansion (Unit {0})) (came after : List ℤ) (e : SharedPtr) (xs : List Spot) (i : ℕ) (r : Reply)
    (pushed : after ≡ came ++ parts.number_of 0 [] 0 (value_in r) ∷ []) where
  one_more : numbered go after (map pointer_of (drop i xs))
      ≡ after_reply (numbered go came (e ∷ map pointer_of (drop i xs))) r
  one_more =
      let y = parts.number_of 0 [] 0 (value_in r) in
      let x = gathered (said.number_at 0 [] 0 kind.Int) (map pointer_of (drop i xs)) in
      ap (λ (cs : List ℤ). bind x (λ vs. go (cs ++ vs))) pushed ∙ sym (number_comes x y came go)

  pub number_next : (x : Spot) → i < length xs → x ≡ slice_index_or xs i x
      → numbered go after (pointer_of x ∷ map pointer_of (drop (i + 1) xs))
      ≡ after_reply (numbered go came (e ∷ map pointer_of (drop i xs))) r
  number_next x lt is =
      ap (λ (ys : List Spot). numbered go after (map pointer_of ys)) (sym (drop-at xs i x lt is)) ∙ one_more

  pub numbers_end : length xs ≤ i → go after ≡ after_reply (numbered go came (e ∷ map pointer_of (drop i xs))) r
  numbers_end le =
      ap go (sym (append-nil after))
      ∙ ap (λ (ys : List Spot). numbered go after (map pointer_of ys)) (sym (drop_all i xs le)) ∙ one_more

-- ---- reductions

module _ (op : Reduction) (k : Kind) where
  abbrev total_from : Option ℤ → SharedPtr → SharedPtr → List SharedPtr → Expansion (Unit {0})
  total_from a dst p ps = total_rest (record { op = op; kind = k; so_far = a; dst = dst; element = p; elements = ps })

  -- None is read, and there is none or one.
  pub total_none : (dst : SharedPtr) (xs : List Spot) → length xs ≡ 0
      → nothing ≡ said.reduce 0 [] 0 (Some op) k dst (map pointer_of xs)
  total_none dst [] e = refl
  total_none dst (x ∷ xs) e = absurd (omega arith)

  pub total_begin : (dst : SharedPtr) (xs : List Spot) (x : Spot) → 0 < length xs → x ≡ slice_index_or xs 0 x
      → total_from None dst (pointer_of x) (map pointer_of (drop 1 xs))
      ≡ said.reduce 0 [] 0 (Some op) k dst (map pointer_of xs)
  total_begin dst xs x some is =
      ap (λ (ys : List Spot). said.reduce 0 [] 0 (Some op) k dst (map pointer_of ys)) (sym (drop-at xs 0 x some is))

  pub total_reads : (a : Option ℤ) (b : ℤ) (dst p : SharedPtr) (ps : List SharedPtr) (r : Reply)
      → Ok b ≡ joined op k a (parts.number_of 0 [] 0 (value_in r))
      → said.total 0 [] 0 op k b dst ps ≡ after_reply (total_from a dst p ps) r
  total_reads a b dst p ps r e =
      ap (λ (s : Result ℤ ℕ). bind (said.outcome 0 [] 0 s) (λ b. said.total 0 [] 0 op k b dst ps)) e

  pub total_fails : (a : Option ℤ) (code : ℕ) (dst p : SharedPtr) (ps : List SharedPtr) (r : Reply)
      → Err code ≡ joined op k a (parts.number_of 0 [] 0 (value_in r))
      → after_reply (total_from a dst p ps) r ≡ Fails code
  total_fails a code dst p ps r e =
      sym (ap (λ (s : Result ℤ ℕ). bind (said.outcome 0 [] 0 s) (λ b. said.total 0 [] 0 op k b dst ps)) e)

  pub total_next : (b : ℤ) (dst : SharedPtr) (xs : List Spot) (i : ℕ) (x : Spot) → i < length xs
      → x ≡ slice_index_or xs i x
      → total_from (Some b) dst (pointer_of x) (map pointer_of (drop (i + 1) xs))
      ≡ said.total 0 [] 0 op k b dst (map pointer_of (drop i xs))
  total_next b dst xs i x lt is =
      ap (λ (ys : List Spot). said.total 0 [] 0 op k b dst (map pointer_of ys)) (sym (drop-at xs i x lt is))

  pub total_end : (b : ℤ) (dst : SharedPtr) (xs : List Spot) (i : ℕ) → length xs ≤ i
      → said.number_put 0 [] 0 dst b ≡ said.total 0 [] 0 op k b dst (map pointer_of (drop i xs))
  total_end b dst xs i le = ap (λ (ys : List Spot). said.total 0 [] 0 op k b dst (map pointer_of ys)) (sym (drop_all i xs le))

  -- ---- prefix reductions

  abbrev pub prefix_left : Option ℤ → said.Part → List said.Part → PrefixesLeft
  prefix_left a x xs = record { op = op; kind = k; so_far = a; part = x; parts = xs }

  pub prefix_reads : (a : Option ℤ) (b : ℤ) (x : said.Part) (xs : List said.Part) (r : Reply)
      → Ok b ≡ joined op k a (parts.number_of 0 [] 0 (value_in r))
      → prefixes_put (prefix_left a x xs) b ≡ after_reply (prefixes_rest (prefix_left a x xs)) r
  prefix_reads a b x xs r e =
      ap (λ (s : Result ℤ ℕ). bind (said.outcome 0 [] 0 s) (λ b. prefixes_put (prefix_left a x xs) b)) e

  pub prefix_fails : (a : Option ℤ) (code : ℕ) (x : said.Part) (xs : List said.Part) (r : Reply)
      → Err code ≡ joined op k a (parts.number_of 0 [] 0 (value_in r))
      → after_reply (prefixes_rest (prefix_left a x xs)) r ≡ Fails code
  prefix_fails a code x xs r e =
      sym (ap (λ (s : Result ℤ ℕ). bind (said.outcome 0 [] 0 s) (λ b. prefixes_put (prefix_left a x xs) b)) e)

  abbrev pairs : List Spot → List Spot → List said.Part
  pairs xs ys = said.paired 0 [] 0 (map pointer_of xs) (map pointer_of ys)

  pub prefix_next : (b : ℤ) (xs ys : List Spot) (i : ℕ) (x y : Spot) → i < length xs → i < length ys
      → x ≡ slice_index_or xs i x → y ≡ slice_index_or ys i y
      → prefixes_rest (prefix_left (Some b) (said.part (pointer_of x) (pointer_of y)) (pairs (drop (i + 1) xs) (drop (i + 1) ys)))
      ≡ said.totals 0 [] 0 op k b (pairs (drop i xs) (drop i ys))
  prefix_next b xs ys i x y lt lu is iy =
      ap (λ (zs : List Spot). said.totals 0 [] 0 op k b (pairs zs (y ∷ drop (i + 1) ys))) (sym (drop-at xs i x lt is))
      ∙ ap (λ (zs : List Spot). said.totals 0 [] 0 op k b (pairs (drop i xs) zs)) (sym (drop-at ys i y lu iy))

  pub prefixes_end : (b : ℤ) (xs ys : List Spot) (i : ℕ) → length xs ≤ i
      → said.totals 0 [] 0 op k b [] ≡ said.totals 0 [] 0 op k b (pairs (drop i xs) (drop i ys))
  prefixes_end b xs ys i le =
      ap (λ (zs : List Spot). said.totals 0 [] 0 op k b (pairs zs (drop i ys))) (sym (drop_all i xs le))

  pub prefixes_none : (xs ys : List Spot) → length xs ≡ 0
      → nothing ≡ said.reduce_prefixes 0 [] 0 (Some op) k (pairs xs ys)
  prefixes_none [] ys e = refl
  prefixes_none (x ∷ xs) ys e = absurd (omega arith)

  pub prefixes_begin : (xs ys : List Spot) (x y : Spot) → 0 < length xs → 0 < length ys
      → x ≡ slice_index_or xs 0 x → y ≡ slice_index_or ys 0 y
      → prefixes_rest (prefix_left None (said.part (pointer_of x) (pointer_of y)) (pairs (drop 1 xs) (drop 1 ys)))
      ≡ said.reduce_prefixes 0 [] 0 (Some op) k (pairs xs ys)
  prefixes_begin xs ys x y lt lu is iy =
      ap (λ (zs : List Spot). said.reduce_prefixes 0 [] 0 (Some op) k (pairs zs (y ∷ drop 1 ys))) (sym (drop-at xs 0 x lt is))
      ∙ ap (λ (zs : List Spot). said.reduce_prefixes 0 [] 0 (Some op) k (pairs xs zs)) (sym (drop-at ys 0 y lu iy))
