-- The operations of a part, by their names.
use Rattle.std.proofs.Common.{◌≡◌, ℕ, ◌+◌, ◌<◌, Bool, true, false, cond, List, [], ◌∷◌, ◌++◌, map, filter, length, take, get_or, append-nil, arith, Result, IfOk, refl, sym, ap, ◌∙◌}
use Rattle.std.proofs.lemmas.List.{map-append}
use Rattle.std.proofs.lemmas.Result.{IfOk-weaker}
use Rattle.std.proofs.lemmas.List.Elements.{filter_more}
use Rattle.std.proofs.lemmas.List.FromFn.{map-range_with_len_more}
use Rattle.std.specs.List.{range_with_len}
use Rattle.upc_values.specs.declared.journal.Journal.{Journal}
use Rattle.upc_values.specs.declared.order.Op.{Op}
use Rattle.upc_values.specs.declared.order.Orders.{Orders}
use Rattle.upc_values.specs.Operations.{Operation}
use Rattle.upc_values.specs.Orders.{name_of, global_order, strict_list, is_shown}
use Rattle.order_builder.specs.declared.names.Named.{Named}
use Rattle.order_builder.specs.declared.part.Part.{Part}
use Rattle.order_builder.specs.declared.part.Part.TheVariants.{Whole, Strict, Shown}
use Rattle.order_builder.specs.Named.{thread_names, orders_of}
use Rattle.order_builder.specs.layer.Commits.{named}
use Rattle.order_builder.specs.code.Parts.{is_in, order_of, shown_below}

abbrev orders_by : List Op → List (List Op) → Orders
orders_by strict threads = record { strict = strict; threads = threads }

-- a result that is one value is each value equal to it
pub if_ok-same : {X E : Type 0} (r : Result X E) (a b : X) → a ≡ b → IfOk r (λ z. z ≡ a) → IfOk r (λ z. z ≡ b)
if_ok-same r a b h k = IfOk-weaker r (λ z. z ≡ a) (λ z. z ≡ b) (λ z q. q ∙ h) k

-- one more operation
pub names-in : (part : Part) (names : List Named) (i : ℕ) (n : Named) → i < length names → n ≡ get_or names i n → is_in part n ≡ true → order_of part (take (i + 1) names) ≡ order_of part (take i names) ++ n.name ∷ []
names-in part names i n lt is h =
    ap (map (λ z. z.name))
    (filter_more (is_in part) names i n lt
    ∙ ap (λ z. filter (is_in part) (take i names) ++ cond (is_in part z) (z ∷ []) []) (sym is)
    ∙ ap (λ b. filter (is_in part) (take i names) ++ cond b (n ∷ []) []) h)
    ∙ map-append (λ z. z.name) (filter (is_in part) (take i names)) (n ∷ [])

pub names-out : (part : Part) (names : List Named) (i : ℕ) (n : Named) → i < length names → n ≡ get_or names i n → is_in part n ≡ false → order_of part (take (i + 1) names) ≡ order_of part (take i names)
names-out part names i n lt is h =
    ap (map (λ z. z.name))
    (filter_more (is_in part) names i n lt
    ∙ ap (λ z. filter (is_in part) (take i names) ++ cond (is_in part z) (z ∷ []) []) (sym is)
    ∙ ap (λ b. filter (is_in part) (take i names) ++ cond b (n ∷ []) []) h
    ∙ append-nil (filter (is_in part) (take i names)))

-- a part of operations by their names, and the same part of the operations
part-is : (part : Part) (test : Operation → Bool) → ((o : Operation) → is_in part (named o) ≡ test o) → (os : List Operation) → order_of part (map named os) ≡ map name_of (filter test os)
part-is part test h [] = refl
part-is part test h (o ∷ os) =
    let ns = filter (is_in part) (map named os) in
    let rest = part-is part test h os in
    let P : Bool → Type 0 =
    λ b. map (λ n. n.name) (cond b (named o ∷ ns) ns) ≡ map name_of (cond b (o ∷ filter test os) (filter test os)) in
    ap (λ b. map (λ n. n.name) (cond b (named o ∷ ns) ns)) (h o)
    ∙ elim (test o) as P [ true ↦ ap (λ l. name_of o ∷ l) rest | false ↦ rest ]

pub whole-is : (os : List Operation) → order_of Whole (map named os) ≡ map name_of os
whole-is [] = refl
whole-is (o ∷ os) = ap (λ l. name_of o ∷ l) (whole-is os)

pub strict-is : (os : List Operation) → order_of Strict (map named os) ≡ map name_of (filter (λ o. o.strict) os)
strict-is os = part-is Strict (λ o. o.strict) (λ o. refl) os

pub shown-is : (t : ℕ) (os : List Operation) → order_of (Shown t) (map named os) ≡ map name_of (filter (is_shown t) os)
shown-is t os = part-is (Shown t) (is_shown t) (λ o. refl) os

map-same : {X : Type 0} (f g : ℕ → X) → ((t : ℕ) → f t ≡ g t) → (ts : List ℕ) → map f ts ≡ map g ts
map-same f g h [] = refl
map-same f g h (t ∷ ts) = ap (λ z. z ∷ map f ts) (h t) ∙ ap (λ l. g t ∷ l) (map-same f g h ts)

pub threads-is : (j : Journal) (n : ℕ) → shown_below (map named (global_order j)) n ≡ map (thread_names j) (range_with_len 0 n)
threads-is j n =
    map-same (λ t. order_of (Shown t) (map named (global_order j))) (thread_names j) (λ t. shown-is t (global_order j))
    (range_with_len 0 n)

pub orders-is : (j : Journal) (strict : List Op) (threads : List (List Op)) (ns ms : List Named) → strict ≡ order_of Strict ns → ns ≡ map named (global_order j) → threads ≡ shown_below ms j.threads → ms ≡ map named (global_order j) → orders_by strict threads ≡ orders_of j
orders-is j strict threads ns ms h e k q =
    ap (λ s. orders_by s threads) (h ∙ ap (order_of Strict) e ∙ strict-is (global_order j))
    ∙ ap (orders_by (map name_of (strict_list j))) (k ∙ ap (λ z. shown_below z j.threads) q ∙ threads-is j j.threads)

-- one more thread
pub threads-more : (names : List Named) (t : ℕ) (orders orders' : List (List Op)) (order : List Op) → orders' ≡ orders ++ order ∷ [] → orders ≡ shown_below names t → order ≡ order_of (Shown t) names → orders' ≡ shown_below names (t + 1)
threads-more names t orders orders' order h e k =
    h ∙ ap (λ l. l ++ order ∷ []) e ∙ ap (λ o. shown_below names t ++ o ∷ []) k
    ∙ sym (map-range_with_len_more (λ u. order_of (Shown u) names) 0 t t (omega arith))
