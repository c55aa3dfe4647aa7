-- What `clap` gives where it takes the words.
use Rattle.std.proofs.Common.{◌≡◌, ◌∙◌, ◌<◌, ◌≤◌, ℕ, zero, suc, true, false, List, [], ◌∷◌, length, is_some, Option, Some, None, refl, sym, ap, subst, inl, inr, arith, codes, slice_index, ◌==◌, ◌||◌, true≢false}
use Rattle.std.specs.Prelude.{IfSome, option_and_then}
use Rattle.std.specs.List.{slice_index_or, list_all}
use Rattle.std.specs.Str.{bytes_eq}
use Rattle.std.specs.Str.Parse.{digits_value, without_leading_plus}
use Rattle.std.proofs.lemmas.List.{length-map, get_or-map}
use Rattle.clap.specs.Facts.{args_of, unwrap_or_range}
use Rattle.clap.specs.Built.{IsParsedFrom, IsPlain}
use Rattle.clap.specs.Matches.{first_value, found_of}
use Rattle.clap.specs.Values.{IsUnsignedIn}
use Rattle.clap.specs.Walk.{texts}
use Rattle.clap.specs.Texts.{items_of}
use Rattle.std.specs.Borrow.{Bor}
use Rattle.upc_top_words.proofs.Numbers.{number_some}
use Rattle.clap.specs.Words.{App, Row, Rule, Text, app_of, first_of, rows_of, rule_of}
use Rattle.clap.specs.Simple.{IsSimple, is_ready, is_ready_leaf}
use Rattle.clap.specs.Faults.{has_free_rules}
use Rattle.clap.specs.declared.builder.action.ArgAction.TheVariants.{Set}
use Rattle.clap.specs.declared.builder.arg.Arg.{Arg}
use Rattle.clap.specs.declared.builder.command.Command.{Command}
use Rattle.clap.specs.declared.builder.command.Command.TheViews.{out-Command}
use Rattle.clap.specs.declared.builder.value_parser.ValueParser.TheVariants.{Unsigned}
use Rattle.clap.specs.declared.parser.matches.ArgMatches.{ArgMatches}
use Rattle.clap.proofs.SimpleLemmas.{ready_simple, simple_groups}
use Rattle.clap.proofs.FaultLemmas.{free_args}
use Rattle.clap.proofs.WalkLemmas.{first_value-rows}
use Rattle.clap.proofs.CallerLemmas.{default_present, present_has_entry, required_present}
use Rattle.upc_top_words.specs.Line.{upc_app}
use Rattle.upc_top_words.specs.Values.{number_in, number_of}
use Rattle.upc_top_words.specs.code.Given.{IsGiven, IsNumber}
use Rattle.upc_top_words.proofs.Found.{IsOwn, has_entry, has_value, value_passes}

abbrev rules : List Rule
rules = upc_app.top.rules

pub upc_simple : (c : Command) → app_of c ≡ upc_app → IsSimple c
upc_simple c e = ready_simple c (ap (λ (a : App). is_ready a.top) e) (ap (λ (a : App). list_all is_ready_leaf a.subs) e)

pub upc_plain : (c : Command) → app_of c ≡ upc_app → IsPlain c
upc_plain c e =
    let simple = upc_simple c e in
    let free = free_args c simple (ap (λ (a : App). has_free_rules a.top) e) in
    let groups = simple_groups c (ap (λ (a : App). list_all (λ r. r.is_simple) a.top.rules) e) in
    ((λ k d lt. ((free k d lt).exclusive, (free k d lt).conflicts, (free k d lt).overrides, groups k d lt)), simple.groups)

six : (c : Command) → app_of c ≡ upc_app → length (args_of c) ≡ 6
six c e = sym (length-map (args_of c) rule_of) ∙ ap (λ (a : App). length a.top.rules) e

-- the argument at each place
rule_at : (c : Command) → app_of c ≡ upc_app → (k : ℕ) (d : Arg) → k < 6 → rule_of (slice_index_or (args_of c) k d) ≡ slice_index_or rules k (rule_of d)
rule_at c e k d lt =
    let in_args : k < length (args_of c) = omega (arith, six c e) in
    sym (get_or-map rule_of (args_of c) k d (rule_of d) in_args) ∙ ap (λ (a : App). slice_index_or a.top.rules k (rule_of d)) e

-- no two have one id
distinct : (j k : ℕ) (r q : Rule) → j < 6 → k < 6 → bytes_eq (slice_index_or rules j r).id (slice_index_or rules k q).id ≡ true → j ≡ k
distinct (suc (suc (suc (suc (suc (suc j)))))) k r q low lt e = absurd (omega arith)
distinct zero (suc (suc (suc (suc (suc (suc k)))))) r q low lt e = absurd (omega arith)
distinct zero zero r q low lt e = refl
distinct zero (suc zero) r q low lt e = absurd cc
distinct zero (suc (suc zero)) r q low lt e = absurd cc
distinct zero (suc (suc (suc zero))) r q low lt e = absurd cc
distinct zero (suc (suc (suc (suc zero)))) r q low lt e = absurd cc
distinct zero (suc (suc (suc (suc (suc zero))))) r q low lt e = absurd cc
distinct (suc zero) (suc (suc (suc (suc (suc (suc k)))))) r q low lt e = absurd (omega arith)
distinct (suc zero) zero r q low lt e = absurd cc
distinct (suc zero) (suc zero) r q low lt e = refl
distinct (suc zero) (suc (suc zero)) r q low lt e = absurd cc
distinct (suc zero) (suc (suc (suc zero))) r q low lt e = absurd cc
distinct (suc zero) (suc (suc (suc (suc zero)))) r q low lt e = absurd cc
distinct (suc zero) (suc (suc (suc (suc (suc zero))))) r q low lt e = absurd cc
distinct (suc (suc zero)) (suc (suc (suc (suc (suc (suc k)))))) r q low lt e = absurd (omega arith)
distinct (suc (suc zero)) zero r q low lt e = absurd cc
distinct (suc (suc zero)) (suc zero) r q low lt e = absurd cc
distinct (suc (suc zero)) (suc (suc zero)) r q low lt e = refl
distinct (suc (suc zero)) (suc (suc (suc zero))) r q low lt e = absurd cc
distinct (suc (suc zero)) (suc (suc (suc (suc zero)))) r q low lt e = absurd cc
distinct (suc (suc zero)) (suc (suc (suc (suc (suc zero))))) r q low lt e = absurd cc
distinct (suc (suc (suc zero))) (suc (suc (suc (suc (suc (suc k)))))) r q low lt e = absurd (omega arith)
distinct (suc (suc (suc zero))) zero r q low lt e = absurd cc
distinct (suc (suc (suc zero))) (suc zero) r q low lt e = absurd cc
distinct (suc (suc (suc zero))) (suc (suc zero)) r q low lt e = absurd cc
distinct (suc (suc (suc zero))) (suc (suc (suc zero))) r q low lt e = refl
distinct (suc (suc (suc zero))) (suc (suc (suc (suc zero)))) r q low lt e = absurd cc
distinct (suc (suc (suc zero))) (suc (suc (suc (suc (suc zero))))) r q low lt e = absurd cc
distinct (suc (suc (suc (suc zero)))) (suc (suc (suc (suc (suc (suc k)))))) r q low lt e = absurd (omega arith)
distinct (suc (suc (suc (suc zero)))) zero r q low lt e = absurd cc
distinct (suc (suc (suc (suc zero)))) (suc zero) r q low lt e = absurd cc
distinct (suc (suc (suc (suc zero)))) (suc (suc zero)) r q low lt e = absurd cc
distinct (suc (suc (suc (suc zero)))) (suc (suc (suc zero))) r q low lt e = absurd cc
distinct (suc (suc (suc (suc zero)))) (suc (suc (suc (suc zero)))) r q low lt e = refl
distinct (suc (suc (suc (suc zero)))) (suc (suc (suc (suc (suc zero))))) r q low lt e = absurd cc
distinct (suc (suc (suc (suc (suc zero))))) (suc (suc (suc (suc (suc (suc k)))))) r q low lt e = absurd (omega arith)
distinct (suc (suc (suc (suc (suc zero))))) zero r q low lt e = absurd cc
distinct (suc (suc (suc (suc (suc zero))))) (suc zero) r q low lt e = absurd cc
distinct (suc (suc (suc (suc (suc zero))))) (suc (suc zero)) r q low lt e = absurd cc
distinct (suc (suc (suc (suc (suc zero))))) (suc (suc (suc zero))) r q low lt e = absurd cc
distinct (suc (suc (suc (suc (suc zero))))) (suc (suc (suc (suc zero)))) r q low lt e = absurd cc
distinct (suc (suc (suc (suc (suc zero))))) (suc (suc (suc (suc (suc zero))))) r q low lt e = refl

own_at : (c : Command) → app_of c ≡ upc_app → (k : ℕ) (d : Arg) → k < 6 → (f : ℕ) → slice_index (slice_index_or rules k (rule_of d)).id 0 ≡ f → (f == 0 || (f == 104 || f == 118)) ≡ false
    → (slice_index_or rules k (rule_of d)).action ≡ Some Set → 1 ≤ (unwrap_or_range (slice_index_or rules k (rule_of d)).range).start_inclusive
    → IsOwn c k d
own_at c e k d lt f first other set least =
    let a = slice_index_or (args_of c) k d in
    let is = rule_at c e k d lt in
    let id_is : a.id.now ≡ (slice_index_or rules k (rule_of d)).id = ap (λ (r : Rule). r.id) is in
    let here : k < length (args_of c) = omega (arith, six c e) in
    let starts : (t : List ℕ) → a.id.now ≡ t → slice_index t 0 ≡ f = λ t h. ap (λ (u : List ℕ). slice_index u 0) (sym h ∙ id_is) ∙ first in
    record {
      place = here;
      unique = λ j x low same.
          let below : j < 6 = omega (arith, six c e) in
          let there : (slice_index_or (args_of c) j x).id.now ≡ (slice_index_or rules j (rule_of x)).id = ap (λ (r : Rule). r.id) (rule_at c e j x below) in
          distinct j k (rule_of x) (rule_of d) below lt (rw (← there, ← id_is) same);
      named = λ nil. bad f 0 (starts [] nil) refl other;
      own = λ auto. elim auto [ inl h ↦ bad f 104 (starts (codes "help") h) refl other | inr h ↦ bad f 118 (starts (codes "version") h) refl other ];
      set = ap (λ (r : Rule). r.action) is ∙ set;
      delim = ((upc_simple c e).args k d here).delimiter;
      least = subst (λ (r : Rule). 1 ≤ (unwrap_or_range r.range).start_inclusive) (sym is) least;
    }
  where
    bad : (f g : ℕ) → g ≡ f → (g == 0 || (g == 104 || g == 118)) ≡ true → (f == 0 || (f == 104 || f == 118)) ≡ false → ⊥
    bad f g same is other = true≢false (sym is ∙ ap (λ n. n == 0 || (n == 104 || n == 118)) same ∙ other)

own_0 : (c : Command) → app_of c ≡ upc_app → (d : Arg) → IsOwn c 0 d
own_0 c e d = own_at c e 0 d (omega arith) 77 refl refl refl (omega arith)

own_1 : (c : Command) → app_of c ≡ upc_app → (d : Arg) → IsOwn c 1 d
own_1 c e d = own_at c e 1 d (omega arith) 116 refl refl refl (omega arith)

own_2 : (c : Command) → app_of c ≡ upc_app → (d : Arg) → IsOwn c 2 d
own_2 c e d = own_at c e 2 d (omega arith) 98 refl refl refl (omega arith)

own_3 : (c : Command) → app_of c ≡ upc_app → (d : Arg) → IsOwn c 3 d
own_3 c e d = own_at c e 3 d (omega arith) 97 refl refl refl (omega arith)

own_4 : (c : Command) → app_of c ≡ upc_app → (d : Arg) → IsOwn c 4 d
own_4 c e d = own_at c e 4 d (omega arith) 70 refl refl refl (omega arith)

id_at : (c : Command) → app_of c ≡ upc_app → (k : ℕ) (d : Arg) (id : Text) → k < 6 → (slice_index_or rules k (rule_of d)).id ≡ id → (slice_index_or (args_of c) k d).id.now ≡ id
id_at c e k d id lt is = ap (λ (r : Rule). r.id) (rule_at c e k d lt) ∙ is

-- a required argument has a value
required_given : (c : Command) (m : ArgMatches) → app_of c ≡ upc_app → IsParsedFrom c m → (k : ℕ) (d : Arg) (id : Text) → IsOwn c k d → k < 6
    → (slice_index_or rules k (rule_of d)).required ≡ true → (slice_index_or rules k (rule_of d)).id ≡ id → is_some (first_of id (rows_of (found_of m))) ≡ true
required_given c m e p k d id own lt required is =
    let plain = upc_plain c e in
    let globals = (upc_simple c e).globals in
    let negates : (out-Command c).subcommand_negates_reqs ≡ false = ap (λ (a : App). a.top.subcommand_negates_reqs) e in
    let wanted : (slice_index_or (args_of c) k d).required ≡ true = ap (λ (r : Rule). r.required) (rule_at c e k d lt) ∙ required in
    let entry = present_has_entry (found_of m) (slice_index_or (args_of c) k d).id.now (required_present c m p plain globals negates k d own.place wanted) in
    let value = has_value c m p plain globals k d own entry in
    ap (λ t. is_some (first_of t (rows_of (found_of m)))) (sym (id_at c e k d id lt is)) ∙ ap is_some (sym (first_value-rows (found_of m) (slice_index_or (args_of c) k d).id.now)) ∙ value

-- and one with a default
default_given : (c : Command) (m : ArgMatches) → app_of c ≡ upc_app → IsParsedFrom c m → (d : Arg) → is_some (first_of (codes "budget") (rows_of (found_of m))) ≡ true
default_given c m e p d =
    let plain = upc_plain c e in
    let simple = upc_simple c e in
    let own = own_2 c e d in
    let texts_are : length (texts (items_of (slice_index_or (args_of c) 2 d).default_vals)) ≡ 1 = ap (λ (r : Rule). length r.defaults) (rule_at c e 2 d (omega arith)) in
    let some : 0 < length (items_of (slice_index_or (args_of c) 2 d).default_vals) = omega (arith, length-map (items_of (slice_index_or (args_of c) 2 d).default_vals) (λ (s : Bor Text). s.now)) in
    let has = default_present c m p simple.globals 2 d own.place ((simple.args 2 d own.place).default_ifs, some) in
    let entry = has_entry (found_of m).entries.items (slice_index_or (args_of c) 2 d).id.now has in
    let value = has_value c m p plain simple.globals 2 d own entry in
    ap (λ t. is_some (first_of t (rows_of (found_of m)))) (sym (id_at c e 2 d (codes "budget") (omega arith) refl)) ∙ ap is_some (sym (first_value-rows (found_of m) (slice_index_or (args_of c) 2 d).id.now)) ∙ value

-- a number that is given lies in its range
number_given : (c : Command) (m : ArgMatches) → app_of c ≡ upc_app → IsParsedFrom c m → (k : ℕ) (d : Arg) (id : Text) (most : ℕ) → IsOwn c k d → k < 6
    → (slice_index_or rules k (rule_of d)).parser ≡ Some (Unsigned 1 most) → (slice_index_or rules k (rule_of d)).id ≡ id
    → (t : Text) → first_of id (rows_of (found_of m)) ≡ Some t → IsNumber (number_of t) most
number_given c m e p k d id most own lt parser is t first =
    let parser_is : (slice_index_or (args_of c) k d).value_parser ≡ Some (Unsigned 1 most) = ap (λ (r : Rule). r.parser) (rule_at c e k d lt) ∙ parser in
    let here : first_value (found_of m) (slice_index_or (args_of c) k d).id.now ≡ Some t = first_value-rows (found_of m) (slice_index_or (args_of c) k d).id.now ∙ ap (λ u. first_of u (rows_of (found_of m))) (id_at c e k d id lt is) ∙ first in
    let passed : IsUnsignedIn 1 most t = value_passes c m p (upc_plain c e) (upc_simple c e).globals k d own (Unsigned 1 most) parser_is t here in
    record { n = digits_value 10 (without_leading_plus t); is = number_some t most passed; least = passed.2; no_more = passed.3 }

some_number : (rows : List Row) (id : Text) (most : ℕ) → is_some (first_of id rows) ≡ true → ((t : Text) → first_of id rows ≡ Some t → IsNumber (number_of t) most) → IsNumber (number_in rows id) most
some_number rows id most some each = go (first_of id rows) some each
  where
    go : (o : Option Text) → is_some o ≡ true → ((t : Text) → o ≡ Some t → IsNumber (number_of t) most) → IsNumber (option_and_then number_of o) most
    go None s f = absurd (true≢false (sym s))
    go (Some t) s f = f t refl

if_number : (o : Option Text) (most : ℕ) → ((t : Text) → o ≡ Some t → IsNumber (number_of t) most) → IfSome o (λ t. IsNumber (number_of t) most)
if_number None most f = tt
if_number (Some t) most f = f t refl

an_arg : (xs : List Arg) → length xs ≡ 6 → Arg
an_arg [] e = absurd (omega arith)
an_arg (x ∷ xs) e = x

given_from : (c : Command) (m : ArgMatches) → app_of c ≡ upc_app → IsParsedFrom c m → (d : Arg) → IsGiven (rows_of (found_of m))
given_from c m e p d = record {
  mode = required_given c m e p 0 d (codes "MODE") (own_0 c e d) (omega arith) refl refl;
  file = required_given c m e p 4 d (codes "FILE") (own_4 c e d) (omega arith) refl refl;
  threads = some_number (rows_of (found_of m)) (codes "threads") 32 (required_given c m e p 1 d (codes "threads") (own_1 c e d) (omega arith) refl refl)
      (number_given c m e p 1 d (codes "threads") 32 (own_1 c e d) (omega arith) refl refl);
  budget = some_number (rows_of (found_of m)) (codes "budget") 1000000000000 (default_given c m e p d)
      (number_given c m e p 2 d (codes "budget") 1000000000000 (own_2 c e d) (omega arith) refl refl);
  actions = if_number (first_of (codes "actions") (rows_of (found_of m))) 8388608 (number_given c m e p 3 d (codes "actions") 8388608 (own_3 c e d) (omega arith) refl refl);
}

pub is_given : (c : Command) (m : ArgMatches) → app_of c ≡ upc_app → IsParsedFrom c m → IsGiven (rows_of (found_of m))
is_given c m e p = given_from c m e p (an_arg (args_of c) (six c e))
