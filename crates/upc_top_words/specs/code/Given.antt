-- What `clap` has found where it takes the words.
use Rattle.std.specs.Prelude.{◌≡◌, ◌≤◌, ℕ, true, List, Option, Some, codes, is_some, IfSome}
use Rattle.clap.specs.Words.{Row, first_of}
use Rattle.upc_top_words.specs.Values.{number_in, number_of}

-- There is a number, and it is from 1 to `most`.
pub record IsNumber (o : Option ℕ) (most : ℕ) : Type 0 where
  pub n : ℕ
  pub is : o ≡ Some n
  pub least : 1 ≤ n
  pub no_more : n ≤ most

-- Each name that has to be there was given, and each number lies in its range.
pub record IsGiven (rows : List Row) : Type 0 where
  pub mode : is_some (first_of (codes "MODE") rows) ≡ true
  pub file : is_some (first_of (codes "FILE") rows) ≡ true
  pub threads : IsNumber (number_in rows (codes "threads")) 32
  pub budget : IsNumber (number_in rows (codes "budget")) 1000000000000
  pub actions : IfSome (first_of (codes "actions") rows) (λ t. IsNumber (number_of t) 8388608)
