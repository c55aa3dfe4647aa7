-- Memory calls by their arguments (UPC 7.2.5).
use Rattle.std.specs.Prelude.{ℕ, Bool, true, false, List, [], ◌∷◌, Option, None, option_map, unsigned_abs}
use Rattle.block_layout.specs.declared.kind.Kind.TheVariants.{UChar}
use Rattle.block_layout.specs.declared.kind.Shape.{Shape}
use Rattle.block_layout.specs.declared.place.LocalPtr.TheVariants.{Null}
use Rattle.integers.specs.Integers.{converted}
use Rattle.upc_values.specs.declared.scalar.Scalar.TheVariants.{Int, Shared}
use Rattle.upc_values.specs.declared.scalar.Value.{Value}
use Rattle.upc_values.specs.declared.scalar.Value.TheVariants as value
use Rattle.upc_values.specs.declared.library.LibraryCall.{LibraryCall}
use Rattle.upc_values.specs.declared.library.LibraryCall.TheVariants.{Memcpy, Memget, Memput, Memset}
use Rattle.upc_values.specs.Expansion.{Expansion}
use Rattle.upc_values.specs.LibraryCalls.{private_shape}
use Rattle.private_store.specs.Live.{Live, thing}
use Rattle.upc_library.specs.layer.Wishes.{area_of, expansion}
use Rattle.upc_library.specs.declared.copying.CopySpec.{CopySpec}
use Rattle.upc_library.specs.declared.copying.Side.{Side}
use Rattle.upc_library.specs.declared.copying.Side.TheVariants as side

-- The call is a memory call (UPC 7.2.5).
abbrev pub copies : LibraryCall → Bool
copies Memcpy = true
copies Memget = true
copies Memput = true
copies Memset = true
copies call = false

-- Where an argument leads; what is no pointer leads nowhere.
abbrev pub side_in : Value → Side
side_in (value.Scalar (Shared p)) = side.Shared p
side_in (value.Local p) = side.Local p
side_in v = side.Local Null

-- The number of bytes that an argument says; what is no number says none.
abbrev pub size_in : Value → ℕ
size_in (value.Scalar (Int n)) = unsigned_abs n
size_in v = 0

-- The bytes that are set, by the arguments that say the byte and how many they are.
abbrev pub filled_size : (byte size : Value) → ℕ
filled_size (value.Scalar (Int c)) n = size_in n
filled_size c n = 0

-- The byte that an argument says (UPC 7.2.5).
abbrev pub byte_in : Value → ℕ
byte_in (value.Scalar (Int c)) = unsigned_abs (converted UChar c)
byte_in v = 0

-- A memory call of no byte.
abbrev pub no_copy : CopySpec
no_copy = record { set = false; dst = side.Local Null; src = side.Local Null; bytes = 0; byte = 0 }

-- The copy that these arguments ask for; other ones ask for none (UPC 7.2.5).
abbrev pub copy_spec : List Value → CopySpec
copy_spec (dst ∷ src ∷ n ∷ []) =
    record { set = false; dst = side_in dst; src = side_in src; bytes = size_in n; byte = 0 }
copy_spec args = no_copy

-- The bytes that these arguments ask to set; other ones ask for none (UPC 7.2.5).
abbrev pub fill_spec : List Value → CopySpec
fill_spec (dst ∷ c ∷ n ∷ []) =
    record { set = true; dst = side_in dst; src = side.Local Null; bytes = filled_size c n; byte = byte_in c }
fill_spec args = no_copy

-- What a memory call asks for by its arguments.
abbrev pub spec_of : LibraryCall → List Value → CopySpec
spec_of Memset args = fill_spec args
spec_of call args = copy_spec args

-- The shapes of the private objects that live, by number.
abbrev pub shapes_in : Live → ℕ → Option Shape
shapes_in s number = option_map (λ x. x.shape) (thing number s.objects)

-- The shape of the private object on a side of a memory call, by the shapes of those that have not ended.
abbrev pub private_at : (ℕ → Option Shape) → Side → Option Shape
private_at private s = private_shape 0 [] 0 private (area_of s)

-- The shape of the private object that a memory call may name, if it has not ended (UPC 7.2.5).
abbrev pub private_of : LibraryCall → CopySpec → (ℕ → Option Shape) → Option Shape
private_of Memget s private = private_at private s.dst
private_of Memput s private = private_at private s.src
private_of call s private = None

-- A memory call is tested so by its arguments.
abbrev pub copying_of :
    (threads : ℕ) → List Shape → (ℕ → Option Shape) → LibraryCall → List Value → Expansion (Unit {0})
copying_of threads shapes private call args =
    expansion threads shapes (private_of call (spec_of call args) private) (spec_of call args)
