-- What a type leads to is less deep than the type.
use Rattle.std.specs.Prelude.{◌≡◌, ℕ, zero, suc, ◌≤◌, max, Bool, Option}
use Rattle.std.proofs.Common.{arith, subst, sym}
use Rattle.upc_types.specs.declared.ctype.Access.{Access}
use Rattle.upc_types.specs.declared.ctype.Base.{Base}
use Rattle.upc_types.specs.declared.ctype.Base.TheVariants.{Void, Integer, Struct, Array, Pointer, LockObject}
use Rattle.upc_types.specs.declared.target.Target.TheDeep.{deep-Base}
use Rattle.upc_types.specs.Types as types
use Rattle.upc_types.specs.View.{view_base}
use Rattle.upc_types.specs.code.Depth.{base_depth}
use Rattle.upc_types.specs.code.Stars.{spread}

-- What a type leads to is less deep than the type.
pub deep_is : (b : Base) → deep-Base b ≤ base_depth (view_base b)
deep_is Void = omega arith
deep_is (Integer k) = omega arith
deep_is (Struct n) = omega arith
deep_is (Array t n) = omega arith
deep_is (Pointer t) = omega arith
deep_is LockObject = omega arith

-- Stars before a type make it no less deep.
pub spread_deep : (count : ℕ) (c : Bool) (s : Option ℕ) (x : Access) (b : types.Base) → base_depth b ≤ base_depth (spread count c s x b)
spread_deep zero c s x b = omega arith
spread_deep (suc count) c s x b = omega (arith, spread_deep count c s x b)

-- A type without its qualifiers is at least as deep as what it leads to.
pub ctype_deep : (b : Base) → max (deep-Base b) 0 ≤ base_depth (view_base b)
ctype_deep b = omega (arith, deep_is b)

-- A type is at least as deep as what is found after its stars.
pub below_deep : (b after : Base) (count : ℕ) (c : Bool) (s : Option ℕ) (x : Access) → view_base b ≡ spread count c s x (view_base after) → max (deep-Base after) 0 ≤ base_depth (view_base b)
below_deep b after count c s x e =
    let d = spread_deep count c s x (view_base after) in
    let f = subst (λ t. base_depth (view_base after) ≤ base_depth t) (sym e) d in
    omega (arith, deep_is after, f)
