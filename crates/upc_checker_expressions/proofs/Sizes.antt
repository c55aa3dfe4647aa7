-- Parts of types are less deep than the types.
use Rattle.std.proofs.Common.{◌<◌, arith}
use denote.Param.Weighed.{most}
use Rattle.upc_tree.specs.declared.expression.TypeName.{TypeName, out-TypeName, size_is-TypeName}
use Rattle.upc_tree.specs.declared.expression.Parameter.{Parameter, out-Parameter, size_is-Parameter}
use Rattle.upc_tree.specs.declared.expression.Member.{Member, out-Member, size_is-Member}
use Rattle.upc_tree.proofs.expression.TypeName.TheLaws as type_name
use Rattle.upc_tree.proofs.expression.Parameter.TheLaws as parameter
use Rattle.upc_tree.proofs.expression.Member.TheLaws as member
use Rattle.upc_tree.proofs.expression.Dimension.TheLaws as dimension
use Rattle.upc_tree.proofs.expression.Pointer.TheLaws as pointer
use Rattle.upc_tree.proofs.expression.NextDeclarator.TheLaws as declarator

pub sizes_of_type : (x : TypeName) → most dimension.the_size (out-TypeName x).sizes.items < type_name.the_size x
sizes_of_type x = omega (arith, size_is-TypeName x)

pub stars_of_type : (x : TypeName) → most pointer.the_size (out-TypeName x).pointers.items < type_name.the_size x
stars_of_type x = omega (arith, size_is-TypeName x)

pub stars_of_parameter : (x : Parameter) → most pointer.the_size (out-Parameter x).pointers.items < parameter.the_size x
stars_of_parameter x = omega (arith, size_is-Parameter x)

pub others_of_line : (x : Member) → most declarator.the_size (out-Member x).more.items < member.the_size x
others_of_line x = omega (arith, size_is-Member x)
