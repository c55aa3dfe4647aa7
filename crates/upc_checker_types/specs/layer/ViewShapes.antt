-- What contracts see of specifiers and of what they make.
use Rattle.std.specs.Prelude.{[], ◌∷◌, map, true, false}
use Rattle.upc_types.specs.View.{view}
use Rattle.upc_checker_types.specs.declared.specified.Blocks.{Blocks}
use Rattle.upc_checker_types.specs.declared.specified.Blocks.TheVariants as blocks_variant
use Rattle.upc_checker_types.specs.declared.specified.Qualifier.{Qualifier}
use Rattle.upc_checker_types.specs.declared.specified.Qualifier.TheVariants as qualifier_variant
use Rattle.upc_checker_types.specs.declared.specified.Quals as qs
use Rattle.upc_checker_types.specs.declared.specified.Specifier.{Specifier}
use Rattle.upc_checker_types.specs.declared.specified.Specifier.TheVariants as specifier_variant
use Rattle.upc_checker_types.specs.declared.specified.Specified as ps
use Rattle.upc_checker_types.specs.declared.specified.Specifying as specifying
use Rattle.upc_checker_types.specs.declared.shaped.Shaped as shaped_type
use Rattle.upc_checker_types.specs.Specifiers as specifiers_spec
use Rattle.upc_checker_types.specs.Shapes.{Specifying}

-- A layout of the code, as contracts see it.
abbrev pub view_blocks : Blocks → specifiers_spec.Layout
view_blocks (blocks_variant.Size size) = specifiers_spec.Blocks size
view_blocks blocks_variant.Star = specifiers_spec.Star

-- One qualifier of the code, as contracts see it: qualifiers of which it is the only one.
abbrev pub view_qualifier : Qualifier → specifiers_spec.Quals
view_qualifier qualifier_variant.Const = record { constant = true; layouts = []; strict = false; relaxed = false }
view_qualifier qualifier_variant.Strict = record { constant = false; layouts = []; strict = true; relaxed = false }
view_qualifier qualifier_variant.Relaxed = record { constant = false; layouts = []; strict = false; relaxed = true }
view_qualifier (qualifier_variant.Shared blocks) =
    record { constant = false; layouts = view_blocks blocks ∷ []; strict = false; relaxed = false }

-- Qualifiers of the code, as contracts see them.
abbrev pub view_quals : qs.Quals → specifiers_spec.Quals
view_quals x =
    record { constant = x.constant; layouts = map view_blocks x.layouts.items; strict = x.strict; relaxed = x.relaxed }

-- One specifier of the code, as contracts see it: specifiers of which it is the only one.
abbrev pub view_specifier : Specifier → specifiers_spec.Specified
view_specifier (specifier_variant.Word word) = record {
  words = word ∷ [];
  structs = [];
  quals =
      specifiers_spec.no_quals;
}
view_specifier (specifier_variant.Struct number) = record {
  words = [];
  structs = number ∷ [];
  quals =
      specifiers_spec.no_quals;
}
view_specifier (specifier_variant.Qual qualifier) = record {
  words = [];
  structs = [];
  quals = view_qualifier qualifier;
}

-- Specifiers of the code, as contracts see them.
abbrev pub view_specified : ps.Specified → specifiers_spec.Specified
view_specified x = record { words = x.words.items; structs = x.structs.items; quals = view_quals x.quals }

-- What stands around specifiers of the code, as contracts see it.
abbrev pub view_specifying : specifying.Specifying → Specifying
view_specifying x = record { at = x.at; star = x.star; static = x.may_be_static; alone = x.alone }

-- A type so far of the code, as contracts see it.
abbrev pub view_shaped : shaped_type.Shaped → specifiers_spec.Shaped
view_shaped x = record { forms = x.forms; ctype = view x.ctype; star = x.star }
