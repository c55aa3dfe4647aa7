-- Where parts of the source begin.
use Rattle.upc_text.specs.declared.place.Place.{Place}
use Rattle.upc_tree.specs.declared.span.Span.{Span}
use Rattle.upc_tree.specs.declared.span.Name.{Name}
use Rattle.upc_tree.specs.Expression.{Specs, NoSpecs, AndSpec, Spec, WordSpec, QualSpec, TagSpec, StructSpec, Qual}
use Rattle.upc_tree.specs.Expression.{Const, Strict, Relaxed, Shared, Pointers, NoPointers, AndPointer, Declarator}
use Rattle.upc_tree.specs.Expression.{ObjectDeclarator, FunctionDeclarator}

-- The place of a token.
abbrev pub at : Span → Place
at span = span.place

-- The place of a name.
abbrev pub name_at : Name → Place
name_at name = name.span.place

-- The place 1:1, for what has no token.
abbrev pub no_place : Place
no_place = record { line = 1; column = 1 }

-- The place of the first token of a qualifier (C99 6.7.3, UPC 6.5.1).
abbrev pub qual_place : Qual → Place
qual_place (Const word) = at word
qual_place (Strict word) = at word
qual_place (Relaxed word) = at word
qual_place (Shared word l) = at word

-- The place of the first token of a specifier or qualifier (C99 6.7.1 to 6.7.3).
abbrev pub spec_place : Spec → Place
spec_place (WordSpec word span) = at span
spec_place (QualSpec qual) = qual_place qual
spec_place (TagSpec word tag) = at word
spec_place (StructSpec word tag left ms right) = at word

-- The place of the first token of specifiers and qualifiers, 1:1 where there are none (C99 6.7).
abbrev pub specs_place : Specs → Place
specs_place NoSpecs = no_place
specs_place (AndSpec spec more) = spec_place spec

-- The place of the first token of a declarator, which is its first star, or its name where it has none (C99 6.7.5).
abbrev pub pointers_place : Pointers → Name → Place
pointers_place NoPointers name = name_at name
pointers_place (AndPointer star quals more) name = at star

-- The place of the first token of a declarator (C99 6.7.5).
abbrev pub declarator_place : Declarator → Place
declarator_place (ObjectDeclarator pointers name sizes) = pointers_place pointers name
declarator_place (FunctionDeclarator pointers name parameters) = pointers_place pointers name
