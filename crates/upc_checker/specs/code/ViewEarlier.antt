-- What contracts see of what is known of a function before its definition.
use Rattle.upc_checker.specs.declared.functions.Earlier as earlier
use Rattle.upc_checker.specs.Units.{Earlier}

-- What the code knows of a function before its definition, as contracts see it.
abbrev pub view_earlier : earlier.Earlier → Earlier
view_earlier x = record { again = x.again; differs = x.differs }
