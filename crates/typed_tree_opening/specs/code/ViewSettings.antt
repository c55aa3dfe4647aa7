-- What contracts see of what initialisers may name.
use Rattle.upc_types.specs.ViewStructs.{view_structs}
use Rattle.typed_tree.specs.Initials.{Setting}
use Rattle.typed_tree_opening.specs.declared.setting.Setting as settings

-- What initialisers of the code may refer to, seen without where it lies in memory.
abbrev pub view_setting : settings.Setting → Setting
view_setting x =
    record { threads = x.threads; privates = x.privates; structs = view_structs x.structs.now; shared = x.shared.now }
