-- All breaches of a source, as its nodes are finished: children before their parent, from left to right.
use Rattle.std.specs.Prelude.{List, [], ◌∷◌, ◌++◌}
use Rattle.upc_text.specs.declared.place.Refusal.{Refusal}
use Rattle.upc_tree.specs.Statement.{Statement, Block, Value, If, Switch, While, DoWhile, For, Forall, Break}
use Rattle.upc_tree.specs.Statement.{Continue, Return, Barrier, Fence, Compound, Braces, BlockItems, NoBlockItems}
use Rattle.upc_tree.specs.Statement.{AndBlockItem, BlockItem, DeclarationItem, StatementItem, SwitchItems}
use Rattle.upc_tree.specs.Statement.{NoSwitchItems, AndSwitchItem, SwitchItem, CaseItem, DefaultItem, SwitchStatement}
use Rattle.upc_tree.specs.Statement.{ElseIfs, NoElseIfs, AndElseIf, Otherwise, NoOtherwise, Else}
use Rattle.upc_tree.specs.Unit.{External, PragmaPart, DeclarationPart, FunctionPart}
use Rattle.affinity_checker.specs.declared.around.Around.{Around}
use Rattle.affinity_checker.specs.layer.Rules.{in_loop, in_switch, in_forall, nothing, at_break, at_continue, at_return}

-- Where jumps break rules 23 and 24 in a statement and its parts, by what stands around them in the function
-- (C99 6.8.6, UPC 6.6.2).
abbrev mutual
  -- The breaches of a statement: its parts in order, each with what the statement adds around it.
  pub breaches : Statement → Around → List Refusal
  breaches (Block compound) a = in_compound compound a
  breaches (Value value semicolon) a = []
  breaches (If at test body more last) a = breaches body a ++ (in_else_ifs more a ++ in_otherwise last a)
  breaches (Switch at test left body right) a = in_switch_items body (in_switch a)
  breaches (While at test body) a = breaches body (in_loop a)
  breaches (DoWhile at body until test semicolon) a = breaches body (in_loop a)
  breaches (For at head body) a = breaches body (in_loop a)
  breaches (Forall at head body) a = breaches body (in_forall a)
  breaches (Break at semicolon) a = at_break a at.place
  breaches (Continue at semicolon) a = at_continue a at.place
  breaches (Return at value semicolon) a = at_return a at.place
  breaches (Barrier kind at value semicolon) a = []
  breaches (Fence at semicolon) a = []

  -- The breaches of a compound statement (C99 6.8.2).
  pub in_compound : Compound → Around → List Refusal
  in_compound (Braces left pragmas items right) a = in_block_items items a

  -- The breaches of the parts of a block, in order.
  pub in_block_items : BlockItems → Around → List Refusal
  in_block_items NoBlockItems a = []
  in_block_items (AndBlockItem item more) a = in_block_item item a ++ in_block_items more a

  -- The breaches of one part of a block; a declaration has none.
  pub in_block_item : BlockItem → Around → List Refusal
  in_block_item (DeclarationItem declaration) a = []
  in_block_item (StatementItem statement) a = breaches statement a

  -- The breaches of the parts of a switch, in order.
  pub in_switch_items : SwitchItems → Around → List Refusal
  in_switch_items NoSwitchItems a = []
  in_switch_items (AndSwitchItem item more) a = in_switch_item item a ++ in_switch_items more a

  -- The breaches of one part of a switch; a label has none.
  pub in_switch_item : SwitchItem → Around → List Refusal
  in_switch_item (CaseItem at value colon) a = []
  in_switch_item (DefaultItem at colon) a = []
  in_switch_item (SwitchStatement statement) a = breaches statement a

  -- The breaches of the further arms of an `if`, in order (C99 6.8.4.1).
  pub in_else_ifs : ElseIfs → Around → List Refusal
  in_else_ifs NoElseIfs a = []
  in_else_ifs (AndElseIf other at test body more) a = breaches body a ++ in_else_ifs more a

  -- The breaches of the part after the last `else`, if there is one (C99 6.8.4.1).
  pub in_otherwise : Otherwise → Around → List Refusal
  in_otherwise NoOtherwise a = []
  in_otherwise (Else at body) a = breaches body a

-- The breaches of one part of a source: those of the body, where it defines a function (C99 6.9.1).
abbrev pub in_external : External → List Refusal
in_external (PragmaPart pragma) = []
in_external (DeclarationPart declaration) = []
in_external (FunctionPart _ _ _ _ body) = in_compound body nothing

-- The breaches of a whole source, in order (C99 6.8.6, UPC 6.6.2).
abbrev pub unit_breaches : List External → List Refusal
unit_breaches [] = []
unit_breaches (part ∷ more) = in_external part ++ unit_breaches more
