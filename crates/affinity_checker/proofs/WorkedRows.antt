-- Worked rows: statements, each inside the last letter's of those before it, and their breaches.
use Rattle.std.proofs.Common.{◌≡◌, [], ◌++◌, None, refl}
use Rattle.upc_tree.specs.declared.span.Span.{Span}
use Rattle.upc_tree.specs.Statement.{Statement, If, Switch, While, DoWhile, For, Forall, Break, Continue, Return, Block, Braces, AndBlockItem, NoBlockItems, StatementItem, AndSwitchItem, NoSwitchItems, SwitchStatement, NoElseIfs, AndElseIf, Else, Test, ForHead, ForallHead}
use Rattle.affinity_checker.specs.layer.Rules.{nothing, refused}
use Rattle.affinity_checker.specs.layer.Breaches.{breaches}

module _ (s p : Span) (test : Test) (head : ForHead) (all : ForallHead) where
  abbrev all_of : Statement → Statement
  all_of body = Forall s all body

  abbrev while_of : Statement → Statement
  while_of body = While s test body

  abbrev switch_of : Statement → Statement
  switch_of body = Switch s test s (AndSwitchItem (SwitchStatement body) NoSwitchItems) s

  abbrev block_of : Statement → Statement → Statement
  block_of one two = Block (Braces s [] (AndBlockItem (StatementItem one) (AndBlockItem (StatementItem two) NoBlockItems)) s)

  -- a break in nothing, in each loop, in a switch, in a upc_forall, and in a loop or switch inside one
  break_alone : breaches (Break p s) nothing ≡ refused p.place 23
  break_alone = refl

  break_in_while : breaches (while_of (Break p s)) nothing ≡ []
  break_in_while = refl

  break_in_do : breaches (DoWhile s (Break p s) s test s) nothing ≡ []
  break_in_do = refl

  break_in_for : breaches (For s head (Break p s)) nothing ≡ []
  break_in_for = refl

  break_in_switch : breaches (switch_of (Break p s)) nothing ≡ []
  break_in_switch = refl

  break_in_forall : breaches (all_of (Break p s)) nothing ≡ refused p.place 24
  break_in_forall = refl

  break_in_forall_in_while : breaches (while_of (all_of (Break p s))) nothing ≡ refused p.place 24
  break_in_forall_in_while = refl

  break_in_while_in_forall : breaches (all_of (while_of (Break p s))) nothing ≡ []
  break_in_while_in_forall = refl

  break_in_switch_in_forall : breaches (all_of (switch_of (Break p s))) nothing ≡ []
  break_in_switch_in_forall = refl

  break_in_inner_forall : breaches (all_of (while_of (all_of (Break p s)))) nothing ≡ refused p.place 24
  break_in_inner_forall = refl

  -- a continue in a switch alone, in a upc_forall, and in a switch inside a loop
  continue_alone : breaches (Continue p s) nothing ≡ refused p.place 23
  continue_alone = refl

  continue_in_switch : breaches (switch_of (Continue p s)) nothing ≡ refused p.place 23
  continue_in_switch = refl

  continue_in_forall : breaches (all_of (Continue p s)) nothing ≡ []
  continue_in_forall = refl

  continue_in_switch_in_while : breaches (while_of (switch_of (Continue p s))) nothing ≡ []
  continue_in_switch_in_while = refl

  -- a return anywhere in a upc_forall
  return_alone : breaches (Return p None s) nothing ≡ []
  return_alone = refl

  return_in_forall : breaches (all_of (Return p None s)) nothing ≡ refused p.place 24
  return_in_forall = refl

  return_in_while_in_forall : breaches (all_of (while_of (Return p None s))) nothing ≡ refused p.place 24
  return_in_while_in_forall = refl

  -- from left to right
  break_and_continue : breaches (block_of (all_of (Break p s)) (Continue s s)) nothing ≡ refused p.place 24 ++ refused s.place 23
  break_and_continue = refl

  if_else : breaches (If s test (Break p s) (AndElseIf s s test (Break s s) NoElseIfs) (Else s (Continue p p))) nothing ≡ refused p.place 23 ++ refused s.place 23 ++ refused p.place 23
  if_else = refl
