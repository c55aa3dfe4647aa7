-- What holds of each declared object whose type is one of objects holds of all objects that a statement declares.
use Rattle.std.proofs.Common.{List, ◌++◌}
use Rattle.upc_values.specs.Lists.{Each}
use Rattle.upc_values.proofs.Lists.{each-grow}
use Rattle.upc_values.proofs.Membership.{each-append}
use Rattle.upc_types.specs.Types.{CType}
use Rattle.typed_tree.specs.LocalObjects.{objects_in, objects_by, last_objects, arms_objects, items_objects}
use Rattle.typed_tree.specs.LocalObjects.{switch_objects}
use Rattle.typed_tree.specs.Tree.{DeclaredObject, Statement, Stands, StatementKind, Block, Value, If, Switch, While}
use Rattle.typed_tree.specs.Tree.{DoWhile, For, Forall, Break, Continue, Return, Synchronise, Fence}
use Rattle.typed_tree.specs.Tree.{StatementOption, NoStatement, TheStatement, Arms, NoArms, AndArm, Items, NoItems}
use Rattle.typed_tree.specs.Tree.{AndObjects, AndStatement, SwitchItems, NoSwitchItems, AndCase, AndDefault}
use Rattle.typed_tree.specs.Tree.{AndSwitchStatement}
use Rattle.meaning_laws_accepted.proofs.Sounds.{IsSoundObject, IsSoundStatement, IsSoundBy, IsSoundLast}
use Rattle.meaning_laws_accepted.proofs.Sounds.{AreSoundArms, AreSoundItems, AreSoundSwitch}

module _ (sized : CType → Type 0) (Q : DeclaredObject → Type 0)
    (gives : (x : DeclaredObject) → IsSoundObject sized x → Q x) where
  own : (xs : List DeclaredObject) → Each (IsSoundObject sized) xs → Each Q xs
  own xs h = each-grow (IsSoundObject sized) Q xs gives h

  both : (xs ys : List DeclaredObject) → Each Q xs → Each Q ys → Each Q (xs ++ ys)
  both xs ys h i = each-append Q xs ys h i

  mutual
    pub inside : (s : Statement) → IsSoundStatement sized s → Each Q (objects_in s)
    inside (Stands at kind) h = by_kind kind h

    by_kind : (kind : StatementKind) → IsSoundBy sized kind → Each Q (objects_by kind)
    by_kind (Block strict items) h = in_block items h
    by_kind (Value x) h = tt
    by_kind (If arms last) h =
        both (arms_objects arms) (last_objects last) (in_arms arms h.0) (in_last last h.1)
    by_kind (Switch x items) h = in_switch items h.1
    by_kind (While test body) h = inside body h.1
    by_kind (DoWhile body test) h = inside body h.0
    by_kind (For head body) h = both head.objects (objects_in body) (own head.objects h.0.0) (inside body h.1)
    by_kind (Forall head whose body) h =
        both head.objects (objects_in body) (own head.objects h.0.0) (inside body h.2)
    by_kind Break h = tt
    by_kind Continue h = tt
    by_kind (Return x) h = tt
    by_kind (Synchronise how x) h = tt
    by_kind Fence h = tt

    in_last : (last : StatementOption) → IsSoundLast sized last → Each Q (last_objects last)
    in_last NoStatement h = tt
    in_last (TheStatement s) h = inside s h

    in_arms : (arms : Arms) → AreSoundArms sized arms → Each Q (arms_objects arms)
    in_arms NoArms h = tt
    in_arms (AndArm test body more) h =
        both (objects_in body) (arms_objects more) (inside body h.1) (in_arms more h.2)

    in_block : (items : Items) → AreSoundItems sized items → Each Q (items_objects items)
    in_block NoItems h = tt
    in_block (AndObjects xs more) h = both xs (items_objects more) (own xs h.0) (in_block more h.1)
    in_block (AndStatement s more) h =
        both (objects_in s) (items_objects more) (inside s h.0) (in_block more h.1)

    in_switch : (items : SwitchItems) → AreSoundSwitch sized items → Each Q (switch_objects items)
    in_switch NoSwitchItems h = tt
    in_switch (AndCase v more) h = in_switch more h
    in_switch (AndDefault more) h = in_switch more h
    in_switch (AndSwitchStatement s more) h =
        both (objects_in s) (switch_objects more) (inside s h.0) (in_switch more h.1)
