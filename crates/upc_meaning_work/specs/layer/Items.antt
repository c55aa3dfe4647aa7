-- What is left to do, item by item, over the typed tree.
use Rattle.std.specs.Prelude.{ℕ, Bool, List, Option}
use Rattle.upc_text.specs.declared.place.Place.{Place}
use Rattle.block_layout.specs.declared.kind.Kind.{Kind}
use Rattle.upc_values.specs.declared.scalar.Value.{Value as Given}
use Rattle.upc_types.specs.Types.{CType}
use Rattle.typing_rules.specs.Nodes.{Attr}
use Rattle.typed_tree.specs.declared.tree.Synchronises.{Synchronises}
use Rattle.typed_tree.specs.Tree.{Expr, Exprs, Statement, StatementKind, StatementOption, Arms, Items}
use Rattle.typed_tree.specs.Tree.{SwitchItems, DeclaredObject}
use Rattle.thread_steps.specs.declared.cast.CastTo.{CastTo}
use Rattle.source_meaning.specs.Statements.{Flow, Standing}

-- One item of what a thread has left to do (C99 6.5, 6.8; UPC 6.4, 6.6).
pub data Item : Type 0 where
  -- The value of an expression, in a block whose accesses are strict or not (C99 6.5).
  Value : (strict : Bool) (e : Expr) → Item
  -- The place of the object that an expression names, or what else it gives (C99 6.3.2.1).
  Address : (strict : Bool) (e : Expr) → Item
  -- The value of the object at a place, where the expression names one (C99 6.3.2.1).
  Hold : (strict : Bool) (at : Place) (attr : Attr) → Item
  -- The operator of an expression whose operands have their values (C99 6.5).
  Operate : (strict : Bool) (e : Expr) → Item
  -- What follows a first operand that decides what else is evaluated (C99 6.5.13 to 6.5.15).
  Branch : (strict : Bool) (e : Expr) → Item
  -- The youngest value becomes 1 where it is not 0 (C99 6.5.13, 6.5.14).
  Truth : Item
  -- A conversion of the youngest value (C99 6.3).
  Convert : (into : CastTo) (at : Place) → Item
  -- A call whose first arguments, so many, have their values: its further arguments, and then the call itself
  -- (C99 6.5.2.2).
  Arguments : (strict : Bool) (call : Expr) (casts : List CastTo) (more : Exprs) (done : ℕ) → Item
  -- The further parts of a comma expression, of which the last gives the value (C99 6.5.17).
  Last : (strict : Bool) (parts : Exprs) → Item
  -- The youngest value is removed (C99 6.8.3).
  Drop : Item
  -- A statement, in what it stands in (C99 6.8).
  Run : (κ : Standing) (s : Statement) → Item
  -- The further parts of a block (C99 6.8.2).
  Parts : (κ : Standing) (items : Items) → Item
  -- The further parts of a switch (C99 6.8.4.2).
  Cases : (κ : Standing) (items : SwitchItems) → Item
  -- The parts of a switch to which its value leads, compared as a value of this kind (C99 6.8.4.2).
  Select : (κ : Standing) (kind : Option Kind) (items : SwitchItems) → Item
  -- The end of a switch (C99 6.8.4.2).
  Caught : Item
  -- The end of a block, and of its objects (C99 6.2.4).
  Leave : Item
  -- A loop that may take so many turns (C99 6.8.5).
  Turn : (κ : Standing) (kind : StatementKind) (turns : ℕ) → Item
  -- The rest of a turn after the test, where so many turns may follow (C99 6.8.5).
  Test : (κ : Standing) (kind : StatementKind) (turns : ℕ) → Item
  -- The rest of a turn after the body, where so many turns may follow (C99 6.8.5).
  Around : (κ : Standing) (kind : StatementKind) (turns : ℕ) → Item
  -- Whether the turn with the affinity that was evaluated is this thread's (UPC 6.6.2).
  Mine : (at : Place) → Item
  -- The body of a upc_forall, where the turn is this thread's (UPC 6.6.2).
  Guard : (κ : Standing) (body : Statement) → Item
  -- The end of the body of a upc_forall (UPC 6.6.2).
  Finished : Item
  -- The end of the body of a upc_forall that controls (UPC 6.6.2).
  Release : Item
  -- What a condition guards, or the later arms where it is 0 (C99 6.8.4.1).
  Arm : (κ : Standing) (body : Statement) (more : Arms) (last : StatementOption) → Item
  -- The initial values of some objects (C99 6.7.8).
  Declare : (κ : Standing) (objects : List DeclaredObject) → Item
  -- The initial values of an array from one element on (C99 6.7.8).
  Listed : (κ : Standing) (x : DeclaredObject) (index : ℕ) (values : Exprs) → Item
  -- The youngest value, for the object of a type at a place (C99 6.5.16).
  Keep : (strict : Bool) (at : Place) (t : CType) → Item
  -- The value of a `return` (C99 6.8.6.4).
  Give : Item
  -- The value of a notify, wait or barrier (UPC 6.6.1).
  Mark : (how : Synchronises) (at : Place) → Item
  -- The end of a call, which gives this value where it ends without `return`; after it the last statement was left as
  -- it was before the call (C99 6.9.1).
  Return : (saved : Flow) (blank : Given) → Item
  -- The end of main: the barrier after it (UPC 6.6.1).
  End : (at : Place) → Item
