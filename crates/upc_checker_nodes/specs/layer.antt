pub mod ViewUses
