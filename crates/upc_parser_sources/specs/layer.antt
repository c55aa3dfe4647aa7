pub mod Parse
