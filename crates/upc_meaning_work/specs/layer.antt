pub mod Bodies
pub mod Courses
pub mod Evaluations
pub mod Items
pub mod Left
pub mod Seen
pub mod Switches
pub mod ViewItems
