mod Arguing
pub mod Arms
pub mod Branches
pub mod Callings
pub mod Courses
pub mod Declaring
pub mod Enters
pub mod OtherBodies
pub mod Programs
pub mod Selecting
pub mod Stating
pub mod Turning
