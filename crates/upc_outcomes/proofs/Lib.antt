mod Records
mod Plans
mod Runs
mod Endings
mod Complete
