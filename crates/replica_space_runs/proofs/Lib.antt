mod Going
mod Rounds
