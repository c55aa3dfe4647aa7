pub mod ViewOwnTags
pub mod ViewFunctions
pub mod ViewPlaces
pub mod ViewDefined
