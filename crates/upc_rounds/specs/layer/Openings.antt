-- What a run of a program begins with.
pub use Rattle.upc_rounds_base.specs.layer.Openings.{opening_of}
