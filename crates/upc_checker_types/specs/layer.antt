pub mod ViewShapes
