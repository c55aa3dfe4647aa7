mod Laid
mod Lines
