-- Laws of the ends of lines.
pub mod Lines
