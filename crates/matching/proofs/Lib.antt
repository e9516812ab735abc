-- Laws of what is matched.
pub mod Patterns
