-- Laws of the directory and the base of a row's config.
pub mod Laws
