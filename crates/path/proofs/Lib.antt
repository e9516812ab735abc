-- Laws of the definitions of specs/.
pub mod Under
pub mod Strip
pub mod Normal
