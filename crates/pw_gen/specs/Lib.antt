-- What this crate promises, beside the definitions of the code scheme.
pub mod Laws
pub mod Steps
