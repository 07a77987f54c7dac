-- When modules are linked, and the laws of linked modules.
pub mod Linking
pub mod Laws
pub mod Witness
