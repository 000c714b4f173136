pub mod Instants
pub mod Asking
pub mod Fewest
pub mod code
