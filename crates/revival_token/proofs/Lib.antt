pub mod Forms
pub mod Unicode
