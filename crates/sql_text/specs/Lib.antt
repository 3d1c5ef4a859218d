pub mod Numbers
pub mod Tokens
pub mod Answers
pub mod Values
pub mod Grammar
pub mod Printing
