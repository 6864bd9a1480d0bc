-- What models and private clauses alone cite.
pub mod Building
pub mod Class
pub mod Kept
pub mod Lexeme
pub mod Place
pub mod Plain
pub mod Pushed
pub mod Quick
pub mod QuotedParts
pub mod Short
pub mod Text
pub mod Turns
pub mod Unescaping
pub mod Written
