-- What models and private clauses alone cite.
pub mod Decimal
