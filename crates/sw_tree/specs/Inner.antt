-- What models and private clauses alone cite.
pub mod Builder
pub mod Cells
pub mod Doc
pub mod DocWriter
pub mod ForeignSeen
pub mod Held
pub mod KindsCode
pub mod Moved
pub mod NodeBuilder
pub mod NodeShape
pub mod Number
pub mod Path
pub mod Seen
pub mod Sheet
pub mod TreeCode
pub mod View
pub mod Whole
