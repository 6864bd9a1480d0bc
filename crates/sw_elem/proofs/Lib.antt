pub mod Decimal
pub mod Foreigns
pub mod KeyTexts
pub mod KindSets
