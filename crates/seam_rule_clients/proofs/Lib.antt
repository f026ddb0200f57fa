pub mod EachOne
pub mod Older
pub mod InParts
pub mod Wrong
pub mod Table
