pub mod CellNumbers
mod Lists
mod Trees
