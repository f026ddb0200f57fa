mod Lists
mod Whole
mod Sooner
mod Counts
mod Crosses
