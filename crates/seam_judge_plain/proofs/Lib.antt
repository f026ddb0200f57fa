mod Lists
mod Played
