mod Numbered
mod Parts
mod Spelled
