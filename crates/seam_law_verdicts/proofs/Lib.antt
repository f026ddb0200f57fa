mod Failing
pub mod Courses
mod OnePlace
mod Places
mod Twins
mod Headers
mod OneVerdict
