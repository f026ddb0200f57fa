mod Numbers
mod Found
