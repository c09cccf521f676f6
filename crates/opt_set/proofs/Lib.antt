mod Found
mod Halves
mod TakenBack
mod Adding
mod Whole
mod Stepping
mod Attached
