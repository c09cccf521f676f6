mod CallsKept
mod Splitting
mod Doing
mod Seams
mod OfKind
mod Fitting
mod Asking
mod Staying
