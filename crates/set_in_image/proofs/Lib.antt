mod Things
mod Guards
mod Loops
mod EachPiece
mod Bridges
mod Histories
mod Numbers
mod Constants
