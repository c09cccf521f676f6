mod Naming
mod Rebuilding
mod Snapshots
mod Kept
mod Sessions
