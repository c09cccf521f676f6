pub mod Simply
