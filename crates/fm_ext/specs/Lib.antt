pub mod Exts
