mod Shelf
mod Asking
mod Shelving
