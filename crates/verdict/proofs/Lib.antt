mod Rightly
mod Models
