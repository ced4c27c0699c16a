mod Behind
mod Digits
mod Elements
mod Lines
mod Seeds
