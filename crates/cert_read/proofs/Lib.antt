mod Numerals
mod Spaced
mod Ends
mod Symbols
mod Passing
mod Nesting
