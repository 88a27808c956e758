mod Lengths
mod Pieces
mod Wholes
