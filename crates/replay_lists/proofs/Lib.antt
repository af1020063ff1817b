-- Laws and lemmas.
mod Loops
