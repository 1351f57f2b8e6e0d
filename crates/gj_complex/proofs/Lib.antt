mod AllFaces
mod SquareLemmas
mod WalkLemmas
