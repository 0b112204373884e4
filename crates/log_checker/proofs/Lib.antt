pub mod LoopLetters
pub mod Pieces
pub mod LetterTypes
pub mod Changing
pub mod Following
pub mod TypesAt
