pub mod Pieces
pub mod CutLaws
