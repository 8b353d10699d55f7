pub mod PieceWalks
