pub mod InTurn
