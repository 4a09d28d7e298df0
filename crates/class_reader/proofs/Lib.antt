pub mod ClassTurns
pub mod GrammarReading
