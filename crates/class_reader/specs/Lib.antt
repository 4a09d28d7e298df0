pub mod ClassNames
pub mod ClassLiterals
pub mod ClassKeys
pub mod ClassTrees
pub mod ClassGrammar
pub mod ClassReading
