pub mod ScriptBytes
pub mod ScriptKinds
pub mod ScriptModes
pub mod ScriptWords
pub mod ScriptPieces
pub mod ScriptLex
pub mod ScriptTongue
