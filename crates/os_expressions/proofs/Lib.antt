pub mod GrammarFits
pub mod RuleReading
pub mod ScriptTurns
