pub mod ScriptReading
