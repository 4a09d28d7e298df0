pub mod ClassKinds
pub mod ClassModes
pub mod ClassBytes
pub mod ClassBlocks
pub mod ClassLex
pub mod ClassTokens
pub mod ClassTongue
