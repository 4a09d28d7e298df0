pub mod Trees
pub mod CommandTrees
pub mod Chains
pub mod ExpressionKinds
pub mod Steps
pub mod Loops
pub mod Before
pub mod Blocks
