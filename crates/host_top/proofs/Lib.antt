pub mod WordLaws
pub mod JobLaws
pub mod VerdictLaws
