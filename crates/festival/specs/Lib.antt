pub mod Wide
pub mod WideTwiceRuleLemmas
