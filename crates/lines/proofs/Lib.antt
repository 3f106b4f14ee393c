mod Copied
mod FirstEnd
pub mod LineLaws
